-- Mounting a reel: refusals 2, 3 and 7. (01, "Calls" and the table)
use Rattle.std.specs.Prelude.{Bool, Result, Ok, Err, ⊤, ◌||◌, not, List, ℕ, ◌/◌, ◌%◌, eqb, ltb, length}
use Rattle.lists.specs.Pick.{pick}
use Rattle.tape.specs.Numbers.{block_bytes, record_limit}
use Rattle.tape.specs.Sweep.{swept_below_under}
use Rattle.tape.specs.Sweep.{Swept}
use Rattle.state.specs.Changes.{mounted_as}
use Rattle.state.specs.Checks.{blocks_right, memory_right}
use Rattle.state.specs.Refusals.{behind}
use Rattle.state.specs.declared.Unit.{Unit}
use Rattle.state.specs.declared.refusal.Refusal.{Refusal}
use Rattle.state.specs.declared.refusal.Refusal.TheVariants as refusal

-- "2 memory length not allowed"; "3 reel length not allowed ..; recorded end above capacity"
unfoldable pub mount_refusal : ℕ → ℕ → ℕ → Result ⊤ Refusal
mount_refusal memory reel e =
    pick (memory_right memory)
    (pick ((not (eqb (reel % block_bytes) 0) || not (blocks_right (reel / block_bytes))) || ltb (reel / block_bytes) e) (Err refusal.Reel) (Ok tt))
    (Err refusal.Memory)

unfoldable pub mount_swept : Unit → Swept → Result Unit Refusal
mount_swept new (Ok u) = Ok new
mount_swept new (Err d) = Err (refusal.BadBlock d)

-- ".. a refused mount hands [the old state] back": the state that stands after a mount
abbrev pub unit_left : Unit → Result Unit Refusal → Unit
unit_left old (Ok u) = u
unit_left old (Err r) = old

unfoldable pub swept_left : Unit → Unit → Swept → Unit
swept_left old new (Ok u) = new
swept_left old new (Err d) = old

-- under any record limit
module _ (limit : ℕ) where
  -- "Mount reads every block below the end it is given": the state after it, or its refusal
  unfoldable pub mount_call_under : ℕ → List ℕ → ℕ → Bool → Bool → Result Unit Refusal
  mount_call_under memory s e online locked =
      behind (mount_refusal memory (length s) e) (λ r. Err r)
      (mount_swept
      (mounted_as e online locked (record { memory = memory; blocks = length s / block_bytes }))
      (swept_below_under limit s e))

  -- and the state that stands: by 2, 3 and 7 the old one, which is not looked at
  unfoldable pub mount_left_under : Unit → ℕ → List ℕ → ℕ → Bool → Bool → Unit
  mount_left_under old memory s e online locked =
      behind (mount_refusal memory (length s) e) (λ r. old)
      (swept_left old
      (mounted_as e online locked (record { memory = memory; blocks = length s / block_bytes }))
      (swept_below_under limit s e))

-- and under this unit's own
abbrev pub mount_call : ℕ → List ℕ → ℕ → Bool → Bool → Result Unit Refusal
mount_call = mount_call_under record_limit

abbrev pub mount_left : Unit → ℕ → List ℕ → ℕ → Bool → Bool → Unit
mount_left = mount_left_under record_limit
