-- A mount that is not refused: what 2 and 3 let pass; and one that is done has found its reel whole.
use mathlib.Core.Path.{◌≡◌, refl}
use mathlib.Core.Bool.{Bool, true, ◌||◌, not, and-eq-true_iff}
use mathlib.Core.List.{List}
use Prim.Native.Nat.{ℕ, ◌*◌, ◌/◌, ◌%◌, ◌≤◌}
use native.Mathlib.Omega.{arith}
use borrow.Author.Tests.{eqb-true, leb-true, ltb-false, not-false}
use lib.Dec.{eqb, leb, ltb}
use lib.ListN.{length}
use Rattle.lists.specs.Pick.{pick}
use Rattle.lists.proofs.Cases.{by_test, past}
use Rattle.tape.specs.Numbers.{block_bytes, capacity_limit}
use Rattle.tape.specs.Sweep.{swept_below}
use Rattle.tape.specs.declared.Damage.{Damage}
use Rattle.tape.specs.Sweep.{Swept}
use Rattle.state.specs.Changes.{mounted_as}
use Rattle.state.specs.Checks.{blocks_right, memory_right}
use Rattle.state.specs.declared.Unit.{Unit}
use Rattle.state.proofs.Tests.{neither}
use Rattle.tape.proofs.Accepted.{clash}
use Rattle.std.specs.Prelude.{Result, Ok, Err, ⊤}
use Rattle.state.specs.declared.refusal.Refusal.TheVariants as refusal
use Rattle.state.proofs.Behind.{never}
use Rattle.unit.specs.Mounts.{mount_call, mount_call_under, mount_refusal, mount_swept}

pub record Accepts (memory reel e : ℕ) : Type 0 where
  pub memory_right_lem : memory_right memory ≡ true
  pub whole : reel ≡ block_bytes * (reel / block_bytes)
  pub blocks_right_lem : blocks_right (reel / block_bytes) ≡ true
  pub below : e ≤ reel / block_bytes

pub accepts : (memory reel e : ℕ) → mount_refusal memory reel e ≡ Ok tt → Accepts memory reel e
unfolding mount_refusal
accepts memory reel e h =
    by_test (memory_right memory)
    (λ t.
    let odd : Bool = not (eqb (reel % block_bytes) 0) || not (blocks_right (reel / block_bytes)) in
    let y : pick (odd || ltb (reel / block_bytes) e) (Err refusal.Reel) (Ok tt) ≡ Ok tt = rw t at h in
    let p = past (odd || ltb (reel / block_bytes) e) (Err refusal.Reel) (Ok tt) (Ok tt) (never _) y in
    let q = neither odd (ltb (reel / block_bytes) e) p.0 in
    let o = neither (not (eqb (reel % block_bytes) 0)) (not (blocks_right (reel / block_bytes))) q.0 in
    let even : reel % block_bytes ≡ 0 = eqb-true (reel % block_bytes) 0 (not-false (eqb (reel % block_bytes) 0) o.0) in
    record {
      memory_right_lem = t;
      whole = omega arith;
      blocks_right_lem = not-false (blocks_right (reel / block_bytes)) o.1;
      below = ltb-false (reel / block_bytes) e q.1;
    })
    (λ t. let y : Err refusal.Memory ≡ Ok tt = rw t at h in absurd (never _ y))

-- so the end is no more than the largest capacity
pub end_low : (memory reel e : ℕ) → mount_refusal memory reel e ≡ Ok tt → e ≤ capacity_limit
end_low memory reel e h =
    let a = accepts memory reel e h in
    let p = (and-eq-true_iff (leb 1 (reel / block_bytes)) (leb (reel / block_bytes) capacity_limit)).0 a.blocks_right_lem in
    omega (arith, a.below, leb-true (reel / block_bytes) capacity_limit p.1)

done_whole : (new u : Unit) (x : Result ⊤ Damage) → mount_swept new x ≡ Ok u → x ≡ Ok tt
unfolding mount_swept
done_whole new u (Ok t) h = refl
done_whole new u (Err d) h = absurd (clash cc)

pub mount_whole : (memory : ℕ) (r : List ℕ) (e : ℕ) (online locked : Bool) (u : Unit) → mount_refusal memory (length r) e ≡ Ok tt → mount_call memory r e online locked ≡ Ok u → swept_below r e ≡ Ok tt
unfolding mount_call_under
mount_whole memory r e online locked u h k =
    done_whole (mounted_as e online locked (record { memory = memory; blocks = length r / block_bytes })) u (swept_below r e) (rw h at k)
