-- Request [7] as laws over the numbers: what holds between a unit whose record limit and EOT margin are `limit` and `eotMargin` and one with `limit'` and
-- `eotMargin'`, neither smaller. "Every reel stored under the old limit reads the same, only its EOT bit may come earlier; a unit of the old limit that meets a
-- longer record refuses the mount with 7 at its first block." (02, [7])
use Rattle.std.specs.Prelude.{Bool, true, false, List, ◌⊎◌, ◌≡◌, ℕ, ◌+◌, ◌-◌, ◌/◌, ◌<◌, ◌≤◌, length, Result, Ok, Err}
use Rattle.tape.specs.Numbers.{block_bytes}
use Rattle.tape.specs.Objects.{HoldsUnder, Object}
use Rattle.tape.specs.Reading.{class_at_under}
use Rattle.tape.specs.declared.Block.TheVariants as block
use Rattle.tape.specs.declared.BlockFault.TheVariants as fault
use Rattle.signals.specs.Message.{message_bytes}
use Rattle.state.specs.Changes.{mounted_as}
use Rattle.state.specs.declared.Unit.{Unit}
use Rattle.motions.specs.Parts.{laid_blocks}
use Rattle.motions.specs.Writes.{written_motion_under}
use Rattle.motions.specs.declared.parts.Laid.{Laid}
use Rattle.motions.specs.declared.parts.Ending.{Ending}
use Rattle.state.specs.declared.refusal.Refusal.TheVariants as refusal
use Rattle.commands.specs.declared.plans.Plan.{Plan}
use Rattle.storing.specs.Stored.{memory_after, reel_after}
use Rattle.advance.specs.Rules.{writes}
use Rattle.advance.specs.Steps.{advanced_under}
use Rattle.demands.specs.Ways.{Waits, header}
use Rattle.unit.specs.Mounts.{mount_call_under, mount_refusal, unit_left}
use Rattle.unit.specs.Touching.{touched_by}
use Rattle.limits.specs.Alike.{ButEotAt, ReadsAlike}
use Rattle.tape.specs.declared.Damage.{Damage}

-- an advance that reads, of a reel that keeps to the limit: no Write or Format waits, and the tape stands no further than the recorded end
pub record ReadsUnder (limit : ℕ) (u : Unit) (m s : List ℕ) (os : List Object) : Type 0 where
  pub holds : HoldsUnder limit s u.tape.end os
  pub within : u.tape.position ≤ u.tape.end
  pub unwriting : Waits u m s → writes (header u m s) ≡ false

-- a message that goes out lies inside memory m, as it does in every state that refusal 1 lets pass (`advanced_storable`)
abbrev pub SentInside : Plan → List ℕ → Type 0
SentInside q m = q.sends ≡ true → q.unit.characteristics.address + message_bytes ≤ length m

-- where XST0's low byte stands in memory
abbrev pub eot_byte : Plan → ℕ
eot_byte q = q.unit.characteristics.address + 6

-- a motion that ends so
abbrev pub EndsWith : ℕ → Result Ending Damage → Type 0
EndsWith class (Ok x) = x.end.class ≡ class
EndsWith class (Err d) = ⊥

-- at block p of the reel s, below its end e, a record begins that is longer than the limit, and none before it is: a unit of the other limit reads its first piece
pub record LongerAt (limit limit' : ℕ) (s : List ℕ) (e p : ℕ) : Type 0 where
  pub before : List Object
  pub formed : HoldsUnder limit s p before
  pub below : p < e
  pub bytes : ℕ
  pub piece : class_at_under limit' s p ≡ Ok (block.Piece bytes 0)
  pub longer : limit < bytes

module _ (limit limit' eotMargin eotMargin' : ℕ) where
  -- what the two advances come to
  abbrev pub one : Unit → List ℕ → List ℕ → Plan
  one u m s = advanced_under limit eotMargin u m s

  abbrev pub other : Unit → List ℕ → List ℕ → Plan
  other u m s = advanced_under limit' eotMargin' u m s

  pub record Raised : Type 0 where
    -- a reel that is well formed under the one is under the other, with the same objects
    pub formed : {s : List ℕ} {e : ℕ} {os : List Object} → HoldsUnder limit s e os → HoldsUnder limit' s e os
    -- every advance that reads comes to the same there, wherever the tape stands, but for EOT in its message
    pub reads : (u : Unit) (m s : List ℕ) {os : List Object} → ReadsUnder limit u m s os → ReadsAlike (one u m s) (other u m s)
    -- so it touches the same places, wherever the table is cut, and takes an entry of the same length; it leaves the same reel, and the same memory but for that bit
    pub touches : (u : Unit) (m s : List ℕ) {os : List Object} → ReadsUnder limit u m s os → (place : ℕ) → touched_by (one u m s) place ≡ touched_by (other u m s) place
    pub reel : (u : Unit) (m s : List ℕ) {os : List Object} → ReadsUnder limit u m s os → reel_after (one u m s) m s ≡ reel_after (other u m s) m s
    pub memory : (u : Unit) (m s : List ℕ) {os : List Object} → ReadsUnder limit u m s os → SentInside (other u m s) m → ButEotAt (eot_byte (other u m s)) (memory_after (one u m s) m s) (memory_after (other u m s) m s)
    -- a write may differ: one that ends at the marker of the larger margin, and so before the other, has class 2 where it had class 0
    pub writes : (l : Laid) (blocks : ℕ) (mark : Bool) → eotMargin < eotMargin' → eotMargin' ≤ blocks → l.at + laid_blocks l ≡ blocks - eotMargin'
        → EndsWith 0 (written_motion_under eotMargin l blocks mark) × EndsWith 2 (written_motion_under eotMargin' l blocks mark)
    -- both mount such a reel, to the same state
    pub mounts : (memory : ℕ) (s : List ℕ) (e : ℕ) (online locked : Bool) {os : List Object} → HoldsUnder limit s e os → mount_refusal memory (length s) e ≡ Ok tt
        → (mount_call_under limit memory s e online locked ≡ mount_call_under limit' memory s e online locked)
        × (mount_call_under limit memory s e online locked ≡ Ok (mounted_as e online locked (record { memory = memory; blocks = length s / block_bytes })))
        × ((old : Unit) → unit_left old (mount_call_under limit memory s e online locked) ≡ mounted_as e online locked (record { memory = memory; blocks = length s / block_bytes }))
    -- where a record is longer, the smaller limit refuses the mount with 7 at its first block, for its length (N), whatever lies behind that block, and hands
    -- the old state back
    pub refuses : (memory : ℕ) (s : List ℕ) (e : ℕ) (online locked : Bool) {p : ℕ} → LongerAt limit limit' s e p → mount_refusal memory (length s) e ≡ Ok tt
        → (mount_call_under limit memory s e online locked ≡ Err (refusal.BadBlock (record { fault = fault.Length; block = p })))
        × ((old : Unit) → unit_left old (mount_call_under limit memory s e online locked) ≡ old)
    -- and of every reel that is well formed under the higher limit one of the two holds
    pub exhausts : {s : List ℕ} {e : ℕ} {os : List Object} → HoldsUnder limit' s e os → HoldsUnder limit s e os ⊎ ((p : ℕ) × LongerAt limit limit' s e p)
