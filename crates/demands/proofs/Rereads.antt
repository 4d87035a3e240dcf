-- "Mode 2 reread: space reverse, read forward. Mode 3: space forward, read reverse. OPP puts the read first, same direction as the space
-- had, then the space back. A mark, BOT or end in the first stage ends it, residual as if nothing moved." (01, Commands): on a well formed
-- reel both stages run, whatever the mode and OPP. `reverse` is the first stage's direction: true for mode 2, false for mode 3.
use mathlib.Core.Bool.{Bool, true, false, not}
use mathlib.Core.List.{List}
use mathlib.Core.Path.{◌≡◌, refl}
use Prim.Native.Nat.{ℕ, ◌-◌, ◌≤◌}
use native.Mathlib.Omega.{arith}
use lib.ListN.{length}
use Rattle.lists.specs.Pick.{pick}
use Rattle.tape.specs.Meeting.{met_as}
use Rattle.tape.specs.Numbers.{pieces_of}
use Rattle.tape.specs.Objects.{Holds, Object, blocks_in, record_of}
use Rattle.tape.specs.Pass.{ahead, beyond, lowest}
use Rattle.tape.proofs.Passes.{pass_whole}
use Rattle.tape.proofs.Within.{RecordIn}
use Rattle.moves.specs.Between.{Between, Bound, Gaps, with_gaps}
use Rattle.moves.specs.Finding.{Finds, finds_mark, finds_nothing, finds_record}
use Rattle.moves.specs.Seeking.{sought}
use Rattle.moves.specs.declared.seeking.Sought.{Sought}
use Rattle.moves.specs.declared.seeking.Sought.TheVariants as sought-as
use Rattle.moves.proofs.Bounds.{bound_below}
use Rattle.moves.proofs.Finds.{finds}
use Rattle.moves.proofs.FoundAt.{found_stands}
use Rattle.moves.proofs.Within.{sought_record}
use Rattle.motions.specs.Parts.{standing}
use Rattle.motions.specs.Reads.{first_block, on_record, read_one, read_then_space_under, reread, reread_under, space_back, space_back_under, space_then_read_under, stage_by, stage_of_under, stop_motion}
use Rattle.motions.specs.declared.parts.Ending.{Ending}
use Rattle.motions.specs.declared.reads.Buffer.{Buffer}
use Rattle.demands.specs.Reading.{BothStages, Moves, ReadEnds, met_mark, met_nothing, met_record}
use Rattle.demands.proofs.Nearest.{bound_from, nearest}
use Rattle.demands.proofs.ReadBack.{found_at_once, read_found}
use Rattle.demands.proofs.ReadEnds.{moves_found}
use Rattle.std.specs.Prelude.{Result, Ok}
use Rattle.tape.specs.declared.Damage.{Damage}

-- the record's blocks lie ahead on the way back, and stand where the way back meets them
back_ahead : (reverse : Bool) (e n q : ℕ) → RecordIn reverse e n q → pieces_of n ≤ ahead (not reverse) q e
back_ahead true e n q i = omega (arith, i.inside)
back_ahead false e n q i = i.room refl

back_lowest : (reverse : Bool) (q m : ℕ) → lowest (not reverse) q m ≡ pick reverse q (q - m)
back_lowest true q m = refl
back_lowest false q m = refl

-- the first block of the record, whichever stage reads it
back_first : (reverse : Bool) (n q : ℕ) → first_block (not reverse) n (beyond (not reverse) q (pieces_of n)) ≡ pick reverse q (q - pieces_of n)
unfolding first_block
back_first true n q = omega arith
back_first false n q = refl

module _ {s : List ℕ} {e : ℕ} {os : List Object} (h : Holds s e os) (r : Buffer) (reverse : Bool) {p : ℕ} (b : Bound os p) where
  module _ (d : List ℕ) (gaps : List Object) {q : ℕ} (w : Between os reverse p q (with_gaps reverse gaps (record_of d))) (k : sought s reverse p e ≡ Ok (sought-as.Record (length d) q)) where
    inside : RecordIn reverse e (length d) q
    inside = sought_record s reverse p e (bound_below h b) k

    -- the second stage meets the same record
    second : sought s (not reverse) q e ≡ Ok (sought-as.Record (length d) (beyond (not reverse) q (pieces_of (length d))))
    unfolding met_as blocks_in
    second =
        let f = found_stands reverse gaps (record_of d) h w in
        found_at_once s (not reverse) q e (length d) _ (omega (arith, inside.inside, inside.some))
        (pass_whole s (not reverse) q e (record_of d) f.0 (rw (back_lowest reverse q (pieces_of (length d))) f.1) (back_ahead reverse e (length d) q inside))

    -- what goes on from a first stage that found it: the read, or with OPP the space back
    then_read : BothStages s e r reverse false d q (read_one s (standing q e) r (not reverse))
    then_read =
        let q' : ℕ = beyond (not reverse) q (pieces_of (length d)) in
        rw (read_found s (not reverse) q e (length d) q' r second) (moves_found h r reverse d gaps w (not reverse) (not reverse) q' q' (back_first reverse (length d) q))

    then_space : BothStages s e r reverse true d q (space_back s e r reverse (length d) q)
    unfolding space_back_under stage_of_under stage_by on_record first_block
    then_space = rw second (moves_found h r reverse d gaps w reverse (not reverse) q _ refl)

  -- by what the first stage found, with the read last or, with OPP, first
  abbrev Ends : Bool → Result Ending Damage → Type 0
  Ends opp a = ReadEnds os p e r reverse (BothStages s e r reverse opp) a

  by_first : (opp : Bool) {f : Result Sought Damage} → sought s reverse p e ≡ f → Finds os reverse p f
      → Ends opp
      (pick opp
      (on_record (stage_by (standing p e) r.count reverse f) (λ n q. space_back s e r reverse n q))
      (on_record (stage_by (standing p e) r.count reverse f) (λ n q. read_one s (standing q e) r (not reverse))))
  unfolding on_record stage_by stop_motion
  by_first false k (finds_record d {gaps = gaps} g w) = met_record d g w (then_read d gaps w k)
  by_first true k (finds_record d {gaps = gaps} g w) = met_record d g w (then_space d gaps w k)
  by_first false k (finds_mark g w) = met_mark g w
  by_first true k (finds_mark g w) = met_mark g w
  by_first false k (finds_nothing g w z) = met_nothing g w z
  by_first true k (finds_nothing g w z) = met_nothing g w z

  -- every end of a reread on a well formed reel, from a bound between two objects
  pub reread_ends : (opp : Bool) → ReadEnds os p e r reverse (BothStages s e r reverse opp) (reread s (standing p e) r reverse opp)
  unfolding reread_under space_then_read_under read_then_space_under stage_of_under
  reread_ends opp = by_first opp refl (finds h reverse b)

-- a record behind nothing but gaps: the Read moves it, and the reread runs both stages over it
module _ {s : List ℕ} {e : ℕ} {os : List Object} (h : Holds s e os) (r : Buffer) (reverse : Bool) (d : List ℕ) (gaps : List Object) {p q : ℕ} (g : Gaps gaps) (w : Between os reverse p q (with_gaps reverse gaps (record_of d))) where
  pub read_record : Moves s e r d reverse reverse q (read_one s (standing p e) r reverse)
  unfolding first_block
  read_record = rw (read_found s reverse p e (length d) q r (nearest h reverse d gaps g w)) (moves_found h r reverse d gaps w reverse reverse q q refl)

  pub reread_record : (opp : Bool) → BothStages s e r reverse opp d q (reread s (standing p e) r reverse opp)
  unfolding reread_under space_then_read_under read_then_space_under stage_of_under stage_by on_record
  reread_record false = rw (nearest h reverse d gaps g w) (then_read h r reverse (bound_from reverse w) d gaps w (nearest h reverse d gaps g w))
  reread_record true = rw (nearest h reverse d gaps g w) (then_space h r reverse (bound_from reverse w) d gaps w (nearest h reverse d gaps g w))
