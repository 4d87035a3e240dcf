-- How a Read can end on a well formed reel: it met a record, or a mark, or nothing more, with nothing but gaps before.
use mathlib.Core.Bool.{Bool}
use mathlib.Core.List.{List}
use mathlib.Core.Path.{◌≡◌, refl}
use Prim.Native.Nat.{ℕ, ◌-◌}
use lib.ListN.{length}
use Rattle.lists.specs.Pick.{pick}
use Rattle.tape.specs.Bytes.{record_bytes}
use Rattle.tape.specs.Numbers.{pieces_of}
use Rattle.tape.specs.Objects.{Holds, Object, record_of}
use Rattle.moves.specs.Between.{Between, Bound, with_gaps}
use Rattle.moves.specs.Finding.{Finds, finds_mark, finds_nothing, finds_record}
use Rattle.moves.specs.declared.seeking.Sought.{Sought}
use Rattle.moves.proofs.Finds.{finds}
use Rattle.moves.proofs.FoundAt.{found_bytes}
use Rattle.motions.specs.Parts.{standing}
use Rattle.motions.specs.Reads.{first_block, on_record, read_motion, read_one, read_one_under, stage_by, stage_of_under, stop_motion}
use Rattle.motions.specs.declared.reads.Buffer.{Buffer}
use Rattle.storing.specs.Stored.{moved_on}
use Rattle.demands.specs.Reading.{Moves, ReadEnds, met_mark, met_nothing, met_record}
use Rattle.std.specs.Prelude.{Result}
use Rattle.tape.specs.declared.Damage.{Damage}

module _ {s : List ℕ} {e : ℕ} {os : List Object} (h : Holds s e os) (r : Buffer) (reverse : Bool) {p : ℕ} where
  -- a motion that moves the record found
  pub moves_found : (d : List ℕ) (gaps : List Object) {q : ℕ} → Between os reverse p q (with_gaps reverse gaps (record_of d)) → (way last : Bool) (q' place : ℕ) → first_block way (length d) q' ≡ pick reverse q (q - pieces_of (length d))
      → Moves s e r d way last place (read_motion r way (length d) q' (standing place e) last)
  unfolding read_motion moved_on
  moves_found d gaps {q} w way last q' place first =
      let its-bytes : record_bytes s (first_block way (length d) q') (length d) ≡ d = rw first (found_bytes reverse gaps d h w) in
      (_, refl, record { tape = refl; told = refl; bytes = λ m. rw its-bytes })

  module _ (b : Bound os p) where
    one_by : {f : Result Sought Damage} → Finds os reverse p f → ReadEnds os p e r reverse (λ d q. Moves s e r d reverse reverse q) (on_record (stage_by (standing p e) r.count reverse f) (λ n q. read_motion r reverse n q (standing q e) reverse))
    unfolding on_record stage_by stop_motion first_block
    one_by (finds_record d {gaps = gaps} {q = q} g w) = met_record d g w (moves_found d gaps w reverse reverse q q refl)
    one_by (finds_mark g w) = met_mark g w
    one_by (finds_nothing g w z) = met_nothing g w z

    -- "Read 1 / 0 next, 1 previous", from a bound between two objects
    pub read_ends : ReadEnds os p e r reverse (λ d q. Moves s e r d reverse reverse q) (read_one s (standing p e) r reverse)
    unfolding read_one_under stage_of_under
    read_ends = one_by (finds h reverse b)
