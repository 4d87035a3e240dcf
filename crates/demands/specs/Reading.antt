-- How a Read can end on a well formed reel: it met a record, or a mark, or nothing more, with nothing but gaps before. (01, Commands)
use Rattle.std.specs.Prelude.{Bool, not, List, ◌≡◌, ℕ, length, Result, Ok}
use Rattle.lists.specs.Pick.{pick}
use Rattle.tape.specs.Bytes.{read_into}
use Rattle.tape.specs.Numbers.{pieces_of}
use Rattle.tape.specs.Objects.{Object, blocks_of, mark, record_of}
use Rattle.tape.specs.Pass.{beyond}
use Rattle.moves.specs.Between.{Between, Gaps, with_gaps}
use Rattle.motions.specs.Parts.{standing}
use Rattle.motions.specs.Reads.{mark_end, nothing_end, read_end, stop_motion}
use Rattle.motions.specs.declared.parts.Ending.{Ending}
use Rattle.motions.specs.declared.reads.Buffer.{Buffer}
use Rattle.storing.specs.Stored.{moved_on}
use Rattle.tape.specs.declared.Damage.{Damage}

-- the record d was moved, read in direction `way`: "Read reverse fills from the last buffer place down: a short record lies at the high
-- end, a long one gives its last bytes." The last stage ran `last` ("REV 5 (last stage ran reverse ..)") and left the tape at `place`
pub record MovedRecord (s : List ℕ) (e : ℕ) (r : Buffer) (d : List ℕ) (way last : Bool) (place : ℕ) (x : Ending) : Type 0 where
  pub tape : x.tape ≡ standing place e
  pub told : x.end ≡ read_end (length d) r.count last
  pub bytes : (m : List ℕ) → moved_on s x.moved m ≡ read_into way r.swb m r.pointer r.count.0 d

abbrev pub Moves : List ℕ → ℕ → Buffer → List ℕ → Bool → Bool → ℕ → Result Ending Damage → Type 0
Moves s e r d way last place a = (x : Ending) × (a ≡ Ok x) × MovedRecord s e r d way last place x

-- from position p in direction `reverse`; `Done d q` says what is done with a record d beyond which the first stage stopped at q
pub data ReadEnds (os : List Object) (p e : ℕ) (r : Buffer) (reverse : Bool) (Done : List ℕ → ℕ → Result Ending Damage → Type 0) : Result Ending Damage → Type 0 where
  -- "Gaps are passed over."
  met_record : (d : List ℕ) {gaps : List Object} {q : ℕ} {a : Result Ending Damage} → Gaps gaps → Between os reverse p q (with_gaps reverse gaps (record_of d)) → Done d q a → ReadEnds os p e r reverse Done a
  -- "A mark: TMK, RLS, class 2, position past it, nothing moved."
  met_mark : {gaps : List Object} {q : ℕ} → Gaps gaps → Between os reverse p q (with_gaps reverse gaps mark) → ReadEnds os p e r reverse Done (stop_motion (mark_end r.count reverse) q e)
  -- "Forward at the recorded end: OPI, class 6. Reverse to block 0 with no further record or mark: RIB, class 2, position 0."
  met_nothing : {gaps : List Object} {q : ℕ} → Gaps gaps → Between os reverse p q gaps → q ≡ pick reverse 0 (blocks_of os) → ReadEnds os p e r reverse Done (stop_motion (nothing_end r.count reverse) q e)

-- "Mode 2 reread: space reverse, read forward. Mode 3: space forward, read reverse. OPP puts the read first, same direction as the space
-- had, then the space back." A reread that met the record d, beyond which its first stage stopped at q: it moved the record by the read's
-- own direction, its last stage ran the other way than the first, and the tape stands at the edge of the record that the first stage met first
abbrev pub BothStages : List ℕ → ℕ → Buffer → Bool → Bool → List ℕ → ℕ → Result Ending Damage → Type 0
BothStages s e r reverse opp d q = Moves s e r d (pick opp reverse (not reverse)) (not reverse) (beyond (not reverse) q (pieces_of (length d)))
