-- A record that was written, and a Read that gives all of it back.
use Rattle.std.specs.Prelude.{◌≡◌, List, ℕ, ◌+◌, Result, Ok}
use Rattle.lists.specs.Pick.{pick}
use Rattle.lists.specs.Places.{gathered, placed}
use Rattle.signals.specs.Residuals.{residual_word}
use Rattle.motions.specs.Parts.{laid_blocks}
use Rattle.motions.specs.declared.parts.Ending.{Ending}
use Rattle.motions.specs.declared.parts.Laid.{Laid}
use Rattle.motions.specs.declared.reads.Buffer.{Buffer}
use Rattle.storing.specs.Stored.{moved_on}
use Rattle.tape.specs.declared.Damage.{Damage}

-- the bytes that a Write lays: "Data byte i lies at address pointer + i; with SWB at that address with its lowest bit flipped."
abbrev pub written : List ℕ → Laid → List ℕ
written m l = gathered l.swb m l.pointer l.length

-- the first block of its record: "Retry: .. then a one-block gap, then the new object."
abbrev pub written_at_block : Laid → ℕ
written_at_block l = pick l.gap_first (l.at + 1) l.at

-- "Writing stores only the new object's blocks and moves the end to just after them."
abbrev pub written_end : Laid → ℕ
written_end l = l.at + laid_blocks l

-- a Read as asked by r that gave all of the bytes d and left the tape at q. The count is the record's length, so none of this is told:
-- "Record longer than the count: RLL; shorter: RLS; class 2."
pub record GaveAll (s : List ℕ) (r : Buffer) (d : List ℕ) (q : ℕ) (x : Ending) : Type 0 where
  pub class : x.end.class ≡ 0
  pub found : x.end.found ≡ 0
  pub residual : residual_word x.end.residual ≡ 0
  pub place : x.tape.position ≡ q
  pub bytes : (m : List ℕ) → moved_on s x.moved m ≡ placed r.swb m r.pointer d

abbrev pub GivesAll : List ℕ → Buffer → List ℕ → ℕ → Result Ending Damage → Type 0
GivesAll s r d q a = (x : Ending) × (a ≡ Ok x) × GaveAll s r d q x
