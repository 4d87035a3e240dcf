-- "A command reads each block of every object it passes, in the order met; the first at fault is named. A block that isn't the piece due, by
-- kind, length or index, is out of place; a record is met at index 0, in reverse at its last. A record cut off by either end is out of
-- place at the first of its blocks met." (01, under the refusals) "7 keeps its place and carries the fault beside the block." (02, [4])
use Rattle.std.specs.Prelude.{Bool, List, ◌≡◌, ℕ, ◌+◌, ◌<◌, ◌≤◌, Ok, Err}
use Rattle.tape.specs.Numbers.{pieces_of}
use Rattle.tape.specs.Reading.{class_at}
use Rattle.tape.specs.Pass.{ahead, first_met, lowest, order_met, passed}
use Rattle.tape.specs.Wrong.{WrongAt}
use Rattle.tape.specs.declared.BlockFault.{BlockFault}
use Rattle.tape.specs.declared.Block.TheVariants as block
use Rattle.tape.specs.declared.Met.TheVariants as met

-- of a reel s recorded up to e
module _ (s : List ℕ) (e : ℕ) where
  -- block number j that is met of the m blocks ahead of position q, and the piece that is due there
  abbrev pub met_at : Bool → ℕ → ℕ → ℕ → ℕ
  met_at reverse q m j = lowest reverse q m + order_met reverse m j

  -- from position q this way, block k is at fault, and it is the first that is met: what was met before it is sound and in its place
  pub data FaultAt (reverse : Bool) (q : ℕ) : ℕ → Type 0 where
    -- the very first: damaged
    damaged : {f : BlockFault} → 1 ≤ ahead reverse q e → class_at s (first_met reverse q) ≡ Err f → FaultAt reverse q (first_met reverse q)
    -- the very first: a record's piece that isn't the one due, or of a record that is cut off
    out_of_place : {n i : ℕ} → 1 ≤ ahead reverse q e → class_at s (first_met reverse q) ≡ Ok (block.Piece n i)
        → (i ≡ order_met reverse (pieces_of n) 0 → pieces_of n ≤ ahead reverse q e → ⊥) → FaultAt reverse q (first_met reverse q)
    -- a later one of a record of n bytes: not the piece that is due
    not_due : {n j : ℕ} → pieces_of n ≤ ahead reverse q e → 1 ≤ j → j < pieces_of n
        → ((i : ℕ) → i < j → class_at s (met_at reverse q (pieces_of n) i) ≡ Ok (block.Piece n (order_met reverse (pieces_of n) i)))
        → (class_at s (met_at reverse q (pieces_of n) j) ≡ Ok (block.Piece n (order_met reverse (pieces_of n) j)) → ⊥)
        → FaultAt reverse q (met_at reverse q (pieces_of n) j)

  -- whole objects were read this way from position p to q
  pub data ReadOver (reverse : Bool) (p : ℕ) : ℕ → Type 0 where
    nothing_yet : ReadOver reverse p p
    then_record : {q q' n : ℕ} → ReadOver reverse p q → passed s reverse q e ≡ Ok (met.Record n q') → ReadOver reverse p q'
    then_mark : {q q' : ℕ} → ReadOver reverse p q → passed s reverse q e ≡ Ok (met.Mark q') → ReadOver reverse p q'
    then_gap : {q q' : ℕ} → ReadOver reverse p q → passed s reverse q e ≡ Ok (met.Gap q') → ReadOver reverse p q'

  -- block k is the first at fault that lies ahead of position p this way, and it lies below the recorded end: every block met before it is
  -- sound and in its place, and it is not; and what is told is what is wrong with it
  pub record FirstFault (reverse : Bool) (p : ℕ) (why : BlockFault) (k : ℕ) : Type 0 where
    pub from : ℕ
    pub before : ReadOver reverse p from
    pub fault : FaultAt reverse from k
    pub below : k < e
    pub wrong : WrongAt s k why
