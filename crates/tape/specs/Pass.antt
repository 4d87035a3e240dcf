-- "A command reads each block of every object it passes, in the order met; the first at fault is named. A block that isn't the piece due,
-- by kind, length or index, is out of place; a record is met at index 0, in reverse at its last. A record cut off by either end is out
-- of place at the first of its blocks met." (01, under the refusals). `reverse` says which way. "Mount, advance and the listing pass the fault up.
-- Where document 01 says "out of place", the fault is index." (02, [4])
use Rattle.std.specs.Prelude.{Bool, false, ◌&&◌, List, ℕ, suc, ◌+◌, ◌-◌, eqb, leb, Result, Ok, Err}
use Rattle.lists.specs.Pick.{pick}
use Rattle.tape.specs.Numbers.{pieces_of, record_limit}
use Rattle.tape.specs.Reading.{class_at_under}
use Rattle.tape.specs.declared.BlockFault.{BlockFault}
use Rattle.tape.specs.declared.BlockFault.TheVariants as fault
use Rattle.tape.specs.declared.Block.{Block}
use Rattle.tape.specs.declared.Block.TheVariants as block
use Rattle.tape.specs.declared.Met.{Met}
use Rattle.tape.specs.declared.Met.TheVariants as met
use Rattle.tape.specs.declared.Damage.{Damage}
use Rattle.tape.specs.Damage.{damage}

-- how many blocks lie ahead of position p: up to the recorded end e, or down to block 0
abbrev pub ahead : Bool → ℕ → ℕ → ℕ
ahead reverse p e = pick reverse p (e - p)

-- the first block met
abbrev pub first_met : Bool → ℕ → ℕ
first_met reverse p = pick reverse (p - 1) p

-- the position beyond m blocks
abbrev pub beyond : Bool → ℕ → ℕ → ℕ
beyond reverse p m = pick reverse (p - m) (p + m)

-- the lower bound of the m blocks met
abbrev pub lowest : Bool → ℕ → ℕ → ℕ
lowest reverse p m = pick reverse (p - m) p

-- the piece met as number j of m, counted from 0
abbrev pub order_met : Bool → ℕ → ℕ → ℕ
order_met reverse m j = pick reverse (m - 1 - j) j

-- is this block piece i of a record of n bytes?
unfoldable pub is_piece : Result Block BlockFault → ℕ → ℕ → Bool
is_piece (Ok (block.Piece n' i')) n i = eqb n' n && eqb i' i
is_piece (Ok block.Mark) n i = false
is_piece (Ok block.Gap) n i = false
is_piece (Err f) n i = false

-- what is wrong with a block that can't be taken: what the reader says, and of a sound one its place
unfoldable pub fault_of : Result Block BlockFault → BlockFault
fault_of (Err f) = f
fault_of (Ok b) = fault.Index

-- under any record limit
module _ (limit : ℕ) where
  -- block k of the reel s can't be taken
  abbrev pub bad_at_under : List ℕ → ℕ → Result Met Damage
  bad_at_under s k = Err (damage (fault_of (class_at_under limit s k)) k)

  -- the next c pieces due of a record of n bytes in m blocks from block p on, j of them met: the first at fault, else what was met
  unfoldable pub pieces_met_under : List ℕ → Bool → ℕ → ℕ → ℕ → ℕ → ℕ → Met → Result Met Damage
  pieces_met_under s reverse n p m j ℕ.zero whole = Ok whole
  pieces_met_under s reverse n p m j (suc c) whole =
      let rest = pieces_met_under s reverse n p m (suc j) c whole in
      pick (is_piece (class_at_under limit s (p + order_met reverse m j)) n (order_met reverse m j)) rest (bad_at_under s (p + order_met reverse m j))

  -- a record of n bytes, met at piece i
  unfoldable pub record_met_under : List ℕ → Bool → ℕ → ℕ → ℕ → ℕ → Result Met Damage
  record_met_under s reverse p e n i =
      pick (eqb i (order_met reverse (pieces_of n) 0) && leb (pieces_of n) (ahead reverse p e))
      (pieces_met_under s reverse n (lowest reverse p (pieces_of n)) (pieces_of n) 1 (pieces_of n - 1) (met.Record n (beyond reverse p (pieces_of n))))
      (Err (damage fault.Index (first_met reverse p)))

  unfoldable pub met_by_under : List ℕ → Bool → ℕ → ℕ → Result Block BlockFault → Result Met Damage
  met_by_under s reverse p e (Ok (block.Piece n i)) = record_met_under s reverse p e n i
  met_by_under s reverse p e (Ok block.Mark) = Ok (met.Mark (beyond reverse p 1))
  met_by_under s reverse p e (Ok block.Gap) = Ok (met.Gap (beyond reverse p 1))
  met_by_under s reverse p e (Err f) = Err (damage f (first_met reverse p))

  -- what passing one object from position p meets, on the reel s recorded up to e
  unfoldable pub passed_under : List ℕ → Bool → ℕ → ℕ → Result Met Damage
  passed_under s reverse p e = pick (eqb (ahead reverse p e) 0) (Ok met.Nothing) (met_by_under s reverse p e (class_at_under limit s (first_met reverse p)))

-- and under this unit's own
abbrev pub bad_at : List ℕ → ℕ → Result Met Damage
bad_at = bad_at_under record_limit

abbrev pub pieces_met : List ℕ → Bool → ℕ → ℕ → ℕ → ℕ → ℕ → Met → Result Met Damage
pieces_met = pieces_met_under record_limit

abbrev pub record_met : List ℕ → Bool → ℕ → ℕ → ℕ → ℕ → Result Met Damage
record_met = record_met_under record_limit

abbrev pub met_by : List ℕ → Bool → ℕ → ℕ → Result Block BlockFault → Result Met Damage
met_by = met_by_under record_limit

abbrev pub passed : List ℕ → Bool → ℕ → ℕ → Result Met Damage
passed = passed_under record_limit
