-- A block that is read as a piece: of a record with one block or more; and what it is to be a given piece.
use mathlib.Core.Bool.{Bool, false, ◌&&◌}
use mathlib.Core.List.{List}
use lib.Dec.{eqb}
use mathlib.Core.Path.{◌≡◌, refl, sym, ◌∙◌}
use Prim.Native.Nat.{ℕ, ◌≤◌}
use native.Mathlib.Omega.{arith}
use Rattle.tape.proofs.ReadBlocks.{piece_read}
use Rattle.std.specs.Result.{result_eq}
use Rattle.tape.specs.Numbers.{pieces_of}
use Rattle.tape.specs.Pass.{is_piece}
use Rattle.tape.specs.Reading.{class_at}
use Rattle.tape.specs.declared.Block.{Block}
use Rattle.tape.specs.declared.Block.TheVariants as block
use Rattle.std.specs.Prelude.{Result, Ok, Err}
use Rattle.tape.specs.declared.BlockFault.{BlockFault}

pub piece_counts : (s : List ℕ) (k n i : ℕ) {b : Result Block BlockFault} → b ≡ class_at s k → b ≡ Ok (block.Piece n i) → 1 ≤ pieces_of n
piece_counts s k n i h q = omega (arith, piece_read s k n i (sym h ∙ q))

-- a block is a given piece where it is the same, by any test E of blocks that tells two pieces by their numbers
pub same_piece : (E : Block → Block → Bool) (F : BlockFault → BlockFault → Bool) (b : Result Block BlockFault) (n i : ℕ) → ((n' i' : ℕ) → E (block.Piece n' i') (block.Piece n i) ≡ (eqb n' n && eqb i' i))
    → E block.Mark (block.Piece n i) ≡ false → E block.Gap (block.Piece n i) ≡ false → result_eq E F b (Ok (block.Piece n i)) ≡ is_piece b n i
unfolding is_piece
same_piece E F (Ok (block.Piece n' i')) n i p m g = p n' i'
same_piece E F (Ok block.Mark) n i p m g = m
same_piece E F (Ok block.Gap) n i p m g = g
same_piece E F (Err f) n i p m g = refl
