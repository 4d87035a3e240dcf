-- "Kinds: 1 record piece, 2 tape mark, 3 erased gap." (01, The reel)
use Rattle.std.specs.Prelude.{ℕ, eqb, Option, Some, None}
use Rattle.lists.specs.Pick.{pick}
use Rattle.tape.specs.Layout.{gap_kind, mark_kind, piece_kind}
use Rattle.block.specs.declared.read.Kind.{Kind}
use Rattle.block.specs.declared.read.Kind.TheVariants as kind

-- what the number in word 0 stands for; no other number stands for a kind
abbrev pub kind_named : ℕ → Option Kind
kind_named k =
    pick (eqb k piece_kind) (Some kind.Piece) (pick (eqb k mark_kind) (Some kind.Mark) (pick (eqb k gap_kind) (Some kind.Gap) None))
