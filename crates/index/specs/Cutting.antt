-- "writes cut and extend it": where a write at block b cuts a table of n places, and how many marks stand before that. (02, [8])
use Rattle.std.specs.Prelude.{List, ℕ, zero, suc, ◌+◌, ◌*◌, ◌/◌, ◌%◌, eqb, ltb, length}
use Rattle.std.proofs.lemmas.List.Edits.{sets}
use Rattle.lists.specs.Fours.{number_limit}
use Rattle.lists.specs.Pick.{pick}
use Rattle.lists.specs.Words.{word_at}
use Rattle.tape.specs.Layout.{mark_kind}
use Rattle.tape.specs.Numbers.{block_bytes}
use Rattle.tape.specs.Objects.{Object}
use Rattle.index.specs.Halving.{halved, of_blocks}
use Rattle.index.specs.Table.{first_block, marks_before, place_length, table_from}
use Rattle.index.specs.declared.Cut.{Cut}

-- block k's word 0; a block that the reel does not hold is of no kind
abbrev pub kind_at : List ℕ → ℕ → ℕ
kind_at s k = pick (ltb k (length s / block_bytes)) (word_at s (block_bytes * k)) 0

-- the marks before the object that place m is for: those before place m - 1, and the object of that one if it is a mark
unfoldable pub marks_at : List ℕ → List ℕ → ℕ → ℕ
marks_at tb s zero = 0
marks_at tb s (suc i) = (marks_before tb i + pick (eqb (kind_at s (first_block tb i)) mark_kind) 1 0) % number_limit

-- the places that stay are those whose first block is below b
unfoldable pub cut_at : List ℕ → ℕ → List ℕ → ℕ → Cut
cut_at tb n s b = record { place = halved tb of_blocks b n; marks = marks_at tb s (halved tb of_blocks b n) }

-- the table with the places of the objects os, laid from block b on, in the place of those that were cut
unfoldable pub extended : List ℕ → Cut → ℕ → List Object → List ℕ
extended tb c b os = sets tb (place_length * c.place) (table_from b c.marks os)
