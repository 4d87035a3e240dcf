-- What an object's first block says of it, by its words 0 and 1.
use Rattle.std.specs.Prelude.{List, ℕ, ◌+◌, ◌*◌, eqb}
use Rattle.lists.specs.Pick.{pick}
use Rattle.lists.specs.Words.{word_at}
use Rattle.tape.specs.Layout.{mark_kind, piece_kind}
use Rattle.tape.specs.Numbers.{block_bytes, pieces_of}

-- how many blocks it has: a record's by its length, else one
unfoldable pub blocks_at : List ℕ → ℕ → ℕ
blocks_at s p = pick (eqb (word_at s (block_bytes * p)) piece_kind) (pieces_of (word_at s (block_bytes * p + 2))) 1

-- 1 if it is a mark
unfoldable pub marks_on : List ℕ → ℕ → ℕ
marks_on s p = pick (eqb (word_at s (block_bytes * p)) mark_kind) 1 0
