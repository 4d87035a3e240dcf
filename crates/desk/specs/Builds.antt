-- Bytes put into memory and reel with no call: the answer, and what is stored where the line is taken. A line that can't be taken stores nothing.
use Rattle.std.specs.Prelude.{Result, Ok, Err, List, ℕ, ◌+◌, ◌*◌, ◌/◌, ◌%◌, eqb, leb, ltb, length, take, drop}
use Rattle.std.proofs.lemmas.List.Edits.{sets}
use Rattle.lists.specs.Pick.{pick}
use Rattle.lists.specs.Words.{word_bytes}
use Rattle.tape.specs.Layout.{check_of}
use Rattle.tape.specs.Numbers.{block_bytes, pieces_of, summed_bytes}
use Rattle.tape.specs.Objects.{Object, image_of}
use Rattle.script.specs.declared.Fault.{Fault}
use Rattle.script.specs.declared.Fault.TheVariants as fault
use Rattle.lines.specs.declared.Build.{Build}
use Rattle.lines.specs.declared.Build.TheVariants as build

-- what is stored where the answer is a cursor, and what stays where it is a fault
abbrev pub if_taken : Result ℕ Fault → List ℕ → List ℕ → List ℕ
if_taken (Ok p) new old = new
if_taken (Err f) new old = old

-- n bytes at a place of a room; the cursor p stays
unfoldable pub poke_answer : ℕ → ℕ → ℕ → ℕ → Fault → Result ℕ Fault
poke_answer room at n p f = pick (leb (at + n) room) (Ok p) (Err f)

-- a word of 16 bits in memory
unfoldable pub word_answer : ℕ → ℕ → ℕ → ℕ → Result ℕ Fault
word_answer room at w p = pick (ltb 65535 w) (Err fault.NumberTooLarge) (poke_answer room at 2 p fault.OutsideMemory)

-- block k of a reel of so many bytes, and the cursor then
unfoldable pub block_answer : ℕ → ℕ → ℕ → Result ℕ Fault
block_answer room k p = pick (ltb k (room / block_bytes)) (Ok p) (Err fault.OutsideReel)

-- the check word that the bytes of block k ask, and its place
abbrev pub check_bytes : List ℕ → ℕ → List ℕ
check_bytes s k = word_bytes (check_of (take summed_bytes (drop (block_bytes * k) s)))

abbrev pub check_place : ℕ → ℕ
check_place k = block_bytes * k + summed_bytes

-- a record of n bytes, no more than a block's length word can say, out of an even room for them, at block p of a reel of so many bytes
unfoldable pub record_answer : ℕ → ℕ → ℕ → ℕ → Result ℕ Fault
record_answer room p held n =
    pick (ltb 65535 n) (Err fault.RecordTooLong)
    (pick (ltb held n) (Err fault.BeyondBuffers)
    (pick (eqb (held % 2) 0)
    (pick (leb (p + pieces_of n) (room / block_bytes)) (Ok (p + pieces_of n)) (Err fault.OutsideReel))
    (Err fault.BeyondBuffers)))

-- the reel with an object laid at block p
abbrev pub laid_at : List ℕ → ℕ → Object → List ℕ
laid_at s p o = sets s (block_bytes * p) (image_of o)

-- what such a line answers while the cursor is at p: it gives the bytes d, the first n of so many held, and memory and reel are m and r bytes
unfoldable pub built_answer : Build → ℕ → List ℕ → ℕ → ℕ → ℕ → ℕ → Result ℕ Fault
built_answer (build.Poke at) p d held n m r = poke_answer m at (length d) p fault.OutsideMemory
built_answer (build.PokeWord at w) p d held n m r = word_answer m at w p
built_answer (build.PokeReel at) p d held n m r = poke_answer r at (length d) p fault.OutsideReel
built_answer (build.FixSum k) p d held n m r = block_answer r k p
built_answer build.Record p d held n m r = record_answer r p held n
built_answer build.Mark p d held n m r = block_answer r p (p + 1)
built_answer build.Gap p d held n m r = block_answer r p (p + 1)

-- and the memory and the reel that it leaves
unfoldable pub built_memory : Build → ℕ → List ℕ → List ℕ → List ℕ
built_memory (build.Poke at) p d m = if_taken (poke_answer (length m) at (length d) p fault.OutsideMemory) (sets m at d) m
built_memory (build.PokeWord at w) p d m = if_taken (word_answer (length m) at w p) (sets m at (word_bytes w)) m
built_memory (build.PokeReel at) p d m = m
built_memory (build.FixSum k) p d m = m
built_memory build.Record p d m = m
built_memory build.Mark p d m = m
built_memory build.Gap p d m = m

unfoldable pub built_reel : Build → ℕ → List ℕ → ℕ → ℕ → List ℕ → List ℕ
built_reel (build.Poke at) p d held n s = s
built_reel (build.PokeWord at w) p d held n s = s
built_reel (build.PokeReel at) p d held n s = if_taken (poke_answer (length s) at (length d) p fault.OutsideReel) (sets s at d) s
built_reel (build.FixSum k) p d held n s = if_taken (block_answer (length s) k p) (sets s (check_place k) (check_bytes s k)) s
built_reel build.Record p d held n s = if_taken (record_answer (length s) p held n) (laid_at s p (Object.record_of d)) s
built_reel build.Mark p d held n s = if_taken (block_answer (length s) p (p + 1)) (laid_at s p Object.mark) s
built_reel build.Gap p d held n s = if_taken (block_answer (length s) p (p + 1)) (laid_at s p Object.gap) s
