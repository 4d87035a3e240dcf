-- Lines that set the desk up: what each comes to.
use Rattle.std.specs.Prelude.{Bool, ◌&&◌, ◌||◌, List, [], ◌∷◌, ℕ, ◌*◌, min, eqb, ltb, bytes_eq, Some, None, Result, Ok, Err}
use Rattle.lists.specs.Pick.{pick}
use Rattle.tape.specs.Numbers.{block_bytes}
use Rattle.script.specs.declared.Fault.{Fault}
use Rattle.script.specs.declared.Fault.TheVariants as fault
use Rattle.script.specs.Words.{place_of, word_from}
use Rattle.lines.specs.declared.Arrange.TheVariants as arrange
use Rattle.lines.specs.declared.Field.{Field}
use Rattle.lines.specs.declared.Field.TheVariants as field
use Rattle.lines.specs.declared.Line.{Line}
use Rattle.lines.specs.Makes.{arranges_line, number_at, numbers_at, on_value, on_numbers}
use Rattle.lines.specs.Starts.{has_word, named_in}

-- blocks as bytes, 1,000,000 of them at most: no reel of the program has so many
abbrev pub reel_bytes : ℕ → ℕ
reel_bytes blocks = block_bytes * min blocks 1000000

-- "Without this line the table has 8 bytes for each block of the reel"
abbrev pub table_bytes : ℕ → ℕ
table_bytes blocks = 8 * min blocks 1000000

-- `sizes MEM BLOCKS JRNL`
unfoldable pub sizes_line : List ℕ → Result Line Fault
sizes_line t = on_numbers (numbers_at t 1 3) (λ m b j. Ok (arranges_line (arrange.Sizes (record { memory = m; reel = reel_bytes b; table = table_bytes b; journal = j }))))

-- "off"
abbrev pub off_word : List ℕ
off_word = 111 ∷ 102 ∷ 102 ∷ []

-- `lens MEM REELBYTES JRNL [TABLEBYTES]`, its first three numbers read; "left out: the table as it is"
unfoldable pub cut_line : List ℕ → ℕ → ℕ → ℕ → Result Line Fault
cut_line t m r j =
    pick (has_word t 4)
    (on_value (number_at t 4) (λ n. Ok (arranges_line (arrange.Cut (record { memory = m; reel = r; journal = j; table = Some n })))))
    (Ok (arranges_line (arrange.Cut (record { memory = m; reel = r; journal = j; table = None }))))

-- and `lens off`
unfoldable pub lens_line : List ℕ → Result Line Fault
lens_line t =
    pick (bytes_eq (word_from t 1) off_word) (Ok (arranges_line arrange.Uncut))
    (on_numbers (numbers_at t 1 3) (λ m r j. cut_line t m r j))

-- "pos end ptr class rmr nxm nba ssr online lock vck unit_owns attn eai ess enb msgaddr msglen release_ie used objects memlen reelblocks jrnllen"
unfoldable pub field_words : List ℕ
field_words = 112 ∷ 111 ∷ 115 ∷ 32 ∷ 101 ∷ 110 ∷ 100 ∷ 32 ∷ 112 ∷ 116 ∷ 114 ∷ 32 ∷ 99 ∷ 108 ∷ 97 ∷ 115 ∷ 115 ∷ 32 ∷ 114 ∷ 109 ∷ 114 ∷ 32 ∷ 110 ∷ 120 ∷ 109 ∷ 32 ∷ 110 ∷ 98 ∷ 97 ∷ 32 ∷ 115 ∷ 115 ∷ 114 ∷ 32 ∷ 111 ∷ 110 ∷ 108 ∷ 105 ∷ 110 ∷ 101 ∷ 32 ∷ 108 ∷ 111 ∷ 99 ∷ 107 ∷ 32 ∷ 118 ∷ 99 ∷ 107 ∷ 32 ∷ 117 ∷ 110 ∷ 105 ∷ 116 ∷ 95 ∷ 111 ∷ 119 ∷ 110 ∷ 115 ∷ 32 ∷ 97 ∷ 116 ∷ 116 ∷ 110 ∷ 32 ∷ 101 ∷ 97 ∷ 105 ∷ 32 ∷ 101 ∷ 115 ∷ 115 ∷ 32 ∷ 101 ∷ 110 ∷ 98 ∷ 32 ∷ 109 ∷ 115 ∷ 103 ∷ 97 ∷ 100 ∷ 100 ∷ 114 ∷ 32 ∷ 109 ∷ 115 ∷ 103 ∷ 108 ∷ 101 ∷ 110 ∷ 32 ∷ 114 ∷ 101 ∷ 108 ∷ 101 ∷ 97 ∷ 115 ∷ 101 ∷ 95 ∷ 105 ∷ 101 ∷ 32 ∷ 117 ∷ 115 ∷ 101 ∷ 100 ∷ 32 ∷ 111 ∷ 98 ∷ 106 ∷ 101 ∷ 99 ∷ 116 ∷ 115 ∷ 32 ∷ 109 ∷ 101 ∷ 109 ∷ 108 ∷ 101 ∷ 110 ∷ 32 ∷ 114 ∷ 101 ∷ 101 ∷ 108 ∷ 98 ∷ 108 ∷ 111 ∷ 99 ∷ 107 ∷ 115 ∷ 32 ∷ 106 ∷ 114 ∷ 110 ∷ 108 ∷ 108 ∷ 101 ∷ 110 ∷ []

-- the fields in that order
unfoldable pub fields : List Field
fields =
    field.Position ∷ field.End ∷ field.Pointer ∷ field.Class ∷ field.Rmr ∷ field.Nxm ∷ field.Nba ∷ field.Ssr ∷ field.Online ∷ field.Locked ∷ field.Vck ∷ field.UnitOwns ∷ field.Pending ∷ field.Eai ∷ field.Ess ∷ field.Enb ∷ field.Address ∷ field.Length ∷ field.ReleaseIe ∷ field.Used ∷ field.Objects ∷ field.Memory ∷ field.Blocks ∷ field.Journal ∷ []

-- and their numbers in it
unfoldable pub number_of : Field → ℕ
number_of field.Position = 0
number_of field.End = 1
number_of field.Pointer = 2
number_of field.Class = 3
number_of field.Rmr = 4
number_of field.Nxm = 5
number_of field.Nba = 6
number_of field.Ssr = 7
number_of field.Online = 8
number_of field.Locked = 9
number_of field.Vck = 10
number_of field.UnitOwns = 11
number_of field.Pending = 12
number_of field.Eai = 13
number_of field.Ess = 14
number_of field.Enb = 15
number_of field.Address = 16
number_of field.Length = 17
number_of field.ReleaseIe = 18
number_of field.Used = 19
number_of field.Objects = 20
number_of field.Memory = 21
number_of field.Blocks = 22
number_of field.Journal = 23

-- which of them word 1 is
unfoldable pub field_of : List ℕ → Result Field Fault
field_of t = named_in fields (place_of field_words (word_from t 1))

-- fields 16 and 17, `msgaddr` and `msglen`, have 32 bits
abbrev pub too_wide : Field → ℕ → Bool
too_wide f v = (eqb (number_of f) 16 || eqb (number_of f) 17) && ltb 4294967295 v

unfoldable pub set_to : Field → ℕ → Result Line Fault
set_to f v = pick (too_wide f v) (Err fault.NumberTooLarge) (Ok (arranges_line (arrange.Set (Some f) v)))

-- `set FIELD VALUE`
unfoldable pub set_line : List ℕ → Result Line Fault
set_line t = on_value (number_at t 2) (λ v. on_value (field_of t) (λ f. set_to f v))
