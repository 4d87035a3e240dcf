-- Lines worked out.
use mathlib.Core.Path.{◌≡◌, refl}
use mathlib.Core.Bool.{true, false}
use mathlib.Core.List.{[], ◌∷◌}
use Rattle.std.proofs.Common.{Some, None, Ok, Err}
use Rattle.script.specs.declared.Fault.TheVariants as fault
use Rattle.script.specs.Rules.{own_rules}
use Rattle.script.specs.Words.{over, spanned, place_from, word_end, word_from, word_start}
use Rattle.script.specs.Numbers.{digit_of, hexed, joined, number_in, said, three_of, wanted_of}
use Rattle.state.specs.declared.act.Act.TheVariants as act
use Rattle.lines.specs.declared.Arrange.TheVariants as arrange
use Rattle.lines.specs.declared.Ask.TheVariants as ask
use Rattle.lines.specs.declared.Build.TheVariants as build
use Rattle.lines.specs.declared.Call.TheVariants as call
use Rattle.lines.specs.declared.Does.TheVariants as does
use Rattle.lines.specs.declared.Field.TheVariants as field
use Rattle.lines.specs.declared.Given.TheVariants as given
use Rattle.lines.specs.declared.Table.TheVariants as table
use Rattle.lines.specs.Makes.{arranges_line, asks_line, builds_line, calls_line, plain_line, tables_line}
use Rattle.lines.specs.Starts.{has_word, most_words, start_of, start_words, verbs}
use Rattle.lines.specs.Arranging.{cut_line, field_of, field_words, fields, lens_line, number_of, set_line, set_to}
use Rattle.lines.specs.Building.{made_line, poke_reel_line, record_line}
use Rattle.lines.specs.Calling.{end_of, mount_line, op_line, tsdb_line}
use Rattle.lines.specs.Rules.{held_by, named, rules_line, within}
use Rattle.lines.specs.Lines.{line_by, line_from, line_of}
use Rattle.lines.specs.Tabling.{index_line, poke_table_line}

-- a blank line
empty : line_of (32 ∷ []) 0 ≡ Ok (plain_line does.Nothing)
unfolding line_of has_word place_from word_from word_start word_end over spanned
empty = refl

-- "op lock"
locks : line_of (111 ∷ 112 ∷ 32 ∷ 108 ∷ 111 ∷ 99 ∷ 107 ∷ []) 0 ≡ Ok (asks_line (ask.Operate act.Lock) given.Nothing)
unfolding line_of line_from line_by has_word start_of start_words verbs most_words op_line place_from word_from word_start word_end over spanned
locks = refl

-- "mount cursor 1 0" while the cursor is at 7
mounts : line_of (109 ∷ 111 ∷ 117 ∷ 110 ∷ 116 ∷ 32 ∷ 99 ∷ 117 ∷ 114 ∷ 115 ∷ 111 ∷ 114 ∷ 32 ∷ 49 ∷ 32 ∷ 48 ∷ []) 7 ≡ Ok (calls_line (call.Mount 7 true false) given.Nothing)
unfolding line_of line_from line_by has_word start_of start_words verbs most_words mount_line end_of number_in hexed said joined digit_of wanted_of three_of place_from word_from word_start word_end over spanned
mounts = refl

-- "set msglen 14"
sets : line_of (115 ∷ 101 ∷ 116 ∷ 32 ∷ 109 ∷ 115 ∷ 103 ∷ 108 ∷ 101 ∷ 110 ∷ 32 ∷ 49 ∷ 52 ∷ []) 0 ≡ Ok (arranges_line (arrange.Set (Some field.Length) 14))
unfolding line_of line_from line_by has_word start_of start_words verbs most_words set_line set_to field_of field_words fields number_of number_in hexed said joined digit_of wanted_of three_of place_from word_from word_start word_end over spanned
sets = refl

-- "RN 5 9"
makes : line_of (82 ∷ 78 ∷ 32 ∷ 53 ∷ 32 ∷ 57 ∷ []) 0 ≡ Ok (builds_line build.Record (given.Made 5 9))
unfolding line_of line_from line_by has_word start_of start_words verbs most_words made_line number_in hexed said joined digit_of wanted_of three_of place_from word_from word_start word_end over spanned
makes = refl

-- "pokereel 0x1f 00"
pokes : line_of (112 ∷ 111 ∷ 107 ∷ 101 ∷ 114 ∷ 101 ∷ 101 ∷ 108 ∷ 32 ∷ 48 ∷ 120 ∷ 49 ∷ 102 ∷ 32 ∷ 48 ∷ 48 ∷ []) 0 ≡ Ok (builds_line (build.PokeReel 31) (given.Word 2))
unfolding line_of line_from line_by has_word start_of start_words verbs most_words poke_reel_line number_in hexed said joined digit_of wanted_of three_of place_from word_from word_start word_end over spanned
pokes = refl

-- "lens 2 3 4" leaves the table as it is, "lens 2 3 4 5" cuts it too
lens_three : line_of (108 ∷ 101 ∷ 110 ∷ 115 ∷ 32 ∷ 50 ∷ 32 ∷ 51 ∷ 32 ∷ 52 ∷ []) 0 ≡ Ok (arranges_line (arrange.Cut (record { memory = 2; reel = 3; journal = 4; table = None })))
unfolding line_of line_from line_by has_word start_of start_words verbs most_words lens_line cut_line number_in hexed said joined digit_of wanted_of three_of place_from word_from word_start word_end over spanned
lens_three = refl

lens_four : line_of (108 ∷ 101 ∷ 110 ∷ 115 ∷ 32 ∷ 50 ∷ 32 ∷ 51 ∷ 32 ∷ 52 ∷ 32 ∷ 53 ∷ []) 0 ≡ Ok (arranges_line (arrange.Cut (record { memory = 2; reel = 3; journal = 4; table = Some 5 })))
unfolding line_of line_from line_by has_word start_of start_words verbs most_words lens_line cut_line number_in hexed said joined digit_of wanted_of three_of place_from word_from word_start word_end over spanned
lens_four = refl

-- "index 47", "poketable 8 00"
indexes : line_of (105 ∷ 110 ∷ 100 ∷ 101 ∷ 120 ∷ 32 ∷ 52 ∷ 55 ∷ []) 0 ≡ Ok (tables_line (table.Index 47) given.Nothing)
unfolding line_of line_from line_by has_word start_of start_words verbs most_words index_line number_in hexed said joined digit_of wanted_of three_of place_from word_from word_start word_end over spanned
indexes = refl

pokes_table : line_of (112 ∷ 111 ∷ 107 ∷ 101 ∷ 116 ∷ 97 ∷ 98 ∷ 108 ∷ 101 ∷ 32 ∷ 56 ∷ 32 ∷ 48 ∷ 48 ∷ []) 0 ≡ Ok (tables_line (table.Poke 8) (given.Word 2))
unfolding line_of line_from line_by has_word start_of start_words verbs most_words poke_table_line number_in hexed said joined digit_of wanted_of three_of place_from word_from word_start word_end over spanned
pokes_table = refl

-- "back 2" has a word too many, "backk" is none of the words
extra : line_of (98 ∷ 97 ∷ 99 ∷ 107 ∷ 32 ∷ 50 ∷ []) 0 ≡ Err fault.ExtraWord
unfolding line_of line_from line_by has_word start_of start_words verbs most_words place_from word_from word_start word_end over spanned
extra = refl

unknown : line_of (98 ∷ 97 ∷ 99 ∷ 107 ∷ 107 ∷ []) 0 ≡ Err fault.UnknownWord
unfolding line_of line_from line_by has_word start_of start_words verbs most_words place_from word_from word_start word_end over spanned
unknown = refl

-- the last of the calls, and the last of the fields
last_word : line_of (98 ∷ 97 ∷ 99 ∷ 107 ∷ []) 0 ≡ Ok (calls_line call.StepBack given.Nothing)
unfolding line_of line_from line_by has_word start_of start_words verbs most_words place_from word_from word_start word_end over spanned
last_word = refl

last_field : line_of (115 ∷ 101 ∷ 116 ∷ 32 ∷ 106 ∷ 114 ∷ 110 ∷ 108 ∷ 108 ∷ 101 ∷ 110 ∷ 32 ∷ 51 ∷ []) 0 ≡ Ok (arranges_line (arrange.Set (Some field.Journal) 3))
unfolding line_of line_from line_by has_word start_of start_words verbs most_words set_line set_to field_of field_words fields number_of number_in hexed said joined digit_of wanted_of three_of place_from word_from word_start word_end over spanned
last_field = refl

-- "tsdb 65536" is no word of 16 bits, "R" gives no bytes
wide_word : line_of (116 ∷ 115 ∷ 100 ∷ 98 ∷ 32 ∷ 54 ∷ 53 ∷ 53 ∷ 51 ∷ 54 ∷ []) 0 ≡ Err fault.NumberTooLarge
unfolding line_of line_from line_by has_word start_of start_words verbs most_words tsdb_line number_in hexed said joined digit_of wanted_of three_of place_from word_from word_start word_end over spanned
wide_word = refl

no_bytes : line_of (82 ∷ []) 0 ≡ Err fault.WordMissing
unfolding line_of line_from line_by has_word start_of start_words verbs most_words record_line place_from word_from word_start word_end over spanned
no_bytes = refl

-- "rules 2 4 7 8", and with it a request that no script shows; "rules" names none, "rules 2 4 7" not all that the program has
own_rules_lem : line_of (114 ∷ 117 ∷ 108 ∷ 101 ∷ 115 ∷ 32 ∷ 50 ∷ 32 ∷ 52 ∷ 32 ∷ 55 ∷ 32 ∷ 56 ∷ []) 0 ≡ Ok (plain_line does.Nothing)
unfolding line_of line_from line_by has_word start_of start_words verbs most_words rules_line own_rules within held_by named number_in hexed said joined digit_of place_from word_from word_start word_end over spanned
own_rules_lem = refl

own_rules_and : line_of (114 ∷ 117 ∷ 108 ∷ 101 ∷ 115 ∷ 32 ∷ 55 ∷ 32 ∷ 56 ∷ 32 ∷ 52 ∷ 32 ∷ 49 ∷ 51 ∷ 32 ∷ 50 ∷ []) 0 ≡ Ok (plain_line does.Nothing)
unfolding line_of line_from line_by has_word start_of start_words verbs most_words rules_line own_rules within held_by named number_in hexed said joined digit_of place_from word_from word_start word_end over spanned
own_rules_and = refl

no_rules : line_of (114 ∷ 117 ∷ 108 ∷ 101 ∷ 115 ∷ []) 0 ≡ Err fault.OtherRules
unfolding line_of line_from line_by has_word start_of start_words verbs most_words rules_line own_rules within held_by named number_in hexed said joined digit_of place_from word_from word_start word_end over spanned
no_rules = refl

other_rules : line_of (114 ∷ 117 ∷ 108 ∷ 101 ∷ 115 ∷ 32 ∷ 50 ∷ 32 ∷ 52 ∷ 32 ∷ 55 ∷ []) 0 ≡ Err fault.OtherRules
unfolding line_of line_from line_by has_word start_of start_words verbs most_words rules_line own_rules within held_by named number_in hexed said joined digit_of place_from word_from word_start word_end over spanned
other_rules = refl
