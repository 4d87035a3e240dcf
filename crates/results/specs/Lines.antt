-- The result line of a call.
use Rattle.std.specs.Prelude.{Bool, List, [], ◌∷◌, ◌++◌, ℕ, take}
use Rattle.tape.specs.Letters.{letter_of}
use Rattle.tape.specs.declared.BlockFault.{BlockFault}
use Rattle.std.specs.Prelude.{Ok, Err}
use Rattle.state.specs.Refusals.{by_block, refusal_number}
use Rattle.state.specs.declared.refusal.Refusal.{Refusal}
use Rattle.commands.specs.Answers.{Answer}
use Rattle.commands.specs.declared.plans.Done.TheVariants as answer
use Rattle.worlds.specs.declared.Session.{Session}
use Rattle.script.specs.Spelling.{spelling}
use Rattle.results.specs.declared.Also.{Also}
use Rattle.results.specs.declared.Also.TheVariants as also
use Rattle.results.specs.Fields.{bit_of, fields_of, printed_fields}

-- a number in decimal, and in hexadecimal with no fewer digits than so many
abbrev pub decimal : ℕ → List ℕ
decimal n = spelling 10 1 n

abbrev pub hexadecimal : ℕ → ℕ → List ℕ
hexadecimal least n = spelling 16 least n

-- " int=" and " entry="
abbrev pub interrupt_text : Bool → List ℕ
interrupt_text i = (32 ∷ 105 ∷ 110 ∷ 116 ∷ 61 ∷ []) ++ decimal (bit_of i)

abbrev pub entry_text : ℕ → List ℕ
entry_text n = (32 ∷ 101 ∷ 110 ∷ 116 ∷ 114 ∷ 121 ∷ 61 ∷ []) ++ decimal n

-- what a step that was taken tells behind its answer: the length of its entry; an advance its interrupt before that
unfoldable pub also_text : Bool → Also → List ℕ
also_text i also.Nothing = []
also_text i (also.Entry n) = entry_text n
also_text i (also.Interrupt n) = interrupt_text i ++ entry_text n
also_text i (also.Word w) = []

-- "0" of a call that was done
abbrev pub done_text : Bool → Also → List ℕ
done_text i x = (48 ∷ []) ++ also_text i x

-- "7 block=" and the block, " fault=" and the letter of what is wrong with it
abbrev pub bad_text : BlockFault → ℕ → List ℕ
bad_text why k = ((55 ∷ 32 ∷ 98 ∷ 108 ∷ 111 ∷ 99 ∷ 107 ∷ 61 ∷ []) ++ decimal k) ++ ((32 ∷ 102 ∷ 97 ∷ 117 ∷ 108 ∷ 116 ∷ 61 ∷ []) ++ (letter_of why ∷ []))

abbrev pub refusal_text : Refusal → List ℕ
refusal_text r = by_block bad_text (decimal (refusal_number r)) r

-- "0", "idle", a refusal's number, or refusal 7 with its block and fault
unfoldable pub answer_text : Answer → Also → List ℕ
answer_text (Ok (answer.Step i)) x = done_text i x
answer_text (Ok answer.Idle) x = 105 ∷ 100 ∷ 108 ∷ 101 ∷ []
answer_text (Err r) x = refusal_text r

-- " word=" and the word read, whatever the answer
abbrev pub read_text : ℕ → List ℕ
read_text w = (32 ∷ 119 ∷ 111 ∷ 114 ∷ 100 ∷ 61 ∷ []) ++ hexadecimal 4 w

unfoldable pub word_text : Also → List ℕ
word_text also.Nothing = []
word_text (also.Entry n) = []
word_text (also.Interrupt n) = []
word_text (also.Word w) = read_text w

-- a blank and each number
unfoldable pub numbers_text : List ℕ → List ℕ
numbers_text [] = []
numbers_text (n ∷ l) = ((32 ∷ []) ++ decimal n) ++ numbers_text l

-- " | ", three check sums with a blank between them, and the line's end
unfoldable pub sums_text : ℕ → ℕ → ℕ → List ℕ
sums_text m r tb = (32 ∷ 124 ∷ 32 ∷ []) ++ (hexadecimal 8 m ++ ((32 ∷ []) ++ (hexadecimal 8 r ++ ((32 ∷ []) ++ (hexadecimal 8 tb ++ (10 ∷ []))))))

-- the answer and what it tells, the word read, the session after the call, the check sums of memory, reel and table
unfoldable pub result_line : Answer → Also → Session → ℕ → ℕ → ℕ → List ℕ
result_line a x s m r tb =
    answer_text a x ++ (word_text x ++ ((32 ∷ 124 ∷ []) ++ (numbers_text (take printed_fields (fields_of s)) ++ sums_text m r tb)))
