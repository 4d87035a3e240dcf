-- The words that a line may start with, and how many words such a line may have.
use Rattle.std.specs.Prelude.{Bool, List, [], ◌∷◌, ℕ, ltb, Option, Result, ok_or, option_and_then, slice_get}
use Rattle.script.specs.declared.Fault.{Fault}
use Rattle.script.specs.declared.Fault.TheVariants as fault
use Rattle.script.specs.Words.{place_of, word_end, word_from, word_start}
use Rattle.lines.specs.declared.verbs.Verb.{Verb}
use Rattle.lines.specs.declared.verbs.Verb.TheVariants as verb

-- is there a word k? Where there is none, it starts and ends at the line's end
unfoldable pub has_word : List ℕ → ℕ → Bool
has_word t k = ltb (word_start t k) (word_end t k)

-- of some values the one at a place among their names
abbrev pub named_in : {T : Type 0} → List T → Option ℕ → Result T Fault
named_in l k = ok_or (option_and_then (slice_get l) k) fault.UnknownWord

-- "case sizes lens set poke word pokereel fixsum R RN M G mount tsdb tssr reg op host hostn adv back rules index poketable"
unfoldable pub start_words : List ℕ
start_words = 99 ∷ 97 ∷ 115 ∷ 101 ∷ 32 ∷ 115 ∷ 105 ∷ 122 ∷ 101 ∷ 115 ∷ 32 ∷ 108 ∷ 101 ∷ 110 ∷ 115 ∷ 32 ∷ 115 ∷ 101 ∷ 116 ∷ 32 ∷ 112 ∷ 111 ∷ 107 ∷ 101 ∷ 32 ∷ 119 ∷ 111 ∷ 114 ∷ 100 ∷ 32 ∷ 112 ∷ 111 ∷ 107 ∷ 101 ∷ 114 ∷ 101 ∷ 101 ∷ 108 ∷ 32 ∷ 102 ∷ 105 ∷ 120 ∷ 115 ∷ 117 ∷ 109 ∷ 32 ∷ 82 ∷ 32 ∷ 82 ∷ 78 ∷ 32 ∷ 77 ∷ 32 ∷ 71 ∷ 32 ∷ 109 ∷ 111 ∷ 117 ∷ 110 ∷ 116 ∷ 32 ∷ 116 ∷ 115 ∷ 100 ∷ 98 ∷ 32 ∷ 116 ∷ 115 ∷ 115 ∷ 114 ∷ 32 ∷ 114 ∷ 101 ∷ 103 ∷ 32 ∷ 111 ∷ 112 ∷ 32 ∷ 104 ∷ 111 ∷ 115 ∷ 116 ∷ 32 ∷ 104 ∷ 111 ∷ 115 ∷ 116 ∷ 110 ∷ 32 ∷ 97 ∷ 100 ∷ 118 ∷ 32 ∷ 98 ∷ 97 ∷ 99 ∷ 107 ∷ 32 ∷ 114 ∷ 117 ∷ 108 ∷ 101 ∷ 115 ∷ 32 ∷ 105 ∷ 110 ∷ 100 ∷ 101 ∷ 120 ∷ 32 ∷ 112 ∷ 111 ∷ 107 ∷ 101 ∷ 116 ∷ 97 ∷ 98 ∷ 108 ∷ 101 ∷ []

-- the verbs in that order
unfoldable pub verbs : List Verb
verbs =
    verb.Case ∷ verb.Sizes ∷ verb.Lens ∷ verb.Set ∷ verb.Poke ∷ verb.Word ∷ verb.PokeReel ∷ verb.FixSum ∷ verb.Record ∷ verb.Made ∷ verb.Mark ∷ verb.Gap ∷ verb.Mount ∷ verb.Tsdb ∷ verb.Tssr ∷ verb.Reg ∷ verb.Op ∷ verb.Host ∷ verb.HostMade ∷ verb.Advance ∷ verb.Back ∷ verb.Rules ∷ verb.Index ∷ verb.PokeTable ∷ []

-- which of them a line starts with
unfoldable pub start_of : List ℕ → Result Verb Fault
start_of t = named_in verbs (place_of start_words (word_from t 0))

-- the most words of each, itself counted; a case may have any name, and a line has no more than 4,096 characters
unfoldable pub most_words : Verb → ℕ
most_words verb.Case = 4096
most_words verb.Sizes = 4
most_words verb.Lens = 5
most_words verb.Set = 3
most_words verb.Poke = 3
most_words verb.Word = 3
most_words verb.PokeReel = 3
most_words verb.FixSum = 2
most_words verb.Record = 2
most_words verb.Made = 3
most_words verb.Mark = 1
most_words verb.Gap = 1
most_words verb.Mount = 4
most_words verb.Tsdb = 2
most_words verb.Tssr = 2
most_words verb.Reg = 2
most_words verb.Op = 2
most_words verb.Host = 3
most_words verb.HostMade = 4
most_words verb.Advance = 1
most_words verb.Back = 1
most_words verb.Rules = 15
most_words verb.Index = 2
most_words verb.PokeTable = 3
