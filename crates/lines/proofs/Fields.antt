-- A `set` line names a field: `Arrange::Set` may name none, and no line of a script does.
use mathlib.Core.List.{List}
use Prim.Native.Nat.{ℕ}
use Rattle.std.specs.Prelude.{Some, None, Result, Ok, Err, IfOk, bytes_eq, eqb, ltb, not}
use Rattle.lists.specs.Pick.{Always, pick}
use Rattle.script.specs.Rules.{own_rules}
use Rattle.script.specs.Words.{place_of, word_from}
use Rattle.script.specs.declared.Fault.{Fault}
use Rattle.script.specs.declared.Fault.TheVariants as fault
use Rattle.state.proofs.Tests.{either}
use Rattle.lines.specs.declared.Arrange.{Arrange}
use Rattle.lines.specs.declared.Arrange.TheVariants as arrange
use Rattle.lines.specs.declared.Ask.TheVariants as ask
use Rattle.lines.specs.declared.Build.TheVariants as build
use Rattle.lines.specs.declared.Call.TheVariants as call
use Rattle.lines.specs.declared.Does.{Does}
use Rattle.lines.specs.declared.Does.TheVariants as does
use Rattle.lines.specs.declared.Given.TheVariants as given
use Rattle.lines.specs.declared.Line.{Line}
use Rattle.lines.specs.declared.Table.TheVariants as table
use Rattle.lines.specs.declared.verbs.Verb.{Verb}
use Rattle.lines.specs.declared.verbs.Verb.TheVariants as verb
use Rattle.lines.specs.Makes.{arranges_line, asks_line, builds_line, calls_line, number_at, numbers_at, on_numbers, on_value, plain_line, tables_line}
use Rattle.lines.specs.Starts.{has_word, most_words, named_in, start_of}
use Rattle.lines.specs.Arranging.{cut_line, field_of, lens_line, off_word, reel_bytes, set_line, set_to, sizes_line, table_bytes, too_wide}
use Rattle.lines.specs.Building.{made_line, poke_line, poke_reel_line, record_line, sum_line, word_line}
use Rattle.lines.specs.Calling.{act_words, acts, end_of, host_line, hostn_line, mount_line, op_line, reg_line, register_words, registers, tsdb_line, tssr_line}
use Rattle.lines.specs.Lines.{line_by, line_from, line_of}
use Rattle.lines.specs.Rules.{rules_line, same_rules}
use Rattle.lines.specs.Tabling.{index_line, poke_table_line}

-- where a line sets a field, there is one
abbrev pub ArrangeNames : Arrange → Type 0
ArrangeNames arrange.Case = Always
ArrangeNames (arrange.Sizes n) = Always
ArrangeNames (arrange.Cut c) = Always
ArrangeNames arrange.Uncut = Always
ArrangeNames (arrange.Set (Some f) v) = Always
ArrangeNames (arrange.Set None v) = ⊥

abbrev pub NamesField : Does → Type 0
NamesField does.Nothing = Always
NamesField (does.Arranges a) = ArrangeNames a
NamesField (does.Builds b) = Always
NamesField (does.Tables t) = Always
NamesField (does.Calls c) = Always

abbrev Names : Result Line Fault → Type 0
Names r = IfOk r (λ l. NamesField l.does)

by_value : {T : Type 0} (r : Result T Fault) (f : T → Result Line Fault) → ((n : T) → Names (f n)) → Names (on_value r f)
by_value (Ok n) f h = h n
by_value (Err e) f h = tt

by_numbers : (r : Result (ℕ × ℕ × ℕ) Fault) (f : ℕ → ℕ → ℕ → Result Line Fault) → ((a b c : ℕ) → Names (f a b c)) → Names (on_numbers r f)
by_numbers (Ok (a, b, c)) f h = h a b c
by_numbers (Err e) f h = tt

by_cut : (t : List ℕ) (m r j : ℕ) → Names (cut_line t m r j)
unfolding cut_line
by_cut t m r j =
    either Names (has_word t 4) (on_value (number_at t 4) (λ n. Ok (arranges_line (arrange.Cut (record { memory = m; reel = r; journal = j; table = Some n })))))
    (Ok (arranges_line (arrange.Cut (record { memory = m; reel = r; journal = j; table = None }))))
    (by_value (number_at t 4) (λ n. Ok (arranges_line (arrange.Cut (record { memory = m; reel = r; journal = j; table = Some n })))) (λ n. tt)) tt

-- by its first word
by_verb : (t : List ℕ) (v : Verb) (cursor : ℕ) → Names (line_by t v cursor)
unfolding line_by sizes_line lens_line set_line set_to poke_line poke_reel_line word_line sum_line record_line made_line mount_line tsdb_line tssr_line reg_line op_line host_line hostn_line rules_line index_line poke_table_line
by_verb t verb.Case cursor = tt
by_verb t verb.Sizes cursor = by_numbers (numbers_at t 1 3) (λ m b j. Ok (arranges_line (arrange.Sizes (record { memory = m; reel = reel_bytes b; table = table_bytes b; journal = j })))) (λ a b c. tt)
by_verb t verb.Lens cursor =
    either Names (bytes_eq (word_from t 1) off_word) (Ok (arranges_line arrange.Uncut)) (on_numbers (numbers_at t 1 3) (λ m r j. cut_line t m r j)) tt
    (by_numbers (numbers_at t 1 3) (λ m r j. cut_line t m r j) (λ m r j. by_cut t m r j))
by_verb t verb.Set cursor =
    by_value (number_at t 2) (λ v. on_value (field_of t) (λ f. set_to f v))
    (λ v. by_value (field_of t) (λ f. set_to f v) (λ f. either Names (too_wide f v) (Err fault.NumberTooLarge) (Ok (arranges_line (arrange.Set (Some f) v))) tt tt))
by_verb t verb.Poke cursor = by_value (number_at t 1) (λ at. Ok (builds_line (build.Poke at) (given.Word 2))) (λ n. tt)
by_verb t verb.Word cursor = by_numbers (numbers_at t 1 2) (λ at w x. Ok (builds_line (build.PokeWord at w) given.Nothing)) (λ a b c. tt)
by_verb t verb.PokeReel cursor = by_value (number_at t 1) (λ at. Ok (builds_line (build.PokeReel at) (given.Word 2))) (λ n. tt)
by_verb t verb.FixSum cursor = by_value (number_at t 1) (λ k. Ok (builds_line (build.FixSum k) given.Nothing)) (λ n. tt)
by_verb t verb.Record cursor = either Names (has_word t 1) (Ok (builds_line build.Record (given.Word 1))) (Err fault.WordMissing) tt tt
by_verb t verb.Made cursor = by_numbers (numbers_at t 1 2) (λ n seed x. Ok (builds_line build.Record (given.Made n seed))) (λ a b c. tt)
by_verb t verb.Mark cursor = tt
by_verb t verb.Gap cursor = tt
by_verb t verb.Mount cursor =
    by_value (end_of t cursor) (λ e. on_numbers (numbers_at t 2 3) (λ online locked x. Ok (calls_line (call.Mount e (not (eqb online 0)) (not (eqb locked 0))) given.Nothing))) (λ e. by_numbers (numbers_at t 2 3) (λ online locked x. Ok (calls_line (call.Mount e (not (eqb online 0)) (not (eqb locked 0))) given.Nothing)) (λ a b c. tt))
by_verb t verb.Tsdb cursor = by_value (number_at t 1) (λ w. pick (ltb 65535 w) (Err fault.NumberTooLarge) (Ok (asks_line (ask.WriteTsdb w) given.Nothing))) (λ w. either Names (ltb 65535 w) (Err fault.NumberTooLarge) (Ok (asks_line (ask.WriteTsdb w) given.Nothing)) tt tt)
by_verb t verb.Tssr cursor = by_value (number_at t 1) (λ w. Ok (asks_line ask.WriteTssr given.Nothing)) (λ n. tt)
by_verb t verb.Reg cursor = by_value (named_in registers (place_of register_words (word_from t 1))) (λ c. Ok (calls_line c given.Nothing)) (λ n. tt)
by_verb t verb.Op cursor = by_value (named_in acts (place_of act_words (word_from t 1))) (λ a. Ok (asks_line (ask.Operate a) given.Nothing)) (λ n. tt)
by_verb t verb.Host cursor = by_value (number_at t 1) (λ at. Ok (asks_line (ask.HostStore at) (given.Word 2))) (λ n. tt)
by_verb t verb.HostMade cursor = by_numbers (numbers_at t 1 3) (λ at n seed. Ok (asks_line (ask.HostStore at) (given.Made n seed))) (λ a b c. tt)
by_verb t verb.Advance cursor = tt
by_verb t verb.Back cursor = tt
by_verb t verb.Rules cursor = either Names (same_rules t own_rules) (Ok (plain_line does.Nothing)) (Err fault.OtherRules) tt tt
by_verb t verb.Index cursor = by_value (number_at t 1) (λ n. Ok (tables_line (table.Index n) given.Nothing)) (λ n. tt)
by_verb t verb.PokeTable cursor = by_value (number_at t 1) (λ at. Ok (tables_line (table.Poke at) (given.Word 2))) (λ n. tt)

pub field_named : (t : List ℕ) (cursor : ℕ) → IfOk (line_of t cursor) (λ l. NamesField l.does)
unfolding line_of line_from
field_named t cursor =
    either Names (has_word t 0) (on_value (start_of t) (λ v. line_from t v cursor)) (Ok (plain_line does.Nothing))
    (by_value (start_of t) (λ v. line_from t v cursor) (λ v. either Names (has_word t (most_words v)) (Err fault.ExtraWord) (line_by t v cursor) tt (by_verb t v cursor))) tt
