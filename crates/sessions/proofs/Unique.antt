-- A call's contract permits one outcome: answer, session, memory, reel, table and used journal are those of its definition.
use mathlib.Core.List.{List}
use mathlib.Core.Path.{◌≡◌, refl, ap, sym, ◌∙◌}
use Rattle.std.specs.Prelude.{Option, Result, Ok, Err}
use Prim.Native.Nat.{ℕ}
use Rattle.commands.specs.Answers.{Answer}
use Rattle.state.specs.declared.refusal.Refusal.{Refusal}
use Rattle.worlds.specs.Calls.{Finding, RegisterRead, finding_of, read_of}
use Rattle.worlds.specs.Coupled.{shared_outcome}
use Rattle.worlds.specs.Rows.{coupler_of}
use Rattle.worlds.specs.Worlds.{Answered, Leaves, outcome_of, outcome_told, session_of, world_of}
use Rattle.worlds.specs.declared.Coupler.{Coupler}
use Rattle.worlds.specs.declared.Session.{Session}
use Rattle.worlds.specs.declared.Stepped.{Stepped}
use Rattle.worlds.specs.Worlds.{Outcome}

same_outcome : (o p : Outcome) → o.answer ≡ p.answer → o.session ≡ p.session → o ≡ p
same_outcome o p a s =
    ap (λ (x : Answer). record { answer = x; session = o.session }) a ∙ ap (λ (x : Session). record { answer = p.answer; session = x }) s

pub leaves_unique : {x : Answered} {k : List ℕ} {o o₂ : Outcome} {m r tb j m₂ r₂ tb₂ j₂ : List ℕ} → Leaves x k o m r tb j → Leaves x k o₂ m₂ r₂ tb₂ j₂
    → (o ≡ o₂) × (world_of x.world.number o.session m r tb j ≡ world_of x.world.number o₂.session m₂ r₂ tb₂ j₂)
leaves_unique {o = o} {o₂ = o₂} p q =
    let same = p.world ∙ sym q.world in
    (same_outcome o o₂ (p.answer ∙ sym q.answer) (ap session_of same), same)

-- and so one result of the code: those that have one outcome, over one session, are one
unfoldable result_in : Answer → Session → Result Session Refusal
result_in (Ok d) s = Ok s
result_in (Err r) s = Err r

result_back : (s : Session) (x : Result Session Refusal) → result_in (outcome_of s x).answer (outcome_of s x).session ≡ x
unfolding result_in
result_back s (Ok y) = refl
result_back s (Err r) = refl

pub one_result : (s : Session) {x y : Result Session Refusal} → outcome_of s x ≡ outcome_of s y → x ≡ y
one_result s {x = x} {y = y} h = sym (result_back s x) ∙ ap (λ (o : Outcome). result_in o.answer o.session) h ∙ result_back s y

unfoldable stepped_in : Answer → Session → Result Stepped Refusal
stepped_in (Ok d) s = Ok (record { done = d; session = s })
stepped_in (Err r) s = Err r

stepped_back : (s : Session) (x : Result Stepped Refusal) → stepped_in (outcome_told s x).answer (outcome_told s x).session ≡ x
unfolding stepped_in
stepped_back s (Ok y) = refl
stepped_back s (Err r) = refl

pub one_stepped : (s : Session) {x y : Result Stepped Refusal} → outcome_told s x ≡ outcome_told s y → x ≡ y
one_stepped s {x = x} {y = y} h = sym (stepped_back s x) ∙ ap (λ (o : Outcome). stepped_in o.answer o.session) h ∙ stepped_back s y

-- of a host store over a row, which hands the coupler back
unfoldable shared_in : Answer → Session → Result Coupler Refusal
shared_in (Ok d) s = Ok (coupler_of s)
shared_in (Err r) s = Err r

shared_back : (c : Coupler) (x : Result Coupler Refusal) → shared_in (shared_outcome c x).answer (shared_outcome c x).session ≡ x
unfolding shared_in
shared_back c (Ok y) = refl
shared_back c (Err r) = refl

pub one_shared : (c : Coupler) {x y : Result Coupler Refusal} → shared_outcome c x ≡ shared_outcome c y → x ≡ y
one_shared c {x = x} {y = y} h = sym (shared_back c x) ∙ ap (λ (o : Outcome). shared_in o.answer o.session) h ∙ shared_back c y

-- a register read's word, and what a look-up found: the answer tells a word of 0 from a refusal's, and nothing found from a refusal
unfoldable read_in : Answer → ℕ → Result ℕ Refusal
read_in (Ok d) w = Ok w
read_in (Err r) w = Err r

read_back : (x : Result ℕ Refusal) → read_in (read_of x).answer (read_of x).word ≡ x
unfolding read_in
read_back (Ok w) = refl
read_back (Err r) = refl

pub one_read : {x y : Result ℕ Refusal} → read_of x ≡ read_of y → x ≡ y
one_read {x = x} {y = y} h = sym (read_back x) ∙ ap (λ (o : RegisterRead). read_in o.answer o.word) h ∙ read_back y

unfoldable finding_in : Answer → Option ℕ → Result (Option ℕ) Refusal
finding_in (Ok d) f = Ok f
finding_in (Err r) f = Err r

finding_back : (x : Result (Option ℕ) Refusal) → finding_in (finding_of x).answer (finding_of x).found ≡ x
unfolding finding_in
finding_back (Ok f) = refl
finding_back (Err r) = refl

pub one_finding : {x y : Result (Option ℕ) Refusal} → finding_of x ≡ finding_of y → x ≡ y
one_finding {x = x} {y = y} h = sym (finding_back x) ∙ ap (λ (o : Finding). finding_in o.answer o.found) h ∙ finding_back y
