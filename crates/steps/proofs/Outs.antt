-- What each way out of a step leaves is what the definitions say, whatever the step.
use mathlib.Core.Path.{◌≡◌, refl, sym, ap, subst, ◌∙◌}
use mathlib.Core.Bool.{Bool, true, false, true≢false}
use mathlib.Core.List.{List, ◌++◌}
use Prim.Native.Nat.{ℕ, ◌+◌, ◌-◌, ◌≤◌, ◌<◌}
use native.Mathlib.Omega.{arith}
use borrow.Author.Tests.{le-ltb, lt-ltb}
use lib.ListN.{length}
use lib.Seq.{sets}
use Rattle.state.specs.declared.Unit.{Unit}
use Rattle.std.specs.Prelude.{Ok, Err}
use Rattle.state.specs.declared.refusal.Refusal.{Refusal}
use Rattle.state.specs.declared.refusal.Refusal.TheVariants as refusal
use Rattle.commands.specs.Answers.{is_step}
use Rattle.commands.specs.Answers.{Answer}
use Rattle.commands.specs.declared.plans.Done.TheVariants as answer
use Rattle.unit.specs.Steps.{Step, too_small}
use Rattle.entries.specs.Entries.{entry_bytes, entry_length, used_in}
use Rattle.entries.specs.declared.Entry.{Entry}
use Rattle.entries.proofs.Joined.{length_entry}
use Rattle.entries.proofs.Used.{used_more}
use Rattle.worlds.specs.Worlds.{Answered, Leaves, answered, world_of}
use Rattle.worlds.specs.Refusals.{checked}
use Rattle.worlds.specs.Calls.{entry_for, guarded, noted, outcome, refused_as, session, taken_as, taken_by, too_full}
use Rattle.worlds.specs.declared.Session.{Session}
use Rattle.worlds.specs.Worlds.{Outcome}
use Rattle.worlds.proofs.Undoing.{refused_eleven, refused_nine}

pub same_outcome : (a : Answer) (s : Session) (o : Outcome) → o.answer ≡ a → o.session ≡ s → o ≡ outcome a s
same_outcome a s o p q = ap (λ (x : Answer). outcome x o.session) p ∙ ap (λ (x : Session). outcome a x) q

module _ (number : ℕ) (s : Session) (m r tb j : List ℕ) where
  -- what changes nothing
  pub left_alone : (a : Answer) (o : Outcome) → o.answer ≡ a → o.session ≡ s → Leaves (answered a (world_of number s m r tb j)) j o m r tb j
  left_alone a o p q = record { answer = p; world = ap (λ (x : Session). world_of number x m r tb j) q; unless_step = λ t. refl }

  -- refusals 1 to 4
  pub guarded_stops : (n : Refusal) (x : Answered) → checked s (length m) (length r) (length j) ≡ Err n → Leaves (guarded (world_of number s m r tb j) (length j) x) j (outcome (Err n) s) m r tb j
  unfolding guarded
  guarded_stops n x e = rw e (left_alone (Err n) (outcome (Err n) s) refl refl)

  pub guarded_goes : (x : Answered) (o : Outcome) (m' r' tb' j' : List ℕ) → checked s (length m) (length r) (length j) ≡ Ok tt → Leaves x j o m' r' tb' j' → Leaves (guarded (world_of number s m r tb j) (length j) x) j o m' r' tb' j'
  unfolding guarded
  guarded_goes x o m' r' tb' j' e h = rw e h

  -- by the step's answer: taken, or nothing changes
  pub answer_takes : (x : Step) (i : Bool) (o : Outcome) (m' r' tb' j' : List ℕ) → x.answer ≡ Ok (answer.Step i) → Leaves (taken_as (world_of number s m r tb j) x (Ok (answer.Step i))) j o m' r' tb' j' → Leaves (taken_by (world_of number s m r tb j) x x.answer) j o m' r' tb' j'
  unfolding taken_by
  answer_takes x i o m' r' tb' j' e h = subst (λ (a : Answer). Leaves (taken_by (world_of number s m r tb j) x a) j o m' r' tb' j') (sym e) h

  pub answer_rests : (x : Step) (a : Answer) (o : Outcome) → x.answer ≡ a → taken_by (world_of number s m r tb j) x a ≡ answered a (world_of number s m r tb j) → o.answer ≡ a → o.session ≡ s → Leaves (taken_by (world_of number s m r tb j) x x.answer) j o m r tb j
  answer_rests x a o e q k l =
      let rests : Leaves (taken_by (world_of number s m r tb j) x a) j o m r tb j = rw q (left_alone a o k l) in
      subst (λ (b : Answer). Leaves (taken_by (world_of number s m r tb j) x b) j o m r tb j) (sym e) rests

  -- a step that is refused with k
  stops : (k : Refusal) (x : Step) (a : Answer) (o : Outcome) → taken_as (world_of number s m r tb j) x a ≡ refused_as k (world_of number s m r tb j) → o.answer ≡ Err k → o.session ≡ s → Leaves (taken_as (world_of number s m r tb j) x a) j o m r tb j
  stops k x a o q h l = rw q (left_alone (Err k) o h l)

  -- refusal 11, for the objects before a step x or for those after it
  pub small_stops : (x : Step) (a : Answer) (o : Outcome) → too_small (length tb) s.objects x.after.objects ≡ true → o.answer ≡ Err refusal.Table → o.session ≡ s → Leaves (taken_as (world_of number s m r tb j) x a) j o m r tb j
  small_stops x a o t h l = stops refusal.Table x a o (refused_eleven (world_of number s m r tb j) x a t) h l

  -- a step x with entry e of n bytes, and k objects after it, for which there are places: refusal 9, or taken and noted
  module _ (x : Step) (e : Entry) (n k : ℕ) (de : e ≡ entry_for number (world_of number s m r tb j).core x) (dn : n ≡ entry_length e) (dk : k ≡ x.after.objects) (large : too_small (length tb) s.objects k ≡ false) where
    places : too_small (length tb) s.objects x.after.objects ≡ false
    places = ap (too_small (length tb) s.objects) (sym dk) ∙ large

    pub taken_stops : (a : Answer) (o : Outcome) → s.journal - s.used < n → o.answer ≡ Err refusal.Room → o.session ≡ s → Leaves (taken_as (world_of number s m r tb j) x a) j o m r tb j
    taken_stops a o h i l =
        let full : too_full (world_of number s m r tb j).ledger (entry_for number (world_of number s m r tb j).core x) ≡ true = rw (← de, ← dn) (lt-ltb (s.journal - s.used) n h) in
        stops refusal.Room x a o (refused_nine (world_of number s m r tb j) x a places full) i l

    pub taken_goes : (a : Answer) (u : Unit) (m' r' tb' j' : List ℕ) → is_step a ≡ true → n ≤ s.journal - s.used → s.used + entry_length e ≤ length j → j' ≡ sets j s.used (entry_bytes e m r tb) → (record { unit = u; objects = k; memory = m'; reel = r'; table = tb' }) ≡ x.after → Leaves (taken_as (world_of number s m r tb j) x a) j (outcome a (session u k (s.used + n) s.journal)) m' r' tb' j'
    unfolding taken_as noted
    taken_goes a u m' r' tb' j' z h i pj pc =
        let room : entry_length e ≤ s.journal - s.used = omega arith in
        let bytes : used_in (s.used + entry_length e) j' ≡ used_in s.used j ++ entry_bytes e m r tb = rw pj (used_more (entry_bytes e m r tb) j s.used (entry_length e) (length_entry e m r tb) i) in
        rw (places, ← de, le-ltb (s.journal - s.used) (entry_length e) room)
        (record { answer = refl; world = rw (dn, pc, bytes); unless_step = λ t. absurd (true≢false (sym z ∙ t)) })
