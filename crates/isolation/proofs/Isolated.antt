-- Units don't disturb each other: of a run, and of the same run without the other units' calls, what is seen of unit u is the same, and so is what it ends with. (02, [9])
use mathlib.Core.Path.{◌≡◌, refl, sym, ap, subst, ◌∙◌}
use mathlib.Core.Bool.{true, false}
use mathlib.Core.List.{List, [], ◌∷◌}
use Prim.Native.Nat.{ℕ}
use native.Mathlib.Omega.{arith}
use borrow.Author.Tests.{eqb-true}
use Rattle.std.specs.Prelude.{Ok, Err}
use Rattle.lists.proofs.Cases.{by_test}
use Rattle.commands.specs.Answers.{is_step}
use Rattle.commands.specs.Answers.{Answer}
use Rattle.commands.specs.declared.plans.Done.TheVariants as answer
use Rattle.unit.specs.Asks.{Ask, advance}
use Rattle.worlds.specs.Coupled.{core_of, deck_at}
use Rattle.sessions.specs.Calling.{step_kind}
use Rattle.sessions.specs.Session.{does, stepped}
use Rattle.histories.specs.Calling.{Call, Here, OfUnit, call_kind, calls, core_for, coupled_from, kind_now, on_call, read_register, step, store}
use Rattle.histories.specs.Good.{Among, Good, bytes_at}
use Rattle.isolation.specs.Reads.{SameRead}
use Rattle.isolation.specs.Runs.{IsAdvance, ReadsSame, Refusal, Undisturbed, Unrefused, is_of, one, ran, remains, seen, sight_of, without}
use Rattle.isolation.specs.Runs as runs
use Rattle.isolation.proofs.Beside.{Beside}
use Rattle.isolation.proofs.Onward.{alike, answers_alike, onward, others_onward}

-- a call of unit u is one that remains
of_remains : (u : ℕ) (c : Call) → remains u c ≡ false → is_of u c ≡ false
unfolding remains is_of
of_remains u (step k a h) r = r
of_remains u (store place bytes) r = refl
of_remains u (read_register k q) r = r

-- a step is what is answered "done"
done_step : (a : Answer) → is_step a ≡ true → step_kind a ≡ stepped
unfolding is_step step_kind
done_step (Ok (answer.Step i)) e = refl
done_step (Ok answer.Idle) e = absurd (let z : ◌≡◌ {A = ℕ} 0 1 = cc e in omega arith)
done_step (Err k) e = absurd (let z : ◌≡◌ {A = ℕ} 0 1 = cc e in omega arith)

module _ (n u : ℕ) (ks : List ℕ) (here : Among u ks) where
  -- the bytes that a call of unit u stores, if it takes a step
  unit_bytes : (a : Ask) (h : OfUnit a) (s t : Here) → Beside n u ks s t → (a ≡ advance → SameRead (core_of u s.core).unit s.core.memory t.core.memory)
      → kind_now n (step u a h) s ≡ stepped → kind_now n (step u a h) t ≡ stepped → bytes_at (step u a h) s.core ≡ bytes_at (step u a h) t.core
  unfolding bytes_at core_for
  unit_bytes a h s t b g e f = (alike n u ks here a h s t b e f g).bytes

  bytes_alike : (c : Call) (s t : Here) → is_of u c ≡ true → Beside n u ks s t → (IsAdvance u c → SameRead (core_of u s.core).unit s.core.memory t.core.memory)
      → (on_call n c (coupled_from n t)).answer ≡ (on_call n c (coupled_from n s)).answer → is_step (on_call n c (coupled_from n s)).answer ≡ true → bytes_at c s.core ≡ bytes_at c t.core
  unfolding is_of bytes_at call_kind
  bytes_alike (step k a h) s t o b g same d =
      let q : k ≡ u = eqb-true k u o in
      let e : kind_now n (step k a h) s ≡ stepped = done_step _ d in
      let f : kind_now n (step k a h) t ≡ stepped = ap step_kind same ∙ e in
      subst (λ (i : ℕ). kind_now n (step i a h) s ≡ stepped → kind_now n (step i a h) t ≡ stepped → bytes_at (step i a h) s.core ≡ bytes_at (step i a h) t.core) (sym q)
      (λ x y. unit_bytes a h s t b (λ v. g (q, v)) x y) e f
  bytes_alike (store place bytes) s t o b g same d = absurd (let z : ◌≡◌ {A = ℕ} 0 1 = cc o in omega arith)
  bytes_alike (read_register k q) s t o b g same d = refl

  sight_alike : (c : Call) (s t : Here) → is_of u c ≡ true → remains u c ≡ true → Beside n u ks s t → (IsAdvance u c → SameRead (core_of u s.core).unit s.core.memory t.core.memory)
      → (Refusal (on_call n c (coupled_from n s)).answer → ⊥) → sight_of n c s ≡ sight_of n c t
  unfolding sight_of
  sight_alike c s t o r b g f =
      let same = answers_alike n u ks here c s t r b g f in
      by_test (is_step (on_call n c (coupled_from n s)).answer)
      (λ d. rw (same, d, bytes_alike c s t o b g same d))
      (λ d. rw (same, d))

  -- any run, from moments beside each other
  module _ where
    abbrev Ends : List Call → Here → Here → Type 0
    Ends cs s t = (deck_at (ran n cs s).core u ≡ deck_at (ran n (without u cs) t).core u) × (seen n u cs s ≡ seen n u (without u cs) t)

    ends : (cs : List Call) (s t : Here) → Beside n u ks s t → Unrefused n u cs s → ReadsSame n u cs s t → Ends cs s t
    unfolding ran without seen
    ends [] s t b f g = (b.rig.deck, refl)
    ends (c ∷ cs) s t b (one f fs) (runs.ReadsSame.one g gs) =
        by_test (remains u c)
        (λ r.
        let next = onward n u ks here c s t r b g (f r) in
        let ih = ends cs (does (calls n) c s) (does (calls n) c t) next fs (rw r at gs) in
        by_test (is_of u c)
        (λ o. rw (r, o, sight_alike c s t o r b g (f r), ih.1) (ih.0, refl))
        (λ o. rw (r, o) ih))
        (λ r.
        let ih = ends cs (does (calls n) c s) t (others_onward n u ks here c s t r b) fs (rw r at gs) in
        rw (r, of_remains u c r) ih)

  -- the theorem: from any moment of a shared history
  pub isolated : (cs : List Call) (s : Here) → Good n ks s → Unrefused n u cs s → ReadsSame n u cs s s → Undisturbed n u cs s
  isolated cs s good f g =
      let b : Beside n u ks s s = record { rig = record { deck = refl; rows = refl; mounted = refl; long = refl }; fewer = omega arith; good = good; good' = good } in
      let e = ends cs s s b f g in
      record { deck = e.0; sight = e.1 }
