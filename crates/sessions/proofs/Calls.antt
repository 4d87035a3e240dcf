-- The calls' machine is lawful, and what holds of any session of them from a mounted reel on.
use mathlib.Core.Path.{◌≡◌, refl, sym, ap, ◌∙◌}
use mathlib.Core.Bool.{false}
use mathlib.Core.List.{List, [], ◌∷◌, map}
use Prim.Native.Nat.{ℕ, zero, suc, ◌≤◌}
use native.Mathlib.Omega.{arith}
use lib.ListN.{length, length-map}
use Rattle.std.specs.Prelude.{Ok}
use Rattle.state.specs.declared.refusal.Refusal.TheVariants as refusal
use Rattle.commands.specs.declared.plans.Done.TheVariants as answer
use Rattle.unit.specs.Cores.{Core}
use Rattle.worlds.specs.Worlds.{answered}
use Rattle.worlds.specs.Calls.{back_on, guarded, noted, refused_as}
use Rattle.sessions.specs.Session.{Clean, Done, Kind, Lawful, Ran, after, and_did, and_not, and_saw, and_undid, back, back_from, backs, before, does, entry_of, looked, one_did, one_saw, refused, start, stepped, stood, strike}
use Rattle.sessions.specs.Calling.{Call, Here, Noted, back_calls, brought_back, calls, doing, entry_at, journal_of, kind_now, ledger_of, length_of, noted_at, on_call, step_to, world_from}
use Rattle.sessions.specs.Good.{Fresh, Good}
use Rattle.sessions.proofs.Striking.{fit_clean, fit_ran, goes_back, strike_clean, struck}
use Rattle.sessions.proofs.Stood.{stands_as, went_to}
use Rattle.worlds.proofs.Undoing.{core_undone}
use Rattle.sessions.proofs.Taken.{doing_indexed, doing_keeps, doing_sound, stays, step_fit, step_undone, took}

-- a noted entry is the ledger's newest
ledger_noted : (n : ℕ) (c : Call) (d : Core) (ks : List Noted) → noted (ledger_of n ks) (entry_at 0 c d) d ≡ ledger_of n (noted_at c d ∷ ks)
unfolding noted journal_of length_of noted_at
ledger_noted n c d ks = refl

module _ (n : ℕ) where
  -- the journal is the entries of the steps that stand: the world after a step is that of the moment after it
  pub stepped_world : (c : Call) (s : Here) → kind_now n c s ≡ stepped → (on_call n c (world_from n s)).world ≡ world_from n (step_to c s)
  stepped_world c s k = (took n c (world_from n s) k).is ∙ rw (ledger_noted n c s.core s.entries)

  pub kept_good : (c : Call) (s : Here) → Good n s → kind_now n c s ≡ stepped → Good n (step_to c s)
  kept_good c s f k =
      record {
        fit = rw (← stepped_world c s k) (step_fit n (world_from n s) f.fit c k);
        formed = doing_keeps n (world_from n s) f.fit c k f.formed;
        indexed = doing_indexed n (world_from n s) f.fit c k f.formed f.indexed;
      }

  -- a step is undone by its entry
  pub went : (c : Call) (s : Here) → Good n s → kind_now n c s ≡ stepped → brought_back (noted_at c s.core) (doing c s.core).after ≡ s.core
  unfolding noted_at
  went c s f k = core_undone 0 s.core (doing c s.core) (doing_sound n (world_from n s) f.fit c k)

  -- so a session of the calls has the laws of any session
  abbrev pub lawful : Lawful (calls n)
  lawful = record { Fit = Good n; keeps = kept_good; undoes = went }

  -- the call itself, step back: nothing but the bytes of the journal tells it what to do, and it leads where the model leads
  back_stepped : (c : Call) (s : Here) → Good n s → kind_now n c s ≡ stepped → back_on (world_from n (step_to c s)) n ≡ answered (Ok (answer.Step false)) (world_from n s)
  back_stepped c s f k = rw (← stepped_world c s k) (step_undone n (world_from n s) f.fit c k)

  clean_back : {s₀ s : Here} {l : List (Done (calls n))} {e : Noted} {es : List Noted} → Fresh n s₀ → Clean (calls n) l → Ran (calls n) s₀ l s → s.entries ≡ e ∷ es → back_on (world_from n s) n ≡ answered (Ok (answer.Step false)) (world_from n (back (calls n) s))
  clean_back f k start q = absurd (let z : ◌≡◌ {A = ℕ} 0 1 = cc f.none in omega arith)
  clean_back f (one_did k) (and_did {k = c} {s = s} r kd an st) q =
      let good = fit_clean (calls n) lawful f.good k r in
      let was : back (calls n) (step_to c s) ≡ s = λ i. record { core = went c s good kd i; entries = s.entries } in
      rw st (back_stepped c s good kd ∙ ap (λ (x : Here). answered (Ok (answer.Step false)) (world_from n x)) (sym was))
  clean_back f (one_saw k) (and_saw r kd an) q = clean_back f k r q
  clean_back f k (and_not _ _ _) q = elim k [ ]
  clean_back f k (and_undid _ _ _) q = elim k [ ]

  -- Any session from its beginning on.
  module _ {s₀ s : Here} {l : List (Done (calls n))} (f : Fresh n s₀) (r : Ran (calls n) s₀ l s) where
    -- no check refuses; "the reel is well formed, the position is 0 or just after an object"; the table is "the table worked out afresh from the reel"
    pub always_good : Good n s
    always_good = fit_ran (calls n) lawful f.good f.none r

    -- what was undone never was
    pub never_was : Ran (calls n) s₀ (strike (calls n) l) s
    never_was = struck (calls n) lawful f.good f.none r

    -- the call leads where the model leads: with an entry it is done, without one it is refused with 6
    pub back_does : {e : Noted} {es : List Noted} → s.entries ≡ e ∷ es → back_on (world_from n s) n ≡ answered (Ok (answer.Step false)) (world_from n (back (calls n) s))
    back_does q = clean_back f (strike_clean (calls n) l) never_was q

    pub back_none : s.entries ≡ [] → back_on (world_from n s) n ≡ refused_as refusal.Empty (world_from n s)
    unfolding back_on guarded length_of
    back_none e = rw (always_good.fit.sound, ap length_of e)

  -- as many calls of step back as the model's
  back_calls_by : (k : ℕ) (es : List Noted) {s₀ s : Here} {l : List (Done (calls n))} → Fresh n s₀ → Ran (calls n) s₀ l s → s.entries ≡ es → k ≤ length es → back_calls n k (world_from n s) ≡ world_from n (backs (calls n) k s)
  unfolding back_calls
  back_calls_by zero es f r q h = refl
  back_calls_by (suc k) [] f r q h = absurd (omega arith)
  back_calls_by (suc k) (e ∷ es) {s = s} f r q h =
      rw (back_does f r q)
      (back_calls_by k es f (goes_back (calls n) q r) (ap (λ x. (back_from (calls n) x s.core).entries) q) (omega arith))

  module _ {s₀ s : Here} {l : List (Done (calls n))} (f : Fresh n s₀) (r : Ran (calls n) s₀ l s) where
    -- "the journal holds one entry per step taken and still standing": its entries are those of the steps that stand, each that step's own
    pub entry_each : s.entries ≡ map (entry_of (calls n)) (stood (calls n) r)
    entry_each = stands_as (calls n) f.none r

    -- "going back k gives the state, memory and reel that stood before the earliest of those k", and the table: by k calls of step back, and no others
    pub back_stood : (k : ℕ) → k ≤ length (stood (calls n) r) → back_calls n k (world_from n s) ≡ world_from n (before (calls n) r k)
    back_stood k h =
        let many : length s.entries ≡ length (stood (calls n) r) = ap length entry_each ∙ length-map (stood (calls n) r) (entry_of (calls n)) in
        back_calls_by k s.entries f r refl (omega arith)
        ∙ ap (world_from n) (went_to (calls n) lawful f.good f.none r k h)

  -- what the model does is what the call does
  does_by : (c : Call) (s : Here) (k : Kind) → kind_now n c s ≡ k → world_from n (after (calls n) k c s) ≡ (on_call n c (world_from n s)).world
  does_by c s stepped e = sym (stepped_world c s e)
  does_by c s refused e = sym (stays n c (world_from n s) (λ z. let y : refused ≡ stepped = sym e ∙ z in absurd (let x : ◌≡◌ {A = ℕ} 0 1 = cc in omega arith)))
  does_by c s looked e = sym (stays n c (world_from n s) (λ z. let y : looked ≡ stepped = sym e ∙ z in absurd (let x : ◌≡◌ {A = ℕ} 0 1 = cc in omega arith)))

  pub does_that : (c : Call) (s : Here) → world_from n (does (calls n) c s) ≡ (on_call n c (world_from n s)).world
  does_that c s = does_by c s (kind_now n c s) refl
