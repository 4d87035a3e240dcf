-- What holds of any session over the row, from the last mount on: the laws of any session of a lawful machine; and where every transport in the row was mounted, that the
-- call step back leads where the model leads.
use mathlib.Core.Logic.{◌⊎◌, inl, inr, ⊎_elim}
use mathlib.Core.Path.{◌≡◌, refl, sym, ap, subst, ◌∙◌}
use mathlib.Core.Bool.{false}
use mathlib.Core.List.{List, [], ◌∷◌, map}
use Prim.Native.Nat.{ℕ, zero, suc, ◌≤◌}
use native.Mathlib.Omega.{arith}
use lib.ListN.{length, length-map}
use Rattle.std.specs.Prelude.{Ok, Err}
use Rattle.state.specs.declared.refusal.Refusal.TheVariants as refusal
use Rattle.state.proofs.Behind.{behind_told, by_check, never}
use Rattle.commands.specs.declared.plans.Done.TheVariants as answer
use Rattle.worlds.specs.Rows.{back_refusal, row_checked}
use Rattle.worlds.specs.Coupled.{back_checked, back_over, coupler_in, named_in, refused_with, seats_of, told, undo_named}
use Rattle.sessions.specs.Session.{Clean, Done, Ran, and_did, and_saw, back, back_from, backs, before, entry_of, one_did, one_saw, start, stood, strike, and_not, and_undid}
use Rattle.sessions.proofs.Stood.{stands_as, went_to}
use Rattle.sessions.proofs.Striking.{fit_clean, fit_ran, goes_back, strike_clean, struck}
use Rattle.histories.specs.Calling.{Here, Noted, back_calls, calls, coupled_from, length_of, step_to}
use Rattle.histories.specs.Good.{Every, EveryMounted, Fresh, Good}
use Rattle.histories.specs.History.{BackComes, stayed, went_back}
use Rattle.histories.proofs.Backs.{back_stepped, every_next, row_stays, undo_named_lem}
use Rattle.histories.proofs.Rows.{row_right}
use Rattle.histories.proofs.Blockless.{Blockless, back_blockless}
use Rattle.histories.proofs.Undone.{lawful, went}

-- every transport in the row stays among those mounted, and each that is mounted does
pub every_ran : (n : ℕ) (ks : List ℕ) {s₀ s : Here} {l : List (Done (calls n))} → Every ks s₀ → Ran (calls n) s₀ l s → Every ks s
every_ran n ks every r k h = every k (rw (row_stays n r) at h)

pub every_mounted : (ks : List ℕ) (s : Here) → Every ks s → EveryMounted ks s
every_mounted ks s every k h m = every k h

mounted_clean : (n : ℕ) (ks : List ℕ) {s₀ s : Here} {l : List (Done (calls n))} → EveryMounted ks s₀ → Clean (calls n) l → Ran (calls n) s₀ l s → EveryMounted ks s
mounted_clean n ks every k start = every
mounted_clean n ks every (one_did k) (and_did {k = c} {s = s} r kd an st) = subst (EveryMounted ks) (sym st) (every_next n ks c s kd (mounted_clean n ks every k r))
mounted_clean n ks every (one_saw k) (and_saw r kd an) = mounted_clean n ks every k r
mounted_clean n ks every k (and_not _ _ _) = elim k [ ]
mounted_clean n ks every k (and_undid _ _ _) = elim k [ ]

module _ (n : ℕ) (ks : List ℕ) where
  clean_back : {s₀ s : Here} {l : List (Done (calls n))} {e : Noted} {es : List Noted} → Fresh n ks s₀ → EveryMounted ks s₀ → Clean (calls n) l → Ran (calls n) s₀ l s → s.entries ≡ e ∷ es
      → back_over (coupled_from n s) n ≡ told (Ok (answer.Step false)) (coupled_from n (back (calls n) s))
  clean_back f every k start q = absurd (let z : ◌≡◌ {A = ℕ} 0 1 = cc f.none in omega arith)
  clean_back f every (one_did k) (and_did {k = c} {s = s} r kd an st) q =
      let good = fit_clean (calls n) (lawful n ks) f.good k r in
      let was : back (calls n) (step_to c s) ≡ s = λ i. record { core = went n c s kd i; entries = s.entries } in
      rw st (back_stepped n ks c s good (mounted_clean n ks every k r) kd ∙ ap (λ (x : Here). told (Ok (answer.Step false)) (coupled_from n x)) (sym was))
  clean_back f every (one_saw k) (and_saw r kd an) q = clean_back f every k r q
  clean_back f every k (and_not _ _ _) q = elim k [ ]
  clean_back f every k (and_undid _ _ _) q = elim k [ ]

  -- with nothing asked of the row: the call is refused, or there is an entry and it leads where the model leads
  clean_comes : {s₀ s : Here} {l : List (Done (calls n))} → Fresh n ks s₀ → Clean (calls n) l → Ran (calls n) s₀ l s → BackComes n s (undo_named (coupled_from n s) (named_in (coupled_from n s).ledger.bytes)) ⊎ ((coupled_from n s).ledger.used ≡ 0)
  unfolding length_of
  clean_comes f k start = inr (ap length_of f.none)
  clean_comes f (one_did k) (and_did {k = c} {s = s} r kd an st) =
      let good = fit_clean (calls n) (lawful n ks) f.good k r in
      let was : back (calls n) (step_to c s) ≡ s = λ i. record { core = went n c s kd i; entries = s.entries } in
      inl (rw st (went_back refl (undo_named_lem n c s good.whole kd ∙ ap (λ (x : Here). told (Ok (answer.Step false)) (coupled_from n x)) (sym was))))
  clean_comes f (one_saw k) (and_saw r kd an) = clean_comes f k r
  clean_comes f k (and_not _ _ _) = elim k [ ]
  clean_comes f k (and_undid _ _ _) = elim k [ ]

  -- any session from its beginning on, whichever transports ks were mounted
  module _ {s₀ s : Here} {l : List (Done (calls n))} (f : Fresh n ks s₀) (r : Ran (calls n) s₀ l s) where
    -- of each of them no check refuses; "the reel is well formed, the position is 0 or just after an object"; the table is "the table worked out afresh from the reel"
    pub always_good : Good n ks s
    always_good = fit_ran (calls n) (lawful n ks) f.good f.none r

    -- what was undone never was
    pub never_was : Ran (calls n) s₀ (strike (calls n) l) s
    never_was = struck (calls n) (lawful n ks) f.good f.none r

    -- "the journal holds one entry per step taken and still standing": its entries are those of the steps that stand, each that step's own
    pub entry_each : s.entries ≡ map (entry_of (calls n)) (stood (calls n) r)
    entry_each = stands_as (calls n) f.none r

    -- the call step back, whatever else stands in the row: it is refused and leaves everything, or it leads where the model leads
    none_refused : (coupled_from n s).ledger.used ≡ 0 → back_checked (coupled_from n s) n ≡ Ok tt → ⊥
    unfolding back_refusal
    none_refused e z =
        by_check (row_checked (coupler_in (coupled_from n s)) (seats_of s.core) (length s.core.memory) n)
        (λ t. let y : Err refusal.Empty ≡ Ok tt = rw (t, e) at z in never _ y)
        (λ r t. let y : Err r ≡ Ok tt = rw t at z in never _ y)

    pub back_comes : BackComes n s (back_over (coupled_from n s) n)
    unfolding back_over
    back_comes =
        behind_told (BackComes n s) (back_checked (coupled_from n s) n) (λ r. refused_with r (coupled_from n s)) (undo_named (coupled_from n s) (named_in (coupled_from n s).ledger.bytes))
        (λ r t. let none : Blockless (Err r) = subst Blockless t (back_blockless (coupler_in (coupled_from n s)) (seats_of s.core) (length s.core.memory) n (named_in (coupled_from n s).ledger.bytes)) in stayed none.0 none.1 refl)
        (λ t. ⊎_elim (λ x. x) (λ z. absurd (none_refused z t)) (clean_comes f (strike_clean (calls n) l) never_was))

    -- where every transport that is mounted is one of ks, it is done with an entry, and refused with 6 without one
    pub mounted_does : EveryMounted ks s₀ → {e : Noted} {es : List Noted} → s.entries ≡ e ∷ es → back_over (coupled_from n s) n ≡ told (Ok (answer.Step false)) (coupled_from n (back (calls n) s))
    mounted_does every q = clean_back f every (strike_clean (calls n) l) never_was q

    pub mounted_none : EveryMounted ks s₀ → s.entries ≡ [] → back_over (coupled_from n s) n ≡ refused_with refusal.Empty (coupled_from n s)
    unfolding back_over back_refusal length_of
    mounted_none every e = rw (row_right n ks s always_good (mounted_clean n ks every (strike_clean (calls n) l) never_was), ap length_of e)

    -- so "every unit in the row by then mounted"
    pub back_does : Every ks s₀ → {e : Noted} {es : List Noted} → s.entries ≡ e ∷ es → back_over (coupled_from n s) n ≡ told (Ok (answer.Step false)) (coupled_from n (back (calls n) s))
    back_does every q = mounted_does (every_mounted ks s₀ every) q

    pub back_none : Every ks s₀ → s.entries ≡ [] → back_over (coupled_from n s) n ≡ refused_with refusal.Empty (coupled_from n s)
    back_none every e = mounted_none (every_mounted ks s₀ every) e

  -- as many calls of step back as the model's
  back_calls_by : (k : ℕ) (es : List Noted) {s₀ s : Here} {l : List (Done (calls n))} → Fresh n ks s₀ → EveryMounted ks s₀ → Ran (calls n) s₀ l s → s.entries ≡ es → k ≤ length es
      → back_calls n k (coupled_from n s) ≡ coupled_from n (backs (calls n) k s)
  unfolding back_calls
  back_calls_by zero es f every r q h = refl
  back_calls_by (suc k) [] f every r q h = absurd (omega arith)
  back_calls_by (suc k) (e ∷ es) {s = s} f every r q h =
      rw (mounted_does f r every q)
      (back_calls_by k es f every (goes_back (calls n) q r) (ap (λ x. (back_from (calls n) x s.core).entries) q) (omega arith))

  -- "going back k gives the state, memory and reel that stood before the earliest of those k", and the table, of every transport: by k calls of step back, and no others
  pub mounted_stood : {s₀ s : Here} {l : List (Done (calls n))} → Fresh n ks s₀ → EveryMounted ks s₀ → (r : Ran (calls n) s₀ l s) → (k : ℕ) → k ≤ length (stood (calls n) r)
      → back_calls n k (coupled_from n s) ≡ coupled_from n (before (calls n) r k)
  mounted_stood {s = s} f every r k h =
      let many : length s.entries ≡ length (stood (calls n) r) = ap length (entry_each f r) ∙ length-map (stood (calls n) r) (entry_of (calls n)) in
      back_calls_by k s.entries f every r refl (omega arith)
      ∙ ap (coupled_from n) (went_to (calls n) (lawful n ks) f.good f.none r k h)

  pub back_stood : {s₀ s : Here} {l : List (Done (calls n))} → Fresh n ks s₀ → Every ks s₀ → (r : Ran (calls n) s₀ l s) → (k : ℕ) → k ≤ length (stood (calls n) r)
      → back_calls n k (coupled_from n s) ≡ coupled_from n (before (calls n) r k)
  back_stood {s₀} f every r k h = mounted_stood f (every_mounted ks s₀ every) r k h
