-- The entries are those of the steps that stand, and going back k leads to the moment that stood before the earliest of those k.
use mathlib.Core.Path.{◌≡◌, refl, sym, ◌∙◌, ap, subst, subst⁻¹}
use mathlib.Core.List.{List, [], ◌∷◌, map}
use Prim.Native.Nat.{ℕ, zero, suc, ◌≤◌}
use native.Mathlib.Omega.{arith}
use lib.ListN.{drop, get_or, length, length-map}
use Rattle.sessions.specs.Session.{Done, Lawful, Machine, Now, Ran, and_did, and_not, and_saw, and_undid, back, back_from, backs, before, entry_of, start, stood}
use Rattle.sessions.proofs.Striking.{back_step, fit_ran, nil_cons}

-- of a list without its first
map_rest : {A B : Type 0} (f : A → B) (l : List A) → drop 1 (map f l) ≡ map f (drop 1 l)
map_rest f [] = refl
map_rest f (x ∷ l) = refl

module _ (M : Machine) where
  -- each of the moments ts is a step back from the one above it, down to one with no entry
  data Chain : Now M → List (Now M) → Type 0 where
    bottom : {s : Now M} → s.entries ≡ [] → Chain s []
    above : {s t : Now M} {ts : List (Now M)} → back M s ≡ t → Chain t ts → Chain s (t ∷ ts)

  -- a step back goes down by one
  down : {s s' : Now M} {e : M.E} {es : List M.E} {ts : List (Now M)} → s.entries ≡ e ∷ es → s' ≡ back_from M (e ∷ es) s.core → Chain s ts → Chain s' (drop 1 ts)
  down q st (bottom p) = absurd (nil_cons M p q)
  down {s = s} q st (above {ts = ts} b c) = subst⁻¹ (λ x. Chain x ts) (st ∙ ap (λ x. back_from M x s.core) (sym q) ∙ b) c

  -- k steps back lead to the k-th
  downs : (k : ℕ) {s : Now M} {ts : List (Now M)} (d : Now M) → Chain s ts → k ≤ length ts → backs M k s ≡ get_or (s ∷ ts) k d
  downs zero d c h = refl
  downs (suc k) d (bottom p) h = absurd (omega arith)
  downs (suc k) d (above b c) h = ap (backs M k) b ∙ downs k d c (omega arith)

  -- one entry for each step that stands, and it is that step's
  pub stands_as : {s₀ s : Now M} {l : List (Done M)} → s₀.entries ≡ [] → (r : Ran M s₀ l s) → s.entries ≡ map (entry_of M) (stood M r)
  unfolding stood
  stands_as h start = h
  stands_as h (and_did {k = c} {s = s} r kd an st) = ap (λ x. x.entries) st ∙ ap (λ (x : List M.E). M.entry c s.core ∷ x) (stands_as h r)
  stands_as h (and_saw r kd an) = stands_as h r
  stands_as h (and_not r kd an) = stands_as h r
  stands_as h (and_undid r q st) = ap (λ x. x.entries) st ∙ ap (drop 1) (sym q ∙ stands_as h r) ∙ map_rest (entry_of M) (stood M r)

  module _ (L : Lawful M) where
    chain : {s₀ s : Now M} {l : List (Done M)} → L.Fit s₀ → s₀.entries ≡ [] → (r : Ran M s₀ l s) → Chain s (map (λ x. x.was) (stood M r))
    unfolding stood
    chain f h start = bottom h
    chain f h (and_did {k = c} {s = s} r kd an st) =
        subst⁻¹ (λ x. Chain x (s ∷ map (λ y. y.was) (stood M r))) st (above (back_step M L c s (fit_ran M L f h r) kd) (chain f h r))
    chain f h (and_saw r kd an) = chain f h r
    chain f h (and_not r kd an) = chain f h r
    chain f h (and_undid {s' = s'} r q st) = subst (λ x. Chain s' x) (map_rest (λ y. y.was) (stood M r)) (down q st (chain f h r))

    -- going back k leads to the moment before the earliest of the k
    pub went_to : {s₀ s : Now M} {l : List (Done M)} → L.Fit s₀ → s₀.entries ≡ [] → (r : Ran M s₀ l s) → (k : ℕ) → k ≤ length (stood M r) → backs M k s ≡ before M r k
    went_to {s = s} f h r k z = downs k s (chain f h r) (omega (arith, length-map (stood M r) (λ x. x.was)))
