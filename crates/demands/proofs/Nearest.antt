-- A record with nothing but gaps between it and the position is the one that a search finds: no other object is as near.
use mathlib.Core.Bool.{Bool, true, false}
use mathlib.Core.List.{List, [], ◌∷◌, ◌++◌, append_assoc, append-nil}
use mathlib.Core.Path.{◌≡◌, refl, sym, ap, ◌∙◌}
use Prim.Native.Nat.{ℕ}
use lib.ListN.{length}
use Rattle.tape.specs.Objects.{AllAllowed, Holds, Object, blocks_of, gap, mark, record_of}
use Rattle.tape.proofs.Accepted.{clash}
use Rattle.moves.specs.Between.{Between, Bound, Gaps, no_gap, one_gap, with_gaps}
use Rattle.moves.specs.Finding.{Finds, finds_mark, finds_nothing, finds_record}
use Rattle.moves.specs.Seeking.{sought}
use Rattle.moves.specs.declared.seeking.Sought.{Sought}
use Rattle.moves.specs.declared.seeking.Sought.TheVariants as sought-as
use Rattle.moves.proofs.Bounds.{back_again, backward, bound_to, one_cut}
use Rattle.moves.proofs.Finds.{finds}
use Rattle.std.specs.Prelude.{Result, Ok}
use Rattle.tape.specs.declared.Damage.{Damage}

-- an object that is no gap is not among gaps
not_among : {gs : List Object} → Gaps gs → (xs : List Object) (o : Object) (ys : List Object) → (o ≡ gap → ⊥) → gs ≡ xs ++ (o ∷ ys) → ⊥
not_among no_gap [] o ys n e = clash (cc)
not_among no_gap (x ∷ xs) o ys n e = clash (cc)
not_among (one_gap g) [] o ys n e = n (cc)
not_among (one_gap {os = gs} g) (x ∷ xs) o ys n e =
    let tail : gs ≡ xs ++ (o ∷ ys) = cc in
    not_among g xs o ys n tail

-- so that a list has one first object behind its gaps, and one last before them
same_front : {gs gs' : List Object} → Gaps gs → Gaps gs' → (o o' : Object) (ys ys' : List Object) → (o ≡ gap → ⊥) → (o' ≡ gap → ⊥) → gs ++ (o ∷ ys) ≡ gs' ++ (o' ∷ ys') → (gs ≡ gs') × (o ≡ o')
same_front no_gap no_gap o o' ys ys' n n' e = (refl, cc)
same_front no_gap (one_gap g') o o' ys ys' n n' e = absurd (n (cc))
same_front (one_gap g) no_gap o o' ys ys' n n' e = absurd (n' (cc))
same_front (one_gap {os = gs} g) (one_gap {os = gs'} g') o o' ys ys' n n' e =
    let tail : gs ++ (o ∷ ys) ≡ gs' ++ (o' ∷ ys') = cc in
    let rest = same_front g g' o o' ys ys' n n' tail in
    (ap (λ (l : List Object). gap ∷ l) rest.0, rest.1)

same_back : (xs xs' : List Object) (o o' : Object) {gs gs' : List Object} → Gaps gs → Gaps gs' → (o ≡ gap → ⊥) → (o' ≡ gap → ⊥) → xs ++ (o ∷ gs) ≡ xs' ++ (o' ∷ gs') → (xs ≡ xs') × (o ≡ o')
same_back [] [] o o' g g' n n' e = (refl, cc)
same_back [] (x' ∷ xs') o o' {gs} {gs'} g g' n n' e =
    let tail : gs ≡ xs' ++ (o' ∷ gs') = cc in
    absurd (not_among g xs' o' gs' n' tail)
same_back (x ∷ xs) [] o o' {gs} {gs'} g g' n n' e =
    let tail : gs' ≡ xs ++ (o ∷ gs) = cc in
    absurd (not_among g' xs o gs n tail)
same_back (x ∷ xs) (x' ∷ xs') o o' {gs} {gs'} g g' n n' e =
    let tail : xs ++ (o ∷ gs) ≡ xs' ++ (o' ∷ gs') = cc in
    let rest = same_back xs xs' o o' g g' n n' tail in
    (cc rest.0, rest.1)

record_no_gap : (d : List ℕ) → record_of d ≡ gap → ⊥
record_no_gap d e = clash (cc)

module _ {os : List Object} (h : AllAllowed os) (d : List ℕ) {gaps : List Object} {p q : ℕ} (g : Gaps gaps) where
  -- in reverse: one position, one last object before the gaps
  module _ (w : Between os true p q (record_of d ∷ gaps)) where
    cut_reverse : {q' : ℕ} (mid : List Object) (w' : Between os true p q' mid) → w.before ++ (record_of d ∷ gaps) ≡ w'.before ++ mid
    cut_reverse mid w' = (one_cut (w.before ++ (record_of d ∷ gaps)) w.after (w'.before ++ mid) w'.after h (rw append_assoc w.whole) (rw append_assoc w'.whole) (sym w.from ∙ w'.from)).0

    one_reverse : {q' : ℕ} (o : Object) {gaps' : List Object} → Gaps gaps' → (o ≡ gap → ⊥) → (w' : Between os true p q' (o ∷ gaps')) → (w.before ≡ w'.before) × (record_of d ≡ o)
    one_reverse o {gaps'} g' n w' = same_back w.before w'.before (record_of d) o g g' (record_no_gap d) n (cut_reverse (o ∷ gaps') w')

    nearest_reverse : {f : Result Sought Damage} → Finds os true p f → f ≡ Ok (sought-as.Record (length d) q)
    unfolding blocks_of
    nearest_reverse (finds_record d' g' w') =
        let same = one_reverse (record_of d') g' (record_no_gap d') w' in
        let bytes : d ≡ d' = cc same.1 in
        cc (bytes, same.0, w.to, w'.to)
    nearest_reverse (finds_mark g' w') = absurd (clash (cc (one_reverse mark g' (λ e. clash (cc)) w').1))
    nearest_reverse (finds_nothing {gaps = gaps'} g' w' z) =
        let none : w'.before ≡ [] = (one_cut w'.before (gaps' ++ w'.after) [] os h w'.whole refl (sym w'.to ∙ z)).0 in
        let all : gaps' ≡ w.before ++ (record_of d ∷ gaps) = cc (cut_reverse gaps' w', none) in
        absurd (not_among g' w.before (record_of d) gaps (record_no_gap d) all)

  -- forward: one position, one first object behind the gaps
  module _ (w : Between os false p q (gaps ++ (record_of d ∷ []))) where
    cut_forward : {q' : ℕ} (mid : List Object) (w' : Between os false p q' mid) → (w.before ≡ w'.before) × (gaps ++ (record_of d ∷ w.after) ≡ mid ++ w'.after)
    cut_forward mid w' = one_cut w.before (gaps ++ (record_of d ∷ w.after)) w'.before (mid ++ w'.after) h (cc (w.whole, append_assoc gaps (record_of d ∷ []) w.after)) w'.whole (sym w.from ∙ w'.from)

    one_forward : {q' : ℕ} (o : Object) {gaps' : List Object} → Gaps gaps' → (o ≡ gap → ⊥) → (w' : Between os false p q' (gaps' ++ (o ∷ []))) → (gaps ≡ gaps') × (record_of d ≡ o)
    one_forward o {gaps'} g' n w' =
        let rest : gaps ++ (record_of d ∷ w.after) ≡ gaps' ++ (o ∷ w'.after) = (cut_forward (gaps' ++ (o ∷ [])) w').1 ∙ append_assoc gaps' (o ∷ []) w'.after in
        same_front g g' (record_of d) o w.after w'.after (record_no_gap d) n rest

    nearest_forward : {f : Result Sought Damage} → Finds os false p f → f ≡ Ok (sought-as.Record (length d) q)
    nearest_forward (finds_record d' {gaps = gaps'} g' w') =
        let same = one_forward (record_of d') g' (record_no_gap d') w' in
        let bytes : d ≡ d' = cc same.1 in
        cc (bytes, (cut_forward (gaps' ++ (record_of d' ∷ [])) w').0, same.0, w.to, w'.to)
    nearest_forward (finds_mark g' w') = absurd (clash (cc (one_forward mark g' (λ e. clash (cc)) w').1))
    nearest_forward (finds_nothing {gaps = gaps'} g' w' z) =
        let none : w'.after ≡ [] = (one_cut (w'.before ++ gaps') w'.after os [] h (rw append_assoc w'.whole) (sym (append-nil os)) (sym w'.to ∙ z)).1 in
        let all : gaps' ≡ gaps ++ (record_of d ∷ w.after) = cc ((cut_forward gaps' w').1, none, append-nil gaps') in
        absurd (not_among g' gaps (record_of d) w.after (record_no_gap d) all)

-- a stretch is bounded where it begins
pub bound_from : {os : List Object} (reverse : Bool) {p q : ℕ} {mid : List Object} → Between os reverse p q mid → Bound os p
bound_from true w = bound_to false (back_again w)
bound_from false w = bound_to true (backward w)

pub nearest : {s : List ℕ} {e : ℕ} {os : List Object} → Holds s e os → (reverse : Bool) (d : List ℕ) (gaps : List Object) {p q : ℕ} → Gaps gaps → Between os reverse p q (with_gaps reverse gaps (record_of d)) → sought s reverse p e ≡ Ok (sought-as.Record (length d) q)
nearest h true d gaps g w = nearest_reverse h.allowed d g w (finds h true (bound_from true w))
nearest h false d gaps g w = nearest_forward h.allowed d g w (finds h false (bound_from false w))
