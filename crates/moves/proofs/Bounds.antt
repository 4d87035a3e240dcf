-- Bounds between objects and the stretches from one to another: a position cuts the objects in one way, so that stretches join.
use mathlib.Core.Bool.{Bool, true, false}
use mathlib.Core.List.{List, [], ◌∷◌, ◌++◌, append_assoc, append-nil}
use mathlib.Core.Path.{◌≡◌, refl, sym, ap, ◌∙◌}
use Prim.Native.Nat.{ℕ, ◌≤◌}
use native.Mathlib.Omega.{arith}
use Rattle.lists.specs.Pick.{pick}
use Rattle.tape.specs.Objects.{AllAllowed, Holds, Object, blocks_in, blocks_of}
use Rattle.tape.proofs.Images.{allowed_rest, blocks_append, one_or_more}
use Rattle.tape.proofs.Passes.{allowed_at}
use Rattle.moves.specs.Between.{Between, Bound}

-- each object takes a block or more, so that no two cuts are at one position
cut_one : (xs ys xs' ys' : List Object) → AllAllowed (xs ++ ys) → xs ++ ys ≡ xs' ++ ys' → blocks_of xs ≡ blocks_of xs' → (xs ≡ xs') × (ys ≡ ys')
unfolding blocks_of
cut_one [] ys [] ys' h e n = (refl, e)
cut_one [] ys (o ∷ xs') ys' h e n = absurd (omega (arith, one_or_more o (allowed_at [] o (xs' ++ ys') (rw e at h))))
cut_one (o ∷ xs) ys [] ys' h e n = absurd (omega (arith, one_or_more o (allowed_at [] o (xs ++ ys) h)))
cut_one (o ∷ xs) ys (o' ∷ xs') ys' h e n =
    let head : o ≡ o' = cc in
    let tail : xs ++ ys ≡ xs' ++ ys' = cc in
    let rest = cut_one xs ys xs' ys' (allowed_rest (o ∷ []) (xs ++ ys) h) tail (omega (arith, ap blocks_in head)) in
    (cc (head, rest.0), rest.1)

pub one_cut : {os : List Object} (xs ys xs' ys' : List Object) → AllAllowed os → os ≡ xs ++ ys → os ≡ xs' ++ ys' → blocks_of xs ≡ blocks_of xs' → (xs ≡ xs') × (ys ≡ ys')
one_cut xs ys xs' ys' h e e' n = cut_one xs ys xs' ys' (rw e at h) (sym e ∙ e') n

module _ {os : List Object} where
  -- a stretch is passed one way xs the other
  pub back_again : {p q : ℕ} {mid : List Object} → Between os true p q mid → Between os false q p mid
  back_again b = record { before = b.before; after = b.after; whole = b.whole; from = b.to; to = b.from }

  pub backward : {p q : ℕ} {mid : List Object} → Between os false p q mid → Between os true q p mid
  backward b = record { before = b.before; after = b.after; whole = b.whole; from = b.to; to = b.from }

  forward_joins : {p q t : ℕ} {xs ys : List Object} → AllAllowed os → Between os false p q xs → Between os false q t ys → Between os false p t (xs ++ ys)
  forward_joins {xs = xs} {ys = ys} h a b =
      let same = one_cut (a.before ++ xs) a.after b.before (ys ++ b.after) h (cc (a.whole, append_assoc a.before xs a.after)) b.whole (sym a.to ∙ b.from) in
      record {
        before = a.before;
        after = b.after;
        whole = cc (a.whole, same.1, append_assoc xs ys b.after);
        from = a.from;
        to = cc (b.to, same.0, append_assoc a.before xs ys);
      }

  pub joins : (reverse : Bool) {p q t : ℕ} {xs ys : List Object} → AllAllowed os → Between os reverse p q xs → Between os reverse q t ys → Between os reverse p t (pick reverse (ys ++ xs) (xs ++ ys))
  joins true h a b = backward (forward_joins h (back_again b) (back_again a))
  joins false h a b = forward_joins h a b

  -- a stretch is bounded on both sides
  forward_from : {p q : ℕ} {mid : List Object} → Between os false p q mid → Bound os p
  forward_from {mid = mid} b = record { before = b.before; after = mid ++ b.after; whole = b.whole; place = sym b.from }

  forward_to : {p q : ℕ} {mid : List Object} → Between os false p q mid → Bound os q
  forward_to {mid = mid} b = record { before = b.before ++ mid; after = b.after; whole = rw append_assoc b.whole; place = sym b.to }

  pub bound_to : (reverse : Bool) {p q : ℕ} {mid : List Object} → Between os reverse p q mid → Bound os q
  bound_to true b = forward_from (back_again b)
  bound_to false b = forward_to b

  -- nothing lies between a bound and itself
  forward_stays : {p : ℕ} → Bound os p → Between os false p p []
  forward_stays b = record { before = b.before; after = b.after; whole = b.whole; from = sym b.place; to = rw append-nil (sym b.place) }

  pub stays : (reverse : Bool) {p : ℕ} → Bound os p → Between os reverse p p []
  stays true b = backward (forward_stays b)
  stays false b = forward_stays b

  pub bound_below : {s : List ℕ} {e p : ℕ} → Holds s e os → Bound os p → p ≤ e
  bound_below h b = omega (arith, blocks_append b.before b.after, ap blocks_of b.whole, b.place, h.ends)
