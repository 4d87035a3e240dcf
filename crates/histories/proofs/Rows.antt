-- The checks of a step back, over the whole row: where every transport that is mounted is good, none of 1 to 4 refuses.
use mathlib.Core.Path.{◌≡◌, sym, ap, subst, ◌∙◌}
use mathlib.Core.Bool.{true, false}
use mathlib.Core.List.{List, [], ◌∷◌}
use Prim.Native.Nat.{ℕ, zero, suc, ◌<◌}
use native.Mathlib.Nat.{min-le_left, min-le_right}
use native.Mathlib.Omega.{arith}
use borrow.Author.Tests.{lt-leb}
use lib.ListN.{get_or-map, get_or, length, length-map, length-take, take}
use lib.Seq.{get_or-take}
use Rattle.std.specs.Prelude.{Ok}
use Rattle.entries.specs.Entries.{transports}
use Rattle.worlds.specs.Rows.{absent_in, is_mounted, no_seat, row_checked, standing_in}
use Rattle.worlds.specs.Coupled.{Rig, core_of, coupler_in, deck_at, is_absent, no_deck, seat_of, seats_of}
use Rattle.worlds.specs.declared.Seat.{Seat}
use Rattle.worlds.proofs.Coupling.{all_passed, coupler_passed, is_standing}
use Rattle.histories.specs.Calling.{Here, coupled_from}
use Rattle.histories.specs.Good.{Every, EveryMounted, Good, GoodDeck}
use Rattle.histories.proofs.Taking.{present_is}

-- one that is in the row, and one of four, is present
pub is_present : (n k : ℕ) → k < n → k < transports → absent_in n k ≡ false
unfolding absent_in
is_present n k h f = rw (lt-leb n k h, lt-leb transports k f)

in_take : {A : Type 0} (j k : ℕ) (l : List A) → k < j → k < length l → k < length (take j l)
in_take zero k l h m = absurd (omega arith)
in_take (suc j) k [] h m = absurd (omega arith)
in_take (suc j) zero (x ∷ l) h m = omega arith
in_take (suc j) (suc k) (x ∷ l) h m = let p = in_take j k l (omega arith) (omega arith) in omega (arith, p)

-- the seats of a row are its first four decks
module _ (g : Rig) where
  pub seats_long : (k : ℕ) → k < length (seats_of g) → (k < length g.decks) × (k < transports)
  seats_long k h =
      let long = length-map (take transports g.decks) seat_of ∙ length-take transports g.decks in
      (omega (arith, long, min-le_right transports (length g.decks)), omega (arith, long, min-le_left transports (length g.decks)))

  in_seats : (k : ℕ) → k < length g.decks → k < transports → k < length (seats_of g)
  in_seats k h f = omega (arith, length-map (take transports g.decks) seat_of, in_take transports k g.decks f h)

  pub seat_is : (k : ℕ) → k < transports → get_or (seats_of g) k no_seat ≡ seat_of (deck_at g k)
  seat_is k h = get_or-map seat_of (take transports g.decks) k no_deck ∙ ap seat_of (get_or-take transports g.decks k no_deck h)

-- "every unit in the row by then mounted": each that is present is good
pub every_good : (n : ℕ) (ks : List ℕ) (s : Here) → Good n ks s → Every ks s → (k : ℕ) → is_absent (coupled_from n s) k ≡ false → GoodDeck n (coupled_from n s) k
every_good n ks s f every k h = f.decks k (every k h) h

pub row_right : (n : ℕ) (ks : List ℕ) (s : Here) → Good n ks s → EveryMounted ks s → row_checked (coupler_in (coupled_from n s)) (seats_of s.core) (length s.core.memory) n ≡ Ok tt
unfolding core_of
row_right n ks s f every =
    all_passed (coupler_in (coupled_from n s)) (seats_of s.core) (length s.core.memory) n
    (coupler_passed (coupler_in (coupled_from n s)) (length s.core.memory) n f.shared)
    (λ k b m.
    let i = seats_long s.core k b in
    let is = seat_is s.core k i.1 in
    let here = is_present (length s.core.decks) k i.0 i.1 in
    let on : is_mounted (deck_at s.core k).transport ≡ true = subst (λ (x : Seat). is_mounted x.transport ≡ true) is m in
    rw is (f.decks k (every k here on) here).fit.sound)

-- one that is present and mounted stands in the row
pub stands_by : (g : Rig) (k : ℕ) → absent_in (length g.decks) k ≡ false → is_mounted (deck_at g k).transport ≡ true → standing_in (seats_of g) k ≡ true
stands_by g k h m =
    let i = present_is (length g.decks) k h in
    is_standing (seats_of g) k (in_seats g k i.0 i.1) i.1
    (subst (λ (x : Seat). is_mounted x.transport ≡ true) (sym (seat_is g k i.1)) m)
