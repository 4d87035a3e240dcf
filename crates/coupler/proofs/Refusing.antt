-- The refusals of a step back over a row: a law for each answer, in number order.
use mathlib.Core.Path.{◌≡◌}
use mathlib.Core.Bool.{Bool, true, false, ◌||◌}
use mathlib.Core.List.{List}
use Prim.Native.Nat.{ℕ, ◌≤◌, ◌<◌}
use native.Mathlib.Omega.{arith}
use borrow.Author.Tests.{eq-eqb, le-ltb, lt-ltb, ne_eqb}
use lib.Dec.{eqb}
use Rattle.std.specs.Prelude.{Ok, Err}
use Rattle.state.specs.declared.refusal.Refusal.{Refusal}
use Rattle.state.specs.declared.refusal.Refusal.TheVariants as refusal
use Rattle.entries.specs.Entries.{entry_bare, transports}
use Rattle.worlds.specs.Rows.{back_refusal, row_checked, standing_in}
use Rattle.worlds.specs.declared.Coupler.{Coupler}
use Rattle.worlds.specs.declared.Seat.{Seat}
use Rattle.worlds.proofs.Coupling.{row_passed}

-- a step back whose newest entry names k
module _ (c : Coupler) (row : List Seat) (memory journal k : ℕ) where
  pub back_checked_lem : (n : Refusal) → row_checked c row memory journal ≡ Err n → Err n ≡ back_refusal c row memory journal k
  unfolding back_refusal
  back_checked_lem n e = rw e

  module _ (f : row_checked c row memory journal ≡ Ok tt) where
    pub back_empty : c.used ≡ 0 → Err refusal.Empty ≡ back_refusal c row memory journal k
    unfolding back_refusal
    back_empty u = rw (f, eq-eqb c.used 0 u)

    -- so the used journal lies in the lent one
    pub back_inside : c.used ≤ journal
    back_inside =
        let p = (row_passed c row memory journal f).shared in
        omega (arith, p.used, p.journal_is)

    module _ (u : c.used ≡ 0 → ⊥) where
      pub back_short : c.used < entry_bare → Err refusal.Entry ≡ back_refusal c row memory journal k
      unfolding back_refusal
      back_short h = rw (f, ne_eqb c.used 0 u, lt-ltb c.used entry_bare h)

      -- an entry is there, and names the transport i: none, or one whose test to stand is t
      module _ (h : entry_bare ≤ c.used) (i : ℕ) (t : Bool) (di : i ≡ k) (dt : t ≡ standing_in row i) where
        same : (eqb k transports || standing_in row k) ≡ (eqb i transports || t)
        same = rw (← di, ← dt)

        pub back_stands : (eqb i transports || t) ≡ true → Ok tt ≡ back_refusal c row memory journal k
        unfolding back_refusal
        back_stands s = rw (f, ne_eqb c.used 0 u, le-ltb c.used entry_bare h, same, s)

        pub back_lost : (eqb i transports || t) ≡ false → Err refusal.Entry ≡ back_refusal c row memory journal k
        unfolding back_refusal
        back_lost s = rw (f, ne_eqb c.used 0 u, le-ltb c.used entry_bare h, same, s)
