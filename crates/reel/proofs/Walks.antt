-- The walk over a record's pieces, one turn at a time: a piece that is due, one that is not, and no more of them.
use mathlib.Core.Bool.{Bool, true, false}
use mathlib.Core.List.{List}
use mathlib.Core.Path.{◌≡◌, ◌∙◌}
use Prim.Native.Nat.{ℕ, suc, ◌+◌, ◌-◌, ◌≤◌, ◌<◌}
use native.Mathlib.Numerals.{add-one}
use native.Mathlib.Omega.{arith}
use Rattle.lists.specs.Pick.{pick}
use Rattle.tape.specs.Pass.{bad_at, fault_of, is_piece, order_met, pieces_met, pieces_met_under}
use Rattle.tape.specs.Reading.{class_at}
use Rattle.tape.specs.declared.BlockFault.{BlockFault}
use Rattle.tape.specs.declared.Block.{Block}
use Rattle.tape.specs.declared.Met.{Met}
use Rattle.std.specs.Prelude.{Result, Ok, Err}
use Rattle.tape.specs.Damage.{damage}

module _ (s : List ℕ) (reverse : Bool) (n p m j : ℕ) (whole : Met) where
  pub pieces_end : m ≤ j → Ok whole ≡ pieces_met s reverse n p m j (m - j) whole
  unfolding pieces_met_under
  pieces_end h =
      let e : m - j ≡ 0 = omega arith in
      rw e

  pub pieces_step : j < m → pieces_met s reverse n p m j (m - j) whole ≡ pick (is_piece (class_at s (p + order_met reverse m j)) n (order_met reverse m j)) (pieces_met s reverse n p m (j + 1) (m - (j + 1)) whole) (bad_at s (p + order_met reverse m j))
  unfolding pieces_met_under
  pieces_step h =
      let e : m - j ≡ suc (m - (j + 1)) = omega arith in
      rw (e, add-one j)

-- the same, of what the code has in hand: the piece i that is due, and the block b that stands there
module _ (s : List ℕ) (reverse : Bool) (n p m j : ℕ) (whole : Met) {i : ℕ} {b : Result Block BlockFault} (h : j < m) (due : i ≡ order_met reverse m j) (read : b ≡ class_at s (p + i)) where
  pub pieces_pass : is_piece b n i ≡ true → pieces_met s reverse n p m j (m - j) whole ≡ pieces_met s reverse n p m (j + 1) (m - (j + 1)) whole
  pieces_pass t = pieces_step s reverse n p m j whole h ∙ rw (← due, ← read, t)

  pub pieces_stop : {f : BlockFault} → is_piece b n i ≡ false → f ≡ fault_of b → Err (damage f (p + i)) ≡ pieces_met s reverse n p m j (m - j) whole
  pieces_stop t w = rw (pieces_step s reverse n p m j whole h, ← due, ← read, t, w)
