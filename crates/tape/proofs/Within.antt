-- Where a pass leads, by its numbers alone: over blocks that lie below the end, a block or more.
use mathlib.Core.Path.{◌≡◌, refl}
use mathlib.Core.Bool.{Bool, true, false, false≢true, true≢false}
use mathlib.Core.List.{List}
use Prim.Native.Nat.{ℕ, ◌+◌, ◌-◌, ◌≤◌, ◌<◌}
use native.Mathlib.Omega.{arith}
use Rattle.lists.specs.Pick.{Always, pick}
use Rattle.tape.specs.Numbers.{pieces_of, record_limit}
use Rattle.tape.specs.Pass.{ahead, beyond, passed}
use Rattle.tape.specs.declared.Met.{Met}
use Rattle.tape.specs.declared.Met.TheVariants as met
use Rattle.tape.proofs.Outcomes.{Outcome, at_end, at_fault, outcome, over_gap, over_mark, over_record}
use Rattle.std.specs.Prelude.{Result, Ok, Err}
use Rattle.tape.specs.declared.Damage.{Damage}

-- a record of n bytes that was passed up to q: its blocks lie just before q, in reverse from q on
pub record RecordIn (reverse : Bool) (e n q : ℕ) : Type 0 where
  pub inside : pick reverse q (q - pieces_of n) + pieces_of n ≤ e
  pub some : 1 ≤ n
  pub most : n ≤ record_limit
  pub below : q ≤ e
  pub room : reverse ≡ false → pieces_of n ≤ q

-- from p to q by a block or more, and not past the end
pub record Onward (reverse : Bool) (p e q : ℕ) : Type 0 where
  pub below : q ≤ e
  pub up : reverse ≡ false → p < q
  pub down : reverse ≡ true → q < p

module _ (e : ℕ) where
  onward_by : (reverse : Bool) (p m : ℕ) → p ≤ e → 1 ≤ m → m ≤ ahead reverse p e → Onward reverse p e (beyond reverse p m)
  onward_by true p m h a f = record { below = omega arith; up = λ z. absurd (true≢false z); down = λ z. omega arith }
  onward_by false p m h a f = record { below = omega arith; up = λ z. omega arith; down = λ z. absurd (false≢true z) }

  record_in : (reverse : Bool) (p n : ℕ) → p ≤ e → 1 ≤ n → n ≤ record_limit → pieces_of n ≤ ahead reverse p e → RecordIn reverse e n (beyond reverse p (pieces_of n))
  record_in true p n h a b f = record { inside = omega arith; some = a; most = b; below = omega arith; room = λ z. absurd (true≢false z) }
  record_in false p n h a b f = record { inside = omega arith; some = a; most = b; below = omega arith; room = λ z. omega arith }

-- one after the other
pub onward_more : {reverse : Bool} {p e q t : ℕ} → Onward reverse p e q → Onward reverse q e t → Onward reverse p e t
onward_more a b = record { below = b.below; up = λ z. omega (arith, a.up z, b.up z); down = λ z. omega (arith, a.down z, b.down z) }

-- fewer blocks lie ahead then
pub fewer_ahead : (reverse : Bool) (p e q : ℕ) → p ≤ e → Onward reverse p e q → ahead reverse q e < ahead reverse p e
fewer_ahead true p e q h o = omega (arith, o.down refl)
fewer_ahead false p e q h o = omega (arith, o.up refl, o.below)

-- what is known of each answer
abbrev pub PassIn : Bool → ℕ → ℕ → Result Met Damage → Type 0
PassIn reverse p e (Ok (met.Record n q)) = RecordIn reverse e n q × Onward reverse p e q
PassIn reverse p e (Ok (met.Mark q)) = Onward reverse p e q
PassIn reverse p e (Ok (met.Gap q)) = Onward reverse p e q
PassIn reverse p e (Ok met.Nothing) = ahead reverse p e ≡ 0
PassIn reverse p e (Err d) = Always

by_outcome : (s : List ℕ) (reverse : Bool) (p e : ℕ) (m : Result Met Damage) → p ≤ e → Outcome s reverse p e m → PassIn reverse p e m
by_outcome s reverse p e m h (at_end z y) = rw y z
by_outcome s reverse p e m h (over_record n a b f all y) = rw y (record_in e reverse p n h a b f, onward_by e reverse p (pieces_of n) h (omega arith) f)
by_outcome s reverse p e m h (over_mark f c y) = rw y (onward_by e reverse p 1 h (omega arith) f)
by_outcome s reverse p e m h (over_gap f c y) = rw y (onward_by e reverse p 1 h (omega arith) f)
by_outcome s reverse p e m h (at_fault k y) = rw y tt

module _ (s : List ℕ) (reverse : Bool) (p e : ℕ) (h : p ≤ e) where
  pub pass_in : PassIn reverse p e (passed s reverse p e)
  pass_in = by_outcome s reverse p e (passed s reverse p e) h (outcome s reverse p e)

  pub pass_within : {n q : ℕ} → passed s reverse p e ≡ Ok (met.Record n q) → RecordIn reverse e n q
  pass_within y = (rw y at pass_in).0

  pub pass_onward : {n q : ℕ} → passed s reverse p e ≡ Ok (met.Record n q) → Onward reverse p e q
  pass_onward y = (rw y at pass_in).1

  pub mark_within : {q : ℕ} → passed s reverse p e ≡ Ok (met.Mark q) → Onward reverse p e q
  mark_within y = rw y at pass_in

  pub gap_within : {q : ℕ} → passed s reverse p e ≡ Ok (met.Gap q) → Onward reverse p e q
  gap_within y = rw y at pass_in
