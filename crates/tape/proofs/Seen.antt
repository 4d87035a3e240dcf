-- What a pass says of the reel. What it meets stands there; else nothing is ahead, or a block is at fault.
use mathlib.Core.Path.{◌≡◌}
use mathlib.Core.Bool.{Bool}
use mathlib.Core.List.{List}
use Prim.Native.Nat.{ℕ, ◌≤◌}
use lib.ListN.{length}
use Rattle.lists.specs.Words.{Bytes}
use Rattle.tape.specs.Bytes.{record_bytes}
use Rattle.tape.specs.Meeting.{met_as}
use Rattle.tape.specs.Numbers.{pieces_of}
use Rattle.tape.specs.Objects.{Allowed, Object, StandsAt, blocks_in, gap, mark, record_of}
use Rattle.tape.specs.Pass.{ahead, bad_at, beyond, lowest, passed}
use Rattle.tape.specs.declared.Met.{Met}
use Rattle.tape.specs.declared.Met.TheVariants as met
use Rattle.tape.proofs.Gathering.{gap_stands, mark_stands, pieces_allowed, pieces_length, pieces_stand}
use Rattle.tape.proofs.Outcomes.{Outcome, at_end, at_fault, outcome, over_gap, over_mark, over_record}
use Rattle.std.specs.Prelude.{Result, Ok}
use Rattle.tape.specs.declared.Damage.{Damage}

pub data Seen (s : List ℕ) (reverse : Bool) (q e : ℕ) (m : Result Met Damage) : Type 0 where
  ended : ahead reverse q e ≡ 0 → m ≡ Ok met.Nothing → Seen s reverse q e m
  found : (o : Object) → Allowed o → StandsAt s (lowest reverse q (blocks_in o)) o → blocks_in o ≤ ahead reverse q e → m ≡ met_as o (beyond reverse q (blocks_in o)) → Seen s reverse q e m
  faulty : (k : ℕ) → m ≡ bad_at s k → Seen s reverse q e m

module _ (s : List ℕ) (reverse : Bool) (q e : ℕ) where
  record_found : (n : ℕ) (x : Result Met Damage) (d : List ℕ) → length d ≡ n → pieces_of n ≤ ahead reverse q e → Allowed (record_of d) → StandsAt s (lowest reverse q (pieces_of n)) (record_of d) → x ≡ Ok (met.Record n (beyond reverse q (pieces_of n))) → Seen s reverse q e x
  unfolding blocks_in met_as
  record_found n x d z fits a h y = found (record_of d) a (rw z (rw z at h)) (rw z fits) (rw z y)

  by_outcome : (m : Result Met Damage) → Bytes s → Outcome s reverse q e m → Seen s reverse q e m
  unfolding met_as blocks_in
  by_outcome m bytes (at_end z y) = ended z y
  by_outcome m bytes (over_record n one most fits all y) =
      let p : ℕ = lowest reverse q (pieces_of n) in
      record_found n m (record_bytes s p n) (pieces_length s p n bytes one all) fits (pieces_allowed s p n bytes one all) (pieces_stand s p n bytes one all) y
  by_outcome m bytes (over_mark h c y) = found mark tt (mark_stands s (lowest reverse q 1) bytes c) h y
  by_outcome m bytes (over_gap h c y) = found gap tt (gap_stands s (lowest reverse q 1) bytes c) h y
  by_outcome m bytes (at_fault k y) = faulty k y

  pub seen : Bytes s → Seen s reverse q e (passed s reverse q e)
  seen bytes = by_outcome (passed s reverse q e) bytes (outcome s reverse q e)
