-- What a search finds on a well formed reel: the next record or mark, with nothing but gaps before it, or nothing; never a fault.
use mathlib.Core.Bool.{Bool, true, false}
use mathlib.Core.List.{List, [], ◌∷◌, ◌++◌}
use mathlib.Core.Path.{◌≡◌, refl, ◌∙◌}
use Prim.Native.Nat.{ℕ, zero, suc, ◌≤◌}
use native.Mathlib.Omega.{arith}
use Rattle.lists.specs.Pick.{pick}
use Rattle.tape.specs.Meeting.{met_as}
use Rattle.tape.specs.Objects.{AllAllowed, Holds, Object, gap, mark, record_of}
use Rattle.tape.specs.Pass.{ahead, passed}
use Rattle.tape.specs.declared.Met.{Met}
use Rattle.tape.proofs.Within.{fewer_ahead, gap_within}
use Rattle.moves.specs.Between.{Between, Bound, Gaps, no_gap, one_gap, with_gaps}
use Rattle.moves.specs.Seeking.{sought, sought_under, sought_from, sought_from_under, sought_on}
use Rattle.moves.specs.declared.seeking.Sought.{Sought}
pub use Rattle.moves.specs.Finding.{Finds, finds_mark, finds_nothing, finds_record}
use Rattle.moves.proofs.Bounds.{bound_below, bound_to, joins, stays}
use Rattle.moves.proofs.Steps.{Stepped, at_last, past, steps}
use Rattle.std.specs.Prelude.{Result}
use Rattle.tape.specs.declared.Damage.{Damage}

-- no block is ahead only at the end of the way
nothing_ahead : (reverse : Bool) (p e : ℕ) → p ≤ e → ahead reverse p e ≤ 0 → p ≡ pick reverse 0 e
nothing_ahead true p e h a = omega arith
nothing_ahead false p e h a = omega arith

pub ahead_most : (reverse : Bool) (p e : ℕ) → p ≤ e → ahead reverse p e ≤ e
ahead_most true p e h = h
ahead_most false p e h = omega arith

more_gaps : {gaps : List Object} → Gaps gaps → Gaps (gaps ++ gap ∷ [])
more_gaps no_gap = one_gap no_gap
more_gaps (one_gap g) = one_gap (more_gaps g)

module _ {os : List Object} where
  alone : (reverse : Bool) {p q : ℕ} {o : Object} → Between os reverse p q (o ∷ []) → Between os reverse p q (with_gaps reverse [] o)
  alone true b = b
  alone false b = b

  -- what is found behind a gap is found from before it
  after_gap : (reverse : Bool) {p q : ℕ} {f : Result Sought Damage} → AllAllowed os → Between os reverse p q (gap ∷ []) → Finds os reverse q f → Finds os reverse p f
  after_gap true h b (finds_record d g c) = finds_record d (more_gaps g) (joins true h b c)
  after_gap true h b (finds_mark g c) = finds_mark (more_gaps g) (joins true h b c)
  after_gap true h b (finds_nothing g c z) = finds_nothing (more_gaps g) (joins true h b c) z
  after_gap false h b (finds_record d g c) = finds_record d (one_gap g) (joins false h b c)
  after_gap false h b (finds_mark g c) = finds_mark (one_gap g) (joins false h b c)
  after_gap false h b (finds_nothing g c z) = finds_nothing (one_gap g) (joins false h b c) z

module _ {s : List ℕ} {e : ℕ} {os : List Object} (h : Holds s e os) where
  on_step : (reverse : Bool) (turns : ℕ) {p : ℕ} (m : Result Met Damage) → Bound os p → passed s reverse p e ≡ m → Stepped os reverse p m → ahead reverse p e ≤ suc turns
      → ((q : ℕ) → Bound os q → ahead reverse q e ≤ turns → Finds os reverse q (sought_from turns s reverse q e)) → Finds os reverse p (sought_on m p (λ q. sought_from turns s reverse q e))
  unfolding sought_on met_as
  on_step reverse turns m b k (at_last z y) a on = rw y (finds_nothing no_gap (stays reverse b) z)
  on_step reverse turns m b k (past (record_of d) q c y) a on = rw y (finds_record d no_gap (alone reverse c))
  on_step reverse turns m b k (past mark q c y) a on = rw y (finds_mark no_gap (alone reverse c))
  on_step reverse turns {p} m b k (past gap q c y) a on =
      let below : p ≤ e = bound_below h b in
      rw y (after_gap reverse h.allowed c (on q (bound_to reverse c) (omega (arith, fewer_ahead reverse p e q below (gap_within s reverse p e below (k ∙ y))))))

  -- each gap takes a block, so that there are turns for all that are ahead
  finds_from : (reverse : Bool) (turns : ℕ) (p : ℕ) → Bound os p → ahead reverse p e ≤ turns → Finds os reverse p (sought_from turns s reverse p e)
  unfolding sought_from_under
  finds_from reverse zero p b a = finds_nothing no_gap (stays reverse b) (rw h.ends (nothing_ahead reverse p e (bound_below h b) a))
  finds_from reverse (suc turns) p b a = on_step reverse turns (passed s reverse p e) b refl (steps h reverse b) a (λ q c l. finds_from reverse turns q c l)

  pub finds : (reverse : Bool) {p : ℕ} → Bound os p → Finds os reverse p (sought s reverse p e)
  unfolding sought_under
  finds reverse {p} b = finds_from reverse e p b (ahead_most reverse p e (bound_below h b))
