-- A sweep finds nothing at fault exactly on a well formed reel.
use mathlib.Core.Path.{◌≡◌, refl, sym, ◌∙◌}
use mathlib.Core.Bool.{false}
use mathlib.Core.List.{List, [], ◌∷◌, ◌++◌, append-nil, append_assoc}
use Prim.Native.Nat.{ℕ, zero, suc, ◌+◌, ◌-◌, ◌≤◌, ◌<◌}
use native.Mathlib.Omega.{arith}
use Rattle.lists.specs.Words.{Bytes}
use Rattle.tape.specs.Meeting.{met_as}
use Rattle.tape.specs.Objects.{AllAllowedUnder, AllowedUnder, Holds, Object, WellFormed, also, blocks_in, blocks_of, gap, images_of, mark, none, record_of}
use Rattle.tape.specs.Numbers.{record_limit}
use Rattle.tape.specs.Pass.{met_by_under, passed}
use Rattle.tape.specs.Reading.{class_at_under}
use Rattle.tape.specs.Sweep.{swept_below, swept_below_under, swept_from, swept_from_under, swept_on}
use Rattle.tape.specs.declared.Block.TheVariants as block
use Rattle.tape.specs.declared.BlockFault.TheVariants as fault
use Rattle.tape.specs.declared.Met.{Met}
use Rattle.tape.specs.Sweep.{Swept}
use Rattle.tape.proofs.Accepted.{clash}
use Rattle.tape.proofs.Images.{blocks_append, one_or_more}
use Rattle.tape.proofs.Limits.{allowed_fits, long_at_lem, passed_under_lem}
use Rattle.tape.proofs.Passes.{allowed_at, forward_ends, pass_forward, passed_by}
use Rattle.tape.proofs.Seen.{Seen, ended, faulty, found, seen}
use Rattle.tape.proofs.Standing.{stands_below, stands_in}
use Rattle.tape.proofs.Written.{holds_more}
use Rattle.std.specs.Prelude.{Result, Ok, Err}
use Rattle.tape.specs.declared.Damage.{Damage}
use Rattle.tape.specs.Damage.{damage}

-- an object met sends the sweep on beyond it
on_beyond : (o : Object) (q : ℕ) (onward : ℕ → Swept) → swept_on (met_as o q) onward ≡ onward q
unfolding swept_on met_as
on_beyond (record_of d) q onward = refl
on_beyond mark q onward = refl
on_beyond gap q onward = refl

-- under any record limit
module _ (limit : ℕ) (s : List ℕ) (e : ℕ) where
  -- a turn passes one object that the limit allows, whatever lies behind block p
  turns_on : (turns p : ℕ) (before : List Object) (o : Object) (after : List Object) → Holds s p (before ++ o ∷ after) → p ≤ e → AllowedUnder limit o
      → swept_from_under limit (suc turns) s (blocks_of before) e ≡ swept_from_under limit turns s (blocks_of (before ++ o ∷ [])) e
  unfolding swept_from_under blocks_of
  turns_on turns p before o after h below a =
      let next : blocks_of (before ++ o ∷ []) ≡ blocks_of before + blocks_in o = omega (arith, blocks_append before (o ∷ [])) in
      let m : passed s false (blocks_of before) e ≡ met_as o (blocks_of before + blocks_in o) =
      pass_forward s (blocks_of before) e o (allowed_at before o after h.allowed) (stands_in before o after h) (omega (arith, stands_below before o after h)) in
      rw (passed_under_lem limit s false (blocks_of before) e (rw m (allowed_fits limit o _ a)), m, on_beyond, next)

  -- complete: there are turns for all that are left
  sweeps : (turns : ℕ) (before after : List Object) → Holds s e (before ++ after) → AllAllowedUnder limit after → blocks_of after ≤ turns → swept_from_under limit turns s (blocks_of before) e ≡ Ok tt
  unfolding swept_from_under blocks_of swept_on
  sweeps zero before after h all k = refl
  sweeps (suc turns) before [] h all k =
      let end : blocks_of before ≡ e = rw append-nil at h.ends in
      rw (end, passed_under_lem limit s false e e (rw (forward_ends s e) tt), forward_ends s e)
  sweeps (suc turns) before (o ∷ after) h (also a all) k =
      turns_on turns e before o after h (omega arith) a
      ∙ sweeps turns (before ++ o ∷ []) after (rw append_assoc h) all (omega (arith, one_or_more o (allowed_at before o after h.allowed)))

  -- a reel whose records are no longer than the limit is whole
  pub swept_under : {os : List Object} → Holds s e os → AllAllowedUnder limit os → swept_below_under limit s e ≡ Ok tt
  unfolding swept_below_under blocks_of
  swept_under {os} h all = sweeps e [] os h all (omega (arith, h.ends))

  -- at a piece of a record that is longer the sweep ends, whatever stands behind it: that block is named, and its length
  module _ (p n i other : ℕ) (piece : class_at_under other s p ≡ Ok (block.Piece n i)) (longer : limit < n) (below : p < e) where
    sweeps_to : (turns : ℕ) (before some : List Object) → Holds s p (before ++ some) → AllAllowedUnder limit some → blocks_of some + 1 ≤ turns
        → swept_from_under limit turns s (blocks_of before) e ≡ Err (damage fault.Length p)
    unfolding swept_from_under blocks_of swept_on met_by_under
    sweeps_to zero before some h all k = absurd (omega arith)
    sweeps_to (suc turns) before [] h all k =
        let here : blocks_of before ≡ p = rw append-nil at h.ends in
        rw (here, passed_by limit s false p e (Err fault.Length) (omega arith) (long_at_lem limit other s p piece longer))
    sweeps_to (suc turns) before (o ∷ some) h (also a all) k =
        turns_on turns p before o some h (omega arith) a
        ∙ sweeps_to turns (before ++ o ∷ []) some (rw append_assoc h) all (omega (arith, one_or_more o (allowed_at before o some h.allowed)))

    pub swept_over : {before : List Object} → Holds s p before → AllAllowedUnder limit before → swept_below_under limit s e ≡ Err (damage fault.Length p)
    unfolding swept_below_under blocks_of
    swept_over {before} h all = sweeps_to e [] before h all (omega (arith, h.ends))

module _ (s : List ℕ) (e : ℕ) where
  pub swept_whole : {os : List Object} → Holds s e os → swept_below s e ≡ Ok tt
  swept_whole h = swept_under record_limit s e h h.allowed

  at_end : (p : ℕ) (os : List Object) → Holds s p os → p ≤ e → e ≤ p → WellFormed s e
  at_end p os h k l =
      let end : p ≡ e = omega arith in
      (os, rw end at h)

  -- sound: what was passed so far is a list of objects
  module _ (bytes : Bytes s) where
    finds : (p : ℕ) (os : List Object) (m : Result Met Damage) (onward : ℕ → Swept) → Holds s p os → p ≤ e → Seen s false p e m → swept_on m onward ≡ Ok tt
        → ((o : Object) → Holds s (p + blocks_in o) (os ++ o ∷ []) → p + blocks_in o ≤ e → p < p + blocks_in o → onward (p + blocks_in o) ≡ Ok tt → WellFormed s e) → WellFormed s e
    unfolding swept_on
    finds p os m onward h k (ended z y) w on = at_end p os h k (omega arith)
    finds p os m onward h k (found o a st fits y) w on = on o (holds_more o h a st) (omega arith) (omega (arith, one_or_more o a)) (sym (on_beyond o (p + blocks_in o) onward) ∙ rw y at w)
    finds p os m onward h k (faulty b y) w on = absurd (clash (cc))

    whole_from : (turns p : ℕ) (os : List Object) → Holds s p os → p ≤ e → e - p ≤ turns → swept_from turns s p e ≡ Ok tt → WellFormed s e
    unfolding swept_from_under
    whole_from zero p os h k l w = at_end p os h k (omega arith)
    whole_from (suc turns) p os h k l w =
        finds p os (passed s false p e) (λ q. swept_from turns s q e) h k (seen s false p e bytes) w (λ o h' k' more w'. whole_from turns (p + blocks_in o) (os ++ o ∷ []) h' k' (omega arith) w')

    pub whole_swept : swept_below s e ≡ Ok tt → WellFormed s e
    unfolding swept_below_under blocks_of images_of
    whole_swept w = whole_from e 0 [] (record { allowed = none; ends = refl; image = refl }) (omega arith) (omega arith) w
