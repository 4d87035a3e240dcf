-- What a Write or Format that is carried out leaves on a well formed reel: the objects before, and the new ones; or all as it was.
use mathlib.Core.Bool.{Bool, true, false}
use mathlib.Core.List.{List, [], ◌∷◌, ◌++◌}
use mathlib.Core.Logic.{◌⊎◌, inl, inr, ⊎_elim}
use mathlib.Core.Path.{◌≡◌, refl, ap, sym, subst, ◌∙◌}
use Prim.Native.Nat.{ℕ, ◌+◌, ◌*◌, ◌≤◌}
use native.Mathlib.Omega.{arith}
use borrow.Author.Tests.{eqb-true, ltb-false}
use lib.Dec.{eqb, ltb}
use lib.ListN.{length}
use Rattle.lists.proofs.Cases.{pick_told}
use Rattle.tape.specs.Numbers.{block_bytes}
use Rattle.tape.specs.Objects.{Holds, Object, blocks_in, gap}
use Rattle.tape.proofs.Images.{one_or_more}
use Rattle.tape.proofs.Passes.{allowed_at}
use Rattle.signals.specs.declared.packet.Header.{Header}
use Rattle.signals.specs.declared.packet.Packet.{Packet}
use Rattle.state.specs.declared.Tape.{Tape}
use Rattle.state.specs.declared.Unit.{Unit}
use Rattle.moves.specs.Between.{Between, Bound}
use Rattle.moves.specs.Seeking.{sought}
use Rattle.moves.specs.declared.seeking.Sought.{Sought}
use Rattle.moves.proofs.Bounds.{bound_below, stays}
use Rattle.moves.proofs.Finds.{Finds, finds, finds_mark, finds_nothing, finds_record}
use Rattle.motions.specs.Parts.{laid_blocks, no_lay, object_blocks}
use Rattle.motions.specs.Writes.{behind_gap, no_room, retried_under, retried_by, retried_by_under, written_at, written_at_under, written_motion, written_motion_under}
use Rattle.motions.specs.declared.parts.Laid.{Laid}
use Rattle.motions.specs.declared.parts.Ending.{Ending}
use Rattle.motions.specs.declared.parts.ObjectKind.{ObjectKind}
use Rattle.commands.specs.Commands.{laid_here, laying}
use Rattle.commands.specs.Ends.{ended, motion_plan, motion_plan_under, told_under, told_unit}
use Rattle.commands.specs.declared.plans.Plan.{Plan}
use Rattle.storing.specs.Stored.{laid_object, laid_objects, laid_on, reel_after}
use Rattle.storing.proofs.Lengths.{blocks_laid}
use Rattle.advance.specs.Steps.{advanced}
use Rattle.demands.specs.Ways.{header, packet, started}
use Rattle.kept.specs.Leaving.{Lays, WriteRuns, Wrote, again_over_mark, again_over_record, object_for, plainly}
use Rattle.kept.specs.NoRoom.{Found}
use Rattle.kept.proofs.Laying.{Here, Lay, advance_lays, again_blocks, again_plan, gap_and_object, here_blocks, here_plan}
use Rattle.kept.proofs.Overlaid.{overlaid}
use Rattle.kept.proofs.Standing.{unlaid}
use Rattle.kept.proofs.Unwritten.{Unlaid, writes_or_stays}
use Rattle.kept.proofs.Writing.{RightLength, laid_allowed}
use Rattle.std.specs.Prelude.{Result, Ok, Err}
use Rattle.tape.specs.declared.Damage.{Damage}

-- the plan q lays something behind a bound of the objects os on the reel s: where, and what the reel holds then
pub record LaysBehind (m s : List ℕ) (os : List Object) (q : Plan) : Type 0 where
  pub at : Bound os q.laid.at
  pub some : 1 ≤ length (laid_objects m q.laid)
  pub holds : Holds (reel_after q m s) q.unit.tape.end (at.before ++ laid_objects m q.laid)

-- where a stretch in reverse ends is a bound
abbrev back_at : {os over : List Object} {p q : ℕ} → Between os true p q over → Bound os q
back_at {over = over} c = record { before = c.before; after = over ++ c.after; whole = c.whole; place = sym c.to }

-- a write of the object o in this mode, from the tape t over the reel s, which holds the objects os
module _ (s m : List ℕ) (t : Tape) (os : List Object) (o : Object) (mode : ℕ) where
  -- it laid l, and the tape is t' then: what it went over is gone, and what it laid stands last, where the tape stands
  record Left (l : Laid) (t' : Tape) : Type 0 where
    over : List Object
    between : Between os true t.position l.at over
    lays : Lays o mode over (laid_objects m l)
    holds : Holds (laid_on s m l) t'.end (between.before ++ laid_objects m l)
    last : t'.position ≡ t'.end

  -- or nothing laid, and the recorded end as it was
  abbrev MotionLeaves : Result Ending Damage → Type 0
  MotionLeaves (Ok x) = Left x.laid x.tape ⊎ ((x.laid ≡ no_lay) × (x.tape.end ≡ t.end))
  MotionLeaves (Err d) = ⊥

  abbrev PlanLeaves : Plan → Type 0
  PlanLeaves q = Left q.laid q.unit.tape ⊎ Unlaid t.end q

  -- a plan leaves what its motion leaves
  plan_leaves : (u : Unit) (ie : Bool) (y : Result Ending Damage) → MotionLeaves y → PlanLeaves (motion_plan u ie y)
  unfolding motion_plan_under told_under told_unit ended
  plan_leaves u ie (Ok x) k = k
  plan_leaves u ie (Err d) k = absurd k

  module _ (blocks : ℕ) (whole : length s ≡ block_bytes * blocks) (h : Holds s t.end os) (b : Bound os t.position) (mark : Bool) where
    -- objects laid where the stretch that it goes over begins
    module _ (l : Laid) (r : RightLength l.object l.length) {over : List Object} (c : Between os true t.position l.at over) (y : Lays o mode over (laid_objects m l)) where
      laid_leaves : l.at + laid_blocks l ≤ blocks → MotionLeaves (written_motion l blocks mark)
      unfolding written_motion_under laid_on
      laid_leaves fits =
          inl
          (record {
            over = over;
            between = c;
            lays = y;
            holds = overlaid h (back_at c) (laid_objects m l) (laid_blocks l) (blocks_laid m l) (laid_allowed m l r) (omega arith);
            last = refl;
          })

      written_leaves : MotionLeaves (written_at t blocks l mark)
      unfolding written_at_under no_room
      written_leaves =
          pick_told MotionLeaves (ltb blocks (l.at + laid_blocks l)) _ _ (λ f. inr (refl, refl)) (λ f. laid_leaves (ltb-false blocks (l.at + laid_blocks l) f))

    module _ (k : ObjectKind) (pointer n : ℕ) (swb : Bool) (r : RightLength k n) (one : laid_object m (laid_here t k pointer n swb) k ≡ o ∷ []) where
      -- where the tape stands it goes over nothing
      plain_leaves : eqb mode 2 ≡ false → MotionLeaves (written_at t blocks (laid_here t k pointer n swb) mark)
      unfolding laid_objects
      plain_leaves e = written_leaves (laid_here t k pointer n swb) r (stays true b) (rw one (plainly e))

      -- a retry goes over what its search finds, and lays a gap first
      again_leaves : {over : List Object} {q : ℕ} → Between os true t.position q over → Lays o mode over (gap ∷ (o ∷ [])) → MotionLeaves (written_at t blocks (behind_gap (laid_here t k pointer n swb) q) mark)
      unfolding behind_gap
      again_leaves {over} {q} c y =
          let l = laid_here t k pointer n swb in
          written_leaves (behind_gap l q) r c (subst (λ (new : List Object). Lays o mode over new) (sym (gap_and_object m l q one)) y)

      again_by : mode ≡ 2 → {f : Result Sought Damage} → Finds os true t.position f → MotionLeaves (retried_by t blocks (laid_here t k pointer n swb) mark f)
      unfolding retried_by_under
      again_by e (finds_record d g c) = again_leaves c (again_over_record e g)
      again_by e (finds_mark g c) = again_leaves c (again_over_mark e g)
      again_by e (finds_nothing g c z) = inr (refl, refl)

      laying_leaves : MotionLeaves (laying s t blocks (laid_here t k pointer n swb) mark (eqb mode 2))
      unfolding retried_under
      laying_leaves = pick_told MotionLeaves (eqb mode 2) _ _ (λ e. again_by (eqb-true mode 2 e) (finds h true b)) plain_leaves

-- something is laid
lays_some : {o : Object} {mode : ℕ} {over new : List Object} → Lays o mode over new → 1 ≤ length new
lays_some (plainly e) = omega arith
lays_some (again_over_record e g) = omega arith
lays_some (again_over_mark e g) = omega arith

-- a plan that lays one object leaves what its motion leaves
lay_leaves : (v : Unit) (m s : List ℕ) (h : Header) (p : Packet) {q : Plan} {os : List Object} → length s ≡ block_bytes * v.lengths.blocks → Holds s v.tape.end os → Bound os v.tape.position → Lay v m s h p q → PlanLeaves s m v.tape os (object_for m h p) h.mode q
lay_leaves v m s h p {q} {os} whole f b y =
    let o = object_for m h p in
    let left = laying_leaves s m v.tape os o h.mode v.lengths.blocks whole f b y.mark y.kind y.pointer y.count y.swb y.right y.object in
    subst (PlanLeaves s m v.tape os o h.mode) (sym y.plan) (plan_leaves s m v.tape os o h.mode v h.ie _ left)

-- where there is room, it is laid
laid_there : (v : Unit) (ie : Bool) (l : Laid) (mark : Bool) {q : Plan} → q ≡ motion_plan v ie (written_at v.tape v.lengths.blocks l mark) → ltb v.lengths.blocks (l.at + laid_blocks l) ≡ false → q.laid ≡ l
unfolding motion_plan_under told_under written_at_under written_motion_under
laid_there v ie l mark e room = rw (e, room)

-- the object asked for takes a block or more
asked_some : (v : Unit) (m s : List ℕ) (h : Header) (p : Packet) {q : Plan} → Lay v m s h p q → 1 ≤ blocks_in (object_for m h p)
unfolding laid_objects
asked_some v m s h p y =
    let o = object_for m h p in
    one_or_more o (allowed_at [] o [] (rw y.object at (laid_allowed m (Here v m s h p y) y.right)))

-- of an advance on a reel that holds the objects os, the position one of their bounds
module _ (u : Unit) (m s : List ℕ) {os : List Object} (whole : length s ≡ block_bytes * u.lengths.blocks) (f : Holds s u.tape.end os) (b : Bound os u.tape.position) where
  abbrev Asked : Object
  Asked = object_for m (header u m s) (packet u m s)

  leaves : WriteRuns u m s → PlanLeaves s m u.tape os Asked (header u m s).mode (advanced u m s)
  leaves w = lay_leaves (started u m s) m s (header u m s) (packet u m s) whole f b (advance_lays u m s w)

  abbrev LeftBy : Type 0
  LeftBy = Left s m u.tape os Asked (header u m s).mode (advanced u m s).laid (advanced u m s).unit.tape

  as_wrote : LeftBy → Wrote u m s os (advanced u m s).unit (reel_after (advanced u m s) m s)
  unfolding reel_after
  as_wrote y =
      record {
        before = y.between.before;
        over = y.over;
        beyond = y.between.after;
        new = laid_objects m (advanced u m s).laid;
        whole = y.between.whole;
        stood = y.between.from;
        lays = y.lays;
        holds = y.holds;
        position = y.last ∙ sym y.holds.ends;
      }

  left_or_stays : (WriteRuns u m s × LeftBy) ⊎ Unlaid u.tape.end (advanced u m s)
  left_or_stays = ⊎_elim (λ w. ⊎_elim (λ y. inl (w, y)) inr (leaves w)) inr (writes_or_stays u m s (bound_below f b))

  wrote_or_stays : (WriteRuns u m s × Wrote u m s os (advanced u m s).unit (reel_after (advanced u m s) m s)) ⊎ Unlaid u.tape.end (advanced u m s)
  wrote_or_stays = ⊎_elim (λ y. inl (y.0, as_wrote y.1)) inr left_or_stays

  -- and an advance that lays, lays at a bound, where the tape stood or before that, and the reel then holds the objects below it and those laid
  pub lays_or_stays : LaysBehind m s os (advanced u m s) ⊎ Unlaid u.tape.end (advanced u m s)
  unfolding reel_after
  lays_or_stays =
      ⊎_elim (λ y. inl (record { at = back_at y.1.between; some = lays_some y.1.lays; holds = y.1.holds })) inr left_or_stays

  -- a Write or Format that is carried out leaves the objects before the position, a retry those before the one that it goes over, and the new
  -- ones; or the reel and its recorded end are as they were
  pub wrote_else_nothing : (WriteRuns u m s × Wrote u m s os (advanced u m s).unit (reel_after (advanced u m s) m s)) ⊎ ((reel_after (advanced u m s) m s ≡ s) × ((advanced u m s).unit.tape.end ≡ u.tape.end))
  unfolding reel_after
  wrote_else_nothing = ⊎_elim inl (λ y. inr (rw y.0 (unlaid s m), y.1)) wrote_or_stays

  -- so whatever lays anything has written
  pub advanced_wrote : (laid_blocks (advanced u m s).laid ≡ 0 → ⊥) → Wrote u m s os (advanced u m s).unit (reel_after (advanced u m s) m s)
  unfolding laid_blocks object_blocks
  advanced_wrote some = ⊎_elim (λ y. y.1) (λ y. absurd (some (rw y.0))) wrote_or_stays

-- and of a Write or Format that is carried out there
module _ (u : Unit) (m s : List ℕ) {os : List Object} (whole : length s ≡ block_bytes * u.lengths.blocks) (f : Holds s u.tape.end os) (b : Bound os u.tape.position) (w : WriteRuns u m s) where
  one_laid : Lay (started u m s) m s (header u m s) (packet u m s) (advanced u m s)
  one_laid = advance_lays u m s w

  -- what is laid at the object's place, and fits there, is laid
  fits_wrote : (l : Laid) → advanced u m s ≡ motion_plan (started u m s) (header u m s).ie (written_at u.tape u.lengths.blocks l one_laid.mark) → blocks_in (object_for m (header u m s) (packet u m s)) ≤ laid_blocks l → ltb u.lengths.blocks (l.at + laid_blocks l) ≡ false → Wrote u m s os (advanced u m s).unit (reel_after (advanced u m s) m s)
  fits_wrote l e more room =
      let some = asked_some (started u m s) m s (header u m s) (packet u m s) one_laid in
      let laid = laid_there (started u m s) (header u m s).ie l one_laid.mark e room in
      advanced_wrote u m s whole f b (λ none. absurd (omega (arith, ap laid_blocks laid)))

  -- if its object fits where the tape stands, it is written
  pub room_wrote : eqb (header u m s).mode 2 ≡ false → ltb u.lengths.blocks (u.tape.position + blocks_in (object_for m (header u m s) (packet u m s))) ≡ false → Wrote u m s os (advanced u m s).unit (reel_after (advanced u m s) m s)
  room_wrote e room =
      let v = started u m s in
      let size = here_blocks v m s (header u m s) (packet u m s) one_laid in
      fits_wrote (Here v m s (header u m s) (packet u m s) one_laid) (here_plan v m s (header u m s) (packet u m s) one_laid e) (omega arith) (rw size room)

  -- and a retry, if it finds a record or mark, and gap and object fit from there on
  pub room_wrote_retry : {at : ℕ} → (header u m s).mode ≡ 2 → Found at (sought s true u.tape.position u.tape.end) → ltb u.lengths.blocks (at + (blocks_in (object_for m (header u m s) (packet u m s)) + 1)) ≡ false → Wrote u m s os (advanced u m s).unit (reel_after (advanced u m s) m s)
  unfolding behind_gap
  room_wrote_retry {at} e found room =
      let v = started u m s in
      let size = again_blocks v m s (header u m s) (packet u m s) one_laid at in
      fits_wrote (behind_gap (Here v m s (header u m s) (packet u m s) one_laid) at) (again_plan v m s (header u m s) (packet u m s) one_laid e found) (omega arith) (rw size room)
