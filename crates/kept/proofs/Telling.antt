-- A Write or Format that is carried out and has room tells class 2 at or past EOT, and TMK for a mark.
use mathlib.Core.Bool.{Bool, true, false}
use mathlib.Core.List.{List}
use mathlib.Core.Path.{◌≡◌, refl, sym, subst}
use Prim.Native.Nat.{ℕ, ◌+◌}
use native.Mathlib.Omega.{arith}
use lib.Dec.{eqb, leb, ltb}
use Rattle.lists.specs.Pick.{pick}
use Rattle.tape.specs.Numbers.{eot_marker}
use Rattle.tape.specs.Objects.{Object, blocks_in}
use Rattle.signals.specs.Bits.{TMK}
use Rattle.signals.specs.Message.{flag_of}
use Rattle.signals.specs.declared.counts.Residual.TheVariants as residual
use Rattle.state.specs.declared.Unit.{Unit}
use Rattle.moves.specs.Seeking.{sought}
use Rattle.motions.specs.Parts.{end, laid_blocks, no_move, standing}
use Rattle.motions.specs.Writes.{behind_gap, written_at, written_at_under, written_motion_under}
use Rattle.motions.specs.declared.parts.Ending.{Ending}
use Rattle.motions.specs.declared.parts.Laid.{Laid}
use Rattle.commands.specs.Ends.{ended, motion_plan, motion_plan_under, told, told_under, told_unit}
use Rattle.commands.specs.declared.plans.Plan.{Plan}
use Rattle.storing.specs.Stored.{memory_after}
use Rattle.advance.specs.Steps.{advanced}
use Rattle.demands.specs.Done.{Sent}
use Rattle.demands.specs.Ways.{header, packet, started}
use Rattle.demands.proofs.Done.{Sends, Upper, told_found, told_word, told_xst3}
use Rattle.kept.specs.Leaving.{WriteRuns, WriteTold, is_mark, object_for}
use Rattle.kept.specs.NoRoom.{Found}
use Rattle.kept.proofs.Laying.{Here, again_blocks, again_plan, advance_lays, here_blocks, here_plan}

mark_upper : (b : Bool) → Upper (flag_of b TMK)
mark_upper true = (refl, omega arith)
mark_upper false = (refl, omega arith)

-- how a write that fits ends
abbrev written_ending : Laid → ℕ → Bool → Ending
written_ending l blocks mark =
    record {
      end = end (pick (leb (eot_marker blocks) (l.at + laid_blocks l)) 2 0) (flag_of mark TMK) 0 residual.Nothing;
      tape = standing (l.at + laid_blocks l) (l.at + laid_blocks l);
      moved = no_move;
      laid = l;
    }

module _ (m s : List ℕ) (v : Unit) (ie : Bool) (l : Laid) (o : Object) where
  -- and what its message says
  laid_told : Sends v m s (told v ie (written_ending l v.lengths.blocks (is_mark o))) → WriteTold o (told v ie (written_ending l v.lengths.blocks (is_mark o))).unit (memory_after (told v ie (written_ending l v.lengths.blocks (is_mark o))) m s)
  unfolding told_under told_unit ended
  laid_told (sends, room) =
      let x : Ending = written_ending l v.lengths.blocks (is_mark o) in
      record {
        class = refl;
        residual = told_word v ie x m s sends room;
        found = told_found v ie x m s sends room (mark_upper (is_mark o));
        xst3 = told_xst3 v ie x m s sends room;
      }

  fits : (mark : Bool) {q : Plan} → mark ≡ is_mark o → q ≡ motion_plan v ie (written_at v.tape v.lengths.blocks l mark) → ltb v.lengths.blocks (l.at + laid_blocks l) ≡ false → Sends v m s q → WriteTold o q.unit (memory_after q m s)
  unfolding motion_plan_under written_at_under written_motion_under
  fits mark {q} i e f =
      let is : q ≡ told v ie (written_ending l v.lengths.blocks (is_mark o)) = rw (e, f, i) in
      subst (λ (x : Plan). Sends v m s x → WriteTold o x.unit (memory_after x m s)) (sym is) laid_told

module _ (u : Unit) (m s : List ℕ) (w : WriteRuns u m s) (sent : Sent u m s) where
  abbrev object : Object
  object = object_for m (header u m s) (packet u m s)

  pub room_told : eqb (header u m s).mode 2 ≡ false → ltb u.lengths.blocks (u.tape.position + blocks_in object) ≡ false → WriteTold object (advanced u m s).unit (memory_after (advanced u m s) m s)
  room_told e f =
      let y = advance_lays u m s w in
      fits m s (started u m s) (header u m s).ie (Here (started u m s) m s (header u m s) (packet u m s) y) object y.mark y.marked
      (here_plan (started u m s) m s (header u m s) (packet u m s) y e)
      (rw (here_blocks (started u m s) m s (header u m s) (packet u m s) y) f)
      (sent.sends, sent.inside)

  pub room_told_retry : {at : ℕ} → (header u m s).mode ≡ 2 → Found at (sought s true u.tape.position u.tape.end) → ltb u.lengths.blocks (at + (blocks_in object + 1)) ≡ false → WriteTold object (advanced u m s).unit (memory_after (advanced u m s) m s)
  unfolding behind_gap
  room_told_retry {at} e found f =
      let y = advance_lays u m s w in
      fits m s (started u m s) (header u m s).ie (behind_gap (Here (started u m s) m s (header u m s) (packet u m s) y) at) object y.mark y.marked
      (again_plan (started u m s) m s (header u m s) (packet u m s) y e found)
      (rw (again_blocks (started u m s) m s (header u m s) (packet u m s) y at) f)
      (sent.sends, sent.inside)
