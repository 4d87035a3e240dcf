-- Demand 2 of an advance that is a step: from the laws over its plan.
use mathlib.Core.Bool.{Bool, true, false}
use mathlib.Core.List.{List}
use mathlib.Core.Logic.{◌⊎◌, ⊎_elim}
use mathlib.Core.Path.{◌≡◌, refl}
use Prim.Native.Nat.{ℕ, ◌+◌, ◌*◌, ◌<◌, ◌≤◌}
use borrow.Author.Tests.{eqb-true}
use lib.Dec.{eqb}
use lib.ListN.{get_or}
use Rattle.std.specs.Prelude.{Ok}
use Rattle.lists.proofs.Cases.{by_test}
use Rattle.tape.specs.Objects.{Holds, Object}
use Rattle.index.specs.Cutting.{extended}
use Rattle.index.specs.Table.{place_length, table_from}
use Rattle.index.proofs.Cuts.{extended_other}
use Rattle.signals.specs.declared.packet.Header.{Header}
use Rattle.moves.specs.Between.{Bound}
use Rattle.motions.specs.Parts.{no_lay}
use Rattle.motions.specs.declared.parts.Laid.{Laid}
use Rattle.commands.specs.declared.plans.Done.TheVariants as answer
use Rattle.commands.specs.declared.plans.Plan.{Plan}
use Rattle.storing.specs.Stored.{laid_object, laid_objects, memory_after, reel_after}
use Rattle.advance.specs.Rules.{writes}
use Rattle.advance.specs.Steps.{advanced}
use Rattle.demands.specs.Done.{Sent}
use Rattle.demands.specs.Ways.{Fetched, started}
use Rattle.demands.proofs.Carried.{carried_as}
use Rattle.demands.proofs.Done.{read_done, space_done}
use Rattle.demands.proofs.Kept.{memory_stays, none_laid, reel_stays}
use Rattle.demands.proofs.Said.{space_none, space_says}
use Rattle.demands.proofs.Sending.{fetched_sends}
use Rattle.demands.proofs.Ways.{advanced_way}
use Rattle.kept.specs.Leaving.{WriteRuns, WriteTold, Wrote}
use Rattle.kept.specs.NoRoom.{NoRoom}
use Rattle.kept.proofs.Leaving.{room_wrote, room_wrote_retry}
use Rattle.kept.proofs.NoRoom.{no_room_retry, no_room_told, no_room_unlaid, none_found, none_unlaid, retry_unlaid}
use Rattle.kept.proofs.Telling.{room_told, room_told_retry}
use Rattle.kept.proofs.Unwritten.{writes_or_stays}
use Rattle.unit.specs.Cores.{Admitted, Core}
use Rattle.unit.specs.Steps.{cut_for, cut_of, objects_after, table_after}
use Rattle.unit.specs.Touching.{laid_places, object_places}
use Rattle.unit.proofs.Rows.{places_laid}
use Rattle.unit.proofs.Stepping.{advanced_fits}
use Rattle.sessions.specs.Rules.{Obeys, Short, Unfilled, again, at_once, header_in, object_in, packet_in}

-- codes of commands that tell how they ended
abbrev Tells : Header → Type 0
Tells h = (eqb h.code 4 ≡ false) × (eqb h.code 10 ≡ false)

code_tells : (h : Header) (k : ℕ) → h.code ≡ k → (eqb k 4 ≡ false) × (eqb k 10 ≡ false) → Tells h
code_tells h k e t = rw e t

write_tells : (h : Header) → writes h ≡ true → Tells h
write_tells h w =
    by_test (eqb h.code 5) (λ t. code_tells h 5 (eqb-true h.code 5 t) (refl, refl))
    (λ f. code_tells h 9 (eqb-true h.code 9 (rw f at w)) (refl, refl))

module _ (c : Core) (a : Admitted c) (i : Bool) where
  abbrev plan : Plan
  plan = advanced c.unit c.memory c.reel

  abbrev after : Core
  after =
      record {
        unit = plan.unit;
        objects = objects_after plan.laid (cut_of c plan.laid) c.objects;
        memory = memory_after plan c.memory c.reel;
        reel = reel_after plan c.memory c.reel;
        table = table_after c plan.laid;
      }

  -- the table off the places of what is laid
  table_off : (l : Laid) (j : ℕ) → (j < place_length * (cut_of c l).place) ⊎ (place_length * ((cut_of c l).place + laid_places l) ≤ j) → get_or (table_after c l) j 0 ≡ get_or c.table j 0
  unfolding table_after
  table_off l j f = extended_other c.table (cut_of c l) l.at (laid_objects c.memory l) j (rw (places_laid c.memory l) f)

  -- where nothing is laid, no place is filled
  none_filled : table_after c no_lay ≡ c.table
  unfolding table_after extended cut_for laid_places object_places laid_objects laid_object table_from
  none_filled = refl

  none_counted : objects_after no_lay (cut_of c no_lay) c.objects ≡ c.objects
  unfolding objects_after laid_places object_places
  none_counted = refl

  unfilled : plan.laid ≡ no_lay → Unfilled c i after
  unfilled e = (rw e none_filled, rw e none_counted)

  module _ (done : plan.answer ≡ Ok (answer.Step i)) where
    sent : Fetched c.unit c.memory c.reel → Tells (header_in c) → Sent c.unit c.memory c.reel
    sent f t =
        let goes = fetched_sends c.unit c.memory c.reel f t.0 t.1 i done in
        record { sends = goes; inside = (advanced_fits c a).message goes }

    write_sent : WriteRuns c.unit c.memory c.reel → Sent c.unit c.memory c.reel
    write_sent w = sent w.runs.fetched (write_tells (header_in c) w.write)

    wrote_as : WriteRuns c.unit c.memory c.reel → Short c false → {os : List Object} → Holds c.reel c.unit.tape.end os → Bound os c.unit.tape.position
        → Wrote c.unit c.memory c.reel os after.unit after.reel
    wrote_as w (at_once e f) h b = room_wrote c.unit c.memory c.reel a.reel_is h b w e f
    wrote_as w (again e g f) h b = room_wrote_retry c.unit c.memory c.reel a.reel_is h b w e g f

    told_as_lem : WriteRuns c.unit c.memory c.reel → Short c false → WriteTold (object_in c) after.unit after.memory
    told_as_lem w (at_once e f) = room_told c.unit c.memory c.reel w (write_sent w) e f
    told_as_lem w (again e g f) = room_told_retry c.unit c.memory c.reel w (write_sent w) e g f

    full_as : WriteRuns c.unit c.memory c.reel → Short c true → NoRoom c.unit.tape c.reel after.unit after.memory after.reel × Unfilled c i after
    full_as w (at_once e f) = (no_room_told c.unit c.memory c.reel w (write_sent w) e f, unfilled (no_room_unlaid c.unit c.memory c.reel w e f))
    full_as w (again e g f) = (no_room_retry c.unit c.memory c.reel w (write_sent w) e a.legal.place g f, unfilled (retry_unlaid c.unit c.memory c.reel w e g f))

    pub advanced_obeys : Obeys c i after
    unfolding reel_after
    advanced_obeys =
        record {
          plan = plan;
          way = advanced_way c.unit c.memory c.reel;
          follows =
              record {
                answer = done;
                state = refl;
                memory = refl;
                reel = refl;
                objects = refl;
                places = refl;
                memory_stays = memory_stays c.unit c.memory c.reel (advanced_fits c a);
                reel_stays = reel_stays c.unit c.memory c.reel;
                table_stays = λ j f. table_off plan.laid j f;
              };
          table = carried_as (started c.unit c.memory c.reel) c.memory c.reel (header_in c) (packet_in c);
          read = λ f code. read_done c.unit c.memory c.reel a.legal.place f code (sent f (code_tells (header_in c) 1 code (refl, refl)));
          space = λ f code few. space_done c.unit c.memory c.reel f code few (sent f (code_tells (header_in c) 8 code (refl, refl)));
          stop = λ r code few some. space_says c.unit c.memory c.reel a.legal.place r code few some (sent r.0.fetched (code_tells (header_in c) 8 code (refl, refl)));
          none_asked = λ r code few none. space_none c.unit c.memory c.reel r code few none (sent r.0.fetched (code_tells (header_in c) 8 code (refl, refl)));
          wrote = wrote_as;
          told = told_as_lem;
          no_room = full_as;
          none_found = λ w e none. (none_found c.unit c.memory c.reel w (write_sent w) e a.legal.place none, unfilled (none_unlaid c.unit c.memory c.reel w e none));
          unwritten = λ n. ⊎_elim (λ w. absurd (n w)) (λ y. (rw y.0 (none_laid c.reel c.memory), y.1, unfilled y.0)) (writes_or_stays c.unit c.memory c.reel a.legal.place);
        }
