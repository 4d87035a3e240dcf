-- An advance that is no Write or Format carried out lays nothing and keeps the recorded end.
use mathlib.Core.Bool.{Bool, true, false, ◌||◌}
use mathlib.Core.List.{List}
use mathlib.Core.Logic.{◌⊎◌, inl, inr}
use mathlib.Core.Path.{◌≡◌, refl}
use Prim.Native.Nat.{ℕ, ◌≤◌}
use lib.Dec.{leb, ltb}
use lib.ListN.{length}
use Rattle.std.specs.Prelude.{Option, Some, None}
use Rattle.lists.proofs.Cases.{by_test}
use Rattle.signals.specs.Codes.{command_of}
use Rattle.signals.specs.Numbers.{pointer_limit}
use Rattle.signals.specs.declared.codes.Command.{Command}
use Rattle.signals.specs.declared.codes.Command.TheVariants as command
use Rattle.signals.specs.declared.packet.Header.{Header}
use Rattle.signals.specs.declared.packet.Packet.{Packet}
use Rattle.state.specs.Checks.{buffer_wrong}
use Rattle.state.specs.declared.Unit.{Unit}
use Rattle.state.proofs.Tests.{either}
use Rattle.moves.specs.Counting.{marks, records}
use Rattle.moves.specs.declared.spacing.Count.{Count}
use Rattle.motions.specs.Parts.{no_lay}
use Rattle.motions.specs.declared.parts.Ending.{Ending}
use Rattle.motions.proofs.Fit.{read_one_fits, reread_fits, space_fits}
use Rattle.commands.specs.Commands.{asked, carried_out, carried_out_under, characteristics_at, characterized, characterized_under, plain_effect, plain_effect_under, positioned_by, positioned_by_under, read_by, read_by_under, refused_characteristics_under, released, reread_by, reread_by_under, rewound, rewound_under, taken_characteristics_under, unloaded, unloaded_under}
use Rattle.commands.specs.Ends.{ended, motion_plan, motion_plan_under, still, told_under, told_unit, untold}
use Rattle.commands.specs.declared.plans.Plan.{Plan}
use Rattle.advance.specs.Rules.{writes}
use Rattle.advance.specs.Steps.{advanced}
use Rattle.demands.specs.Ways.{Way, attention, bad_pointer, carried, header, idle, locked, lost, no_buffer, no_extent, no_header, no_words, no_execution, not_mounted, not_owned, packet, started, unknown}
use Rattle.demands.proofs.Ways.{advanced_way}
use Rattle.kept.specs.Leaving.{WriteRuns}
use Rattle.kept.proofs.Unwriting.{Unwriting, unwriting}
use Rattle.std.specs.Prelude.{Result, Ok, Err}
use Rattle.tape.specs.declared.Damage.{Damage}

-- nothing laid, and the recorded end is e
abbrev pub Unlaid : ℕ → Plan → Type 0
Unlaid e q = (q.laid ≡ no_lay) × (q.unit.tape.end ≡ e)

module _ (v : Unit) (m s : List ℕ) (h : Header) (p : Packet) (below : v.tape.position ≤ v.tape.end) where
  abbrev Stays : Plan → Type 0
  Stays q = Unlaid v.tape.end q

  motion_stays : (y : Result Ending Damage) → ((x : Ending) → y ≡ Ok x → (x.laid ≡ no_lay) × (x.tape.end ≡ v.tape.end)) → Stays (motion_plan v h.ie y)
  unfolding motion_plan_under told_under told_unit ended still
  motion_stays (Ok x) f = f x refl
  motion_stays (Err d) f = (refl, refl)

  read_stays : (reverse : Bool) → Stays (read_by v s h p reverse)
  unfolding read_by_under
  read_stays reverse = motion_stays _ (λ x y. let f = read_one_fits s v.tape below (asked h p) reverse y in (f.unlaid, f.kept))

  reread_stays : (reverse : Bool) → Stays (reread_by v s h p reverse)
  unfolding reread_by_under
  reread_stays reverse = motion_stays _ (λ x y. let f = reread_fits s v.tape below (asked h p) reverse h.opp y in (f.unlaid, f.kept))

  position_stays : (count : Count) (reverse : Bool) → Stays (positioned_by v s h count reverse)
  unfolding positioned_by_under
  position_stays count reverse = motion_stays _ (λ x y. let f = space_fits s v.tape below _ count v.characteristics.enb y in (f.unlaid, f.kept))

  characterize_stays : Stays (characterized v m p h.ie)
  unfolding characterized_under refused_characteristics_under taken_characteristics_under told_under told_unit ended
  characterize_stays =
      let c = characteristics_at m p in
      either Stays (ltb p.count 6) _ _ (refl, refl)
      (either Stays (leb pointer_limit c.address || buffer_wrong c (length m)) _ _ (refl, refl) (refl, refl))

  plain_stays : Stays (plain_effect v h.ie)
  unfolding plain_effect_under told_under told_unit ended
  plain_stays = (refl, refl)

  release_stays : Stays (released v h.ie)
  unfolding released untold still ended
  release_stays = (refl, refl)

  rewind_stays : Stays (rewound v h.ie)
  unfolding rewound_under told_under told_unit ended
  rewind_stays = (refl, refl)

  unload_stays : Stays (unloaded v h.ie)
  unfolding unloaded_under told_under told_unit ended
  unload_stays = (refl, refl)

  unwritten : (c : Option Command) → Unwriting c → Stays (carried_out v m s h p c)
  unfolding carried_out_under
  unwritten (Some command.ReadNext) r = read_stays false
  unwritten (Some command.ReadPrevious) r = read_stays true
  unwritten (Some command.RereadPrevious) r = reread_stays true
  unwritten (Some command.RereadNext) r = reread_stays false
  unwritten (Some command.WriteCharacteristics) r = characterize_stays
  unwritten (Some command.Write) r = absurd r
  unwritten (Some command.WriteRetry) r = absurd r
  unwritten (Some command.RecordsForward) r = position_stays (records p.count) false
  unwritten (Some command.RecordsReverse) r = position_stays (records p.count) true
  unwritten (Some command.MarksForward) r = position_stays (marks p.count) false
  unwritten (Some command.MarksReverse) r = position_stays (marks p.count) true
  unwritten (Some command.Rewind) r = rewind_stays
  unwritten (Some command.WriteMark) r = absurd r
  unwritten (Some command.Erase) r = absurd r
  unwritten (Some command.MarkRetry) r = absurd r
  unwritten (Some command.Release) r = release_stays
  unwritten (Some command.Unload) r = unload_stays
  unwritten (Some command.Clean) r = plain_stays
  unwritten (Some command.Initialize) r = plain_stays
  unwritten (Some command.GetStatus) r = plain_stays
  unwritten None r = plain_stays

-- an advance carries out a Write or Format, or it lays nothing and keeps the recorded end
module _ (u : Unit) (m s : List ℕ) (below : u.tape.position ≤ u.tape.end) where
  by_way : {q : Plan} → Way u m s q → WriteRuns u m s ⊎ Unlaid u.tape.end q
  unfolding told_under told_unit ended untold still
  by_way (idle a b) = inr (refl, refl)
  by_way (attention a b) = inr (refl, refl)
  by_way (no_header a b) = inr (refl, refl)
  by_way (not_owned w a) = inr (refl, refl)
  by_way (lost w a b) = inr (refl, refl)
  by_way (unknown b a) = inr (refl, refl)
  by_way (no_buffer b a c) = inr (refl, refl)
  by_way (no_words b a c d) = inr (refl, refl)
  by_way (bad_pointer f a) = inr (refl, refl)
  by_way (not_mounted f a b) = inr (refl, refl)
  by_way (locked f a b c) = inr (refl, refl)
  by_way (no_execution f a b c d) = inr (refl, refl)
  by_way (no_extent r a) = inr (refl, refl)
  by_way (carried r a) =
      by_test (writes (header u m s)) (λ w. inl (record { runs = r; inside = a; write = w }))
      (λ w. inr (unwritten (started u m s) m s (header u m s) (packet u m s) below (command_of (header u m s).code (header u m s).mode) (unwriting (header u m s) w)))

  pub writes_or_stays : WriteRuns u m s ⊎ Unlaid u.tape.end (advanced u m s)
  writes_or_stays = by_way (advanced_way u m s)
