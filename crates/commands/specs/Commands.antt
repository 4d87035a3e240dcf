-- The commands, carried out. (01, "Commands")
use Rattle.std.specs.Prelude.{Option, Some, None, ◌≡◌, Bool, true, false, ◌||◌, List, ℕ, ◌+◌, ◌*◌, ◌/◌, ◌%◌, ◌≤◌, eqb, leb, ltb, length, Result}
use Rattle.lists.specs.Pick.{pick}
use Rattle.lists.specs.Words.{word_at}
use Rattle.tape.specs.Numbers.{margin, record_limit}
use Rattle.signals.specs.Numbers.{pointer_limit}
use Rattle.signals.specs.declared.codes.Command.{Command}
use Rattle.signals.specs.declared.codes.Command.TheVariants as command
use Rattle.signals.specs.declared.packet.Header.{Header}
use Rattle.signals.specs.declared.packet.Packet.{Packet}
use Rattle.signals.specs.declared.message.End.{End}
use Rattle.signals.specs.declared.counts.Residual.TheVariants as residual
use Rattle.state.specs.Changes.{with_registers}
use Rattle.state.specs.Checks.{buffer_wrong}
use Rattle.state.specs.declared.Unit.{Unit}
use Rattle.state.specs.declared.Characteristics.{Characteristics}
use Rattle.state.specs.declared.Tape.{Tape}
use Rattle.moves.specs.Counting.{marks, records}
use Rattle.moves.specs.declared.spacing.Count.{Count}
use Rattle.motions.specs.Parts.{end, resting, standing, stops}
use Rattle.motions.specs.Reads.{read_one_under, reread_under}
use Rattle.motions.specs.Spaces.{positioned_under}
use Rattle.motions.specs.Writes.{retried_under, written_at_under}
use Rattle.commands.specs.Ends.{motion_plan_under, told_under, untold, with_attention, with_panel}
use Rattle.motions.specs.declared.parts.Laid.{Laid}
use Rattle.motions.specs.declared.parts.Ending.{Ending}
use Rattle.motions.specs.declared.parts.ObjectKind.{ObjectKind}
use Rattle.motions.specs.declared.parts.ObjectKind.TheVariants as kind
use Rattle.motions.specs.declared.reads.Buffer.{Buffer}
use Rattle.commands.specs.declared.plans.Plan.{Plan}
use Rattle.tape.specs.declared.Damage.{Damage}

abbrev pub plain_end : End
plain_end = end 0 0 0 residual.Nothing

-- "a release carried out, which sends none and keeps the owner"; its IE is an idle attention's
unfoldable pub released : Unit → Bool → Plan
released u ie =
    untold
    (with_attention u (record { unit_owns = u.attention.unit_owns; pending = u.attention.pending; release_ie = ie }))
    0
    false

-- "mode word (0 if the count is under 8)"
unfoldable pub mode_word : List ℕ → Packet → ℕ
mode_word m p = pick (ltb p.count 8) 0 (word_at m (p.pointer + 6))

-- "Write Characteristics data: address low, high, length, mode word"; ESS is bit 7, ENB bit 6, EAI bit 5
unfoldable pub characteristics_at : List ℕ → Packet → Characteristics
characteristics_at m p =
    record {
      address = word_at m p.pointer + 65536 * word_at m (p.pointer + 2);
      length = word_at m (p.pointer + 4);
      eai = eqb (mode_word m p / 32 % 2) 1;
      ess = eqb (mode_word m p / 128 % 2) 1;
      enb = eqb (mode_word m p / 64 % 2) 1;
    }

abbrev pub with_nba : Unit → Bool → Unit
with_nba u nba =
    with_registers u
    (record {
      pointer = u.registers.pointer;
      class = u.registers.class;
      rmr = u.registers.rmr;
      nxm = u.registers.nxm;
      nba = nba;
      ssr = u.registers.ssr;
    })

abbrev pub with_characteristics : Unit → Characteristics → Unit
with_characteristics u c =
    record {
      tape = u.tape;
      registers = u.registers;
      panel = u.panel;
      attention = u.attention;
      characteristics = c;
      lengths = u.lengths;
    }

-- what a Read asks for
abbrev pub asked : Header → Packet → Buffer
asked h p = record { pointer = p.pointer; count = record { 0 = p.count }; swb = h.swb }

-- an object where the tape stands
abbrev pub laid_here : Tape → ObjectKind → ℕ → ℕ → Bool → Laid
laid_here t o pointer n swb =
    record { at = t.position; gap_first = false; object = o; pointer = pointer; length = n; swb = swb }

-- what a Write Characteristics asks of its packet: the data are in memory (step 10)
abbrev pub DataFit : Option Command → Packet → List ℕ → Type 0
DataFit c p m = c ≡ Some command.WriteCharacteristics → p.pointer + p.count ≤ length m

-- under any EOT margin
module _ (eotMargin : ℕ) where
  -- "clean (no action)", "Initialize 11/0 (house: no action). Get Status 15/0."
  unfoldable pub plain_effect_under : Unit → Bool → Plan
  plain_effect_under u ie = told_under eotMargin u ie (resting plain_end u.tape)

  -- "4 rewind"
  unfoldable pub rewound_under : Unit → Bool → Plan
  rewound_under u ie = told_under eotMargin u ie (resting plain_end (standing 0 u.tape.end))

  -- "rewind and unload (ends off line, no attention)"
  unfoldable pub unloaded_under : Unit → Bool → Plan
  unloaded_under u ie =
      told_under eotMargin (with_panel u (record { online = false; locked = u.panel.locked; vck = u.panel.vck })) ie
      (resting plain_end (standing 0 u.tape.end))

  -- "NBA set, class 3, all old values kept"
  unfoldable pub refused_characteristics_under : Unit → Bool → Plan
  refused_characteristics_under u ie = told_under eotMargin (with_nba u true) ie (resting (end 3 0 0 residual.Nothing) u.tape)

  -- "Otherwise NBA clears and all are taken."
  unfoldable pub taken_characteristics_under : Unit → Characteristics → Bool → Plan
  taken_characteristics_under u c ie = told_under eotMargin (with_characteristics (with_nba u false) c) ie (resting plain_end u.tape)

  -- "Count under 6, address odd or past 18 bits, length under 14, or buffer not inside memory"
  unfoldable pub characterized_under : Unit → List ℕ → Packet → Bool → Plan
  characterized_under u m p ie =
      pick (ltb p.count 6) (refused_characteristics_under u ie)
      (pick (leb pointer_limit (characteristics_at m p).address || buffer_wrong (characteristics_at m p) (length m))
      (refused_characteristics_under u ie)
      (taken_characteristics_under u (characteristics_at m p) ie))

-- under any record limit
module _ (limit : ℕ) where
  -- "In Marks with ESS .. or with ENB too"
  abbrev pub positioning_under : List ℕ → Tape → Characteristics → Count → Bool → Result Ending Damage
  positioning_under s t c count reverse = positioned_under limit s t (record { reverse = reverse; ess = c.ess }) count c.enb

-- under any record limit and any EOT margin
module _ (limit eotMargin : ℕ) where
  unfoldable pub read_by_under : Unit → List ℕ → Header → Packet → Bool → Plan
  read_by_under u s h p reverse = motion_plan_under eotMargin u h.ie (read_one_under limit s u.tape (asked h p) reverse)

  unfoldable pub reread_by_under : Unit → List ℕ → Header → Packet → Bool → Plan
  reread_by_under u s h p reverse = motion_plan_under eotMargin u h.ie (reread_under limit s u.tape (asked h p) reverse h.opp)

  unfoldable pub positioned_by_under : Unit → List ℕ → Header → Count → Bool → Plan
  positioned_by_under u s h count reverse = motion_plan_under eotMargin u h.ie (positioning_under limit s u.tape u.characteristics count reverse)

  -- "Write 5 / 0, 2 retry", "Format 9 / 0 mark, .. 2 mark retry"
  abbrev pub laying_under : List ℕ → Tape → ℕ → Laid → Bool → Bool → Result Ending Damage
  laying_under s t blocks l mark again = pick again (retried_under limit eotMargin s t blocks l mark) (written_at_under eotMargin t blocks l mark)

  unfoldable pub written_by_under : Unit → List ℕ → Header → Packet → Bool → Plan
  written_by_under u s h p again =
      motion_plan_under eotMargin u h.ie
      (laying_under s u.tape u.lengths.blocks (laid_here u.tape kind.Record p.pointer p.count h.swb) false again)

  unfoldable pub formatted_under : Unit → List ℕ → Header → ObjectKind → Bool → Bool → Plan
  formatted_under u s h o mark again =
      motion_plan_under eotMargin u h.ie (laying_under s u.tape u.lengths.blocks (laid_here u.tape o 0 0 false) mark again)

  -- the motion of a command, as `carried_out_under` below has it; those that move nothing end where the tape stands
  unfoldable pub motion_of_under : Unit → List ℕ → Header → Packet → Command → Result Ending Damage
  motion_of_under u s h p command.ReadNext = read_one_under limit s u.tape (asked h p) false
  motion_of_under u s h p command.ReadPrevious = read_one_under limit s u.tape (asked h p) true
  motion_of_under u s h p command.RereadPrevious = reread_under limit s u.tape (asked h p) true h.opp
  motion_of_under u s h p command.RereadNext = reread_under limit s u.tape (asked h p) false h.opp
  motion_of_under u s h p command.Write = laying_under s u.tape u.lengths.blocks (laid_here u.tape kind.Record p.pointer p.count h.swb) false false
  motion_of_under u s h p command.WriteRetry = laying_under s u.tape u.lengths.blocks (laid_here u.tape kind.Record p.pointer p.count h.swb) false true
  motion_of_under u s h p command.RecordsForward = positioning_under limit s u.tape u.characteristics (records p.count) false
  motion_of_under u s h p command.RecordsReverse = positioning_under limit s u.tape u.characteristics (records p.count) true
  motion_of_under u s h p command.MarksForward = positioning_under limit s u.tape u.characteristics (marks p.count) false
  motion_of_under u s h p command.MarksReverse = positioning_under limit s u.tape u.characteristics (marks p.count) true
  motion_of_under u s h p command.Rewind = stops plain_end (standing 0 u.tape.end)
  motion_of_under u s h p command.WriteMark = laying_under s u.tape u.lengths.blocks (laid_here u.tape kind.Mark 0 0 false) true false
  motion_of_under u s h p command.Erase = laying_under s u.tape u.lengths.blocks (laid_here u.tape kind.Gap 0 0 false) false false
  motion_of_under u s h p command.MarkRetry = laying_under s u.tape u.lengths.blocks (laid_here u.tape kind.Mark 0 0 false) true true
  motion_of_under u s h p command.WriteCharacteristics = stops plain_end u.tape
  motion_of_under u s h p command.Release = stops plain_end u.tape
  motion_of_under u s h p command.Unload = stops plain_end u.tape
  motion_of_under u s h p command.Clean = stops plain_end u.tape
  motion_of_under u s h p command.Initialize = stops plain_end u.tape
  motion_of_under u s h p command.GetStatus = stops plain_end u.tape

  unfoldable pub carried_out_under : Unit → List ℕ → List ℕ → Header → Packet → Option Command → Plan
  carried_out_under u m s h p (Some command.ReadNext) = read_by_under u s h p false
  carried_out_under u m s h p (Some command.ReadPrevious) = read_by_under u s h p true
  carried_out_under u m s h p (Some command.RereadPrevious) = reread_by_under u s h p true
  carried_out_under u m s h p (Some command.RereadNext) = reread_by_under u s h p false
  carried_out_under u m s h p (Some command.WriteCharacteristics) = characterized_under eotMargin u m p h.ie
  carried_out_under u m s h p (Some command.Write) = written_by_under u s h p false
  carried_out_under u m s h p (Some command.WriteRetry) = written_by_under u s h p true
  carried_out_under u m s h p (Some command.RecordsForward) = positioned_by_under u s h (records p.count) false
  carried_out_under u m s h p (Some command.RecordsReverse) = positioned_by_under u s h (records p.count) true
  carried_out_under u m s h p (Some command.MarksForward) = positioned_by_under u s h (marks p.count) false
  carried_out_under u m s h p (Some command.MarksReverse) = positioned_by_under u s h (marks p.count) true
  carried_out_under u m s h p (Some command.Rewind) = rewound_under eotMargin u h.ie
  carried_out_under u m s h p (Some command.WriteMark) = formatted_under u s h kind.Mark true false
  carried_out_under u m s h p (Some command.Erase) = formatted_under u s h kind.Gap false false
  carried_out_under u m s h p (Some command.MarkRetry) = formatted_under u s h kind.Mark true true
  carried_out_under u m s h p (Some command.Release) = released u h.ie
  carried_out_under u m s h p (Some command.Unload) = unloaded_under eotMargin u h.ie
  carried_out_under u m s h p (Some command.Clean) = plain_effect_under eotMargin u h.ie
  carried_out_under u m s h p (Some command.Initialize) = plain_effect_under eotMargin u h.ie
  carried_out_under u m s h p (Some command.GetStatus) = plain_effect_under eotMargin u h.ie
  -- ended at step 5
  carried_out_under u m s h p None = plain_effect_under eotMargin u h.ie

-- and under this unit's own
abbrev pub plain_effect : Unit → Bool → Plan
plain_effect = plain_effect_under margin

abbrev pub rewound : Unit → Bool → Plan
rewound = rewound_under margin

abbrev pub unloaded : Unit → Bool → Plan
unloaded = unloaded_under margin

abbrev pub refused_characteristics : Unit → Bool → Plan
refused_characteristics = refused_characteristics_under margin

abbrev pub taken_characteristics : Unit → Characteristics → Bool → Plan
taken_characteristics = taken_characteristics_under margin

abbrev pub characterized : Unit → List ℕ → Packet → Bool → Plan
characterized = characterized_under margin

abbrev pub positioning : List ℕ → Tape → Characteristics → Count → Bool → Result Ending Damage
positioning = positioning_under record_limit

abbrev pub read_by : Unit → List ℕ → Header → Packet → Bool → Plan
read_by = read_by_under record_limit margin

abbrev pub reread_by : Unit → List ℕ → Header → Packet → Bool → Plan
reread_by = reread_by_under record_limit margin

abbrev pub positioned_by : Unit → List ℕ → Header → Count → Bool → Plan
positioned_by = positioned_by_under record_limit margin

abbrev pub laying : List ℕ → Tape → ℕ → Laid → Bool → Bool → Result Ending Damage
laying = laying_under record_limit margin

abbrev pub written_by : Unit → List ℕ → Header → Packet → Bool → Plan
written_by = written_by_under record_limit margin

abbrev pub formatted : Unit → List ℕ → Header → ObjectKind → Bool → Bool → Plan
formatted = formatted_under record_limit margin

abbrev pub motion_of : Unit → List ℕ → Header → Packet → Command → Result Ending Damage
motion_of = motion_of_under record_limit margin

abbrev pub carried_out : Unit → List ℕ → List ℕ → Header → Packet → Option Command → Plan
carried_out = carried_out_under record_limit margin
