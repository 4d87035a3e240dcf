-- "Every end sets SSR and keeps RMR and NXM. A message goes out only if NBA is clear. After every end the CPU owns the message buffer,
-- save step 1 and a release carried out, which sends none and keeps the owner. Interrupt if IE, save those two." (01)
use Rattle.std.specs.Prelude.{Bool, true, false, ◌||◌, not, List, [], ◌∷◌, ℕ, eqb, leb, Result, Ok, Err}
use Rattle.tape.specs.Numbers.{eot_marker_under, margin}
use Rattle.signals.specs.Message.{message_of}
use Rattle.signals.specs.declared.message.Status.{Status}
use Rattle.state.specs.declared.Unit.{Unit}
use Rattle.state.specs.declared.Tape.{Tape}
use Rattle.state.specs.declared.Panel.{Panel}
use Rattle.state.specs.declared.Attention.{Attention}
use Rattle.state.specs.Changes.{with_registers}
use Rattle.motions.specs.Parts.{laid_blocks, no_lay, no_move}
use Rattle.state.specs.declared.refusal.Refusal.TheVariants as refusal
use Rattle.commands.specs.Answers.{Answer}
use Rattle.commands.specs.declared.plans.Done.TheVariants as answer
use Rattle.commands.specs.declared.plans.Plan.{Plan}
use Rattle.commands.specs.declared.plans.Course.{Course}
use Rattle.commands.specs.declared.plans.How.{How}
use Rattle.commands.specs.declared.plans.How.TheVariants as how
use Rattle.motions.specs.declared.parts.Ending.{Ending}
use Rattle.tape.specs.declared.Damage.{Damage}

-- the state with one part anew
abbrev pub with_tape : Unit → Tape → Unit
with_tape u t =
    record {
      tape = t;
      registers = u.registers;
      panel = u.panel;
      attention = u.attention;
      characteristics = u.characteristics;
      lengths = u.lengths;
    }

abbrev pub with_panel : Unit → Panel → Unit
with_panel u p =
    record {
      tape = u.tape;
      registers = u.registers;
      panel = p;
      attention = u.attention;
      characteristics = u.characteristics;
      lengths = u.lengths;
    }

abbrev pub with_attention : Unit → Attention → Unit
with_attention u a =
    record {
      tape = u.tape;
      registers = u.registers;
      panel = u.panel;
      attention = a;
      characteristics = u.characteristics;
      lengths = u.lengths;
    }

abbrev pub with_owner : Unit → Bool → Unit
with_owner u owns =
    with_attention u (record { unit_owns = owns; pending = u.attention.pending; release_ie = u.attention.release_ie })

-- no message
abbrev pub quiet : List ℕ
quiet = 0 ∷ 0 ∷ 0 ∷ 0 ∷ 0 ∷ 0 ∷ 0 ∷ []

-- nothing is stored
unfoldable pub still : Unit → Answer → Plan
still u a = record { answer = a; unit = u; moved = no_move; laid = no_lay; sends = false; message = quiet }

-- "Every end sets SSR and keeps RMR and NXM"; class 5 is NXM's
unfoldable pub ended : Unit → ℕ → Unit
ended u class =
    with_registers u
    (record {
      pointer = u.registers.pointer;
      class = class;
      rmr = u.registers.rmr;
      nxm = u.registers.nxm || eqb class 5;
      nba = u.registers.nba;
      ssr = true;
    })

-- "MOT (house): the end position differs from the start, or blocks were written."
abbrev pub motion_seen : ℕ → Ending → Bool
motion_seen start x = not (eqb start x.tape.position) || not (eqb (laid_blocks x.laid) 0)

-- the state after an end that is told: the tape where it left it, and the CPU owns the message buffer
unfoldable pub told_unit : Unit → Ending → Unit
told_unit u x = with_owner (ended (with_tape u x.tape) x.end.class) false

-- an end that is not told: step 1 and "a release carried out, which sends none and keeps the owner", with no interrupt, and step 2,
-- which interrupts if IE
unfoldable pub untold : Unit → ℕ → Bool → Plan
untold u class interrupts = still (ended u class) (Ok (answer.Step interrupts))

-- under any EOT margin
module _ (eotMargin : ℕ) where
  -- "ONL 6, IE 5, VCK 4, .. WLK 2, BOT 1, EOT 0 (position at or past its marker)"
  unfoldable pub status_of_under : Unit → Bool → Bool → Status
  status_of_under u ie mot =
      record {
        mot = mot;
        onl = u.panel.online;
        ie = ie;
        vck = u.panel.vck;
        wlk = u.panel.locked;
        bot = eqb u.tape.position 0;
        eot = leb (eot_marker_under eotMargin u.lengths.blocks) u.tape.position;
      }

  -- an end that is told, of a command that began in the state u: message if NBA is clear, interrupt if IE
  unfoldable pub told_under : Unit → Bool → Ending → Plan
  told_under u ie x =
      record {
        answer = Ok (answer.Step ie);
        unit = told_unit u x;
        moved = x.moved;
        laid = x.laid;
        sends = not (told_unit u x).registers.nba;
        message = message_of x.end (status_of_under (told_unit u x) ie (motion_seen u.tape.position x));
      }

  -- what a motion of the tape comes to; a block at fault refuses with 7, and a plan that is refused is not carried out
  unfoldable pub motion_plan_under : Unit → Bool → Result Ending Damage → Plan
  motion_plan_under u ie (Ok x) = told_under u ie x
  motion_plan_under u ie (Err d) = still u (Err (refusal.BadBlock d))

  -- told or not, as a plan
  unfoldable pub plan_by_under : Unit → Bool → How → Plan
  plan_by_under u ie (how.Told m) = motion_plan_under u ie m
  plan_by_under u ie (how.Untold class) = untold u class ie

  -- the plan that an advance comes to, told or not
  unfoldable pub plan_of_under : Course → Plan
  plan_of_under c = plan_by_under c.unit c.ie c.how

-- and under this unit's own
abbrev pub status_of : Unit → Bool → Bool → Status
status_of = status_of_under margin

abbrev pub told : Unit → Bool → Ending → Plan
told = told_under margin

abbrev pub motion_plan : Unit → Bool → Result Ending Damage → Plan
motion_plan = motion_plan_under margin

abbrev pub plan_by : Unit → Bool → How → Plan
plan_by = plan_by_under margin

abbrev pub plan_of : Course → Plan
plan_of = plan_of_under margin
