-- Why a command came to read the block that refusal 7 names, and so that it is the first at fault.
use mathlib.Core.Bool.{Bool, true, false, ◌||◌, ◌&&◌}
use mathlib.Core.List.{List}
use mathlib.Core.Path.{◌≡◌, sym, ap, subst, ◌∙◌}
use Prim.Native.Nat.{ℕ, ◌+◌, ◌<◌, ◌≤◌}
use native.Mathlib.Omega.{arith}
use borrow.Author.Tests.{eqb-true, ltb-false, ltb-true, ne_eqb}
use lib.Dec.{eqb, leb, ltb}
use lib.ListN.{length}
use Rattle.std.specs.Prelude.{Option, Some, None}
use Rattle.tape.specs.declared.BlockFault.{BlockFault}
use Rattle.lists.specs.Pick.{Always}
use Rattle.lists.proofs.Cases.{by_test, pick_told}
use Rattle.signals.specs.Codes.{command_of, control_mode, format_mode, position_mode, read_mode, single_mode, write_mode}
use Rattle.signals.specs.Numbers.{pointer_limit}
use Rattle.signals.specs.declared.codes.Command.{Command}
use Rattle.signals.specs.declared.codes.Command.TheVariants as command
use Rattle.signals.specs.declared.packet.Header.{Header}
use Rattle.signals.specs.declared.packet.Packet.{Packet}
use Rattle.state.specs.Checks.{buffer_wrong}
use Rattle.state.specs.declared.Tape.{Tape}
use Rattle.state.specs.declared.Unit.{Unit}
use Rattle.state.proofs.Tests.{either}
use Rattle.moves.specs.Counting.{how_many}
use Rattle.moves.specs.Seeking.{sought}
use Rattle.moves.specs.declared.seeking.Sought.{Sought}
use Rattle.moves.specs.declared.seeking.Sought.TheVariants as sought-as
use Rattle.motions.specs.Parts.{laid_blocks}
use Rattle.motions.specs.Writes.{behind_gap, no_room, retried, retried_under, retried_by, retried_by_under, written_at, written_at_under, written_motion_under}
use Rattle.motions.specs.declared.parts.Laid.{Laid}
use Rattle.motions.specs.declared.parts.Ending.{Ending}
use Rattle.std.specs.Prelude.{Ok, Err}
use Rattle.commands.specs.Commands.{carried_out, carried_out_under, characteristics_at, characterized, characterized_under, formatted_under, plain_effect_under, positioned_by, positioned_by_under, refused_characteristics_under, released, rewound_under, taken_characteristics_under, unloaded_under, written_by_under}
use Rattle.commands.specs.Ends.{motion_plan, still, told_under, untold}
use Rattle.state.proofs.Behind.{in_block}
use Rattle.commands.specs.Answers.{Answer, bad_block}
use Rattle.commands.specs.declared.plans.Done.TheVariants as answer
use Rattle.commands.specs.declared.plans.Plan.{Plan}
use Rattle.advance.specs.Rules.{reverse_first, writes}
use Rattle.advance.specs.Steps.{advanced}
use Rattle.demands.specs.Done.{Gapped, RunsOn, at_once, after_gap, way}
use Rattle.demands.specs.Faults.{FirstFault, ReadOver, nothing_yet, then_gap}
use Rattle.demands.specs.MustRead.{MustRead, of_many, of_one}
use Rattle.demands.specs.Saying.{count_asked, mark_at_start, rule_asked}
use Rattle.demands.specs.Stops.{SpaceRefused}
use Rattle.demands.specs.Ways.{Way, attention, bad_pointer, carried, header, idle, locked, lost, no_buffer, no_extent, no_header, no_words, no_execution, not_mounted, not_owned, packet, started, unknown}
use Rattle.demands.proofs.Done.{FirstBad, position_mode_lem, position_reverse, read_command, read_refused}
use Rattle.demands.proofs.Faults.{first_here}
use Rattle.demands.proofs.Meets.{Answers, Comes, Meets, meets, motion_answers}
use Rattle.demands.proofs.Stopping.{space_comes, space_of_none}
use Rattle.demands.proofs.Ways.{advanced_way}
use Rattle.std.specs.Prelude.{Result}
use Rattle.tape.specs.declared.Damage.{Damage}

-- what the block named means, said in other words
answers_as : (F G : BlockFault → ℕ → Type 0) (a : Answer) → ((why : BlockFault) (k : ℕ) → F why k → G why k) → Answers F a → Answers G a
answers_as F G (Ok (answer.Step i)) f h = tt
answers_as F G (Ok answer.Idle) f h = tt
answers_as F G (Err r) f h = in_block Always f r h

-- the commands that read one object: a Read, and a retry, which goes in reverse first
abbrev reads_one : Header → Bool
reads_one h = eqb h.code 1 || (writes h && eqb h.mode 2)

read_one : (h : Header) → h.code ≡ 1 → reads_one h ≡ true
read_one h y = rw y

write_one : (h : Header) → h.code ≡ 5 → h.mode ≡ 2 → (reads_one h ≡ true) × (reverse_first h ≡ true)
write_one h y z = (rw (y, z), rw (y, z))

format_one : (h : Header) → h.code ≡ 9 → h.mode ≡ 2 → (reads_one h ≡ true) × (reverse_first h ≡ true)
format_one h y z = (rw (y, z), rw (y, z))

module _ (F : BlockFault → ℕ → Type 0) where
  -- nothing is read where an object is written
  written_none : (t : Tape) (blocks : ℕ) (l : Laid) (mark : Bool) → Comes (λ x. Always) F (written_at t blocks l mark)
  unfolding written_at_under no_room written_motion_under
  written_none t blocks l mark = either (Comes (λ x. Always) F) (ltb blocks (l.at + laid_blocks l)) _ _ tt tt

  -- nor by Write Characteristics, taken or refused
  characterized_none : (v : Unit) (m : List ℕ) (x : Packet) (ie : Bool) → Answers F (characterized v m x ie).answer
  unfolding characterized_under refused_characteristics_under taken_characteristics_under told_under
  characterized_none v m x ie =
      let c = characteristics_at m x in
      let P : Plan → Type 0 = λ q. Answers F q.answer in
      either P (ltb x.count 6) _ _ tt (either P (leb pointer_limit c.address || buffer_wrong c (length m)) _ _ tt tt)

  -- nor by a rewind
  rewind_none : (v : Unit) (m s : List ℕ) (h : Header) (x : Packet) (mode : ℕ) → 4 ≤ mode → Answers F (carried_out v m s h x (position_mode mode)).answer
  unfolding position_mode carried_out_under rewound_under plain_effect_under told_under
  rewind_none v m s h x mode l =
      let other : (k : ℕ) → k < 4 → eqb mode k ≡ false = λ k j. ne_eqb mode k (λ z. omega arith) in
      rw (other 0 (omega arith), other 1 (omega arith), other 2 (omega arith), other 3 (omega arith))
      (either (λ c. Answers F (carried_out v m s h x c).answer) (eqb mode 4) (Some command.Rewind) None tt tt)

module _ (u : Unit) (m s : List ℕ) (inside : u.tape.position ≤ u.tape.end) where
  -- a command that runs
  module _ (ran : RunsOn u m s) where
    abbrev Must : Option Command → Type 0
    Must c = Answers (MustRead u m s) (carried_out (started u m s) m s (header u m s) (packet u m s) c).answer

    abbrev Moves : Result Ending Damage → Type 0
    Moves y = Answers (MustRead u m s) (motion_plan (started u m s) (header u m s).ie y).answer

    -- a Read
    read_must : (header u m s).code ≡ 1 → Must (read_mode (header u m s).mode)
    read_must code =
        let h : Header = header u m s in
        subst Must (read_command h.code h.mode code)
        (answers_as (FirstBad u m s) (MustRead u m s) (carried_out (started u m s) m s h (packet u m s) (command_of h.code h.mode)).answer
        (λ why k (q, g, y). of_one ran (read_one h code) g y) (read_refused u m s inside code ran))

    -- a retry, by what its space back met
    module _ (l : Laid) (mark : Bool) (one : reads_one (header u m s) ≡ true) where
      retry_by : (f : Result Sought Damage) → Meets s u.tape.end (way u m s) (Gapped u m s) (λ q t g y. after_gap g y) u.tape.position f
          → Comes (λ x. Always) (MustRead u m s) (retried_by u.tape u.lengths.blocks l mark f)
      unfolding retried_by_under
      retry_by (Ok (sought-as.Record n q)) o = written_none (MustRead u m s) u.tape u.lengths.blocks (behind_gap l q) mark
      retry_by (Ok (sought-as.Mark q)) o = written_none (MustRead u m s) u.tape u.lengths.blocks (behind_gap l q) mark
      retry_by (Ok (sought-as.Nothing q)) o = tt
      retry_by (Err d) (q, g, y) = of_one ran one g y

      retry_must : way u m s ≡ true → Moves (retried s u.tape u.lengths.blocks l mark)
      unfolding retried_under
      retry_must back =
          let by : Bool → Result Ending Damage = λ b. retried_by u.tape u.lengths.blocks l mark (sought s b u.tape.position u.tape.end) in
          subst (λ b. Moves (by b)) back
          (motion_answers (λ x. Always) (MustRead u m s) (started u m s) (header u m s).ie (by (way u m s))
          (retry_by _ (meets s u.tape.end (way u m s) (Gapped u m s) (λ q t g y. after_gap g y) u.tape.position at_once)))

    -- an object written where the tape stands
    written_must : (l : Laid) (mark : Bool) → Moves (written_at u.tape u.lengths.blocks l mark)
    written_must l mark =
        motion_answers (λ x. Always) (MustRead u m s) (started u m s) (header u m s).ie (written_at u.tape u.lengths.blocks l mark) (written_none (MustRead u m s) u.tape u.lengths.blocks l mark)

    write_must : (header u m s).code ≡ 5 → Must (write_mode (header u m s).mode)
    unfolding write_mode carried_out_under written_by_under plain_effect_under told_under
    write_must code =
        let mode : ℕ = (header u m s).mode in
        either Must (eqb mode 0) _ _ (written_must _ _) (pick_told Must (eqb mode 2) _ _ (λ t. let w = write_one (header u m s) code (eqb-true mode 2 t) in retry_must _ _ w.0 w.1) (λ t. tt))

    format_must : (header u m s).code ≡ 9 → Must (format_mode (header u m s).mode)
    unfolding format_mode carried_out_under formatted_under plain_effect_under told_under
    format_must code =
        let mode : ℕ = (header u m s).mode in
        either Must (eqb mode 0) _ _ (written_must _ _)
        (either Must (eqb mode 1) _ _ (written_must _ _) (pick_told Must (eqb mode 2) _ _ (λ t. let w = format_one (header u m s) code (eqb-true mode 2 t) in retry_must _ _ w.0 w.1) (λ t. tt)))

    -- a Position mode 0 to 3, with a count or without
    abbrev Refuses : BlockFault → ℕ → Type 0
    Refuses = SpaceRefused s u.tape (rule_asked u m s) (count_asked u m s) (mark_at_start u m s)

    space_answers : Answers Refuses (positioned_by (started u m s) s (header u m s) (count_asked u m s) (way u m s)).answer
    unfolding positioned_by_under
    space_answers =
        let v : Unit = started u m s in
        let ie : Bool = (header u m s).ie in
        let n : ℕ = how_many (count_asked u m s) in
        by_test (eqb n 0)
        (λ z. motion_answers (λ x. Always) Refuses v ie _ (rw (space_of_none s u.tape (rule_asked u m s) (count_asked u m s) u.characteristics.enb (eqb-true n 0 z)) tt))
        (λ z. motion_answers _ Refuses v ie _ (space_comes s u.tape (rule_asked u m s) (count_asked u m s) u.characteristics.enb inside z))

    position_must : (header u m s).code ≡ 8 → Must (position_mode (header u m s).mode)
    position_must code =
        let h : Header = header u m s in
        let by : Bool → Plan = λ b. positioned_by (started u m s) s h (count_asked u m s) b in
        by_test (ltb h.mode 4)
        (λ t.
        let few : h.mode < 4 = ltb-true h.mode 4 t in
        let is : carried_out (started u m s) m s h (packet u m s) (position_mode h.mode) ≡ by (way u m s) = position_mode_lem (started u m s) m s h (packet u m s) h.mode few ∙ ap by (sym (position_reverse h code)) in
        rw is (answers_as Refuses (MustRead u m s) (by (way u m s)).answer (λ why k x. of_many ran code few x) space_answers))
        (λ t. rewind_none (MustRead u m s) (started u m s) m s h (packet u m s) h.mode (ltb-false h.mode 4 t))

    -- every command, by its code
    command_must : Must (command_of (header u m s).code (header u m s).mode)
    unfolding command_of single_mode control_mode carried_out_under released unloaded_under plain_effect_under told_under untold still
    command_must =
        let code : ℕ = (header u m s).code in
        let mode : ℕ = (header u m s).mode in
        pick_told Must (eqb code 1) _ _ (λ t. read_must (eqb-true code 1 t)) (λ f.
        pick_told Must (eqb code 4) _ _ (λ t. either Must (eqb mode 0) _ _ (characterized_none (MustRead u m s) (started u m s) m (packet u m s) (header u m s).ie) tt) (λ f.
        pick_told Must (eqb code 5) _ _ (λ t. write_must (eqb-true code 5 t)) (λ f.
        pick_told Must (eqb code 8) _ _ (λ t. position_must (eqb-true code 8 t)) (λ f.
        pick_told Must (eqb code 9) _ _ (λ t. format_must (eqb-true code 9 t)) (λ f.
        either Must (eqb code 10) _ _ (either Must (eqb mode 0) _ _ tt (either Must (eqb mode 1) _ _ tt (either Must (eqb mode 2) _ _ tt tt)))
        (either Must (eqb code 11) _ _ (either Must (eqb mode 0) _ _ tt tt)
        (either Must (eqb code 15) _ _ (either Must (eqb mode 0) _ _ tt tt) tt)))))))

  -- only a command carried out can answer with a block: the other ways answer Done or Idle
  way_must : {x : Plan} → Way u m s x → Answers (MustRead u m s) x.answer
  unfolding told_under untold still
  way_must (idle a b) = tt
  way_must (attention a b) = tt
  way_must (no_header a b) = tt
  way_must (not_owned w a) = tt
  way_must (lost w a b) = tt
  way_must (unknown b a) = tt
  way_must (no_buffer b a c) = tt
  way_must (no_words b a c d) = tt
  way_must (bad_pointer f a) = tt
  way_must (not_mounted f a b) = tt
  way_must (locked f a b c) = tt
  way_must (no_execution f a b c d) = tt
  way_must (no_extent r a) = tt
  way_must (carried r a) = command_must (r, a)

-- "7 a block that mount or the command must read is damaged or out of place (its number is given)": the command must read it
pub advanced_must : (u : Unit) (m s : List ℕ) (why : BlockFault) (k : ℕ) → u.tape.position ≤ u.tape.end → (advanced u m s).answer ≡ bad_block why k → MustRead u m s why k
advanced_must u m s why k inside y =
    let a : Answers (MustRead u m s) (advanced u m s).answer = way_must u m s inside (advanced_way u m s) in
    rw y at a

-- gaps were read over
gapped_over : (u : Unit) (m s : List ℕ) {q : ℕ} → Gapped u m s q → ReadOver s u.tape.end (way u m s) u.tape.position q
gapped_over u m s at_once = nothing_yet
gapped_over u m s (after_gap g y) = then_gap (gapped_over u m s g) y

-- a block that a command must read is the first at fault that lies ahead of where the tape stands, the way of its first stage
pub must_first : (u : Unit) (m s : List ℕ) (why : BlockFault) (k : ℕ) → u.tape.position ≤ u.tape.end → MustRead u m s why k → FirstFault s u.tape.end (reverse_first (header u m s)) u.tape.position why k
must_first u m s why k inside (of_one ran one g y) = first_here s u.tape.end (way u m s) inside (gapped_over u m s g) y
must_first u m s why k inside (of_many ran code few x) = first_here s u.tape.end (way u m s) inside x.over x.bad
