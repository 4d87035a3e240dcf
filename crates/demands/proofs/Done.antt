-- What a Read stored, or a Position passed, and the residual word that stands in the message buffer make up the count asked.
use mathlib.Core.Bool.{Bool, true, false, ◌||◌, ◌&&◌, not, or-false}
use mathlib.Core.List.{List, [], ◌∷◌}
use mathlib.Core.Path.{◌≡◌, refl, sym, ap, subst, ◌∙◌}
use Prim.Native.Nat.{ℕ, zero, suc, ◌+◌, ◌-◌, ◌*◌, ◌/◌, ◌%◌, ◌<◌, ◌≤◌, min}
use native.Mathlib.Nat.{suc-add}
use native.Mathlib.Omega.{arith}
use borrow.Author.Tests.{eqb-true, lt-ltb, ltb-false, ltb-true}
use lib.Dec.{eqb, leb, ltb}
use lib.ListN.{length, get_or, length-drop, length-take}
use Rattle.std.specs.Prelude.{Option}
use Rattle.lists.specs.Pick.{Always, pick}
use Rattle.lists.specs.Places.{placed}
use Rattle.lists.specs.Words.{word_at}
use Rattle.lists.proofs.Cases.{pick_told}
use Rattle.lists.proofs.Stores.{get_d_within}
use Rattle.tape.specs.Bytes.{moved_bytes, moved_to, read_into, record_bytes}
use Rattle.tape.specs.Numbers.{block_bytes, pieces_of}
use Rattle.tape.specs.Objects.{images_of}
use Rattle.tape.specs.Pass.{beyond, lowest, passed}
use Rattle.tape.specs.Reading.{block_at, class_at, class_at_under, class_of}
use Rattle.tape.specs.declared.Block.TheVariants as block
use Rattle.tape.specs.declared.Met.{Met}
use Rattle.tape.specs.declared.Met.TheVariants as met
use Rattle.tape.proofs.Accepted.{clash, pick_first}
use Rattle.tape.proofs.Outcomes.{Outcome, at_fault, outcome, over_gap, over_mark, over_record}
use Rattle.tape.proofs.Outcomes as outcomes
use Rattle.tape.proofs.Passes.{PiecesAt}
use Rattle.tape.proofs.Recorded.{record_length}
use Rattle.tape.proofs.Within.{gap_within}
use Rattle.tape.specs.declared.BlockFault.{BlockFault}
use Rattle.signals.specs.Bits.{BOT, EOT, IE, ILA, MOT, NEF, ONL, OPI, REV, RIB, RLL, RLS, VCK, WLE, WLK}
use Rattle.signals.specs.Codes.{command_of, position_mode, read_mode}
use Rattle.signals.specs.Message.{flag_of, message_bytes, message_of, messaged, status_byte, words_bytes, xst0_of}
use Rattle.signals.specs.Residuals.{residual_word}
use Rattle.signals.specs.declared.codes.Command.{Command}
use Rattle.signals.specs.declared.message.End.{End}
use Rattle.signals.specs.declared.message.Status.{Status}
use Rattle.signals.specs.declared.counts.Residual.{Residual}
use Rattle.signals.specs.declared.packet.Header.{Header}
use Rattle.signals.specs.declared.packet.Packet.{Packet}
use Rattle.signals.proofs.Messages.{length_words, xst0_sum}
use Rattle.state.specs.declared.Tape.{Tape}
use Rattle.state.specs.declared.Unit.{Unit}
use Rattle.state.proofs.Tests.{either, neither}
use Rattle.moves.specs.Counting.{count_of, how_many, of_marks}
use Rattle.moves.specs.Seeking.{sought}
use Rattle.moves.specs.Spacing.{came, record_turn, spaced, turn_after, turn_of}
use Rattle.moves.specs.declared.seeking.Sought.{Sought}
use Rattle.moves.specs.declared.seeking.Sought.TheVariants as sought-as
use Rattle.moves.specs.declared.spacing.Count.{Count}
use Rattle.moves.specs.declared.spacing.Rule.{Rule}
use Rattle.moves.specs.declared.spacing.Span.{Span}
use Rattle.moves.specs.declared.spacing.Stop.{Stop}
use Rattle.moves.specs.declared.spacing.Spaced.{Spaced}
use Rattle.moves.specs.declared.spacing.Stuck.{Stuck}
use Rattle.moves.proofs.Counting.{kind_asked, mark_number, mark_stops_number, number_asked, record_number}
use Rattle.moves.proofs.Rounds.{spaced_keeps}
use Rattle.moves.proofs.Turns.{Counts, SpanHas, mark_turns, sound_has}
use Rattle.motions.specs.Parts.{no_lay, resting, standing}
use Rattle.motions.specs.Reads.{first_block, mark_end, nothing_end, on_record, read_end, read_motion, read_one, read_one_under, read_then_space_under, reread, reread_under, space_back, space_back_under, space_then_read_under, stage_by, stage_of, stage_of_under, stop_motion}
use Rattle.motions.specs.Spaces.{positioned, positioned_under, space_motion, space_motion_by, start_span}
use Rattle.motions.specs.declared.parts.Ending.{Ending}
use Rattle.motions.specs.declared.parts.Laid.{Laid}
use Rattle.motions.specs.declared.reads.Buffer.{Buffer}
use Rattle.motions.specs.declared.reads.Stage.{Stage}
use Rattle.motions.proofs.Ends.{flag_most}
use Rattle.motions.proofs.Onward.{StageHas, on_record_lem}
use Rattle.commands.specs.Commands.{asked, carried_out, carried_out_under, positioned_by, positioned_by_under, read_by_under, reread_by_under}
use Rattle.commands.specs.Ends.{ended, motion_plan, motion_plan_under, motion_seen, status_of, still, told, told_under, told_unit}
use Rattle.commands.specs.declared.plans.Plan.{Plan}
use Rattle.storing.specs.Stored.{laid_object, laid_objects, laid_on, memory_after, moved_on, reel_after}
use Rattle.storing.proofs.Lengths.{length_moved}
use Rattle.storing.proofs.Ways.{message_sent}
use Rattle.advance.specs.Rules.{has_extent, is_illegal, reverse_first, whole_count}
use Rattle.advance.specs.Steps.{advanced}
use Rattle.advance.proofs.Planned.{advanced_seven}
use Rattle.demands.specs.Done.{RunsOn, Gapped, ReadDone, ReadStops, Sent, SpaceDone, again, at_end, at_mark, at_once, at_record, after_gap, not_run, passed_in, reads, way}
use Rattle.demands.specs.Faults.{ReadOver, nothing_yet, then_gap, then_mark, then_record}
use Rattle.demands.specs.Saying.{count_asked}
use Rattle.demands.specs.Ways.{Fetched, Way, attention, bad_pointer, carried, ends, header, idle, locked, lost, no_buffer, no_extent, no_header, no_words, no_execution, not_mounted, not_owned, packet, started, unknown}
use Rattle.demands.proofs.Faults.{sought_back}
use Rattle.demands.proofs.Meets.{Answers, Comes, Meets, meets, motion_answers}
use Rattle.demands.proofs.ReadBack.{read_found}
use Rattle.demands.proofs.Residuals.{left_told, residual_word_lem}
use Rattle.demands.proofs.Ways.{advanced_way}
use Rattle.std.specs.Prelude.{Result, Ok, Err, IfOk}
use Rattle.tape.specs.declared.Damage.{Damage}
use Rattle.tape.specs.Damage.{damage}

-- word k stands in the bytes of words, whatever the words are: a word's high byte is all of it above its low byte
word_in : (ws : List ℕ) (k : ℕ) → k < length ws → word_at (words_bytes ws) (2 * k) ≡ get_or ws k 0
unfolding words_bytes
word_in [] k h = absurd (omega arith)
word_in (w ∷ ws) zero h = omega arith
word_in (w ∷ ws) (suc k) h =
    let two : 2 * suc k ≡ suc (suc (2 * k)) = omega arith in
    rw (two, suc-add (suc (2 * k)) 1, suc-add (2 * k) 1) (word_in ws k (omega arith))

-- and stands in memory l once they went to address a
word_sent : (l : List ℕ) (a : ℕ) (ws : List ℕ) (k : ℕ) → k < length ws → a + 2 * length ws ≤ length l → word_at (messaged l a ws) (a + 2 * k) ≡ get_or ws k 0
unfolding messaged
word_sent l a ws k h room =
    let b : List ℕ = words_bytes ws in
    let long : length b ≡ 2 * length ws = length_words ws in
    let next : a + 2 * k + 1 ≡ a + (2 * k + 1) = omega arith in
    rw (next, get_d_within b l a (2 * k) (omega arith) (omega arith), get_d_within b l a (2 * k + 1) (omega arith) (omega arith)) (word_in ws k h)

module _ (p : Plan) (m s : List ℕ) (sends : p.sends ≡ true) where
  -- memory after a plan that sends: its message over the data that it moved
  message_over : memory_after p m s ≡ messaged (moved_on (reel_after p m s) p.moved m) p.unit.characteristics.address p.message
  unfolding memory_after
  message_over = sym (message_sent p (moved_on (reel_after p m s) p.moved m) sends)

  -- word k of its message stands in the message buffer
  pub sent_word : length p.message ≡ 7 → p.unit.characteristics.address + message_bytes ≤ length m → (k : ℕ) → k < 7 → word_at (memory_after p m s) (p.unit.characteristics.address + 2 * k) ≡ get_or p.message k 0
  sent_word seven room k h =
      let a : ℕ = p.unit.characteristics.address in
      let l : List ℕ = moved_on (reel_after p m s) p.moved m in
      ap (λ (b : List ℕ). word_at b (a + 2 * k)) message_over
      ∙ word_sent l a p.message k (omega arith) (omega (arith, length_moved (reel_after p m s) p.moved m))

-- what an end found leaves XST0's low byte to the unit's condition
abbrev pub Upper : ℕ → Type 0
Upper w = (w % 256 ≡ 0) × (w ≤ 0xFF00)

upper_length : (short long : Bool) → Upper (flag_of short RLS + flag_of long RLL)
upper_length true true = (refl, omega arith)
upper_length true false = (refl, omega arith)
upper_length false true = (refl, omega arith)
upper_length false false = (refl, omega arith)

-- which takes no more than a byte
status_most : (x : Status) → status_byte x ≤ 0xFF
status_most x =
    omega (arith, flag_most x.mot MOT, flag_most x.onl ONL, flag_most x.ie IE, flag_most x.vck VCK, flag_most x.wlk WLK, flag_most x.bot BOT, flag_most x.eot EOT)

above : (w b : ℕ) → w % 256 ≡ 0 → b ≤ 0xFF → (w + b) / 256 * 256 ≡ w
above w b z l = omega arith

upper_word : (w : ℕ) (x : Status) → Upper w → xst0_of w x / 256 * 256 ≡ w
upper_word w x (z, l) = ap (λ (n : ℕ). n / 256 * 256) (xst0_sum w x l) ∙ above w (status_byte x) z (status_most x)

-- of an end that is told, word 2 is its residual, word 3 shows what it found, word 6 is its XST3
module _ (v : Unit) (ie : Bool) (x : Ending) (m s : List ℕ) (sends : (told v ie x).sends ≡ true) (room : v.characteristics.address + message_bytes ≤ length m) where
  pub told_word : word_at (memory_after (told v ie x) m s) (v.characteristics.address + 4) ≡ residual_word x.end.residual
  unfolding told_under told_unit ended message_of
  told_word = sent_word (told v ie x) m s sends refl room 2 (omega arith)

  pub told_found : Upper x.end.found → word_at (memory_after (told v ie x) m s) (v.characteristics.address + 6) / 256 * 256 ≡ x.end.found
  unfolding told_under told_unit ended message_of
  told_found up = ap (λ (n : ℕ). n / 256 * 256) (sent_word (told v ie x) m s sends refl room 3 (omega arith)) ∙ upper_word x.end.found (status_of (told_unit v x) ie (motion_seen v.tape.position x)) up

  pub told_xst3 : word_at (memory_after (told v ie x) m s) (v.characteristics.address + 12) ≡ x.end.xst3
  unfolding told_under told_unit ended message_of
  told_xst3 = sent_word (told v ie x) m s sends refl room 6 (omega arith)

-- a block that is read as a piece lies on the reel
piece_held : (s : List ℕ) (k n i : ℕ) → class_at s k ≡ Ok (block.Piece n i) → block_bytes * (k + 1) ≤ length s
unfolding class_at_under
piece_held s k n i y =
    let held = (pick_first (ltb k (length s / block_bytes)) (class_of (block_at s k)) _ (Ok (block.Piece n i)) y (λ h. clash cc)).0 in
    omega (arith, ltb-true k (length s / block_bytes) held)

-- the first block of a record that was passed, and of one that was passed back
first_of : (reverse : Bool) (q n : ℕ) → first_block reverse n (beyond reverse q (pieces_of n)) ≡ lowest reverse q (pieces_of n)
unfolding first_block
first_of true q n = refl
first_of false q n = omega arith

first_back : (reverse : Bool) (q n : ℕ) → first_block (not reverse) n q ≡ lowest reverse q (pieces_of n)
unfolding first_block
first_back true q n = refl
first_back false q n = refl

module _ (s : List ℕ) where
  -- all pieces of a record of n bytes stand on the reel, from block p on
  abbrev Standing : ℕ → ℕ → Type 0
  Standing n p = (1 ≤ n) × PiecesAt s p n

  -- so the reel holds its blocks, and gives all its bytes
  stands_long : (n p : ℕ) → Standing n p → length (record_bytes s p n) ≡ n
  stands_long n p (some, all) =
      let last : ℕ = pieces_of n - 1 in
      record_length s p n (omega (arith, piece_held s (p + last) n last (all last (omega arith))))

  -- a record that was met from q on stands, and the position beyond it tells its first block
  abbrev Stood : Bool → ℕ → Result Met Damage → Type 0
  Stood reverse q (Ok (met.Record n t)) = Standing n (lowest reverse q (pieces_of n)) × (first_block reverse n t ≡ lowest reverse q (pieces_of n))
  Stood reverse q (Ok (met.Mark t)) = Always
  Stood reverse q (Ok (met.Gap t)) = Always
  Stood reverse q (Ok met.Nothing) = Always
  Stood reverse q (Err d) = Always

  stood_by_lem : (reverse : Bool) (q e : ℕ) (x : Result Met Damage) → Outcome s reverse q e x → Stood reverse q x
  stood_by_lem reverse q e x (outcomes.at_end z y) = rw y tt
  stood_by_lem reverse q e x (over_record n some most fits all y) = rw y ((some, all), first_of reverse q n)
  stood_by_lem reverse q e x (over_mark f c y) = rw y tt
  stood_by_lem reverse q e x (over_gap f c y) = rw y tt
  stood_by_lem reverse q e x (at_fault k y) = rw y tt

  -- the pass over it said so
  passed_stands : (reverse : Bool) (q e : ℕ) {n t : ℕ} → passed s reverse q e ≡ Ok (met.Record n t) → Stood reverse q (Ok (met.Record n t))
  passed_stands reverse q e y = rw y at (stood_by_lem reverse q e (passed s reverse q e) (outcome s reverse q e))

-- how many bytes of a record are moved, either way
length_some : (reverse : Bool) (count : ℕ) (d : List ℕ) → length (moved_bytes reverse count d) ≡ min (length d) count
unfolding moved_bytes
length_some true count d = rw length-drop (omega arith)
length_some false count d = rw length-take (omega arith)

-- and where each of them goes: into the buffer
chosen_place : (reverse : Bool) (pointer count n i : ℕ) → i < min n count → (pointer ≤ moved_to reverse pointer count n + i) × (moved_to reverse pointer count n + i < pointer + count)
unfolding moved_to
chosen_place true pointer count n i l = (omega arith, omega arith)
chosen_place false pointer count n i l = (omega arith, omega arith)

-- the bytes that are moved tell it as well as all of the record's
place_some : (reverse : Bool) (pointer count n k : ℕ) → k ≡ min n count → moved_to reverse pointer count n ≡ moved_to reverse pointer count k
unfolding moved_to
place_some true pointer count n k l = omega arith
place_some false pointer count n k l = refl

-- the advance of the state u over memory m and reel s
module _ (u : Unit) (m s : List ℕ) where
  abbrev pub asks : Buffer
  asks = asked (header u m s) (packet u m s)

  -- bytes from this place on that lie in the Read's buffer, and in memory
  abbrev pub Within : ℕ → List ℕ → Type 0
  Within place l = (i : ℕ) → i < length l → (asks.pointer ≤ place + i) × (place + i < asks.pointer + asks.count.0) × (place + i < length m)

  -- and from the right place on: the first of the buffer, or for a read in reverse the one that lets them end with it
  abbrev Filled : ℕ → List ℕ → Type 0
  Filled place l = place ≡ moved_to (reads u m s) asks.pointer asks.count.0 (length l)

  -- what an end of a Read stores of the reel, at which place; as many bytes as the count but for the residual
  record ReadAs (x : Ending) : Type 0 where
    stored : List ℕ
    ends_so : ReadStops u m s stored x.end.class x.end.found x.end.xst3 x.tape.position
    upper : Upper x.end.found
    place : ℕ
    filled : Filled place stored
    within : Within place stored
    laid : x.laid ≡ no_lay
    bytes : moved_on s x.moved m ≡ placed asks.swb m place stored
    counted : length stored + residual_word x.end.residual ≡ asks.count.0

  -- an end that moves nothing and gives the whole count
  rests_as : (x : End) (t : Tape) → ReadStops u m s [] x.class x.found x.xst3 t.position → Upper x.found → residual_word x.residual ≡ asks.count.0 → ReadAs (resting x t)
  unfolding moved_on read_into moved_bytes placed
  rests_as x t y up z =
      record { stored = []; ends_so = y; upper = up; place = _; filled = refl; within = λ i l. absurd (omega arith); laid = refl; bytes = refl; counted = omega (arith, z) }

  -- the record of n bytes that the first stage passed up to t, and where it was met
  record Passed (n t : ℕ) : Type 0 where
    from : ℕ
    ran : RunsOn u m s
    gapped : Gapped u m s from
    below : from ≤ u.tape.end
    met_as_lem : passed s (way u m s) from u.tape.end ≡ Ok (met.Record n t)

  -- a position behind nothing but gaps, inside the recorded part
  abbrev Here : ℕ → Type 0
  Here q = Gapped u m s q × (q ≤ u.tape.end)

  here_behind : (q t : ℕ) → Here q → passed s (way u m s) q u.tape.end ≡ Ok (met.Gap t) → Here t
  here_behind q t (g, h) y = (after_gap g y, (gap_within s (way u m s) q u.tape.end h y).below)

  -- what the search of a first stage met
  abbrev First : Result Sought Damage → Type 0
  First = Meets s u.tape.end (way u m s) Here here_behind u.tape.position

  first_met_lem : u.tape.position ≤ u.tape.end → First (sought s (way u m s) u.tape.position u.tape.end)
  first_met_lem inside = meets s u.tape.end (way u m s) Here here_behind u.tape.position (at_once, inside)

  -- block k is met in the first object ahead that is no gap
  abbrev pub FirstBad : BlockFault → ℕ → Type 0
  FirstBad why k = (q : ℕ) × Gapped u m s q × (passed s (way u m s) q u.tape.end ≡ Err (damage why k))

  -- how the motion of a Read comes out
  abbrev ReadComes : Result Ending Damage → Type 0
  ReadComes = Comes ReadAs FirstBad

  -- the first stage ends so where it is over, and goes on from a record that it passed
  abbrev StageAs : Result Stage Damage → Type 0
  StageAs = StageHas ReadComes Passed

  nothing_as : (reverse : Bool) (q : ℕ) → ReadStops u m s [] (pick reverse 2 6) 0 (pick reverse (REV + RIB) OPI) q → ReadComes (stop_motion (nothing_end asks.count reverse) q u.tape.end)
  unfolding stop_motion nothing_end
  nothing_as true q y = rests_as _ _ y (refl, omega arith) refl
  nothing_as false q y = rests_as _ _ y (refl, omega arith) refl

  stage_by_lem : (f : Result Sought Damage) → u.tape.position ≤ u.tape.end → RunsOn u m s → First f → StageAs (stage_by u.tape asks.count (way u m s) f)
  unfolding stage_by stop_motion mark_end
  stage_by_lem (Ok (sought-as.Record n t)) l c (q, (g, h), y) = record { from = q; ran = c; gapped = g; below = h; met_as_lem = y }
  stage_by_lem (Ok (sought-as.Mark t)) l c (q, (g, h), y) = rests_as _ _ (at_mark c g y) (refl, omega arith) refl
  stage_by_lem (Ok (sought-as.Nothing q)) l c ((g, h), z) = nothing_as (way u m s) q (at_end c g (z l))
  stage_by_lem (Err d) l c (q, (g, h), y) = (q, g, y)

  -- a record that is moved: read either way, from its first block p on
  moves_as : (reverse : Bool) (n b p : ℕ) (t : Tape) (rev : Bool) → asks.pointer + asks.count.0 ≤ length m → reads u m s ≡ reverse → first_block reverse n b ≡ p → Standing s n p
      → ReadStops u m s (moved_bytes reverse asks.count.0 (record_bytes s p n)) (pick (eqb n asks.count.0) 0 2) (flag_of (ltb n asks.count.0) RLS + flag_of (ltb asks.count.0 n) RLL) (flag_of rev REV) t.position
      → ReadComes (read_motion asks reverse n b t rev)
  unfolding read_motion read_end moved_on read_into
  moves_as reverse n b p t rev fits go first k y =
      let d : List ℕ = record_bytes s p n in
      record {
        stored = moved_bytes reverse asks.count.0 d;
        ends_so = y;
        upper = upper_length (ltb n asks.count.0) (ltb asks.count.0 n);
        place = moved_to reverse asks.pointer asks.count.0 (length d);
        filled = rw go (place_some reverse asks.pointer asks.count.0 (length d) _ (length_some reverse asks.count.0 d));
        laid = refl;
        bytes = rw first;
        within = λ i l. let at = chosen_place reverse asks.pointer asks.count.0 (length d) i (omega (arith, length_some reverse asks.count.0 d)) in (at.0, at.1, omega (arith, at.1));
        counted = omega (arith, length_some reverse asks.count.0 d, stands_long s n p k);
      }

  -- what `at_record` says, by the order and the ways of the stages
  record_so : (reverse rev : Bool) (b : ℕ) {n t : ℕ} (x : Passed n t) → reads u m s ≡ reverse → pick (again u m s) (not (way u m s)) (way u m s) ≡ rev → pick (again u m s) x.from t ≡ b
      → ReadStops u m s (moved_bytes reverse asks.count.0 (record_bytes s (lowest (way u m s) x.from (pieces_of n)) n)) (pick (eqb n asks.count.0) 0 2) (flag_of (ltb n asks.count.0) RLS + flag_of (ltb asks.count.0 n) RLL) (flag_of rev REV) b
  record_so reverse rev b x i j k = rw (← i, ← j, ← k) (at_record x.ran x.gapped x.met_as_lem)

  -- from inside the recorded part, with the data in memory (step 10 let it pass)
  module _ (inside : u.tape.position ≤ u.tape.end) (ran : RunsOn u m s) (fits : asks.pointer + asks.count.0 ≤ length m) where
    -- what goes on from the first stage
    goes_on : (f : ℕ → ℕ → Result Ending Damage) → ((n t : ℕ) → Passed n t → ReadComes (f n t)) → ReadComes (on_record (stage_of s u.tape asks.count (way u m s)) f)
    unfolding stage_of_under
    goes_on f on =
        on_record_lem ReadComes Passed _ f
        (stage_by_lem _ inside ran (first_met_lem inside)) on

    -- a Read moves what it passed
    one_as : again u m s ≡ false → ReadComes (read_one s u.tape asks (way u m s))
    unfolding read_one_under
    one_as once =
        goes_on _
        (λ n t x.
        let k = passed_stands s (way u m s) x.from u.tape.end x.met_as_lem in
        moves_as (way u m s) n t _ _ (way u m s) fits (rw once) k.1 k.0 (record_so (way u m s) (way u m s) t x (rw once) (rw once) (rw once)))

    -- a reread's second stage meets the same record, and leads back to where the first met it
    module _ (twice : again u m s ≡ true) {n t : ℕ} (x : Passed n t) where
      second : sought s (not (way u m s)) t u.tape.end ≡ Ok (sought-as.Record n x.from)
      second = sought_back s u.tape.end (way u m s) x.from x.below x.met_as_lem

      then_read : (header u m s).opp ≡ false → ReadComes (read_one s (standing t u.tape.end) asks (not (way u m s)))
      then_read last =
          let k = passed_stands s (way u m s) x.from u.tape.end x.met_as_lem in
          rw (read_found s (not (way u m s)) t u.tape.end n x.from asks second)
          (moves_as (not (way u m s)) n x.from _ _ (not (way u m s)) fits (rw (twice, last)) (first_back (way u m s) x.from n) k.0
          (record_so (not (way u m s)) (not (way u m s)) x.from x (rw (twice, last)) (rw twice) (rw twice)))

      then_space : (header u m s).opp ≡ true → ReadComes (space_back s u.tape.end asks (way u m s) n t)
      unfolding space_back_under stage_of_under stage_by on_record
      then_space first =
          let k = passed_stands s (way u m s) x.from u.tape.end x.met_as_lem in
          rw second
          (moves_as (way u m s) n t _ _ (not (way u m s)) fits (rw (twice, first)) k.1 k.0 (record_so (way u m s) (not (way u m s)) x.from x (rw (twice, first)) (rw twice) (rw twice)))

    reread_as : again u m s ≡ true → ReadComes (reread s u.tape asks (way u m s) (header u m s).opp)
    unfolding reread_under read_then_space_under space_then_read_under
    reread_as twice =
        pick_told ReadComes (header u m s).opp _ _ (λ z. goes_on _ (λ n t x. then_space twice x z)) (λ z. goes_on _ (λ n t x. then_read twice x z))

  -- a plan whose message goes into a buffer inside memory
  abbrev pub Sends : Plan → Type 0
  Sends x = (x.sends ≡ true) × (x.unit.characteristics.address + message_bytes ≤ length m)

  -- what a command that was fetched comes to: an end of steps 8 to 10, that gives the whole count, or what it is carried out as
  data Ran : Plan → Type 0 where
    ended_before : (class shown : ℕ) → Upper shown → (RunsOn u m s → ⊥) → Ran (ends (started u m s) (header u m s).ie class shown (whole_count (header u m s) (packet u m s).count))
    run : RunsOn u m s → Ran (carried_out (started u m s) m s (header u m s) (packet u m s) (command_of (header u m s).code (header u m s).mode))

  fetched_ran : Fetched u m s → {x : Plan} → Way u m s x → Ran x
  fetched_ran f (idle a b) = absurd (clash (cc (a, f.begins.waits.waiting)))
  fetched_ran f (attention a b) = absurd (clash (cc (a, f.begins.waits.waiting)))
  fetched_ran f (no_header a b) = absurd (omega (arith, f.begins.waits.within))
  fetched_ran f (not_owned w a) = absurd (clash (cc (a, f.begins.owns)))
  fetched_ran f (lost w a b) = absurd (clash (cc (b, f.begins.quiet)))
  fetched_ran f (unknown b a) = absurd (clash (cc (a, f.known)))
  fetched_ran f (no_buffer b a c) = absurd (clash (cc (c, f.buffer)))
  fetched_ran f (no_words b a c d) = absurd (omega (arith, f.words))
  fetched_ran f (bad_pointer g a) = ended_before 3 ILA (refl, omega arith) (λ r. clash (cc (a, r.0.pointer)))
  fetched_ran f (not_mounted g a b) = ended_before 3 NEF (refl, omega arith) (λ r. clash (cc (b, r.0.mounted)))
  fetched_ran f (locked g a b c) = ended_before 3 (NEF + WLE) (refl, omega arith) (λ r. clash (cc (c, r.0.unlocked)))
  fetched_ran f (no_execution g a b c d) = ended_before 3 NEF (refl, omega arith) (λ r. clash (cc (d, r.0.executable)))
  fetched_ran f (no_extent r a) = ended_before 5 0 (refl, omega arith) (λ r. clash (cc (a, r.1)))
  fetched_ran f (carried r a) = run (r, a)

  -- a motion that sends ended: a fault sends nothing
  pub motion_sends : (P : Plan → Type 0) (Q : Ending → Type 0) (F : BlockFault → ℕ → Type 0) (v : Unit) (ie : Bool) → ((x : Ending) → Q x → Sends (told v ie x) → P (told v ie x)) → (y : Result Ending Damage) → Comes Q F y → Sends (motion_plan v ie y) → P (motion_plan v ie y)
  unfolding motion_plan_under still
  motion_sends P Q F v ie tells (Ok x) k t = tells x k t
  motion_sends P Q F v ie tells (Err d) k t = absurd (clash (cc t.0))

  -- of a plan, what `ReadDone` says of the advance
  record ReadTold (x : Plan) : Type 0 where
    stored : List ℕ
    found_so : ℕ
    ends_so : ReadStops u m s stored x.unit.registers.class found_so (word_at (memory_after x m s) (x.unit.characteristics.address + 12)) x.unit.tape.position
    shown : word_at (memory_after x m s) (x.unit.characteristics.address + 6) / 256 * 256 ≡ found_so
    place : ℕ
    filled : Filled place stored
    within : Within place stored
    memory : memory_after x m s ≡ messaged (placed (header u m s).swb m place stored) x.unit.characteristics.address x.message
    counted : length stored + word_at (memory_after x m s) (x.unit.characteristics.address + 4) ≡ (packet u m s).count

  -- where nothing is laid the reel stays
  none_laid : (l : Laid) → l ≡ no_lay → laid_on s m l ≡ s
  unfolding laid_on laid_objects laid_object images_of
  none_laid l y = rw y refl

  read_told : (v : Unit) (ie : Bool) (x : Ending) → ReadAs x → Sends (told v ie x) → ReadTold (told v ie x)
  unfolding told_under told_unit ended reel_after
  read_told v ie x k (t, room) =
      record {
        stored = k.stored;
        found_so = x.end.found;
        ends_so = rw (told_xst3 v ie x m s t room) k.ends_so;
        shown = told_found v ie x m s t room k.upper;
        place = k.place;
        filled = k.filled;
        within = k.within;
        memory = message_over (told v ie x) m s t ∙ rw (none_laid x.laid k.laid, k.bytes);
        counted = rw (told_word v ie x m s t room) k.counted;
      }

-- code 1 is a Read, and an end of steps 8 to 10 gives its whole count
pub read_command : (code mode : ℕ) → code ≡ 1 → command_of code mode ≡ read_mode mode
unfolding command_of
read_command code mode y = rw y

read_whole : (h : Header) (count : ℕ) → h.code ≡ 1 → residual_word (whole_count h count) ≡ count
unfolding whole_count
read_whole h count y = rw y

-- and step 10 asks whether its data lie in memory
read_extent : (h : Header) (room to : ℕ) → h.code ≡ 1 → (has_extent h && ltb room to) ≡ false → to ≤ room
read_extent h room to y z = ltb-false room to (rw y at z)

-- its first stage goes in reverse in modes 1 and 2
read_way : (h : Header) (mode : ℕ) → h.code ≡ 1 → h.mode ≡ mode → reverse_first h ≡ (eqb mode 1 || eqb mode 2)
read_way h mode y z = simp (y, z, or-false)

module _ (u : Unit) (m s : List ℕ) (inside : u.tape.position ≤ u.tape.end) (code : (header u m s).code ≡ 1) where
  -- a command whose plan is a motion's that comes out as a Read's does
  abbrev Reads : Option Command → Type 0
  Reads c = (y : Result Ending Damage) × (carried_out (started u m s) m s (header u m s) (packet u m s) c ≡ motion_plan (started u m s) (header u m s).ie y) × ReadComes u m s y

  -- a Read by its mode: every mode that is known reads
  mode_comes : RunsOn u m s → is_illegal (read_mode (header u m s).mode) ≡ false → Reads (read_mode (header u m s).mode)
  unfolding read_mode is_illegal carried_out_under read_by_under reread_by_under
  mode_comes ran known =
      let h : Header = header u m s in
      let mode : ℕ = h.mode in
      let P : Option Command → Type 0 = λ c. is_illegal c ≡ false → Reads c in
      let fits : (asks u m s).pointer + (asks u m s).count.0 ≤ length m = read_extent h (length m) _ code ran.1 in
      let is : (k : ℕ) → eqb mode k ≡ true → (reverse_first h ≡ (eqb k 1 || eqb k 2)) × (leb 2 mode ≡ leb 2 k) = λ k t. (read_way h k code (eqb-true mode k t), ap (leb 2) (eqb-true mode k t)) in
      let one : (b : Bool) → reverse_first h ≡ b → leb 2 mode ≡ false → ReadComes u m s (read_one s u.tape (asks u m s) b) =
      λ b w a. subst (λ b. ReadComes u m s (read_one s u.tape (asks u m s) b)) w (one_as u m s inside ran fits a) in
      let two : (b : Bool) → reverse_first h ≡ b → leb 2 mode ≡ true → ReadComes u m s (reread s u.tape (asks u m s) b h.opp) =
      λ b w a. subst (λ b. ReadComes u m s (reread s u.tape (asks u m s) b h.opp)) w (reread_as u m s inside ran fits a) in
      pick_told P (eqb mode 0) _ _ (λ t i. (_, refl, one false (is 0 t).0 (is 0 t).1))
      (λ f.
      pick_told P (eqb mode 1) _ _ (λ t i. (_, refl, one true (is 1 t).0 (is 1 t).1))
      (λ f.
      pick_told P (eqb mode 2) _ _ (λ t i. (_, refl, two true (is 2 t).0 (is 2 t).1))
      (λ f.
      pick_told P (eqb mode 3) _ _ (λ t i. (_, refl, two false (is 3 t).0 (is 3 t).1))
      (λ f i. absurd (clash (cc i)))))) known

  -- a Read that runs: how its motion comes out
  read_comes : RunsOn u m s → Reads (command_of (header u m s).code (header u m s).mode)
  read_comes ran =
      let h : Header = header u m s in
      let known = (neither (not h.plain) (is_illegal (command_of h.code h.mode)) ran.0.fetched.known).1 in
      subst (λ c. is_illegal c ≡ false → Reads c) (sym (read_command h.code h.mode code)) (mode_comes ran) known

  -- a block refuses it only where it is met in the first object ahead
  pub read_refused : RunsOn u m s → Answers (FirstBad u m s) (carried_out (started u m s) m s (header u m s) (packet u m s) (command_of (header u m s).code (header u m s).mode)).answer
  read_refused ran =
      let (y, is, c) = read_comes ran in
      rw is (motion_answers (ReadAs u m s) (FirstBad u m s) (started u m s) (header u m s).ie y c)

  read_ran : {x : Plan} → Ran u m s x → Sends u m s x → ReadTold u m s x
  read_ran (ended_before class shown up not) =
      read_told u m s _ _ _ (rests_as u m s _ _ (not_run not) up (read_whole (header u m s) (packet u m s).count code))
  read_ran (run a) =
      let v : Unit = started u m s in
      let ie : Bool = (header u m s).ie in
      let (y, is, c) = read_comes a in
      rw is (motion_sends u m s (ReadTold u m s) (ReadAs u m s) (FirstBad u m s) v ie (read_told u m s v ie) y c)

-- "The residual counts bytes for Read": of every Read that was fetched and whose message went out, from a position inside the recorded part
pub read_done : (u : Unit) (m s : List ℕ) → u.tape.position ≤ u.tape.end → Fetched u m s → (header u m s).code ≡ 1 → Sent u m s → ReadDone u m s (advanced u m s).unit (memory_after (advanced u m s) m s)
read_done u m s inside f code sent =
    let told : ReadTold u m s (advanced u m s) = read_ran u m s inside code (fetched_ran u m s f (advanced_way u m s)) (sent.sends, sent.inside) in
    record {
      stored = told.stored;
      found = told.found_so;
      ends = told.ends_so;
      shown = told.shown;
      place = told.place;
      filled = told.filled;
      within = told.within;
      message = (advanced u m s).message;
      seven = advanced_seven u m s;
      memory = told.memory;
      counted = told.counted;
    }

-- a space on the reel s recorded up to e, from p on: objects were read over up to q, and those that count and what is left make up the count
module _ (s : List ℕ) (e : ℕ) (reverse : Bool) (p count : ℕ) (marks : Bool) where
  abbrev Past : ℕ → ℕ → Type 0
  Past q left = (o : ReadOver s e reverse p q) × (passed_in marks o + left ≡ count)

  abbrev SpanPast : Span → Type 0
  SpanPast y = Past y.position (how_many y.left)

  -- nothing is read over yet, and all of the count is left
  past_none : (left : ℕ) → left ≡ count → Past p left
  unfolding passed_in
  past_none left y = (nothing_yet, omega arith)

  -- a gap does not count
  past_gap : (left q t : ℕ) → Past q left → passed s reverse q e ≡ Ok (met.Gap t) → Past t left
  unfolding passed_in
  past_gap left q t (o, c) g = (then_gap o g, c)

  -- a record counts, unless marks do
  past_record : (left less q t n : ℕ) → Past q left → passed s reverse q e ≡ Ok (met.Record n t) → pick marks 0 1 + less ≡ left → Past t less
  unfolding passed_in
  past_record left less q t n (o, c) g d = (then_record o g, omega arith)

  -- a mark counts where marks do
  past_mark : (left less q t : ℕ) → Past q left → passed s reverse q e ≡ Ok (met.Mark t) → pick marks 1 0 + less ≡ left → Past t less
  unfolding passed_in
  past_mark left less q t (o, c) g d = (then_mark o g, omega arith)

-- a space or a skip by the rule r
module _ (s : List ℕ) (e : ℕ) (r : Rule) (p : ℕ) (count : Count) where
  abbrev CountPast : ℕ → ℕ → Type 0
  CountPast = Past s e r.reverse p (how_many count) (of_marks count)

  abbrev RulePast : Span → Type 0
  RulePast = SpanPast s e r.reverse p (how_many count) (of_marks count)

  abbrev MeetsPast : Span → Result Sought Damage → Type 0
  MeetsPast y = Meets s e r.reverse (λ q. CountPast q (how_many y.left)) (past_gap s e r.reverse p (how_many count) (of_marks count) (how_many y.left)) y.position

  -- each turn, by what its search found
  turn_past : (y : Span) (f : Result Sought Damage) → Counts (of_marks count) y → RulePast y → (how_many y.left ≡ 0 → ⊥) → MeetsPast y f → SpanHas RulePast (turn_after r y f)
  unfolding came turn_after turn_of record_turn
  turn_past y (Ok (sought-as.Record n t)) k before some (q, a, g) =
      past_record s e r.reverse p (how_many count) (of_marks count) _ _ q t n a g (rw k at (record_number y.left some))
  turn_past y (Ok (sought-as.Mark t)) k before some (q, a, g) =
      let past : (less : ℕ) → pick (of_marks y.left) 1 0 + less ≡ how_many y.left → CountPast t less = λ less d. past_mark s e r.reverse p (how_many count) (of_marks count) _ less q t a g (rw k at d) in
      mark_turns (λ x. SpanHas RulePast (Ok x)) r y t (λ n w. past _ (mark_stops_number n w)) (λ n w b. past _ (mark_number n w some)) (λ n w b. past _ (mark_number n w some))
  turn_past y (Ok (sought-as.Nothing t)) k before some (a, z) = a
  turn_past y (Err d) k before some a = before

  -- so where a space ends
  spaced_past : (x : Span) → Counts (of_marks count) x → RulePast x → RulePast (came (spaced s r e x))
  spaced_past x same =
      spaced_keeps s r e RulePast x
      (λ y k a some.
      sound_has RulePast _
      (turn_past y _ (k ∙ same) a some
      (meets s e r.reverse (λ q. CountPast q (how_many y.left)) (past_gap s e r.reverse p (how_many count) (of_marks count) (how_many y.left)) y.position a)))

  -- an end of a Position: the objects that it read over, and the residual that it tells
  abbrev EndPast : Ending → Type 0
  EndPast x = CountPast x.tape.position (residual_word x.end.residual)

  abbrev MotionPast : Result Ending Damage → Type 0
  MotionPast = Comes EndPast (λ why k. Always)

  space_past : (x : Span) (stop : Stop) → RulePast x → MotionPast (space_motion_by r x e stop)
  unfolding space_motion_by
  space_past x stop (o, c) = (o, rw (left_told r x stop) c)

  space_ended : (f : Result Spaced Stuck) → RulePast (came f) → MotionPast (space_motion r f e)
  unfolding came space_motion
  space_ended (Ok z) a = space_past z.span z.stop a
  space_ended (Err d) a = tt

-- "A Position count of 0 moves nothing"; any other reads over objects from where the tape stands
position_past : (s : List ℕ) (t : Tape) (r : Rule) (count : Count) (enb : Bool) → MotionPast s t.end r t.position count (positioned s t r count enb)
unfolding positioned_under
position_past s t r count enb =
    let none : (left : ℕ) → left ≡ how_many count → CountPast s t.end r t.position count t.position left = past_none s t.end r.reverse t.position (how_many count) (of_marks count) in
    pick_told (MotionPast s t.end r t.position count) (eqb (how_many count) 0) _ _
    (λ z. none _ (residual_word_lem count))
    (λ z. space_ended s t.end r t.position count _ (spaced_past s t.end r t.position count (start_span t count enb) refl (none (how_many count) refl)))

-- code 8 is a Position: modes 0 to 3 go one way or the other, over records or marks, and an end of steps 8 to 10 gives their whole count
pub position_command : (code mode : ℕ) → code ≡ 8 → command_of code mode ≡ position_mode mode
unfolding command_of
position_command code mode y = rw y

pub position_mode_lem : (v : Unit) (m s : List ℕ) (h : Header) (x : Packet) (mode : ℕ) → mode < 4 → carried_out v m s h x (position_mode mode) ≡ positioned_by v s h (count_of (leb 2 mode) x.count) (eqb mode 1 || eqb mode 3)
unfolding position_mode carried_out_under
position_mode_lem v m s h x zero l = refl
position_mode_lem v m s h x (suc zero) l = refl
position_mode_lem v m s h x (suc (suc zero)) l = refl
position_mode_lem v m s h x (suc (suc (suc zero))) l = refl
position_mode_lem v m s h x (suc (suc (suc (suc mode)))) l = absurd (omega arith)

pub position_reverse : (h : Header) → h.code ≡ 8 → reverse_first h ≡ (eqb h.mode 1 || eqb h.mode 3)
position_reverse h y = simp (y, or-false)

position_whole : (h : Header) (count : ℕ) → h.code ≡ 8 → h.mode < 4 → residual_word (whole_count h count) ≡ count
unfolding whole_count
position_whole h count y l = rw (y, lt-ltb h.mode 4 l) (either (λ (x : Residual). residual_word x ≡ count) (ltb h.mode 2) _ _ refl refl)

module _ (u : Unit) (m s : List ℕ) where
  -- of a plan, what `SpaceDone` says of the advance
  abbrev SpaceTold : Bool → Count → Plan → Type 0
  SpaceTold reverse count x =
      Past s u.tape.end reverse u.tape.position (how_many count) (of_marks count) x.unit.tape.position (word_at (memory_after x m s) (x.unit.characteristics.address + 4))

  space_told : (reverse : Bool) (count : Count) (v : Unit) (ie : Bool) (x : Ending)
      → Past s u.tape.end reverse u.tape.position (how_many count) (of_marks count) x.tape.position (residual_word x.end.residual) → Sends u m s (told v ie x)
      → SpaceTold reverse count (told v ie x)
  unfolding told_under told_unit ended
  space_told reverse count v ie x (o, c) (t, room) = (o, rw (told_word v ie x m s t room) c)

  -- a Position either way, over records or marks
  position_told : (reverse : Bool) (count : Count) → Sends u m s (positioned_by (started u m s) s (header u m s) count reverse)
      → SpaceTold reverse count (positioned_by (started u m s) s (header u m s) count reverse)
  unfolding positioned_by_under
  position_told reverse count =
      motion_sends u m s (SpaceTold reverse count) _ (λ why k. Always) (started u m s) (header u m s).ie (space_told reverse count (started u m s) (header u m s).ie) _
      (position_past s u.tape (record { reverse = reverse; ess = u.characteristics.ess }) count u.characteristics.enb)

  space_ran : (header u m s).code ≡ 8 → (header u m s).mode < 4 → {x : Plan} → Ran u m s x → Sends u m s x → SpaceTold (reverse_first (header u m s)) (count_asked u m s) x
  space_ran code few (ended_before class shown up not) =
      let whole = position_whole (header u m s) (packet u m s).count code few ∙ sym (number_asked (leb 2 (header u m s).mode) (packet u m s).count) in
      space_told _ (count_asked u m s) _ _ _ (past_none s _ _ _ _ _ _ whole)
  space_ran code few (run a) =
      let h : Header = header u m s in
      let by : Bool → Plan = λ b. positioned_by (started u m s) s h (count_asked u m s) b in
      let is : carried_out (started u m s) m s h (packet u m s) (command_of h.code h.mode) ≡ by (reverse_first h) = ap (carried_out (started u m s) m s h (packet u m s)) (position_command h.code h.mode code) ∙ position_mode_lem (started u m s) m s h (packet u m s) h.mode few ∙ ap by (sym (position_reverse h code)) in
      subst (λ (x : Plan). Sends u m s x → SpaceTold (reverse_first h) (count_asked u m s) x) (sym is) (position_told (reverse_first h) (count_asked u m s))

  -- "records or marks for Position modes 0 to 3": of every such Position that was fetched and whose message went out
  pub space_done : Fetched u m s → (header u m s).code ≡ 8 → (header u m s).mode < 4 → Sent u m s → SpaceDone u m s (advanced u m s).unit (memory_after (advanced u m s) m s)
  space_done f code few sent =
      let past : SpaceTold (reverse_first (header u m s)) (count_asked u m s) (advanced u m s) = space_ran code few (fetched_ran u m s f (advanced_way u m s)) (sent.sends, sent.inside) in
      record { over = past.0; counted = rw (kind_asked (leb 2 (header u m s).mode) (packet u m s).count, number_asked (leb 2 (header u m s).mode) (packet u m s).count) at past.1 }
