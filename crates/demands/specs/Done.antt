-- "Done plus residual equals the count asked": what was really stored in memory, or passed on the reel, and the residual word that stands in
-- the message buffer. (01, "The message": "The residual counts bytes for Read, records or marks for Position modes 0 to 3 .. Ended at steps 8
-- to 10 they give the whole count")
use Rattle.std.specs.Prelude.{Bool, true, false, ◌&&◌, not, List, [], ◌≡◌, ℕ, ◌+◌, ◌*◌, ◌/◌, ◌<◌, ◌≤◌, eqb, leb, ltb, length, Ok}
use Rattle.lists.specs.Pick.{pick}
use Rattle.lists.specs.Places.{placed}
use Rattle.lists.specs.Words.{word_at}
use Rattle.tape.specs.Bytes.{moved_bytes, moved_to, record_bytes}
use Rattle.tape.specs.Numbers.{pieces_of}
use Rattle.tape.specs.Pass.{ahead, lowest, passed}
use Rattle.tape.specs.declared.Met.TheVariants as met
use Rattle.signals.specs.Bits.{OPI, REV, RIB, RLL, RLS, TMK}
use Rattle.signals.specs.Message.{flag_of, message_bytes, messaged}
use Rattle.state.specs.declared.Unit.{Unit}
use Rattle.advance.specs.Rules.{has_extent, reverse_first}
use Rattle.advance.specs.Steps.{advanced}
use Rattle.demands.specs.Faults.{ReadOver, nothing_yet, then_gap, then_mark, then_record}
use Rattle.demands.specs.Ways.{Runs, header, packet}

-- how many records, or how many marks, were read over
unfoldable pub passed_in : {s : List ℕ} {e : ℕ} {reverse : Bool} {p q : ℕ} → Bool → ReadOver s e reverse p q → ℕ
passed_in marks nothing_yet = 0
passed_in marks (then_record r x) = passed_in marks r + pick marks 0 1
passed_in marks (then_mark r x) = passed_in marks r + pick marks 1 0
passed_in marks (then_gap r x) = passed_in marks r

-- word k of the message that stands in memory m, in the message buffer of the state u
abbrev pub sent_word : Unit → List ℕ → ℕ → ℕ
sent_word u m k = word_at m (u.characteristics.address + 2 * k)

-- an advance of the state u over memory m and reel s
module _ (u : Unit) (m s : List ℕ) where
  -- its message goes out, into a buffer inside memory
  pub record Sent : Type 0 where
    pub sends : (advanced u m s).sends ≡ true
    pub inside : (advanced u m s).unit.characteristics.address + message_bytes ≤ length m

  -- the way of the first stage, and what lies ahead of the tape this way: nothing but gaps between its position and q
  abbrev pub way : Bool
  way = reverse_first (header u m s)

  pub data Gapped : ℕ → Type 0 where
    at_once : Gapped u.tape.position
    after_gap : {q q' : ℕ} → Gapped q → passed s way q u.tape.end ≡ Ok (met.Gap q') → Gapped q'

  -- a reread's read goes the other way unless OPP puts it first, and leaves the tape at the edge of the record that is met first
  abbrev pub again : Bool
  again = leb 2 (header u m s).mode

  abbrev pub reads : Bool
  reads = pick (again && not (header u m s).opp) (not way) way

  -- steps 8 to 10 let the command pass
  abbrev pub RunsOn : Type 0
  RunsOn = Runs u m s × ((has_extent (header u m s) && ltb (length m) ((packet u m s).pointer + (packet u m s).count)) ≡ false)

  -- how a Read whose packet was fetched ends: the bytes that it stores, its class, what XST0 shows above its low byte, XST3, the position after it
  pub data ReadStops : List ℕ → ℕ → ℕ → ℕ → ℕ → Type 0 where
    -- ended at steps 8 to 10
    not_run : {class found : ℕ} → (RunsOn → ⊥) → ReadStops [] class found 0 u.tape.position
    -- "A mark: TMK, RLS, class 2, position past it, nothing moved."
    at_mark : {q q' : ℕ} → RunsOn → Gapped q → passed s way q u.tape.end ≡ Ok (met.Mark q') → ReadStops [] 2 (TMK + RLS) (flag_of way REV) q'
    -- "Forward at the recorded end: OPI, class 6. Reverse to block 0 with no further record or mark: RIB, class 2, position 0."
    at_end : {q : ℕ} → RunsOn → Gapped q → ahead way q u.tape.end ≡ 0 → ReadStops [] (pick way 2 6) 0 (pick way (REV + RIB) OPI) q
    -- "Record longer than the count: RLL; shorter: RLS; class 2": the first record that lies ahead
    at_record : {q q' n : ℕ} → RunsOn → Gapped q → passed s way q u.tape.end ≡ Ok (met.Record n q')
        → ReadStops (moved_bytes reads (packet u m s).count (record_bytes s (lowest way q (pieces_of n)) n)) (pick (eqb n (packet u m s).count) 0 2)
        (flag_of (ltb n (packet u m s).count) RLS + flag_of (ltb (packet u m s).count n) RLL)
        (flag_of (pick again (not way) way) REV)
        (pick again q q')

  -- the advance left the state u' and the memory m'
  module _ (u' : Unit) (m' : List ℕ) where
    -- of a Read: the bytes stored at their place in the buffer asked (by addresses, before SWB flips them), with the message's seven words over
    -- them; as many as the count but for the residual that is sent
    pub record ReadDone : Type 0 where
      pub stored : List ℕ
      pub found : ℕ
      pub ends : ReadStops stored u'.registers.class found (sent_word u' m' 6) u'.tape.position
      pub shown : sent_word u' m' 3 / 256 * 256 ≡ found
      pub place : ℕ
      pub filled : place ≡ moved_to reads (packet u m s).pointer (packet u m s).count (length stored)
      pub within : (i : ℕ) → i < length stored → ((packet u m s).pointer ≤ place + i) × (place + i < (packet u m s).pointer + (packet u m s).count) × (place + i < length m)
      pub message : List ℕ
      pub seven : length message ≡ 7
      pub memory : m' ≡ messaged (placed (header u m s).swb m place stored) u'.characteristics.address message
      pub counted : length stored + sent_word u' m' 2 ≡ (packet u m s).count

    -- of a Position mode 0 to 3: the objects read over, from the position before to the one after; those that count and the residual that is sent
    pub record SpaceDone : Type 0 where
      pub over : ReadOver s u.tape.end (reverse_first (header u m s)) u.tape.position u'.tape.position
      pub counted : passed_in (leb 2 (header u m s).mode) over + sent_word u' m' 2 ≡ (packet u m s).count
