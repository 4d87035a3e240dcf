-- A Write or Format that writes nothing. Step 11: its object does not fit, the tape stays and the message shows NEF and EOT; or a retry finds none.
use mathlib.Core.Bool.{Bool, true, false}
use mathlib.Core.List.{List}
use mathlib.Core.Path.{◌≡◌, refl, sym, ap, subst, ◌∙◌}
use Prim.Native.Nat.{ℕ, ◌+◌, ◌*◌, ◌/◌, ◌%◌, ◌≤◌}
use native.Mathlib.Omega.{arith}
use borrow.Author.Tests.{eq-eqb}
use lib.Dec.{eqb, ltb}
use Rattle.lists.specs.Words.{word_at}
use Rattle.tape.specs.Numbers.{record_limit}
use Rattle.tape.specs.Objects.{blocks_in}
use Rattle.signals.specs.Bits.{BOT, EOT, IE, MOT, NEF, ONL, REV, RIB, VCK, WLK}
use Rattle.signals.specs.Message.{flag_of, message_of, xst0_of}
use Rattle.signals.specs.declared.counts.Residual.TheVariants as residual
use Rattle.signals.specs.declared.message.Status.{Status}
use Rattle.signals.specs.declared.packet.Header.{Header}
use Rattle.signals.specs.declared.packet.Packet.{Packet}
use Rattle.state.specs.declared.Tape.{Tape}
use Rattle.state.specs.declared.Unit.{Unit}
use Rattle.moves.specs.Seeking.{sought}
use Rattle.moves.specs.declared.seeking.Sought.{Sought}
use Rattle.moves.specs.declared.seeking.Sought.TheVariants as sought-as
use Rattle.moves.proofs.Within.{SoughtIn, sought_in}
use Rattle.motions.specs.Parts.{end, laid_blocks, no_lay, object_blocks, resting, standing}
use Rattle.motions.specs.Writes.{behind_gap, no_room, retried_under, retried_by_under, written_at, written_at_under}
use Rattle.motions.specs.declared.parts.Ending.{Ending}
use Rattle.motions.specs.declared.parts.Laid.{Laid}
use Rattle.commands.specs.Ends.{ended, motion_plan, motion_plan_under, status_of, told, told_under, told_unit}
use Rattle.commands.specs.declared.plans.Plan.{Plan}
use Rattle.storing.specs.Stored.{memory_after, reel_after}
use Rattle.advance.specs.Steps.{advanced}
use Rattle.demands.specs.Done.{Sent}
use Rattle.demands.specs.Ways.{ends, header, packet, started}
use Rattle.demands.proofs.Done.{Sends, sent_word, told_found, told_word, told_xst3}
use Rattle.demands.proofs.EndOfTape.{no_room_eot}
use Rattle.demands.proofs.Kept.{none_laid}
use Rattle.demands.proofs.Meets.{nothing_ahead}
use Rattle.kept.specs.Leaving.{WriteRuns, object_for}
use Rattle.kept.specs.NoRoom.{Found, NoRoom, NoneFound, found_mark, found_record}
use Rattle.kept.proofs.Laying.{Here, Lay, advance_lays, again_blocks, again_plan, here_blocks, here_plan}
use Rattle.std.specs.Prelude.{Result, Ok}
use Rattle.tape.specs.declared.Damage.{Damage}

-- a flag is set or not
flag_is : (b : Bool) (w : ℕ) → (n : ℕ) × (n ≤ 1) × (flag_of b w ≡ w * n)
flag_is true w = (1, omega arith, omega arith)
flag_is false w = (0, omega arith, omega arith)

-- XST0 of an end with NEF at or past EOT
module _ (x : Status) (at-eot : x.eot ≡ true) where
  shows_both : (xst0_of NEF x / NEF % 2 ≡ 1) × (xst0_of NEF x / EOT % 2 ≡ 1)
  shows_both =
      let mot = flag_is x.mot MOT in
      let onl = flag_is x.onl ONL in
      let ie = flag_is x.ie IE in
      let vck = flag_is x.vck VCK in
      let wlk = flag_is x.wlk WLK in
      let bot = flag_is x.bot BOT in
      rw (at-eot, mot.2, onl.2, ie.2, vck.2, wlk.2, bot.2) (omega (arith, mot.1, onl.1, ie.1, vck.1, wlk.1, bot.1), omega (arith, mot.1, onl.1, ie.1, vck.1, wlk.1, bot.1))

-- an end of class 3 with NEF that moves and lays nothing, at or past EOT
abbrev After : List ℕ → List ℕ → Unit → (Tape → List ℕ → Unit → List ℕ → List ℕ → Type 0) → Plan → Type 0
After m s v P q = P v.tape s q.unit (memory_after q m s) (reel_after q m s)

-- a retry that found nothing
abbrev nothing_found : Unit → ℕ → Ending
nothing_found v at = resting (end 2 0 (REV + RIB) residual.Nothing) (standing at v.tape.end)

module _ (m s : List ℕ) (v : Unit) (ie : Bool) where
  told_no_room : (l : Laid) → l.length ≤ record_limit → l.at ≤ v.tape.position → ltb v.lengths.blocks (l.at + laid_blocks l) ≡ true → Sends v m s (ends v ie 3 NEF residual.Nothing) → After m s v NoRoom (ends v ie 3 NEF residual.Nothing)
  unfolding told_under told_unit ended laid_blocks object_blocks message_of reel_after
  told_no_room l short below full (sends, room) =
      let x = resting (end 3 NEF 0 residual.Nothing) v.tape in
      let still : eqb v.tape.position v.tape.position ≡ true = eq-eqb v.tape.position v.tape.position refl in
      let marked = no_room_eot (told_unit v x) l ie false short below full in
      let both = shows_both (status_of (told_unit v x) ie false) marked in
      let third : word_at (memory_after (told v ie x) m s) (v.characteristics.address + 2 * 3) ≡ xst0_of NEF (status_of (told_unit v x) ie false) = sent_word (told v ie x) m s sends refl room 3 (omega arith) ∙ rw still in
      record {
        class = refl;
        unmoved = refl;
        reel = none_laid s m;
        residual = told_word v ie x m s sends room;
        found = told_found v ie x m s sends room (refl, omega arith);
        eot = ap (λ (n : ℕ). n / EOT % 2) third ∙ both.1;
        xst3 = told_xst3 v ie x m s sends room;
      }

-- what a search in reverse found is before the position
found_before : (p e : ℕ) {q : ℕ} {f : Result Sought Damage} → Found q f → SoughtIn true p e f → q ≤ p
found_before p e found_record i = omega (arith, i.1.down refl)
found_before p e found_mark i = omega (arith, i.down refl)

module _ (m s : List ℕ) (v : Unit) (ie : Bool) where
  -- a write that does not fit
  full : (l : Laid) (mark : Bool) {q : Plan} → q ≡ motion_plan v ie (written_at v.tape v.lengths.blocks l mark) → l.length ≤ record_limit → l.at ≤ v.tape.position → ltb v.lengths.blocks (l.at + laid_blocks l) ≡ true → Sends v m s q → After m s v NoRoom q
  unfolding motion_plan_under written_at_under no_room
  full l mark {q} e short below f =
      let is : q ≡ ends v ie 3 NEF residual.Nothing = rw (e, f) in
      subst (λ (x : Plan). Sends v m s x → After m s v NoRoom x) (sym is) (told_no_room m s v ie l short below f)

  full_unlaid : (l : Laid) (mark : Bool) {q : Plan} → q ≡ motion_plan v ie (written_at v.tape v.lengths.blocks l mark) → ltb v.lengths.blocks (l.at + laid_blocks l) ≡ true → q.laid ≡ no_lay
  unfolding motion_plan_under written_at_under no_room told_under
  full_unlaid l mark e f = rw (e, f)

  -- a retry that found nothing, from inside the recorded part
  told_none : {at : ℕ} → v.tape.position ≤ v.tape.end → sought s true v.tape.position v.tape.end ≡ Ok (sought-as.Nothing at) → Sends v m s (told v ie (nothing_found v at)) → After m s v NoneFound (told v ie (nothing_found v at))
  unfolding told_under told_unit ended reel_after
  told_none {at} below none (sends, room) =
      let x = nothing_found v at in
      record {
        class = refl;
        position = nothing_ahead s v.tape.end true v.tape.position below none;
        end = refl;
        reel = none_laid s m;
        residual = told_word v ie x m s sends room;
        found = told_found v ie x m s sends room (refl, omega arith);
        xst3 = told_xst3 v ie x m s sends room;
      }

module _ (v : Unit) (m s : List ℕ) (h : Header) (p : Packet) {q : Plan} (y : Lay v m s h p q) where
  full_here : eqb h.mode 2 ≡ false → ltb v.lengths.blocks (v.tape.position + blocks_in (object_for m h p)) ≡ true → Sends v m s q → After m s v NoRoom q
  full_here e f = full m s v h.ie (Here v m s h p y) y.mark (here_plan v m s h p y e) y.short (omega arith) (rw (here_blocks v m s h p y) f)

  none_again : {at : ℕ} → h.mode ≡ 2 → v.tape.position ≤ v.tape.end → sought s true v.tape.position v.tape.end ≡ Ok (sought-as.Nothing at) → Sends v m s q → After m s v NoneFound q
  unfolding retried_under retried_by_under motion_plan_under
  none_again {at} e below none =
      let is : q ≡ told v h.ie (nothing_found v at) = rw (y.plan, e, none) in
      subst (λ (x : Plan). Sends v m s x → After m s v NoneFound x) (sym is) (told_none m s v h.ie below none)

  -- neither lays anything
  unlaid_here : eqb h.mode 2 ≡ false → ltb v.lengths.blocks (v.tape.position + blocks_in (object_for m h p)) ≡ true → q.laid ≡ no_lay
  unlaid_here e f = full_unlaid m s v h.ie (Here v m s h p y) y.mark (here_plan v m s h p y e) (rw (here_blocks v m s h p y) f)

  unlaid_none : {at : ℕ} → h.mode ≡ 2 → sought s true v.tape.position v.tape.end ≡ Ok (sought-as.Nothing at) → q.laid ≡ no_lay
  unfolding retried_under retried_by_under motion_plan_under told_under
  unlaid_none e none = rw (y.plan, e, none)

  unlaid_again : {at : ℕ} → h.mode ≡ 2 → Found at (sought s true v.tape.position v.tape.end) → ltb v.lengths.blocks (at + (blocks_in (object_for m h p) + 1)) ≡ true → q.laid ≡ no_lay
  unfolding behind_gap
  unlaid_again {at} e found f = full_unlaid m s v h.ie (behind_gap (Here v m s h p y) at) y.mark (again_plan v m s h p y e found) (rw (again_blocks v m s h p y at) f)

  full_again : {at : ℕ} → h.mode ≡ 2 → v.tape.position ≤ v.tape.end → Found at (sought s true v.tape.position v.tape.end) → ltb v.lengths.blocks (at + (blocks_in (object_for m h p) + 1)) ≡ true → Sends v m s q → After m s v NoRoom q
  unfolding behind_gap
  full_again {at} e in_reel found f =
      let below = found_before v.tape.position v.tape.end found (sought_in s true v.tape.position v.tape.end in_reel) in
      full m s v h.ie (behind_gap (Here v m s h p y) at) y.mark (again_plan v m s h p y e found) y.short below (rw (again_blocks v m s h p y at) f)

-- a Write or Format that is carried out, and whose message goes out
module _ (u : Unit) (m s : List ℕ) (w : WriteRuns u m s) (sent : Sent u m s) where
  -- what the advance left
  abbrev Left : (Tape → List ℕ → Unit → List ℕ → List ℕ → Type 0) → Type 0
  Left P = P u.tape s (advanced u m s).unit (memory_after (advanced u m s) m s) (reel_after (advanced u m s) m s)

  lay : Lay (started u m s) m s (header u m s) (packet u m s) (advanced u m s)
  lay = advance_lays u m s w

  -- "11. Object doesn't fit the reel: NEF, EOT, class 3, unmoved."
  pub no_room_told : eqb (header u m s).mode 2 ≡ false → ltb u.lengths.blocks (u.tape.position + blocks_in (object_for m (header u m s) (packet u m s))) ≡ true → Left NoRoom
  no_room_told e full = full_here (started u m s) m s (header u m s) (packet u m s) lay e full (sent.sends, sent.inside)

  -- "gap and object together" for a retry
  pub no_room_retry : {at : ℕ} → (header u m s).mode ≡ 2 → u.tape.position ≤ u.tape.end → Found at (sought s true u.tape.position u.tape.end) → ltb u.lengths.blocks (at + (blocks_in (object_for m (header u m s) (packet u m s)) + 1)) ≡ true → Left NoRoom
  no_room_retry e below found full = full_again (started u m s) m s (header u m s) (packet u m s) lay e below found full (sent.sends, sent.inside)

  -- "None found: RIB, class 2, nothing written."
  pub none_found : {at : ℕ} → (header u m s).mode ≡ 2 → u.tape.position ≤ u.tape.end → sought s true u.tape.position u.tape.end ≡ Ok (sought-as.Nothing at) → Left NoneFound
  none_found e below none = none_again (started u m s) m s (header u m s) (packet u m s) lay e below none (sent.sends, sent.inside)

-- of these three ends none lays anything, whether its message goes out or not
module _ (u : Unit) (m s : List ℕ) (w : WriteRuns u m s) where
  abbrev laying : Lay (started u m s) m s (header u m s) (packet u m s) (advanced u m s)
  laying = advance_lays u m s w

  pub no_room_unlaid : eqb (header u m s).mode 2 ≡ false → ltb u.lengths.blocks (u.tape.position + blocks_in (object_for m (header u m s) (packet u m s))) ≡ true → (advanced u m s).laid ≡ no_lay
  no_room_unlaid e f = unlaid_here (started u m s) m s (header u m s) (packet u m s) laying e f

  pub retry_unlaid : {at : ℕ} → (header u m s).mode ≡ 2 → Found at (sought s true u.tape.position u.tape.end) → ltb u.lengths.blocks (at + (blocks_in (object_for m (header u m s) (packet u m s)) + 1)) ≡ true → (advanced u m s).laid ≡ no_lay
  retry_unlaid e found f = unlaid_again (started u m s) m s (header u m s) (packet u m s) laying e found f

  pub none_unlaid : {at : ℕ} → (header u m s).mode ≡ 2 → sought s true u.tape.position u.tape.end ≡ Ok (sought-as.Nothing at) → (advanced u m s).laid ≡ no_lay
  none_unlaid e none = unlaid_none (started u m s) m s (header u m s) (packet u m s) laying e none
