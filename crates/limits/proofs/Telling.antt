-- What is told under two margins is the same but for EOT, and that bit comes with the larger one wherever it came with the smaller.
use mathlib.Core.Bool.{Bool, true, false, true≢false}
use mathlib.Core.Path.{◌≡◌, refl, sym}
use Prim.Native.Nat.{ℕ, ◌+◌, ◌%◌, ◌≤◌}
use native.Mathlib.Omega.{arith}
use borrow.Author.Tests.{le-leb, leb-true}
use lib.Dec.{leb}
use Rattle.lists.specs.Pick.{Always, pick}
use Rattle.tape.specs.Numbers.{eot_marker_under}
use Rattle.signals.specs.Bits.{BOT, IE, MOT, ONL, PED, VCK, WLK}
use Rattle.signals.specs.Message.{flag_of, message_of, xst0_of}
use Rattle.signals.specs.declared.message.End.{End}
use Rattle.signals.specs.declared.message.Status.{Status}
use Rattle.state.specs.declared.Unit.{Unit}
use Rattle.commands.specs.Ends.{motion_plan_under, motion_seen, status_of_under, still, told_under, told_unit, untold}
use Rattle.commands.specs.Answers.{Answer}
use Rattle.commands.specs.declared.plans.Plan.{Plan}
use Rattle.motions.specs.declared.parts.Ending.{Ending}
use Rattle.limits.specs.Alike.{ReadsAlike, SoonerEot, as_before, eot_now, same_words}
use Rattle.std.specs.Prelude.{Result, Ok, Err}
use Rattle.tape.specs.declared.Damage.{Damage}

pub even_flag : (b : Bool) (w : ℕ) → w % 2 ≡ 0 → flag_of b w % 2 ≡ 0
even_flag true w h = h
even_flag false w h = refl

-- what an end found shows above EOT
abbrev pub Even : End → Type 0
Even x = x.found % 2 ≡ 0

abbrev pub EvenMotion : Result Ending Damage → Type 0
EvenMotion (Ok x) = Even x.end
EvenMotion (Err d) = Always

-- XST0 under two conditions of the unit that differ in EOT
abbrev with_eot : Status → Bool → Status
with_eot x eot = record { mot = x.mot; onl = x.onl; ie = x.ie; vck = x.vck; wlk = x.wlk; bot = x.bot; eot = eot }

even_add : (a b : ℕ) → a % 2 ≡ 0 → b % 2 ≡ 0 → (a + b) % 2 ≡ 0
even_add a b h k = omega arith

-- all of the low byte but EOT
above_eot : Status → ℕ
above_eot x = flag_of x.mot MOT + flag_of x.onl ONL + flag_of x.ie IE + flag_of x.vck VCK + PED + flag_of x.wlk WLK + flag_of x.bot BOT

even_above : (x : Status) → above_eot x % 2 ≡ 0
unfolding above_eot
even_above x =
    even_add _ (flag_of x.bot BOT)
    (even_add _ (flag_of x.wlk WLK)
    (even_add _ PED
    (even_add _ (flag_of x.vck VCK)
    (even_add _ (flag_of x.ie IE) (even_add (flag_of x.mot MOT) (flag_of x.onl ONL) (even_flag x.mot MOT refl) (even_flag x.onl ONL refl)) (even_flag x.ie IE refl))
    (even_flag x.vck VCK refl))
    refl)
    (even_flag x.wlk WLK refl))
    (even_flag x.bot BOT refl)

-- EOT set where it was clear
eot_set : (found low : ℕ) → found % 2 ≡ 0 → low % 2 ≡ 0 → SoonerEot ((found + (low + 0)) % 65536) ((found + (low + 1)) % 65536)
eot_set found low h k = eot_now (omega arith) (omega arith)

eot_sooner : (found : ℕ) (x : Status) (eot eot' : Bool) → found % 2 ≡ 0 → (eot ≡ true → eot' ≡ true) → SoonerEot (xst0_of found (with_eot x eot)) (xst0_of found (with_eot x eot'))
unfolding above_eot
eot_sooner found x true true h on = as_before refl
eot_sooner found x false false h on = as_before refl
eot_sooner found x true false h on = absurd (true≢false (sym (on refl)))
eot_sooner found x false true h on = eot_set found (above_eot x) h (even_above x)

-- what is not told has no message
pub still_alike : (u : Unit) (a : Answer) → ReadsAlike (still u a) (still u a)
unfolding still
still_alike u a = record { answer = refl; state = refl; moved = refl; laid = refl; sends = refl; message = same_words (as_before refl) }

pub untold_alike : (u : Unit) (class : ℕ) (interrupts : Bool) → ReadsAlike (untold u class interrupts) (untold u class interrupts)
unfolding untold
untold_alike u class interrupts = still_alike _ _

pub pick_alike : (t : Bool) {a a' o o' : Plan} → ReadsAlike a a' → ReadsAlike o o' → ReadsAlike (pick t a o) (pick t a' o')
pick_alike true p q = p
pick_alike false p q = q

-- each case is told how the test went
pub told_which : (t : Bool) {a a' o o' : Plan} → (t ≡ true → ReadsAlike a a') → (t ≡ false → ReadsAlike o o') → ReadsAlike (pick t a o) (pick t a' o')
told_which true p q = p refl
told_which false p q = q refl

module _ (eotMargin eotMargin' : ℕ) (more : eotMargin ≤ eotMargin') where
  -- a larger margin puts the marker no later
  marker_sooner : (u : Unit) → leb (eot_marker_under eotMargin u.lengths.blocks) u.tape.position ≡ true → leb (eot_marker_under eotMargin' u.lengths.blocks) u.tape.position ≡ true
  marker_sooner u h = le-leb (eot_marker_under eotMargin' u.lengths.blocks) u.tape.position (omega (arith, leb-true (eot_marker_under eotMargin u.lengths.blocks) u.tape.position h))

  pub told_alike : (u : Unit) (ie : Bool) (x : Ending) → Even x.end → ReadsAlike (told_under eotMargin u ie x) (told_under eotMargin' u ie x)
  unfolding told_under message_of status_of_under
  told_alike u ie x h =
      record {
        answer = refl;
        state = refl;
        moved = refl;
        laid = refl;
        sends = refl;
        message = same_words (eot_sooner x.end.found (status_of_under eotMargin (told_unit u x) ie (motion_seen u.tape.position x)) _ _ h (marker_sooner (told_unit u x)));
      }

  pub motion_alike : (u : Unit) (ie : Bool) (y : Result Ending Damage) → EvenMotion y → ReadsAlike (motion_plan_under eotMargin u ie y) (motion_plan_under eotMargin' u ie y)
  unfolding motion_plan_under
  motion_alike u ie (Ok x) h = told_alike u ie x h
  motion_alike u ie (Err d) h = still_alike u _
