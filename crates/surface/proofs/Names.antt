-- Each exported call is the session's call of its name.
use mathlib.Core.Bool.{Bool}
use mathlib.Core.Path.{◌≡◌, refl, sym, ap, ◌∙◌}
use Prim.Native.Nat.{ℕ}
use Rattle.commands.specs.Answers.{number_of}
use Rattle.unit.specs.Asks.{Ask, Asked}
use Rattle.worlds.specs.Calls.{register_on}
use Rattle.worlds.specs.Calls.{RegisterRead}
use Rattle.sessions.specs.Calling.{on_call, read_register, step, word_of}
use Rattle.stateblock.specs.Block.{Block, session_in}
use Rattle.ts11.specs.Given.{Gives, Host, Reads, opened, register_given, register_of, step_given, world_in}
use Rattle.surface.specs.Hosting.{given}
use Rattle.surface.proofs.Goes.{block_same}

-- a TSDB or TSSR write, operator act, host store or advance
pub given_step : (a : Ask) (h : Asked a) (x : Host) → given (step a h) x ≡ step_given a x
unfolding given on_call step_given
given_step a h x = refl

-- reading a register: its number and word, and nothing else changes
pub given_register : (h : Host) (tssr : Bool) {n w : ℕ} → Block h.block → Reads (register_given h.block tssr) n w
    → Gives h (given (read_register (register_of tssr)) h) n h × (w ≡ word_of (read_register (register_of tssr)) (world_in h))
unfolding given on_call opened register_given word_of
given_register h tssr k x =
    let y : RegisterRead = register_on (session_in h.block) (register_of tssr) in
    let z : register_given h.block tssr ≡ y = rw k.right in (
      rw k.right
          (record {
            answer = x.answer ∙ ap (λ (i : RegisterRead). number_of i.answer) z;
            state = sym (block_same h.block y.answer k);
            memory = refl;
            reel = refl;
            table = refl;
            journal = refl;
            unless_step = λ z. refl;
          }),
      x.word ∙ ap (λ (i : RegisterRead). i.word) z,
    )
