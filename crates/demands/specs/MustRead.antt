-- "7 a block that mount or the command must read is damaged or out of place (its number is given)" (01, the table): why the command comes to read it.
use Rattle.std.specs.Prelude.{true, ◌||◌, ◌&&◌, List, ◌≡◌, ℕ, ◌<◌, eqb, Err}
use Rattle.tape.specs.Pass.{passed}
use Rattle.tape.specs.declared.BlockFault.{BlockFault}
use Rattle.state.specs.declared.Unit.{Unit}
use Rattle.advance.specs.Rules.{writes}
use Rattle.demands.specs.Done.{Gapped, RunsOn, way}
use Rattle.demands.specs.Saying.{count_asked, mark_at_start, rule_asked}
use Rattle.demands.specs.Stops.{SpaceRefused}
use Rattle.demands.specs.Ways.{header}
use Rattle.tape.specs.Damage.{damage}

-- of an advance of the state u over memory m and reel s whose command runs, and its block k
module _ (u : Unit) (m s : List ℕ) where
  pub data MustRead (why : BlockFault) (k : ℕ) : Type 0 where
    -- a Read, a reread and a retry read the first object of their first stage that is no gap, and block k is met in it
    of_one : {q : ℕ} → RunsOn u m s → (eqb (header u m s).code 1 || (writes (header u m s) && eqb (header u m s).mode 2)) ≡ true
        → Gapped u m s q → passed s (way u m s) q u.tape.end ≡ Err (damage why k) → MustRead why k
    -- a Position reads on while some of its count is left and nothing it passed has stopped it
    of_many : RunsOn u m s → (header u m s).code ≡ 8 → (header u m s).mode < 4 → SpaceRefused s u.tape (rule_asked u m s) (count_asked u m s) (mark_at_start u m s) why k → MustRead why k
