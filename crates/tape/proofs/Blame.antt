-- What a pass, or a sweep, tells of a block that it names is what is wrong with that block.
use mathlib.Core.Bool.{Bool, false}
use mathlib.Core.List.{List}
use mathlib.Core.Path.{◌≡◌}
use Prim.Native.Nat.{ℕ, zero, suc}
use Rattle.lists.specs.Pick.{Always}
use Rattle.tape.specs.Pass.{passed}
use Rattle.tape.specs.Sweep.{swept_below, swept_below_under, swept_from, swept_from_under, swept_on}
use Rattle.tape.specs.Wrong.{WrongAt}
use Rattle.tape.specs.declared.BlockFault.{BlockFault}
use Rattle.tape.specs.declared.Met.{Met}
use Rattle.tape.specs.declared.Met.TheVariants as met
use Rattle.tape.specs.Sweep.{Swept}
use Rattle.tape.proofs.Faulted.{wrong_at}
use Rattle.tape.proofs.Outcomes.{Outcome, at_end, at_fault, outcome, over_gap, over_mark, over_record}
use Rattle.std.specs.Prelude.{Result, Ok, Err}
use Rattle.tape.specs.declared.Damage.{Damage}
use Rattle.tape.specs.Damage.{damage}

module _ (s : List ℕ) where
  abbrev Wrongly : Result Met Damage → Type 0
  Wrongly (Err d) = WrongAt s d.block d.fault
  Wrongly (Ok (met.Record n t)) = Always
  Wrongly (Ok (met.Mark t)) = Always
  Wrongly (Ok (met.Gap t)) = Always
  Wrongly (Ok met.Nothing) = Always

  module _ (reverse : Bool) (q e : ℕ) where
    wrongly : (x : Result Met Damage) → Outcome s reverse q e x → Wrongly x
    wrongly x (at_end z y) = rw y tt
    wrongly x (over_record n some most fits all y) = rw y tt
    wrongly x (over_mark f c y) = rw y tt
    wrongly x (over_gap f c y) = rw y tt
    wrongly x (at_fault k y) = rw y (wrong_at s k)

    pub bad_wrong : {why : BlockFault} {k : ℕ} → passed s reverse q e ≡ Err (damage why k) → WrongAt s k why
    bad_wrong y = rw y at (wrongly (passed s reverse q e) (outcome s reverse q e))

  module _ (e : ℕ) where
    abbrev SweptWrong : Swept → Type 0
    SweptWrong (Ok u) = Always
    SweptWrong (Err d) = WrongAt s d.block d.fault

    on_wrong : (m : Result Met Damage) (onward : ℕ → Swept) → Wrongly m → ((q : ℕ) → SweptWrong (onward q)) → SweptWrong (swept_on m onward)
    unfolding swept_on
    on_wrong (Ok (met.Record n q)) onward w on = on q
    on_wrong (Ok (met.Mark q)) onward w on = on q
    on_wrong (Ok (met.Gap q)) onward w on = on q
    on_wrong (Ok met.Nothing) onward w on = tt
    on_wrong (Err d) onward w on = w

    from_wrong : (turns p : ℕ) → SweptWrong (swept_from turns s p e)
    unfolding swept_from_under
    from_wrong zero p = tt
    from_wrong (suc turns) p =
        on_wrong (passed s false p e) (λ q. swept_from turns s q e) (wrongly false p e (passed s false p e) (outcome s false p e)) (λ q. from_wrong turns q)

    pub swept_wrong : {why : BlockFault} {k : ℕ} → swept_below s e ≡ Err (damage why k) → WrongAt s k why
    unfolding swept_below_under
    swept_wrong y = rw y at (from_wrong e 0)
