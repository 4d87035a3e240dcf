-- `place_in` meets its contract. None of the first k words is w, and what is left stands behind them.
use mathlib.Core.Path.{refl, sym, ◌∙◌}
use native.Mathlib.Nat.{sub-zero}
use native.Mathlib.Omega.{arith}
use lib.ListN.{length}
use Rattle.script.proofs.Found.{place_end, place_on, place_stop}
use Rattle.script.proofs.Passing.{over_more, over_none, word_beyond, word_is}
use Rattle.script.proofs.words.place_in.Goals as goal

pub loop-k-init : goal.loop-k-init
loop-k-init c = record { none = rw (sub-zero (length c.args.list.now)); behind = over_none _ }

pub returns-then-eq : goal.returns-then-eq
returns-then-eq c =
    let l = c.loop-k in
    let t = c.args.list.now in
    let w = word_is t l.k l.k _ _ _ refl l.invariant.behind c.from_word-word.ensures c.pass-end.ensures.is in
    sym (l.invariant.none ∙ place_stop t c.args.w.now l.k _ _ _ c.loop-k-test.true w (sym c.eq.ensures ∙ c.if-eq.true))

pub loop-k-preserved : goal.loop-k-preserved
loop-k-preserved c =
    let l = c.loop-k in
    let t = c.args.list.now in
    let first = c.from_word-word.ensures in
    let end = c.pass-end.ensures.is in
    let w = word_is t l.k l.k _ _ _ refl l.invariant.behind first end in
    record {
      none = l.invariant.none ∙ place_on t c.args.w.now l.k _ _ _ c.loop-k-test.true w (sym c.eq.ensures ∙ c.if-eq.false);
      behind = over_more t _ _ l.k l.invariant.behind (word_beyond _ _ _ first end);
    }

pub returns : goal.returns
returns c =
    let l = c.loop-k in
    sym (l.invariant.none ∙ place_end c.args.list.now c.args.w.now l.k _ (omega arith))
