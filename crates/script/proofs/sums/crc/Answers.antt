-- `crc` meets its contract: each byte is one step of the sum.
use Rattle.std.proofs.Common.{◌≡◌, List, ℕ, ◌+◌, ◌<◌, ◌%◌, ◌/◌, take, length, get_or, subst, sym, ap, ◌∙◌, arith, rules}
use Rattle.std.specs.Int.Bits.{bit_xor}
use Rattle.std.proofs.lemmas.List.{take_more}
use Rattle.lists.specs.Words.{Bytes}
use Rattle.script.proofs.Xors.{Summing, crc_by_lem, right_by, summing_all, summing_none, summing_one}
use lib.Seq.{take_all}
use Rattle.script.proofs.sums.crc.Goals as goal

-- the sum of one byte more
summing_more : (l t : List ℕ) (i c x n : ℕ) → i < length t → x ≡ get_or t i 0 → Summing l (take i t) c → n ≡ bit_xor (get_or l (bit_xor c x % 256) 0) (c / 256) → Summing l (take (i + 1) t) n
summing_more l t i c x n k g h e =
    let P : List ℕ → Type 0 = λ s. Summing l s n in
    subst P (sym (take_more t i 0 k)) (summing_one l (take i t) c (get_or t i 0) n h (e ∙ ap (λ y. bit_xor (get_or l (bit_xor c y % 256) 0) (c / 256)) g))

summing_whole : (l t : List ℕ) (i c : ℕ) → length t ≡ i → Summing l (take i t) c → Summing l t c
summing_whole l t i c e h = let P : List ℕ → Type 0 = λ s. Summing l s c in subst P (take_all i t (omega arith)) h

pub loop-x-init : goal.loop-x-init
loop-x-init c = summing_none c.args.table.now

pub loop-x-preserved : goal.loop-x-preserved
loop-x-preserved c =
    let p = c.loop-x in
    summing_more c.args.table.now c.args.b.now p.x-index p.c _ _ (omega arith) c.from.ensures p.invariant (search rules)

pub returns : goal.returns
returns c =
    let p = c.loop-x in
    let l = c.args.table.now in
    let t = c.args.b.now in
    let e = crc_by_lem l t p.c (summing_all l t p.c (summing_whole l t p.x-index p.c (omega arith) p.invariant)) in
    let k : Bytes t = λ i. omega (arith, c.type_inv.b i) in
    record { by = e; right = right_by l t _ k e }
