-- Which block a refusal with 7 names: the first at fault that is met, and in which way it is at fault.
use mathlib.Core.Bool.{Bool, true, false, ◌&&◌, and-eq-true_iff, not}
use mathlib.Core.List.{List}
use mathlib.Core.Path.{◌≡◌, refl, sym, ap, subst, ◌∙◌}
use Prim.Native.Nat.{ℕ, zero, suc, ◌+◌, ◌-◌, ◌<◌, ◌≤◌}
use native.Mathlib.Omega.{arith}
use borrow.Author.Tests.{eq-eqb, eqb-false, eqb-true, le-leb, leb-true}
use lib.Dec.{eqb, leb}
use Rattle.lists.specs.Pick.{Always}
use Rattle.lists.proofs.Cases.{by_test, pick_told}
use Rattle.tape.specs.Numbers.{pieces_of, record_limit}
use Rattle.tape.specs.Pass.{ahead, bad_at, beyond, fault_of, first_met, is_piece, lowest, met_by, met_by_under, order_met, passed, passed_under, pieces_met, pieces_met_under, record_met, record_met_under}
use Rattle.tape.specs.Reading.{class_at}
use Rattle.tape.specs.Sweep.{swept_below, swept_below_under, swept_from, swept_from_under, swept_on}
use Rattle.tape.specs.declared.BlockFault.{BlockFault}
use Rattle.tape.specs.declared.BlockFault.TheVariants as fault
use Rattle.tape.specs.declared.Block.{Block}
use Rattle.tape.specs.declared.Block.TheVariants as block
use Rattle.tape.specs.declared.Met.{Met}
use Rattle.tape.specs.declared.Met.TheVariants as met
use Rattle.tape.specs.Sweep.{Swept}
use Rattle.tape.proofs.Accepted.{clash}
use Rattle.tape.proofs.Blame.{bad_wrong}
use Rattle.tape.proofs.Faulted.{wrong_told}
use Rattle.tape.proofs.Below.{lowest_below}
use Rattle.tape.proofs.Outcomes.{Outcome, at_end, at_fault, one_at_least, outcome, over_gap, over_mark, over_record}
use Rattle.tape.proofs.Passes.{first_order, met_record, order_below, passed_by}
use Rattle.tape.proofs.ReadBlocks.{piece_read}
use Rattle.tape.proofs.Within.{RecordIn, gap_within, mark_within, pass_onward, pass_within}
use Rattle.moves.specs.Seeking.{sought}
use Rattle.moves.specs.declared.seeking.Sought.TheVariants as sought-as
use Rattle.demands.specs.Faults.{FaultAt, FirstFault, ReadOver, damaged, met_at, not_due, nothing_yet, out_of_place, then_gap, then_mark, then_record}
use Rattle.demands.proofs.ReadBack.{found_at_once}
use Rattle.std.specs.Prelude.{Result, Ok, Err}
use Rattle.tape.specs.declared.Damage.{Damage}
use Rattle.tape.specs.Damage.{damage}

-- a block is piece i of a record of n bytes exactly where the test says so
piece_true : (b : Result Block BlockFault) (n i : ℕ) → is_piece b n i ≡ true → b ≡ Ok (block.Piece n i)
unfolding is_piece
piece_true (Ok (block.Piece n' i')) n i h =
    let t = (and-eq-true_iff (eqb n' n) (eqb i' i)).0 h in
    cc (eqb-true n' n t.0, eqb-true i' i t.1)
piece_true (Ok block.Mark) n i h = cc
piece_true (Ok block.Gap) n i h = cc
piece_true (Err f) n i h = cc

piece_is : (b : Result Block BlockFault) (n i : ℕ) → b ≡ Ok (block.Piece n i) → is_piece b n i ≡ true
unfolding is_piece
piece_is b n i h = rw (h, eq-eqb n n refl, eq-eqb i i refl)

piece_false : (b : Result Block BlockFault) (n i : ℕ) → is_piece b n i ≡ false → b ≡ Ok (block.Piece n i) → ⊥
piece_false b n i h y = clash (cc (piece_is b n i y))

piece_not : (b : Result Block BlockFault) (n i : ℕ) → (b ≡ Ok (block.Piece n i) → ⊥) → is_piece b n i ≡ false
piece_not b n i f = by_test (is_piece b n i) (λ t. absurd (f (piece_true b n i t))) (λ t. t)

-- at most, and not the same
below : (i j : ℕ) → i ≤ j → (i ≡ j → ⊥) → i < j
below i j h f = omega arith

-- what holds of each number below j, and of j, holds of each below the next
and_next : (P : ℕ → Type 0) (j : ℕ) → ((i : ℕ) → i < j → P i) → P j → (i : ℕ) → i < suc j → P i
and_next P j f h i l = by_test (eqb i j) (λ t. subst P (sym (eqb-true i j t)) h) (λ t. f i (below i j (omega arith) (eqb-false i j t)))

module _ (s : List ℕ) (e : ℕ) (reverse : Bool) (q : ℕ) where
  -- the block met as number j is the piece due there, of a record of n bytes
  abbrev Due : ℕ → ℕ → Type 0
  Due n j = class_at s (met_at s e reverse q (pieces_of n) j) ≡ Ok (block.Piece n (order_met reverse (pieces_of n) j))

  -- a pass that names a block names the first at fault
  abbrev Faulty : Result Met Damage → Type 0
  Faulty (Err d) = FaultAt s e reverse q d.block
  Faulty (Ok (met.Record n q')) = Always
  Faulty (Ok (met.Mark q')) = Always
  Faulty (Ok (met.Gap q')) = Always
  Faulty (Ok met.Nothing) = Always

  -- the pieces before number j were the ones due: the next that is not is the first at fault
  pieces_faulty : (n j c : ℕ) → pieces_of n ≤ ahead reverse q e → 1 ≤ j → c ≤ pieces_of n - j → ((i : ℕ) → i < j → Due n i)
      → Faulty (pieces_met s reverse n (lowest reverse q (pieces_of n)) (pieces_of n) j c (met.Record n (beyond reverse q (pieces_of n))))
  unfolding pieces_met_under
  pieces_faulty n j zero fits one all f = tt
  pieces_faulty n j (suc c) fits one all f =
      let m : ℕ = pieces_of n in
      let i : ℕ = order_met reverse m j in
      let b : Result Block BlockFault = class_at s (met_at s e reverse q m j) in
      pick_told Faulty (is_piece b n i) _ _
      (λ t. pieces_faulty n (suc j) c fits (omega arith) (omega arith) (and_next (Due n) j f (piece_true b n i t)))
      (λ t. not_due fits one (omega arith) f (piece_false b n i t))

  -- a record met at its piece i
  record_faulty : (n i : ℕ) → 1 ≤ ahead reverse q e → class_at s (first_met reverse q) ≡ Ok (block.Piece n i) → Faulty (record_met s reverse q e n i)
  unfolding record_met_under
  record_faulty n i h c =
      let m : ℕ = pieces_of n in
      let first : Bool = eqb i (order_met reverse m 0) in
      let whole : Bool = leb m (ahead reverse q e) in
      pick_told Faulty (first && whole) _ _
      (λ t.
      let both = (and-eq-true_iff first whole).0 t in
      let fits : m ≤ ahead reverse q e = leb-true m (ahead reverse q e) both.1 in
      let some : 1 ≤ m = omega (arith, (piece_read s (first_met reverse q) n i c).0) in
      let due : Due n 0 = rw (← first_order reverse q e m some fits) (rw (eqb-true i (order_met reverse m 0) both.0) at c) in
      pieces_faulty n 1 (m - 1) fits (omega arith) (omega arith) (and_next (Due n) 0 (λ i l. absurd (omega arith)) due))
      (λ t. out_of_place h c (λ a b. clash (cc (t, (and-eq-true_iff first whole).1 (eq-eqb i (order_met reverse m 0) a, le-leb m (ahead reverse q e) b)))))

  -- whatever the first block met is
  block_faulty : (b : Result Block BlockFault) → 1 ≤ ahead reverse q e → class_at s (first_met reverse q) ≡ b → Faulty (met_by s reverse q e b)
  unfolding met_by_under
  block_faulty (Ok (block.Piece n i)) h c = record_faulty n i h c
  block_faulty (Ok block.Mark) h c = tt
  block_faulty (Ok block.Gap) h c = tt
  block_faulty (Err f) h c = damaged h c

  -- and so the pass over it
  pass_faulty : Faulty (passed s reverse q e)
  unfolding passed_under
  pass_faulty =
      let n : ℕ = ahead reverse q e in
      pick_told Faulty (eqb n 0) _ _ (λ t. tt) (λ t. block_faulty (class_at s (first_met reverse q)) (one_at_least n (eqb-false n 0 t)) refl)

-- "the first at fault is named"
pub bad_first : (s : List ℕ) (e : ℕ) (reverse : Bool) (q : ℕ) (why : BlockFault) (k : ℕ) → passed s reverse q e ≡ Err (damage why k) → FaultAt s e reverse q k
bad_first s e reverse q why k y = rw y at (pass_faulty s e reverse q)

-- the blocks ahead lie below the end
first_below : (reverse : Bool) (q e : ℕ) → q ≤ e → 1 ≤ ahead reverse q e → first_met reverse q < e
first_below true q e h k = omega arith
first_below false q e h k = omega arith

-- a block at fault lies below the recorded end
pub bad_below : (s : List ℕ) (e : ℕ) (reverse : Bool) (q k : ℕ) → q ≤ e → FaultAt s e reverse q k → k < e
bad_below s e reverse q k h (damaged a c) = first_below reverse q e h a
bad_below s e reverse q k h (out_of_place a c f) = first_below reverse q e h a
bad_below s e reverse q k h (not_due {n = n} {j = j} fits one l f g) =
    omega (arith, lowest_below reverse q e (pieces_of n) h fits, order_below reverse (pieces_of n) j l)

-- what was read over leads to no position beyond the recorded end
pub over_below : (s : List ℕ) (e : ℕ) (reverse : Bool) {p q : ℕ} → p ≤ e → ReadOver s e reverse p q → q ≤ e
over_below s e reverse h nothing_yet = h
over_below s e reverse h (then_record {q = q} o y) = (pass_onward s reverse q e (over_below s e reverse h o) y).below
over_below s e reverse h (then_mark {q = q} o y) = (mark_within s reverse q e (over_below s e reverse h o) y).below
over_below s e reverse h (then_gap {q = q} o y) = (gap_within s reverse q e (over_below s e reverse h o) y).below

-- the way back from beyond m blocks: they lie ahead, from the same block on, and beyond them is where the way began
back_ahead : (reverse : Bool) (q e m : ℕ) → q ≤ e → m ≤ ahead reverse q e → m ≤ ahead (not reverse) (beyond reverse q m) e
back_ahead true q e m h k = omega arith
back_ahead false q e m h k = omega arith

back_lowest : (reverse : Bool) (q m : ℕ) → lowest (not reverse) (beyond reverse q m) m ≡ lowest reverse q m
back_lowest true q m = refl
back_lowest false q m = omega arith

back_beyond : (reverse : Bool) (q e m : ℕ) → m ≤ ahead reverse q e → beyond (not reverse) (beyond reverse q m) m ≡ q
back_beyond true q e m k = omega arith
back_beyond false q e m k = omega arith

module _ (s : List ℕ) (e : ℕ) (reverse : Bool) (q : ℕ) (h : q ≤ e) where
  -- a record that was met is met the other way too, from beyond it
  abbrev Back : Result Met Damage → Type 0
  Back (Ok (met.Record n t)) = passed s (not reverse) t e ≡ Ok (met.Record n q)
  Back (Ok (met.Mark t)) = Always
  Back (Ok (met.Gap t)) = Always
  Back (Ok met.Nothing) = Always
  Back (Err d) = Always

  back_by : (x : Result Met Damage) → Outcome s reverse q e x → Back x
  back_by x (at_end z y) = rw y tt
  back_by x (over_record n some most fits all y) =
      let m : ℕ = pieces_of n in
      let t : ℕ = beyond reverse q m in
      let w : passed s (not reverse) t e ≡ Ok (met.Record n (beyond (not reverse) t m)) =
      met_record record_limit s (not reverse) t e n some (back_ahead reverse q e m h fits) (rw (back_lowest reverse q m) all) in
      rw y (rw (back_beyond reverse q e m fits) at w)
  back_by x (over_mark f c y) = rw y tt
  back_by x (over_gap f c y) = rw y tt
  back_by x (at_fault k y) = rw y tt

  -- the pass back over a record meets it again, and leads to where the pass over it began
  pub pass_back : {n t : ℕ} → passed s reverse q e ≡ Ok (met.Record n t) → passed s (not reverse) t e ≡ Ok (met.Record n q)
  pass_back y = rw y at (back_by (passed s reverse q e) (outcome s reverse q e))

  -- so a search back finds it at once
  pub sought_back : {n t : ℕ} → passed s reverse q e ≡ Ok (met.Record n t) → sought s (not reverse) t e ≡ Ok (sought-as.Record n q)
  sought_back {n = n} {t = t} y =
      let i : RecordIn reverse e n t = pass_within s reverse q e h y in
      found_at_once s (not reverse) t e n q (omega (arith, i.inside, i.some)) (pass_back y)

module _ (s : List ℕ) (e : ℕ) (reverse : Bool) (q : ℕ) where
  -- a piece that is not met first, or of a record that is cut off
  record_cut : (n i : ℕ) → (i ≡ order_met reverse (pieces_of n) 0 → pieces_of n ≤ ahead reverse q e → ⊥) → record_met s reverse q e n i ≡ Err (damage fault.Index (first_met reverse q))
  unfolding record_met_under
  record_cut n i f =
      let m : ℕ = pieces_of n in
      let first : Bool = eqb i (order_met reverse m 0) in
      let whole : Bool = leb m (ahead reverse q e) in
      pick_told (λ x. x ≡ Err (damage fault.Index (first_met reverse q))) (first && whole) _ _
      (λ t.
      let both = (and-eq-true_iff first whole).0 t in
      absurd (f (eqb-true i (order_met reverse m 0) both.0) (leb-true m (ahead reverse q e) both.1)))
      (λ t. refl)

  -- the pieces before number j are the ones due and number j is not: from number i on it is the one named
  pieces_bad : (n j i c : ℕ) (x : Met) → i ≤ j → j < i + c → ((i : ℕ) → i < j → Due s e reverse q n i) → (Due s e reverse q n j → ⊥)
      → pieces_met s reverse n (lowest reverse q (pieces_of n)) (pieces_of n) i c x ≡ bad_at s (met_at s e reverse q (pieces_of n) j)
  unfolding pieces_met_under
  pieces_bad n j i zero x h l f g = absurd (omega arith)
  pieces_bad n j i (suc c) x h l f g =
      let m : ℕ = pieces_of n in
      by_test (eqb i j)
      (λ t. rw (eqb-true i j t, piece_not _ n (order_met reverse m j) g))
      (λ t.
      let less : i < j = below i j h (eqb-false i j t) in
      rw (piece_is _ n (order_met reverse m i) (f i less)) (pieces_bad n j (suc i) c x less (omega arith) f g))

-- and the other way: a block at fault in one of the three ways is the one that the pass names
pub first_bad : (s : List ℕ) (e : ℕ) (reverse : Bool) (q k : ℕ) → FaultAt s e reverse q k → passed s reverse q e ≡ bad_at s k
unfolding met_by_under record_met_under fault_of
first_bad s e reverse q k (damaged {f = f} h c) = passed_by record_limit s reverse q e (Err f) h c ∙ rw c
first_bad s e reverse q k (out_of_place {n = n} {i = i} h c f) = passed_by record_limit s reverse q e (Ok (block.Piece n i)) h c ∙ record_cut s e reverse q n i f ∙ rw c
first_bad s e reverse q k (not_due {n = n} {j = j} fits one l f g) =
    let m : ℕ = pieces_of n in
    let i : ℕ = order_met reverse m 0 in
    let c : class_at s (first_met reverse q) ≡ Ok (block.Piece n i) = rw (first_order reverse q e m (omega arith) fits) (f 0 one) in
    passed_by record_limit s reverse q e (Ok (block.Piece n i)) (omega arith) c
    ∙ rw (eq-eqb i i refl, le-leb m (ahead reverse q e) fits) (pieces_bad s e reverse q n j 1 (m - 1) _ one (omega arith) f g)

-- read this way on the reel s, recorded up to e
module _ (s : List ℕ) (e : ℕ) (reverse : Bool) where
  -- a pass that names a block, behind what was read over
  pub first_here : {p q : ℕ} {why : BlockFault} {k : ℕ} → p ≤ e → ReadOver s e reverse p q → passed s reverse q e ≡ Err (damage why k) → FirstFault s e reverse p why k
  first_here {q = q} {why = why} {k = k} h o y =
      let f : FaultAt s e reverse q k = bad_first s e reverse q why k y in
      record { from = q; before = o; fault = f; below = bad_below s e reverse q k (over_below s e reverse h o) f; wrong = bad_wrong s reverse q e y }

  -- where a pass over a whole object led
  abbrev Leads : Result Met Damage → ℕ → Type 0
  Leads (Ok (met.Record n q)) t = q ≡ t
  Leads (Ok (met.Mark q)) t = q ≡ t
  Leads (Ok (met.Gap q)) t = q ≡ t
  Leads (Ok met.Nothing) t = ⊥
  Leads (Err d) t = ⊥

  one_way : (x : Result Met Damage) {t t₂ : ℕ} → Leads x t → Leads x t₂ → t ≡ t₂
  one_way (Ok (met.Record n q)) a b = sym a ∙ b
  one_way (Ok (met.Mark q)) a b = sym a ∙ b
  one_way (Ok (met.Gap q)) a b = sym a ∙ b
  one_way (Ok met.Nothing) a b = absurd a
  one_way (Err d) a b = absurd a

  -- block k is the one named ahead of a position: by the pass from there, or further on, from where that pass leads
  data NamedAhead (why : BlockFault) (k : ℕ) : ℕ → Type 0 where
    at_once : {q : ℕ} → passed s reverse q e ≡ Err (damage why k) → NamedAhead why k q
    further : {q t : ℕ} → Leads (passed s reverse q e) t → NamedAhead why k t → NamedAhead why k q

  -- behind what was read over too, an object at a time
  named_behind : {p q : ℕ} {why : BlockFault} {k : ℕ} → ReadOver s e reverse p q → NamedAhead why k q → NamedAhead why k p
  named_behind nothing_yet a = a
  named_behind (then_record o y) a = named_behind o (further (rw y refl) a)
  named_behind (then_mark o y) a = named_behind o (further (rw y refl) a)
  named_behind (then_gap o y) a = named_behind o (further (rw y refl) a)

  first_named : {p : ℕ} {why : BlockFault} {k : ℕ} → FirstFault s e reverse p why k → NamedAhead why k p
  first_named {why = why} {k = k} f =
      named_behind f.before (at_once (first_bad s e reverse f.from k f.fault ∙ ap (λ (g : BlockFault). Err (damage g k)) (wrong_told s k why f.wrong)))

  -- a pass from one position has one outcome
  one_named : {why why₂ : BlockFault} {k k₂ q : ℕ} → NamedAhead why k q → NamedAhead why₂ k₂ q → (why ≡ why₂) × (k ≡ k₂)
  one_named {why} {why₂} {k} {k₂} (at_once y) (at_once z) =
      let e : damage why k ≡ damage why₂ k₂ = cc (y, z) in
      (ap (λ (d : Damage). d.fault) e, ap (λ (d : Damage). d.block) e)
  one_named (at_once y) (further l b) = absurd (rw y at l)
  one_named (further l a) (at_once z) = absurd (rw z at l)
  one_named {why₂ = why₂} {k₂ = k₂} {q = q} (further l a) (further l₂ b) = one_named a (subst (NamedAhead why₂ k₂) (one_way (passed s reverse q e) l₂ l) b)

  -- one block only is the first at fault that lies ahead of p, and one fault is what is wrong with it
  pub first_unique : {p : ℕ} {why why₂ : BlockFault} {k k₂ : ℕ} → FirstFault s e reverse p why k → FirstFault s e reverse p why₂ k₂ → (why ≡ why₂) × (k ≡ k₂)
  first_unique f g = one_named (first_named f) (first_named g)

module _ (s : List ℕ) (e : ℕ) where
  -- the first fault from block 0 where a sweep names a block
  abbrev SweptOver : Swept → Type 0
  SweptOver (Ok u) = Always
  SweptOver (Err d) = FirstFault s e false 0 d.fault d.block

  -- one turn of the sweep: every object sends it on
  swept_on_lem : (q : ℕ) (x : Result Met Damage) (onward : ℕ → Swept) → ReadOver s e false 0 q → passed s false q e ≡ x → ((t : ℕ) → ReadOver s e false 0 t → SweptOver (onward t)) → SweptOver (swept_on x onward)
  unfolding swept_on
  swept_on_lem q (Ok (met.Record n t)) onward o y on = on t (then_record o y)
  swept_on_lem q (Ok (met.Mark t)) onward o y on = on t (then_mark o y)
  swept_on_lem q (Ok (met.Gap t)) onward o y on = on t (then_gap o y)
  swept_on_lem q (Ok met.Nothing) onward o y on = tt
  swept_on_lem q (Err d) onward o y on = first_here s e false (omega arith) o y

  -- every turn, from a position that was read over to
  swept_from_lem : (turns q : ℕ) → ReadOver s e false 0 q → SweptOver (swept_from turns s q e)
  unfolding swept_from_under
  swept_from_lem zero q o = tt
  swept_from_lem (suc turns) q o = swept_on_lem q (passed s false q e) (λ t. swept_from turns s t e) o refl (λ t a. swept_from_lem turns t a)

  -- "Mount reads every block below the end it is given": the sweep names the first block at fault
  pub swept_first : (why : BlockFault) (k : ℕ) → swept_below s e ≡ Err (damage why k) → FirstFault s e false 0 why k
  unfolding swept_below_under
  swept_first why k y = rw y at (swept_from_lem e 0 nothing_yet)
