-- Laws of `sets`, a run of stores: how two runs join, and what a run leaves as it was.
use mathlib.Core.Path.{◌≡◌, refl, sym, ap, ◌∙◌}
use mathlib.Core.List.{List, [], ◌∷◌, ◌++◌, append_assoc, append-nil}
use Prim.Native.Nat.{ℕ, zero, suc, ◌+◌, ◌-◌, ◌≤◌, ◌<◌}
use native.Mathlib.Nat.{add-suc, suc-add, add-zero}
use native.Mathlib.Omega.{arith}
use borrow.Rule.Slice.PartMut.{put_mid}
use lib.ListN.{length, take, drop, get_or, set, length-drop, length-set, drop_of_length-le}
use lib.Seq.{sets, sets-eq, set_comm, set-set, drop-drop, length-take-le, get_or-set_other, get_or-set_same, take-set-le, drop-set-lt, drop_at, take-append_seam}

-- two runs that meet are one run
pub sets_more : (vs ws l : List ℕ) (i : ℕ) → sets (sets l i vs) (i + length vs) ws ≡ sets l i (vs ++ ws)
sets_more [] ws l i = rw add-zero
sets_more (a ∷ vs) ws l i = rw (add-suc, ← suc-add) (sets_more vs ws (set l i a) (suc i))

pub sets_at : (vs ws l : List ℕ) (i j : ℕ) → j ≡ i + length vs → sets (sets l i vs) j ws ≡ sets l i (vs ++ ws)
sets_at vs ws l i j e = rw e (sets_more vs ws l i)

-- a run over the whole list leaves nothing of it
pub sets_whole : (vs b : List ℕ) → length vs ≡ length b → sets b 0 vs ≡ vs
sets_whole vs b e = sets-eq vs b 0 (omega arith) ∙ ap (λ (t : List ℕ). vs ++ t) (drop_of_length-le b {i = 0 + length vs} (omega arith)) ∙ append-nil vs

-- a store before a run may come first
pub set_first : (vs l : List ℕ) (i p v : ℕ) → p < i → set (sets l i vs) p v ≡ sets (set l p v) i vs
set_first [] l i p v h = refl
set_first (w ∷ vs) l i p v h = set_first vs (set l i w) (suc i) p v (omega arith) ∙ ap (λ (m : List ℕ). sets m (suc i) vs) (set_comm l i p w v (λ e. omega arith))

-- a run leaves nothing of a shorter one at its place
pub sets_over : (vs ws l : List ℕ) (i : ℕ) → length vs ≤ length ws → sets (sets l i vs) i ws ≡ sets l i ws
sets_over [] ws l i h = refl
sets_over (v ∷ vs) [] l i h = absurd (omega arith)
sets_over (v ∷ vs) (w ∷ ws) l i h = rw (set_first vs (set l i v) (suc i) i w (omega arith), set-set l i v w) (sets_over vs ws (set l i w) (suc i) (omega arith))

-- a part that was lent comes back as a run of stores
pub put_sets : (a m : ℕ) (xs ys : List ℕ) → length ys ≡ m → a + m ≤ length xs → put_mid a m xs ys ≡ sets xs a ys
put_sets a m xs ys e h = rw (← e, drop-drop, ← append_assoc) (sym (sets-eq ys xs a (omega arith)))

-- how many bytes a part has
pub length_part : (d : List ℕ) (from n : ℕ) → from + n ≤ length d → length (take n (drop from d)) ≡ n
length_part d from n h = length-take-le n (drop from d) (rw length-drop (omega arith))

-- a lent part that a call fills with as many bytes as it is long
pub filled : (f : ℕ → List ℕ) → ((m : ℕ) → length (f m) ≡ m) → (b g : List ℕ) (a e : ℕ) → a ≤ e → e ≤ length b → g ≡ f (length (take (e - a) (drop a b))) → put_mid a (e - a) b g ≡ sets b a (f (e - a))
filled f l b g a e h k p =
    let q : length (take (e - a) (drop a b)) ≡ e - a = length_part b a (e - a) (omega arith) in
    rw (p, q) (put_sets a (e - a) b (f (e - a)) (l (e - a)) (omega arith))

-- what stands at an index below, above and within the run
pub get_d_below : (vs l : List ℕ) (i j : ℕ) → j < i → get_or (sets l i vs) j 0 ≡ get_or l j 0
get_d_below [] l i j h = refl
get_d_below (v ∷ vs) l i j h = get_d_below vs (set l i v) (suc i) j (omega arith) ∙ get_or-set_other l i j v 0 (λ e. omega arith)

pub get_d_above : (vs l : List ℕ) (i j : ℕ) → i + length vs ≤ j → get_or (sets l i vs) j 0 ≡ get_or l j 0
get_d_above [] l i j h = refl
get_d_above (v ∷ vs) l i j h = get_d_above vs (set l i v) (suc i) j (omega arith) ∙ get_or-set_other l i j v 0 (λ e. omega arith)

pub get_d_within : (vs l : List ℕ) (i j : ℕ) → j < length vs → i + length vs ≤ length l → get_or (sets l i vs) (i + j) 0 ≡ get_or vs j 0
get_d_within [] l i j h k = absurd (omega arith)
get_d_within (v ∷ vs) l i zero h k = rw add-zero (get_d_below vs (set l i v) (suc i) i (omega arith) ∙ get_or-set_same l i v 0 (omega arith))
get_d_within (v ∷ vs) l i (suc j) h k = rw (add-suc, ← suc-add) (get_d_within vs (set l i v) (suc i) j (omega arith) (rw length-set (omega arith)))

-- the parts before, after and at the run
pub take_sets : (vs l : List ℕ) (i n : ℕ) → n ≤ i → take n (sets l i vs) ≡ take n l
take_sets [] l i n h = refl
take_sets (v ∷ vs) l i n h = take_sets vs (set l i v) (suc i) n (omega arith) ∙ take-set-le n l i v h

pub drop_sets : (vs l : List ℕ) (i n : ℕ) → i + length vs ≤ n → drop n (sets l i vs) ≡ drop n l
drop_sets [] l i n h = refl
drop_sets (v ∷ vs) l i n h = drop_sets vs (set l i v) (suc i) n (omega arith) ∙ drop-set-lt n l i v (omega arith)

pub sets_part : (vs l : List ℕ) (i : ℕ) → i + length vs ≤ length l → take (length vs) (drop i (sets l i vs)) ≡ vs
sets_part vs l i h =
    let e : length (take i l) ≡ i = length-take-le i l (omega arith) in
    rw (sets-eq vs l i, append_assoc, drop_at) (take-append_seam vs (drop (i + length vs) l))
