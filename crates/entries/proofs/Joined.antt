-- The stores that make an entry join into one run: its length, what was saved, its head.
use mathlib.Core.Bool.{false}
use mathlib.Core.Path.{◌≡◌, refl, sym, ap, ◌∙◌}
use mathlib.Core.List.{List, [], ◌∷◌, ◌++◌, append_assoc, append-nil}
use Prim.Native.Nat.{ℕ, suc, ◌+◌, ◌-◌, ◌≤◌}
use native.Mathlib.Omega.{arith}
use borrow.Rule.Slice.PartMut.{put_mid}
use lib.ListN.{drop, length, length-append, length-drop, set, take}
use lib.Seq.{length-sets, length-take-le, sets}
use Rattle.lists.proofs.Stores.{put_sets, set_first, sets_at}
use Rattle.lists.specs.Fours.{number_bytes}
use Rattle.lists.specs.Places.{gathered}
use Rattle.touched.specs.Touches.{none, run_of, saved_bytes, saved_length}
use Rattle.touched.specs.declared.Touched.{Touched}
use Rattle.touched.proofs.Parts.{length_saved}
use Rattle.entries.specs.declared.Entry.{Entry}
use Rattle.entries.specs.Numbers.{numbers_of}
use Rattle.entries.specs.Bytes.{front_length, numbers_bytes, head_length}
use Rattle.entries.specs.Entries.{entry_bare, entry_bytes, entry_length}
use Rattle.entries.proofs.Back.{length_numbers}
use Rattle.entries.proofs.HeadBytes.{length_head}

-- the length, written out
pub entry_whole : (e : Entry) → entry_length e ≡ entry_bare + saved_length e.touched
unfolding entry_length
entry_whole e = refl

pub head_long : (e : Entry) → length (numbers_bytes (numbers_of e)) ≡ head_length
head_long e = rw (length_head (numbers_of e), length_numbers e)

pub length_entry : (e : Entry) (m r tb : List ℕ) → length (entry_bytes e m r tb) ≡ entry_length e
unfolding entry_bytes entry_length
length_entry e m r tb =
    let saved : List ℕ = saved_bytes e.touched m r tb in
    let head : List ℕ = numbers_bytes (numbers_of e) in
    omega (arith, length-append (number_bytes (entry_bare + saved_length e.touched)) (saved ++ head), length-append saved head, length_saved e.touched m r tb, head_long e)

three : (b p q r : List ℕ) (a x y : ℕ) → length p ≡ x → length q ≡ y → sets (sets (sets b a p) (a + x) q) (a + x + y) r ≡ sets b a (p ++ (q ++ r))
three b p q r a x y k l =
    rw (sets_at p q b a (a + x) (omega arith))
    (rw (sets_at (p ++ q) r b a (a + x + y) (rw length-append (omega arith)))
    (rw append_assoc))

-- a run of stores that lies before another may be made after it
apart : (vs ws l : List ℕ) (i j : ℕ) → j + length ws ≤ i → sets (sets l i vs) j ws ≡ sets (sets l j ws) i vs
apart vs [] l i j h = refl
apart vs (w ∷ ws) l i j h = rw (set_first vs l i j w (omega arith)) (apart vs ws (set l j w) i (suc j) (omega arith))

-- the journal j with an entry's frame, for so many bytes to be saved
abbrev pub framed : Entry → List ℕ → ℕ → ℕ → List ℕ
framed e j used s = sets (sets j used (number_bytes (entry_bare + s))) (used + front_length + s) (numbers_bytes (numbers_of e))

-- and what was saved within it
pub entry_entered : (e : Entry) (m r tb j j₁ g : List ℕ) (used s : ℕ) → used + entry_length e ≤ length j → s ≡ saved_length e.touched → j₁ ≡ framed e j used s → g ≡ saved_bytes e.touched m r tb → put_mid (used + front_length) (used + front_length + s - (used + front_length)) j₁ g ≡ sets j used (entry_bytes e m r tb)
unfolding entry_bytes entry_length
entry_entered e m r tb j j₁ g used s h d p₁ p₂ =
    let n : List ℕ = number_bytes (entry_bare + s) in
    let head : List ℕ = numbers_bytes (numbers_of e) in
    let long : length g ≡ s = ap length p₂ ∙ length_saved e.touched m r tb ∙ sym d in
    let room : used + front_length + s ≤ length j₁ = rw p₁ (rw (length-sets, length-sets) (omega (arith, entry_whole e))) in
    let x : used + front_length + s - (used + front_length) ≡ s = omega arith in
    let joined : sets (sets (sets j used n) (used + front_length) (saved_bytes e.touched m r tb)) (used + front_length + s) head ≡ sets j used (n ++ (saved_bytes e.touched m r tb ++ head)) = three j n (saved_bytes e.touched m r tb) head used front_length s refl (length_saved e.touched m r tb ∙ sym d) in
    rw (x, put_sets (used + front_length) s j₁ g long room, p₁, apart head g (sets j used n) (used + front_length + s) (used + front_length) (omega (arith, long)), p₂, joined, d)

-- a run of memory saves its bytes, whatever reel and table
pub run_saved : (m r tb : List ℕ) (at n : ℕ) → saved_bytes (run_of at n) m r tb ≡ gathered false m at n
unfolding saved_bytes gathered
run_saved m r tb at n = append-nil (gathered false m at n)

pub run_long : (at n : ℕ) → saved_length (run_of at n) ≡ n
run_long at n = omega arith

pub run_whole : (e : Entry) (at n : ℕ) → e.touched ≡ run_of at n → entry_length e ≡ entry_bare + n
run_whole e at n h = entry_whole e ∙ ap (λ (t : Touched). entry_bare + saved_length t) h ∙ ap (λ (i : ℕ). entry_bare + i) (run_long at n)

-- so its entry is the same with every reel and table; and one that saves nothing, with every memory too
pub run_bytes : (e : Entry) (m r tb : List ℕ) (at n : ℕ) → e.touched ≡ run_of at n → entry_bytes e m r tb ≡ entry_bytes e m [] []
unfolding entry_bytes
run_bytes e m r tb at n h = rw (h, run_saved m r tb at n, run_saved m [] [] at n)

pub bare_bytes : (e : Entry) (m r tb : List ℕ) → e.touched ≡ none → entry_bytes e m r tb ≡ entry_bytes e [] [] []
unfolding entry_bytes gathered
bare_bytes e m r tb h = rw (h, run_saved m r tb 0 0, run_saved [] [] [] 0 0)

bare_is : (e : Entry) → e.touched ≡ none → entry_bytes e [] [] [] ≡ number_bytes entry_bare ++ numbers_bytes (numbers_of e)
unfolding entry_bytes entry_length saved_bytes gathered
bare_is e h = ap (λ (t : Touched). number_bytes (entry_bare + saved_length t) ++ (saved_bytes t [] [] [] ++ numbers_bytes (numbers_of e))) h

pub bare_entered : (e : Entry) (j : List ℕ) (used : ℕ) → e.touched ≡ none → framed e j used 0 ≡ sets j used (entry_bytes e [] [] [])
bare_entered e j used h = rw (bare_is e h) (sets_at (number_bytes entry_bare) (numbers_bytes (numbers_of e)) j used (used + front_length + 0) (omega arith))

module _ (e : Entry) (m j j₁ g : List ℕ) (used at n : ℕ) (h : e.touched ≡ run_of at n) where
  run_length : saved_length e.touched ≡ n
  run_length = ap saved_length h ∙ run_long at n

  abbrev part : List ℕ
  part = take (used + front_length + n - (used + front_length)) (drop (used + front_length) j₁)

  pub run_entered : used + entry_bare + n ≤ length j → j₁ ≡ framed e j used n → g ≡ gathered false m at (length part) → put_mid (used + front_length) (used + front_length + n - (used + front_length)) j₁ g ≡ sets j used (entry_bytes e m [] [])
  run_entered room p₁ p₂ =
      let l₁ : length j₁ ≡ length j = rw p₁ (rw (length-sets, length-sets)) in
      let long : length part ≡ n = length-take-le (used + front_length + n - (used + front_length)) (drop (used + front_length) j₁) (omega (arith, length-drop (used + front_length) j₁)) ∙ omega arith in
      entry_entered e m [] [] j j₁ g used n (omega (arith, entry_whole e, run_length)) (sym run_length) p₁
      (p₂ ∙ ap (gathered false m at) long ∙ sym (ap (λ (t : Touched). saved_bytes t m [] []) h ∙ run_saved m [] [] at n))
