-- The parts that `save` fills join into what is saved, and those that `bring_back` reads are what was saved.
use mathlib.Core.Path.{◌≡◌, sym, ap, ◌∙◌}
use mathlib.Core.Bool.{Bool, false}
use mathlib.Core.List.{List, ◌++◌, append_assoc}
use Prim.Native.Nat.{ℕ, ◌+◌, ◌-◌, ◌*◌, ◌≤◌}
use native.Mathlib.Omega.{arith}
use borrow.Rule.Slice.PartMut.{put_mid}
use lib.ListN.{length, take, drop, length-append, length-drop}
use lib.Seq.{length-sets, sets, take_all}
use Rattle.lists.specs.Places.{gathered, placed}
use Rattle.lists.proofs.Placed.{gathered_plain, length_gathered, placed_plain}
use Rattle.lists.proofs.Stores.{filled, sets_at, sets_whole}
use Rattle.tape.specs.Numbers.{block_bytes}
use Rattle.index.specs.Table.{place_length}
use Rattle.touched.specs.declared.Touched.{Touched}
use Rattle.touched.specs.Touches.{PlacesIn, Restored, memory_back, reel_back, saved_bytes, saved_length, saved_places, table_back}
use Rattle.touched.proofs.Parts.{length_saved, old_blocks, old_data, old_message, old_places}

-- a lent part from a to e that a gather fills
part_filled : (w : Bool) (m b g : List ℕ) (at a e x : ℕ) → a ≤ e → e ≤ length b → e - a ≡ x → g ≡ gathered w m at (length (take (e - a) (drop a b))) → put_mid a (e - a) b g ≡ sets b a (gathered w m at x)
part_filled w m b g at a e x h k n p = filled (gathered w m at) (length_gathered w m at) b g a e h k p ∙ ap (λ (i : ℕ). sets b a (gathered w m at i)) n

four_join : (b p q r s : List ℕ) (x y z : ℕ) → length p ≡ x → length q ≡ y → length r ≡ z → length (p ++ (q ++ (r ++ s))) ≡ length b → sets (sets (sets (sets b 0 p) x q) (x + y) r) (x + y + z) s ≡ p ++ (q ++ (r ++ s))
four_join b p q r s x y z k l n long =
    rw (sets_at p q b 0 x (omega arith))
    (rw (sets_at (p ++ q) r b 0 (x + y) (rw length-append (omega arith)))
    (rw (sets_at (p ++ q ++ r) s b 0 (x + y + z) (rw (length-append, length-append) (omega arith)))
    (rw (append_assoc, append_assoc) (sets_whole (p ++ (q ++ (r ++ s))) b long))))

module _ (t : Touched) (m r tb b g₁ g₂ g₃ b' : List ℕ) where
  abbrev x : ℕ
  x = t.data_length

  abbrev y : ℕ
  y = t.message_length

  abbrev z : ℕ
  z = block_bytes * t.reel_blocks

  abbrev first : List ℕ
  first = put_mid 0 (x - 0) b g₁

  abbrev second : List ℕ
  second = put_mid x (x + y - x) first g₂

  abbrev third : List ℕ
  third = put_mid (x + y) (x + y + z - (x + y)) second g₃

  -- three gathers and a copy
  pub parts_saved : length b ≡ saved_length t → PlacesIn t (length tb) → g₁ ≡ gathered t.swb m t.data_at (length (take (x - 0) (drop 0 b))) → g₂ ≡ gathered false m t.message_at (length (take (x + y - x) (drop x first))) → g₃ ≡ gathered false r (block_bytes * t.reel_at) (length (take (x + y + z - (x + y)) (drop (x + y) second))) → b' ≡ sets third (x + y + z) (take (place_length * t.places) (drop (place_length * t.place_at) tb)) → b' ≡ saved_bytes t m r tb
  unfolding saved_bytes
  parts_saved long inside p₁ p₂ p₃ p₄ =
      let f₁ : first ≡ sets b 0 (old_data t m r tb) = part_filled t.swb m b g₁ t.data_at 0 x x (omega arith) (omega arith) (omega arith) p₁ in
      let l₁ : length first ≡ length b = rw f₁ (length-sets b 0 (old_data t m r tb)) in
      let f₂ : second ≡ sets first x (old_message t m r tb) = part_filled false m first g₂ t.message_at x (x + y) y (omega arith) (omega arith) (omega arith) p₂ in
      let l₂ : length second ≡ length b = rw f₂ (length-sets first x (old_message t m r tb)) ∙ l₁ in
      let f₃ : third ≡ sets second (x + y) (old_blocks t m r tb) = part_filled false r second g₃ (block_bytes * t.reel_at) (x + y) (x + y + z) z (omega arith) (omega arith) (omega arith) p₃ in
      p₄
      ∙ rw (← gathered_plain tb (place_length * t.place_at) (place_length * t.places) (omega arith), f₃, f₂, f₁)
      (four_join b (old_data t m r tb) (old_message t m r tb) (old_blocks t m r tb) (old_places t m r tb) x y z (length_gathered _ _ _ _) (length_gathered _ _ _ _) (length_gathered _ _ _ _) (length_saved t m r tb ∙ sym long))

-- the copy and the three scatters
module _ (t : Touched) (b m r tb m₁ m' r' tb' : List ℕ) where
  pub parts_brought : length b ≡ saved_length t → tb' ≡ sets tb (place_length * t.place_at) (take (place_length * t.places) (drop (t.data_length + t.message_length + block_bytes * t.reel_blocks) b)) → r' ≡ placed false r (block_bytes * t.reel_at) (take (t.data_length + t.message_length + block_bytes * t.reel_blocks - (t.data_length + t.message_length)) (drop (t.data_length + t.message_length) b)) → m₁ ≡ placed false m t.message_at (take (t.data_length + t.message_length - t.data_length) (drop t.data_length b)) → m' ≡ placed t.swb m₁ t.data_at (take (t.data_length - 0) (drop 0 b)) → Restored t b m r tb m' r' tb'
  unfolding memory_back reel_back table_back
  parts_brought long pt pr p₁ p' =
      let a : t.data_length - 0 ≡ t.data_length = omega arith in
      let c : t.data_length + t.message_length - t.data_length ≡ t.message_length = omega arith in
      let d : t.data_length + t.message_length + block_bytes * t.reel_blocks - (t.data_length + t.message_length) ≡ block_bytes * t.reel_blocks = omega arith in
      let rest : take (place_length * t.places) (saved_places t b) ≡ saved_places t b = take_all (place_length * t.places) (saved_places t b) (rw length-drop (omega arith)) in
      record {
        memory = p' ∙ rw (p₁, a, c);
        reel = pr ∙ rw d;
        table = pt ∙ rw (placed_plain, rest);
      }
