-- Laws of copying a record's bytes out: a part of a block joins the parts before it, and a Read moves such a run.
use mathlib.Core.Path.{◌≡◌, refl, ap}
use mathlib.Core.Bool.{Bool, true, false}
use mathlib.Core.List.{List, [], ◌∷◌}
use Prim.Native.Nat.{ℕ, zero, suc, ◌+◌, ◌-◌, ◌*◌, ◌/◌, ◌%◌, ◌≤◌, min}
use native.Mathlib.Nat.{add-sub_cancel_left, min-zero, zero-min, suc-min-suc}
use native.Mathlib.Omega.{arith}
use lib.ListN.{length, take, drop, length-drop}
use lib.Seq.{drop-drop, length-take-le, take-add, take_all}
use Rattle.lists.specs.Places.{placed}
use Rattle.lists.proofs.Placed.{placed_at}
use Rattle.tape.specs.Numbers.{block_bytes, data_bytes, head_bytes, pieces_of}
use Rattle.tape.specs.Bytes.{moved_bytes, moved_to, read_into, record_bytes}
use Rattle.tape.proofs.Recorded.{record_length, record_part}

-- two runs of d that meet go as one
run_more : (w : Bool) (m d : List ℕ) (a from done c : ℕ) → from + done ≤ length d → placed w (placed w m a (take done (drop from d))) (a + done) (take c (drop (from + done) d)) ≡ placed w m a (take (done + c) (drop from d))
run_more w m d a from done c h =
    let e : done ≤ length (drop from d) = rw length-drop (omega arith) in
    rw (take-add done c (drop from d), drop-drop done from d)
    (placed_at w m a (a + done) (take done (drop from d)) (take c (drop (from + done) d)) (rw (length-take-le done (drop from d) e)))

-- where byte i of the record at block p lies
abbrev pub spot : ℕ → ℕ → ℕ
spot p i = block_bytes * (p + i / data_bytes) + head_bytes + i % data_bytes

-- one turn of the loop of `copy_out`: from memory m' to m''
pub copy_more : (w : Bool) (m m' m'' s : List ℕ) (a p n from done c : ℕ) → (from + done) % data_bytes + c ≤ data_bytes → from + done + c ≤ n → block_bytes * (p + pieces_of n) ≤ length s → m' ≡ placed w m a (take done (drop from (record_bytes s p n))) → m'' ≡ placed w m' (a + done) (take (spot p (from + done) + c - spot p (from + done)) (drop (spot p (from + done)) s)) → m'' ≡ placed w m a (take (done + c) (drop from (record_bytes s p n)))
copy_more w m m' m'' s a p n from done c h k l e f =
    rw (f, e, add-sub_cancel_left (spot p (from + done)) c, ← record_part s p n l (from + done) c h k)
    (run_more w m (record_bytes s p n) a from done c (omega (arith, record_length s p n l)))

-- a count beyond the length takes no more than the length
take_least : (c n : ℕ) (d : List ℕ) → length d ≡ n → take (min n c) d ≡ take c d
take_least zero n d e = rw min-zero
take_least (suc c) n [] e = rw (← e, zero-min)
take_least (suc c) n (x ∷ d) e = rw (← e, suc-min-suc) (ap (λ (l : List ℕ). x ∷ l) (take_least c (length d) d refl))

-- what a Read moves of the record of n bytes at block p, and where to: memory m' after it
module _ (r w : Bool) (m m' s : List ℕ) (p n pointer count moved : ℕ) (room : block_bytes * (p + pieces_of n) ≤ length s) (few : moved ≡ min n count) where
  pub read_forward : r ≡ false → m' ≡ placed w m pointer (take moved (record_bytes s p n)) → m' ≡ read_into r w m pointer count (record_bytes s p n)
  unfolding read_into moved_to moved_bytes
  read_forward e q = rw (q, e, few, take_least count n (record_bytes s p n) (record_length s p n room))

  pub read_reverse : r ≡ true → m' ≡ placed w m (pointer + (count - moved)) (take moved (drop (n - moved) (record_bytes s p n))) → m' ≡ read_into r w m pointer count (record_bytes s p n)
  unfolding read_into moved_to moved_bytes
  read_reverse e q =
      let d = record_bytes s p n in
      let long : length d ≡ n = record_length s p n room in
      let f : n - moved ≡ length d - count = omega arith in
      let g : count - moved ≡ count - length d = omega arith in
      let h : length (drop (length d - count) d) ≤ moved = rw length-drop (omega arith) in
      rw (q, e, f, g, take_all moved (drop (length d - count) d) h)
