-- A session and its block are one another's: the session comes back from its block, and a block's bytes are those of the session that it
-- is read as.
use mathlib.Core.Path.{◌≡◌, refl, sym, ap, ap₂, ◌∙◌}
use mathlib.Core.Bool.{Bool, true, ◌&&◌}
use mathlib.Core.List.{List, [], ◌∷◌, ◌++◌}
use Prim.Native.Nat.{ℕ, zero, suc, ◌+◌, ◌*◌, ◌/◌, ◌%◌, ◌<◌, ◌≤◌}
use native.Mathlib.Omega.{arith}
use borrow.Author.Tests.{eqb-true}
use lib.Dec.{eqb}
use lib.ListN.{drop, drop_of_length-le, get_or, length, length-drop}
use lib.Seq.{drop_at, drop-cons, drop-drop, get_or-drop}
use Rattle.lists.specs.Words.{Bytes, word_at}
use Rattle.lists.specs.Fours.{number_at, number_bytes, number_limit}
use Rattle.lists.proofs.Fours.{number_first}
use Rattle.lists.proofs.Sums.{word_whole}
use Rattle.entries.specs.Numbers.{Small, entry_of, flags_right, nth, numbers_of, state_numbers, touched_of, unit_in}
use Rattle.entries.specs.Bytes.{numbers_bytes, head_count, head_length, head_numbers}
use Rattle.entries.proofs.Back.{entry_back, length_numbers}
use Rattle.entries.proofs.HeadBytes.{head_back}
use Rattle.entries.proofs.Joined.{head_long}
use Rattle.entries.proofs.Own.{all_elements, elements, flags_of as state_flags, number, state_own, three}
use Rattle.entries.proofs.Turns.{length_read}
use Rattle.worlds.specs.declared.Session.{Session}
use Rattle.stateblock.specs.Block.{Block, state_block, entry_with, is_block, rest_zero, session_in, session_with}
use Rattle.stateblock.proofs.Written.{length_block}

-- the numbers in a session's block
numbers_in : (s : Session) → head_numbers head_count (state_block s) ≡ numbers_of (entry_with s)
unfolding state_block
numbers_in s = rw (← length_numbers (entry_with s)) (head_back (numbers_of (entry_with s)) (number_bytes 0))

-- what a session's block is read as
pub block_back : (s : Session) → Small (entry_with s) → session_in (state_block s) ≡ s
unfolding session_in session_with entry_with
block_back s h = rw (numbers_in s, entry_back (entry_with s) 0 h refl)

flags_of : (s : Session) → flags_right (numbers_of (entry_with s)) ≡ true
unfolding numbers_of entry_with
flags_of s = state_flags s.unit _

rest_of : (s : Session) → rest_zero (numbers_of (entry_with s)) ≡ true
unfolding rest_zero numbers_of state_numbers entry_with
rest_of s = refl

last_of : (s : Session) → number_at (state_block s) head_length ≡ 0
unfolding state_block
last_of s =
    sym (number_first (numbers_bytes (numbers_of (entry_with s)) ++ number_bytes 0) head_length)
    ∙ ap (λ (x : List ℕ). number_at x 0) (drop_at (numbers_bytes (numbers_of (entry_with s))) (number_bytes 0) head_length (head_long (entry_with s)))

block_right : (s : Session) → is_block (state_block s) ≡ true
unfolding is_block
block_right s = rw (numbers_in s, flags_of s, rest_of s, last_of s)

-- and it is a block, if it is bytes at all, as whatever stands in a lent slice is
pub block_is : (s : Session) → Bytes (state_block s) → Block (state_block s)
block_is s h = record { long = length_block s; bytes = h; right = block_right s }

-- numbers read from bytes have at most four bytes
number_small : (b : List ℕ) → Bytes b → number_at b 0 < number_limit
number_small b h = omega (arith, h 0, h 1, h 2, h 3)

pub bytes_drop : (n : ℕ) (b : List ℕ) → Bytes b → Bytes (drop n b)
bytes_drop n b h i = rw (get_or-drop n b i 0) (h (n + i))

pub read_small : (k : ℕ) (b : List ℕ) → Bytes b → (i : ℕ) → get_or (head_numbers k b) i 0 < number_limit
unfolding head_numbers
read_small zero b h i = omega arith
read_small (suc k) b h zero = number_small b h
read_small (suc k) b h (suc i) = read_small k (drop 4 b) (bytes_drop 4 b h) i

pub small_entry : (b : List ℕ) (top : ℕ) → Bytes b → Small (entry_of (head_numbers head_count b) top)
unfolding entry_of unit_in touched_of
small_entry b top h =
    let s = read_small head_count b h in
    record {
      position = s 0;
      end = s 1;
      pointer = s 2;
      class = s 3;
      memory = s 19;
      blocks = s 20;
      data_at_fits = s 21;
      data_length_fits = s 22;
      message_at_fits = s 24;
      message_length_fits = s 25;
      reel_at_fits = s 26;
      reel_blocks_fits = s 27;
      objects = s 28;
      transport = s 30;
    }

-- what a block is read as has numbers of at most four bytes
pub small_in : (b : List ℕ) → Bytes b → Small (entry_with (session_in b))
unfolding session_in entry_with session_with
small_in b h =
    let s = small_entry b 0 h in
    record {
      position = s.position;
      end = s.end;
      pointer = s.pointer;
      class = s.class;
      memory = s.memory;
      blocks = s.blocks;
      data_at_fits = s.data_at_fits;
      data_length_fits = s.data_length_fits;
      message_at_fits = omega arith;
      message_length_fits = omega arith;
      reel_at_fits = omega arith;
      reel_blocks_fits = omega arith;
      objects = s.objects;
      transport = omega arith;
    }

-- the bytes of the numbers that were read are the bytes
four_first : (b : List ℕ) → 4 ≤ length b → get_or b 0 0 ∷ get_or b 1 0 ∷ get_or b 2 0 ∷ get_or b 3 0 ∷ drop 4 b ≡ b
four_first b h =
    sym (drop-cons b 0 0 (omega arith) ∙ ap (λ (x : List ℕ). get_or b 0 0 ∷ x) (drop-cons b 1 0 (omega arith)
    ∙ ap (λ (x : List ℕ). get_or b 1 0 ∷ x) (drop-cons b 2 0 (omega arith) ∙ ap (λ (x : List ℕ). get_or b 2 0 ∷ x) (drop-cons b 3 0 (omega arith)))))

four_last : (b : List ℕ) → length b ≡ 4 → get_or b 0 0 ∷ get_or b 1 0 ∷ get_or b 2 0 ∷ get_or b 3 0 ∷ [] ≡ b
four_last b h =
    ap (λ (x : List ℕ). get_or b 0 0 ∷ get_or b 1 0 ∷ get_or b 2 0 ∷ get_or b 3 0 ∷ x) (sym (drop_of_length-le b {i = 4} (omega arith))) ∙ four_first b (omega arith)

number_parts : (x y : ℕ) → x < 65536 → y < 65536 → ((x + 65536 * y) % 65536 ≡ x) × ((x + 65536 * y) / 65536 ≡ y)
number_parts x y h k = (omega arith, omega arith)

number_bytes_lem : (b : List ℕ) → Bytes b → number_bytes (number_at b 0) ≡ get_or b 0 0 ∷ get_or b 1 0 ∷ get_or b 2 0 ∷ get_or b 3 0 ∷ []
number_bytes_lem b h =
    let n = number_parts (word_at b 0) (word_at b 2) (omega (arith, h 0, h 1)) (omega (arith, h 2, h 3)) in
    rw (n.0, n.1) (ap₂ (λ (x y : List ℕ). x ++ y) (word_whole (get_or b 0 0) (get_or b 1 0) (h 0) (h 1)) (word_whole (get_or b 2 0) (get_or b 3 0) (h 2) (h 3)))

bytes_back : (k : ℕ) (b : List ℕ) → Bytes b → 4 * k ≤ length b → numbers_bytes (head_numbers k b) ++ drop (4 * k) b ≡ b
unfolding numbers_bytes head_numbers
bytes_back zero b h l = refl
bytes_back (suc k) b h l =
    let rest : numbers_bytes (head_numbers k (drop 4 b)) ++ drop (4 * k) (drop 4 b) ≡ drop 4 b = bytes_back k (drop 4 b) (bytes_drop 4 b h) (omega (arith, length-drop 4 b)) in
    let e : 4 * suc k ≡ 4 + 4 * k = omega arith in
    let past : drop (4 * suc k) b ≡ drop (4 * k) (drop 4 b) = ap (λ (i : ℕ). drop i b) e ∙ sym (drop-drop (4 * k) 4 b) in
    ap₂ (λ (x y : List ℕ). x ++ numbers_bytes (head_numbers k (drop 4 b)) ++ y) (number_bytes_lem b h) past
    ∙ ap (λ (x : List ℕ). get_or b 0 0 ∷ get_or b 1 0 ∷ get_or b 2 0 ∷ get_or b 3 0 ∷ x) rest
    ∙ four_first b (omega arith)

-- the tests of a block, each by itself
abbrev Unused : List ℕ → ℕ → Type 0
Unused n i = eqb (nth n i) 0 ≡ true

record Rest (n : List ℕ) : Type 0 where
  swb : Unused n 23
  message : Unused n 24 × Unused n 25
  reel : Unused n 26 × Unused n 27
  free : Unused n 29 × Unused n 30

rest_told : (n : List ℕ) → rest_zero n ≡ true → Rest n
unfolding rest_zero
rest_told n h =
    let f : ℕ → Bool = λ i. eqb (nth n i) 0 in
    let free : Bool = f 29 && f 30 in
    let p = three (f 23) (f 24) (f 25 && (f 26 && (f 27 && free))) h in
    let q = three (f 25) (f 26) (f 27 && free) p.2 in
    let r = three (f 27) (f 29) (f 30) q.2 in
    record { swb = p.0; message = (p.1, q.0); reel = (q.1, r.0); free = (r.1, r.2) }

module _ (n : List ℕ) (small : (i : ℕ) → get_or n i 0 < number_limit) (f : flags_right n ≡ true) (r : Rest n) where
  unused : (k : ℕ) → Unused n k → 0 ≡ nth n k
  unused k t = sym (eqb-true (nth n k) 0 t)

  each_own : numbers_of (entry_with (session_with (entry_of n 0))) ≡ elements (nth n) 0 head_count
  unfolding numbers_of entry_with session_with entry_of unit_in touched_of
  each_own =
      ap₂ (λ (x y : List ℕ). x ++ y) (state_own n small _ f)
      (λ i. number n small 19 i ∷ number n small 20 i ∷ number n small 21 i ∷ number n small 22 i
      ∷ unused 23 r.swb i ∷ unused 24 r.message.0 i ∷ unused 25 r.message.1 i ∷ unused 26 r.reel.0 i ∷ unused 27 r.reel.1 i
      ∷ number n small 28 i ∷ unused 29 r.free.0 i ∷ unused 30 r.free.1 i ∷ [])

  numbers_own : length n ≡ head_count → numbers_of (entry_with (session_with (entry_of n 0))) ≡ n
  numbers_own long = each_own ∙ ap (elements (nth n) 0) (sym long) ∙ all_elements n

-- a block's bytes are those of the session that it is read as
pub block_own : (b : List ℕ) → Block b → state_block (session_in b) ≡ b
unfolding state_block session_in is_block
block_own b k =
    let n : List ℕ = head_numbers head_count b in
    let last : List ℕ = drop head_length b in
    let t = three (flags_right n) (rest_zero n) (eqb (number_at b head_length) 0) k.right in
    let zero-last : 0 ≡ number_at last 0 = sym (number_first b head_length ∙ eqb-true (number_at b head_length) 0 t.2) in
    let tail : number_bytes 0 ≡ last = ap (λ (x : ℕ). number_bytes x) zero-last ∙ number_bytes_lem last (bytes_drop head_length b k.bytes) ∙ four_last last (length-drop head_length b ∙ omega (arith, k.long)) in
    ap₂ (λ (x y : List ℕ). numbers_bytes x ++ y) (numbers_own n (read_small head_count b k.bytes) t.0 (rest_told n t.1) (length_read head_count b)) tail
    ∙ bytes_back head_count b k.bytes (omega (arith, k.long))

-- so two blocks that are read as one session are one
pub same_block : (b c : List ℕ) → Block b → Block c → session_in b ≡ session_in c → b ≡ c
same_block b c h k e = sym (block_own b h) ∙ ap state_block e ∙ block_own c k
