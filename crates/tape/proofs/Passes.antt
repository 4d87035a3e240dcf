-- An object that stands on the reel is passed whole, forward from its first block and in reverse from beyond its last.
use mathlib.Core.Path.{◌≡◌, refl, ap, ◌∙◌}
use mathlib.Core.Bool.{Bool, true, false}
use mathlib.Core.List.{List, [], ◌∷◌, ◌++◌}
use Prim.Native.Nat.{ℕ, zero, suc, ◌+◌, ◌-◌, ◌*◌, ◌/◌, ◌≤◌, ◌<◌}
use native.Mathlib.Omega.{arith}
use borrow.Author.Tests.{eq-eqb, ne_eqb, le-leb, lt-ltb}
use lib.ListN.{length, take, drop, length-take, length-drop}
use lib.Seq.{sets}
use Rattle.tape.specs.Meeting.{met_as}
use Rattle.tape.specs.Numbers.{block_bytes, data_bytes, pieces_of, record_limit}
use Rattle.tape.specs.Objects.{AllAllowedUnder, Allowed, AllowedUnder, Holds, Object, StandsAt, also, blocks_in, blocks_of, gap, image_of, mark, piece_of, record_of}
use Rattle.tape.specs.Pass.{ahead, beyond, first_met, is_piece, lowest, met_by_under, order_met, passed, passed_under, pieces_met_under, record_met_under}
use Rattle.tape.specs.Reading.{block_at, class_at, class_at_under, class_of}
use Rattle.tape.specs.declared.Block.{Block}
use Rattle.tape.specs.declared.Block.TheVariants as block
use Rattle.tape.specs.declared.Met.{Met}
use Rattle.tape.specs.declared.Met.TheVariants as met
use Rattle.tape.proofs.Images.{allowed_rest, blocks_append, length_image, one_or_more}
use Rattle.tape.proofs.ReadBlocks.{read_gap, read_mark, read_piece}
use Rattle.tape.proofs.Standing.{stands_below, stands_in, stands_piece}
use Rattle.tape.proofs.Written.{laid_stands}
use Rattle.std.specs.Prelude.{Result, Ok}
use Rattle.tape.specs.declared.BlockFault.{BlockFault}

-- a block within the slice is read as its bytes say
pub class_at_lem : (s b : List ℕ) (k : ℕ) → block_bytes * (k + 1) ≤ length s → block_at s k ≡ b → class_at s k ≡ class_of b
unfolding class_at_under
class_at_lem s b k h e = simp (lt-ltb k (length s / block_bytes) (omega arith)) (ap class_of e)

-- the blocks from p on are the pieces of a record of n bytes, to a unit of any record limit and to this one
abbrev pub PiecesAtUnder : ℕ → List ℕ → ℕ → ℕ → Type 0
PiecesAtUnder limit s p n = (j : ℕ) → j < pieces_of n → class_at_under limit s (p + j) ≡ Ok (block.Piece n j)

abbrev pub PiecesAt : List ℕ → ℕ → ℕ → Type 0
PiecesAt = PiecesAtUnder record_limit

module _ (s : List ℕ) (p : ℕ) where
  -- the slice holds an object that stands on it
  pub stands_room : (o : Object) → StandsAt s p o → Allowed o → block_bytes * (p + blocks_in o) ≤ length s
  stands_room o h a = omega (arith, simp (length-take, length-drop) at (ap length h), length_image o, one_or_more o a)

  pub class_stands : (d : List ℕ) → StandsAt s p (record_of d) → Allowed (record_of d) → PiecesAt s p (length d)
  unfolding blocks_in piece_of
  class_stands d h a j l =
      class_at_lem s (piece_of d j) (p + j) (omega (arith, stands_room (record_of d) h a)) (stands_piece s p d j h l)
      ∙ read_piece (length d) j (take data_bytes (drop (data_bytes * j) d)) a.0 a.1 l (simp (length-take, length-drop))

  pub class_mark : StandsAt s p mark → class_at s p ≡ Ok block.Mark
  unfolding blocks_in
  class_mark h = class_at_lem s (image_of mark) p (omega (arith, stands_room mark h tt)) h ∙ read_mark

  pub class_gap : StandsAt s p gap → class_at s p ≡ Ok block.Gap
  unfolding blocks_in
  class_gap h = class_at_lem s (image_of gap) p (omega (arith, stands_room gap h tt)) h ∙ read_gap

-- what is met in any order is a piece of the record
pub order_below : (reverse : Bool) (m j : ℕ) → j < m → order_met reverse m j < m
order_below true m j h = omega arith
order_below false m j h = h

-- the first block met is a record's piece 0, in reverse its last one
pub first_order : (reverse : Bool) (q e m : ℕ) → 1 ≤ m → m ≤ ahead reverse q e → first_met reverse q ≡ lowest reverse q m + order_met reverse m 0
first_order true q e m h k = omega arith
first_order false q e m h k = omega arith

pub first_alone : (reverse : Bool) (q : ℕ) → first_met reverse q ≡ lowest reverse q 1
first_alone true q = refl
first_alone false q = refl

-- under any record limit
module _ (limit : ℕ) (s : List ℕ) (reverse : Bool) where
  -- no fault where every piece is the one due
  pieces_whole : (n p j c : ℕ) (whole : Met) → PiecesAtUnder limit s p n → j + c ≤ pieces_of n → pieces_met_under limit s reverse n p (pieces_of n) j c whole ≡ Ok whole
  unfolding pieces_met_under is_piece
  pieces_whole n p j zero whole all h = refl
  pieces_whole n p j (suc c) whole all h =
      let i : ℕ = order_met reverse (pieces_of n) j in
      simp (all i (order_below reverse (pieces_of n) j (omega arith)), eq-eqb n n refl, eq-eqb i i refl) (pieces_whole n p (suc j) c whole all (omega arith))

  -- the first block met decides what is met
  pub passed_by : (q e : ℕ) (b : Result Block BlockFault) → 1 ≤ ahead reverse q e → class_at_under limit s (first_met reverse q) ≡ b → passed_under limit s reverse q e ≡ met_by_under limit s reverse q e b
  unfolding passed_under
  passed_by q e b h c = simp (ne_eqb (ahead reverse q e) 0 (λ z. omega arith), c)

  -- a record of n bytes, all of whose pieces stand ahead, is met whole
  pub met_record : (q e n : ℕ) → 1 ≤ n → pieces_of n ≤ ahead reverse q e → PiecesAtUnder limit s (lowest reverse q (pieces_of n)) n → passed_under limit s reverse q e ≡ Ok (met.Record n (beyond reverse q (pieces_of n)))
  unfolding met_by_under record_met_under
  met_record q e n h k all =
      let m : ℕ = pieces_of n in
      let i : ℕ = order_met reverse m 0 in
      let c : class_at_under limit s (first_met reverse q) ≡ Ok (block.Piece n i) = rw (first_order reverse q e m (omega arith) k) (all i (order_below reverse m 0 (omega arith))) in
      passed_by q e (Ok (block.Piece n i)) (omega arith) c
      ∙ simp (eq-eqb i i refl, le-leb m (ahead reverse q e) k) (pieces_whole n (lowest reverse q m) 1 (m - 1) (met.Record n (beyond reverse q m)) all (omega arith))

module _ (s : List ℕ) (reverse : Bool) (q e : ℕ) where
  -- either way: the object stands at the lower bound of the blocks met
  pub pass_whole : (o : Object) → Allowed o → StandsAt s (lowest reverse q (blocks_in o)) o → blocks_in o ≤ ahead reverse q e → passed s reverse q e ≡ met_as o (beyond reverse q (blocks_in o))
  unfolding met_as blocks_in met_by_under
  pass_whole (record_of d) a h k = met_record record_limit s reverse q e (length d) a.0 k (class_stands s (lowest reverse q (pieces_of (length d))) d h a)
  pass_whole mark a h k = passed_by record_limit s reverse q e (Ok block.Mark) k (rw first_alone (class_mark s (lowest reverse q 1) h))
  pass_whole gap a h k = passed_by record_limit s reverse q e (Ok block.Gap) k (rw first_alone (class_gap s (lowest reverse q 1) h))

module _ (s : List ℕ) (p e : ℕ) (o : Object) (a : Allowed o) (h : StandsAt s p o) where
  pub pass_forward : p + blocks_in o ≤ e → passed s false p e ≡ met_as o (p + blocks_in o)
  pass_forward k = pass_whole s false p e o a h (omega arith)

  pub pass_reverse : passed s true (p + blocks_in o) e ≡ met_as o p
  pass_reverse =
      let back : p + blocks_in o - blocks_in o ≡ p = omega arith in
      pass_whole s true (p + blocks_in o) e o a (rw back h) (omega arith) ∙ ap (met_as o) back

-- at the recorded end and at block 0 nothing is ahead
pub forward_ends : (s : List ℕ) (e : ℕ) → passed s false e e ≡ Ok met.Nothing
unfolding passed_under
forward_ends s e = simp (eq-eqb (e - e) 0 (omega arith))

pub reverse_ends : (s : List ℕ) (e : ℕ) → passed s true 0 e ≡ Ok met.Nothing
unfolding passed_under
reverse_ends s e = refl

-- each object of a list is allowed
pub allowed_at : {limit : ℕ} (before : List Object) (o : Object) (after : List Object) → AllAllowedUnder limit (before ++ o ∷ after) → AllowedUnder limit o
allowed_at {limit} before o after h = first (allowed_rest before (o ∷ after) h)
  where
    first : {x : Object} {xs : List Object} → AllAllowedUnder limit (x ∷ xs) → AllowedUnder limit x
    first (also a h) = a

-- an object of a well formed reel is met from the bounds on either side of it
module _ {s : List ℕ} {e : ℕ} (before : List Object) (o : Object) (after : List Object) (h : Holds s e (before ++ o ∷ after)) where
  bound : blocks_of (before ++ o ∷ []) ≡ blocks_of before + blocks_in o
  unfolding blocks_of
  bound = omega (arith, blocks_append before (o ∷ []))

  pub forward_meets : passed s false (blocks_of before) e ≡ met_as o (blocks_of (before ++ o ∷ []))
  forward_meets = rw bound (pass_forward s (blocks_of before) e o (allowed_at before o after h.allowed) (stands_in before o after h) (stands_below before o after h))

  pub reverse_meets : passed s true (blocks_of (before ++ o ∷ [])) e ≡ met_as o (blocks_of before)
  reverse_meets = rw bound (pass_reverse s (blocks_of before) e o (allowed_at before o after h.allowed) (stands_in before o after h))

-- an object just laid is met from either side
module _ (s : List ℕ) (p : ℕ) (o : Object) (a : Allowed o) (room : block_bytes * (p + blocks_in o) ≤ length s) where
  pub laid_forward : passed (sets s (block_bytes * p) (image_of o)) false p (p + blocks_in o) ≡ met_as o (p + blocks_in o)
  laid_forward = pass_forward (sets s (block_bytes * p) (image_of o)) p (p + blocks_in o) o a (laid_stands s p o room) (omega arith)

  pub laid_reverse : (e : ℕ) → passed (sets s (block_bytes * p) (image_of o)) true (p + blocks_in o) e ≡ met_as o p
  laid_reverse e = pass_reverse (sets s (block_bytes * p) (image_of o)) p e o a (laid_stands s p o room)
