-- The front of a buffer, lent as a part, comes back.
use Rattle.std.proofs.Common.{◌≡◌, List, ℕ, min, length, take, ap, ◌∙◌, arith}
use borrow.Rule.Slice.PartMut.{put_mid}
use lib.ListN.{length-take}
use lib.Seq.{sets}
use Rattle.lists.proofs.Stores.{put_sets}

-- n bytes of l, at most a, were lent, and are k now
pub front_back : (n : ℕ) (l g k : List ℕ) (a : ℕ) → n ≡ min a (length l) → length g ≡ length (take n l) → g ≡ k → put_mid 0 n l g ≡ sets l 0 k
front_back n l g k a e h f = put_sets 0 n l g (omega (arith, length-take n l)) (omega arith) ∙ ap (sets l 0) f
