-- What is said of an image, by its length and its sweep.
use mathlib.Core.List.{List}
use mathlib.Core.Path.{◌≡◌}
use Prim.Native.Nat.{ℕ, ◌/◌, ◌%◌, ◌≤◌, ◌<◌}
use borrow.Author.Tests.{lt-ltb, le-ltb, eq-eqb, ne_eqb}
use lib.ListN.{length}
use Rattle.tape.specs.Listing.{examined, image_limit, image_swept}
use Rattle.tape.specs.Numbers.{block_bytes}
use Rattle.tape.specs.Sweep.{swept_below}
use Rattle.tape.specs.declared.ImageFault.{ImageFault}
use Rattle.tape.specs.declared.ImageFault.TheVariants as image
use Rattle.tape.specs.Sweep.{Swept}
use Rattle.std.specs.Prelude.{Result, Err}

module _ (s : List ℕ) where
  pub image_long : image_limit < length s → Err image.TooLong ≡ examined s
  unfolding examined
  image_long h = rw (lt-ltb image_limit (length s) h)

  pub image_ragged : length s ≤ image_limit → (length s % block_bytes ≡ 0 → ⊥) → Err image.NotWhole ≡ examined s
  unfolding examined
  image_ragged h k = rw (le-ltb image_limit (length s) h, ne_eqb (length s % block_bytes) 0 k)

  pub image_swept_lem : {w : Swept} {r : Result ℕ ImageFault} → length s ≤ image_limit → length s % block_bytes ≡ 0 → w ≡ swept_below s (length s / block_bytes) → r ≡ image_swept (length s / block_bytes) w → r ≡ examined s
  unfolding examined
  image_swept_lem h k l q = rw (le-ltb image_limit (length s) h, eq-eqb (length s % block_bytes) 0 k, ← l) q
