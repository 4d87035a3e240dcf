-- "Instead: `L` too long, `S` not whole blocks, `X k` bad block k, in that order." (01, The listing); with it what is wrong (02, [4])
use Rattle.std.specs.Prelude.{List, ℕ, ◌/◌, ◌%◌, eqb, ltb, length, Result, Ok, Err}
use Rattle.lists.specs.Pick.{pick}
use Rattle.tape.specs.Numbers.{block_bytes}
use Rattle.tape.specs.Sweep.{Swept, swept_below}
use Rattle.tape.specs.declared.ImageFault.{ImageFault}
use Rattle.tape.specs.declared.ImageFault.TheVariants as image

-- "an image of at most 65,536 bytes"
abbrev pub image_limit : ℕ
image_limit = 65536

-- "E gives the recorded end (the image's block count, 0 if empty)"
unfoldable pub image_swept : ℕ → Swept → Result ℕ ImageFault
image_swept e (Ok u) = Ok e
image_swept e (Err d) = Err (image.Bad d)

unfoldable pub examined : List ℕ → Result ℕ ImageFault
examined s =
    pick (ltb image_limit (length s)) (Err image.TooLong)
    (pick (eqb (length s % block_bytes) 0) (image_swept (length s / block_bytes) (swept_below s (length s / block_bytes))) (Err image.NotWhole))
