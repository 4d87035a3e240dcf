-- `examine` meets its contract: too long, not whole blocks, or what the sweep says.
use Rattle.reel.proofs.Examined.{image_long, image_ragged, image_swept_lem}
use Rattle.tape.specs.Listing.{image_swept}
use Rattle.reel.proofs.image.examine.Goals as goal

pub returns-then-image-gt-IMAGE_LIMIT : goal.returns-then-image-gt-IMAGE_LIMIT
returns-then-image-gt-IMAGE_LIMIT c = image_long _ c.if-image-gt-IMAGE_LIMIT.true

pub returns-then-image-ne0 : goal.returns-then-image-ne0
returns-then-image-ne0 c = image_ragged _ c.if-image-gt-IMAGE_LIMIT.false c.if-image-ne0.true

pub returns-in-Ok : goal.returns-in-Ok
unfolding image_swept
returns-in-Ok c = image_swept_lem _ c.if-image-gt-IMAGE_LIMIT.false c.if-image-ne0.false c.sweep.ensures (rw c.in-Ok.is)

pub returns-in-Err : goal.returns-in-Err
unfolding image_swept
returns-in-Err c = image_swept_lem _ c.if-image-gt-IMAGE_LIMIT.false c.if-image-ne0.false c.sweep.ensures (rw c.in-Err.is)
