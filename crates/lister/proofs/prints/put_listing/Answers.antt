-- `put_listing` meets its contract: the listing goes by what the image was examined to be.
use mathlib.Core.Path.{ap, ◌∙◌}
use Rattle.std.specs.Prelude.{Err}
use Rattle.script.proofs.Printed.{put_more}
use Rattle.lister.specs.Lines.{number_line}
use Rattle.lister.specs.Listed.{listed_as}
use Rattle.lister.proofs.Putting.{put_listed}
use Rattle.lister.proofs.prints.put_listing.Goals as goal

pub returns-in-Err-TooLong : goal.returns-in-Err-TooLong
unfolding listed_as
returns-in-Err-TooLong c = put_listed _ c.examine.ensures (c.in-Err-TooLong.is ∙ ap Err c.in-Err-TooLong.field-0-is) c.put_bytes.ensures

pub returns-in-Err-NotWhole : goal.returns-in-Err-NotWhole
unfolding listed_as
returns-in-Err-NotWhole c = put_listed _ c.examine.ensures (c.in-Err-NotWhole.is ∙ ap Err c.in-Err-NotWhole.field-0-is) c.put_bytes-in-Err-NotWhole.ensures

pub returns-in-Err-Bad : goal.returns-in-Err-Bad
unfolding listed_as
returns-in-Err-Bad c = put_listed _ c.examine.ensures (c.in-Err-Bad.is ∙ ap Err c.in-Err-Bad.field-0-is) c.put_bad.ensures

pub returns-in-Ok : goal.returns-in-Ok
unfolding listed_as number_line
returns-in-Ok c = put_listed _ c.examine.ensures c.in-Ok.is (put_more _ _ _ _ _ _ _ _ c.put_objects-at.ensures c.put_line.ensures)
