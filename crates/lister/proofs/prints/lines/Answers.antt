-- `lines` meets its contract: the buffer holds the longest listing, so nothing is left out.
use mathlib.Core.Path.{◌≡◌}
use borrow.Author.Rules.{rules}
use lib.ListN.{length}
use Rattle.lister.specs.Listed.{listing_limit}
use Rattle.lister.proofs.Putting.{lines_stored, lines_told}
use Rattle.lister.proofs.prints.lines.Goals as goal

pub returns : goal.returns
returns c =
    let whole : length c.args.out.now ≡ listing_limit = search rules in
    record { stored = lines_stored c.args.image.now _ _ _ whole c.put_listing.ensures; told = lines_told c.args.image.now _ _ _ whole c.put_listing.ensures }
