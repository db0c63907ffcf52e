-- `listing::main` gives each call what it requires: what it read. Assumes nothing.
use Rattle.listing_text.proofs.Laws.Listing.{refused_line_text}
use Rattle.listing.proofs.main.Goals as goal

pub refuse-requires : goal.refuse-requires
refuse-requires c = refused_line_text _ c.in-Err.r c.in-Err.ensures
