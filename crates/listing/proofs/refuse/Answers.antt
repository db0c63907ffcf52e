-- `listing::refuse` gives each call what it requires: the line put is the whole text of the refusal. Assumes nothing.
use Rattle.std.proofs.Common.{refl}
use Rattle.listing_text.proofs.Laws.Pages.{part_of, refused_part}
use Rattle.listing.proofs.refuse.Goals as goal

pub send-requires : goal.send-requires
send-requires g c = part_of (refused_part _ c.put_refused-end.ensures) c.requires refl
