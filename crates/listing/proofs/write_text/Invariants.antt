-- `listing::write_text` gives each call what it requires, and ends: each page takes it a line further at least. Assumes nothing.
use Rattle.std.proofs.Common.{◌-◌, ◌≤◌, ◌≡◌, length}
use Rattle.listing_text.specs.Listing.{line_count}
use Rattle.listing.proofs.write_text.Given as goal

abbrev pub invariant-loop-next : goal.invariant-loop-next
invariant-loop-next g l = (length l.page ≡ 131072) × (l.next ≤ line_count l.fn.best.shape.k)

abbrev pub decreases-loop-next : goal.decreases-loop-next
decreases-loop-next g l = line_count l.fn.best.shape.k - l.next
