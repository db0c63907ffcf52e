-- `listing_text::fill_page` meets its contract: the page is the one that was lent, and holds the lines before the next one. There is
-- nothing in it before the first line alone, so the first line finds room. Assumes nothing.
use Rattle.std.proofs.Common.{◌≡◌, ◌≤◌, length, take}
use Rattle.listing_text.specs.Listing.{table_text, part}
use Rattle.listing_text.proofs.pages.fill_page.Given as goal

abbrev pub invariant-loop-next : goal.invariant-loop-next
invariant-loop-next l = record {
  same_reference : l.text.bytes.ghost_name ≡ l.initial.text.bytes.ghost_name;
  size : length l.text.bytes.now ≡ length l.initial.text.bytes.now;
  nothing : l.next ≡ l.fn.from → l.text.end ≡ 0;
  inside : l.text.end ≤ length l.text.bytes.now;
  text_is : take l.text.end l.text.bytes.now ≡ part (table_text l.fn.best.shape) l.fn.from l.next;
}
