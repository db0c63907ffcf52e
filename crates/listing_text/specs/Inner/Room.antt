-- What the methods of a page hand to each other. Assumes nothing.
use Rattle.std.specs.Prelude.{ℕ, ◌+◌, ◌≤◌, ◌≡◌, List, length}
use Rattle.listing_text.specs.Inner.Pages.{Put}
use Rattle.listing_text.specs.declared.page.Page.{Page}

-- a page that has room for some bytes more
abbrev pub HasRoom : ℕ → Page → Type 0
HasRoom bytes page = page.end + bytes ≤ length page.bytes.now

-- a page that has a text more, of `most` bytes at most, and is the same memory
pub record Grown (text : List ℕ) (most : ℕ) (before after : Page) : Type 0 where
  pub same_reference : after.bytes.ghost_name ≡ before.bytes.ghost_name
  pub put : Put text most before.bytes.now before.end after.bytes.now after.end
