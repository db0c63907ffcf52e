-- What the functions of this crate hand to each other: text put into a page, piece by piece and line by line. Assumes nothing.
use Rattle.std.specs.Prelude.{ℕ, ◌+◌, ◌^◌, ◌≤◌, ◌<◌, ◌≡◌, List, ◌++◌, length, take, get_or}
use Rattle.units.specs.Inner.Good.{GoodTable}
use Rattle.units.specs.declared.shapes.Shape.{Shape}
use Rattle.entry.specs.Rule.{rule_field}
use Rattle.survey.specs.Finding.{Figures}
use Rattle.listing_text.specs.Listing.{Lines, part, best_figures}

-- the most bytes that a line has, whatever its numbers are: 20 digits a number
abbrev pub line_most : ℕ
line_most = 134

-- the page `after` has what `before` had up to `at`, then the text, of `most` bytes at most, up to `end`
pub record Put (text : List ℕ) (most : ℕ) (before : List ℕ) (at : ℕ) (after : List ℕ) (end : ℕ) : Type 0 where
  pub size : length after ≡ length before
  pub end_is : end ≡ at + length text
  pub room : end ≤ at + most
  pub text_is : take end after ≡ take at before ++ text

-- bytes that are the lines of a text from `from` up to `next`: one at least, and none past the last
pub record IsPart (text : Lines) (from next : ℕ) (bytes : List ℕ) : Type 0 where
  pub some : from < next
  pub within : next ≤ text.count
  pub bytes_are : bytes ≡ part text from next

-- a page that holds them in its bytes up to `end`
pub record Paged (text : Lines) (from : ℕ) (page : List ℕ) (next end : ℕ) : Type 0 where
  pub inside : end ≤ length page
  pub lines : IsPart text from next (take end page)

-- what is listed: the best table, and its survey
pub record Listed (s : Shape) (cells : List ℕ) (worst : Figures) : Type 0 where
  pub good : GoodTable s (length cells)
  pub fields : (n : ℕ) → n < 2 ^ s.k → get_or cells n 0 ≡ rule_field s n
  pub surveyed : worst ≡ best_figures s
