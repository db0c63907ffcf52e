-- Which texts may be said to pass. Document 02, L2. Assumes nothing.
use Rattle.std.specs.Prelude.{ℕ, List, ◌≡◌, replicate}
use Rattle.units.specs.declared.shapes.Shape.{Shape}
use Rattle.memory_text.specs.Read.{read_report, read_cells}
use Rattle.verdict.specs.Check.{check_report, passed}

-- the cells that a text leaves, of those of the largest table, all zero before
abbrev pub cells_of : Shape → List ℕ → List ℕ
cells_of s text = read_cells s text (replicate 32768 0)

-- it was read, and every entry of the table that it gives is best
pub record Accepted (s : Shape) (text : List ℕ) : Type 0 where
  pub read : (read_report s text 32768).number ≡ 0
  pub best : check_report s (cells_of s text) ≡ passed
