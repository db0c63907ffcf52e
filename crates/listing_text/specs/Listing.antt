-- The whole text of a listing. Document 01, "The listing". Assumes nothing.
use Rattle.std.specs.Prelude.{ℕ, zero, suc, ◌+◌, ◌-◌, ◌^◌, cond, List, [], ◌++◌, ltb, eqb}
use Rattle.units.specs.Refusals.{Reply, answer, table_tests}
use Rattle.units.specs.declared.shapes.Shape.{Shape}
use Rattle.entry.specs.Rule.{rule_field}
use Rattle.table.specs.Build.{rows}
use Rattle.survey.specs.Finding.{Figures, fresh, finding_over}
use Rattle.listing_text.specs.Text.{first_line, entry_line, last_line, refused_line}
use Rattle.listing_line.specs.Line.{Line, line_read}

-- the survey of the best table
abbrev pub best_figures : Shape → Figures
best_figures s = finding_over s 0 (rows (rule_field s) 0 (2 ^ s.k)) fresh

-- line t: the first, then one for each entry of the best table, then the last
unfoldable pub line_of : Shape → ℕ → List ℕ
line_of s zero = first_line s
line_of s (suc n) = cond (ltb n (2 ^ s.k)) (entry_line s n (rule_field s n)) (last_line (best_figures s))

-- a text by its lines: how many it has, and each of them
pub record Lines : Type 0 where
  pub count : ℕ
  pub line : ℕ → List ℕ

-- some lines, from line t on
unfoldable pub lines_from : (ℕ → List ℕ) → ℕ → ℕ → List ℕ
lines_from line t zero = []
lines_from line t (suc count) = line t ++ lines_from line (suc t) count

-- the lines of a text from line `from` up to line `next`
abbrev pub part : Lines → ℕ → ℕ → List ℕ
part text from next = lines_from text.line from (next - from)

-- a first line, 2^k entries and a last line
abbrev pub line_count : ℕ → ℕ
line_count k = 2 ^ k + 2

-- the text of the listing for widths from 1 to 15
abbrev pub table_text : Shape → Lines
table_text s = record { count = line_count s.k; line = line_of s }

-- "A refusal is the single line "refused" with its number."
abbrev pub refused_text : ℕ → Lines
refused_text number = record { count = 1; line = λ t. refused_line number }

-- "It keeps one table of 32,768 cells": the text for a shape, or that of its refusal
abbrev pub shape_text : Shape → Lines
shape_text s = answer (λ (b : Reply). refused_text b.number) (table_text s) (table_tests s 32768)

-- the text for what was read. "In the listing 7 comes before all others."
unfoldable pub text_of : Line → Lines
text_of l = cond (eqb l.number 0) (shape_text l.shape) (refused_text l.number)

-- the text for an input: by its lines, and whole
abbrev pub text_for : List ℕ → Lines
text_for input = text_of (line_read input)

abbrev pub listing : List ℕ → List ℕ
listing input = part (text_for input) 0 (text_for input).count
