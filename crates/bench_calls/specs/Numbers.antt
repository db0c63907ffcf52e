-- How a C program says the shape of a table, and the numbers of each answer, in the order in which it finds them. Assumes nothing.
use Rattle.std.specs.Prelude.{ℕ, Bool, cond, List, [], ◌∷◌}
use Rattle.units.specs.Shapes.{shape}
use Rattle.units.specs.declared.kinds.Kind.TheVariants.{Plain, WithOne}
use Rattle.units.specs.declared.shapes.Shape.{Shape}
use Rattle.verdict.specs.Check
use Rattle.survey.specs.Survey
use Rattle.table.specs.Lookup
use Rattle.memory_text.specs.Write
use Rattle.memory_text.specs.Read

-- by its widths, and whether it is a table with one
abbrev pub shape_of : ℕ → ℕ → Bool → Shape
shape_of k m one = shape k m (cond one WithOne Plain)

abbrev pub check_numbers : Check.Report → List ℕ
check_numbers r = r.number ∷ cond r.yes 1 0 ∷ r.n ∷ r.worst ∷ r.least ∷ []

abbrev pub survey_numbers : Survey.Report → List ℕ
survey_numbers r = r.number ∷ r.finding.worst ∷ r.finding.n ∷ r.finding.side ∷ []

abbrev pub lookup_numbers : Lookup.Report → List ℕ
lookup_numbers r = r.number ∷ r.s ∷ r.n ∷ r.j ∷ []

abbrev pub write_numbers : Write.Report → List ℕ
write_numbers r = r.number ∷ r.length ∷ r.n ∷ []

abbrev pub read_numbers : Read.Report → List ℕ
read_numbers r = r.number ∷ r.offset ∷ r.n ∷ []
