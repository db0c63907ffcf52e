-- Number 5 over a list of fields: "number and the smallest such n". Document 01, "Refusal numbers and their order".
-- Assumes nothing.
use Rattle.std.specs.Prelude.{ℕ, ◌^◌, Bool, List, [], ◌∷◌, ◌++◌, length, take}
use Rattle.units.specs.Refusals.{reply, Test, test, table_tests}
use Rattle.units.specs.declared.shapes.Shape.{Shape}
use Rattle.entry.specs.Fields.{is_wide}
use Rattle.table.specs.First.{any_of, first_of}

-- whether one of the fields is over-wide
abbrev pub any_wide : Shape → List ℕ → Bool
any_wide s fs = any_of (is_wide s) fs

-- the smallest n whose field is, where the first of the fields is that of interval n
abbrev pub first_wide : Shape → ℕ → List ℕ → ℕ
first_wide s n fs = first_of (is_wide s) n fs

abbrev pub wide_among : Shape → ℕ → List ℕ → Test
wide_among s n fs = test (any_wide s fs) (reply 5 (first_wide s n fs))

-- "Survey and check look for 5 in the whole lent table (or bank) first": 1, 2, 3, 5. The table is the first 2^k cells
abbrev pub field_tests : Shape → List ℕ → List Test
field_tests s cells = table_tests s (length cells) ++ (wide_among s 0 (take (2 ^ s.k) cells) ∷ [])
