-- What the builders write. Document 01, "The calls". Assumes nothing.
use Rattle.std.specs.Prelude.{ℕ, zero, suc, ◌+◌, ◌^◌, List, [], ◌∷◌, ◌++◌, length, take, drop}
use Rattle.units.specs.Refusals.{Reply, Test, answer, width_tests, table_tests}
use Rattle.units.specs.declared.shapes.Shape.{Shape}
use Rattle.entry.specs.Rule.{rule_field}
use Rattle.table.specs.Banks.{bank_size, bank_start, bank_place}

-- Below, `field` is what is to stand in the cell of an interval: of the builders, the rule's field, or any other.

-- the fields of count intervals from n on
unfoldable pub rows : (ℕ → ℕ) → ℕ → ℕ → List ℕ
rows field n zero = []
rows field n (suc count) = field n ∷ rows field (suc n) count

-- the cells with count fields in them, from first on; every other cell keeps its value
abbrev pub filled : (ℕ → ℕ) → ℕ → ℕ → List ℕ → List ℕ
filled field first count cells = take first cells ++ (rows field first count ++ drop (first + count) cells)

-- "Build writes fields 0 to 2^k - 1. Cells after them keep their value." Refusals 1, 2, 3; "No refusal writes a cell."
abbrev pub built : Shape → List ℕ → List ℕ
built s cells = answer (λ (_ : Reply). cells) (filled (rule_field s) 0 (2 ^ s.k) cells) (table_tests s (length cells))

-- "The call fills only that bank's cells, in their place within the lent table." Refusals 1, 2, 4 for h and b, 3
abbrev pub bank_tests : Shape → ℕ → ℕ → ℕ → List Test
bank_tests s h b lent = width_tests s ++ bank_place s.k h b lent

abbrev pub bank_built : Shape → ℕ → ℕ → List ℕ → List ℕ
bank_built s h b cells =
    answer (λ (_ : Reply). cells) (filled (rule_field s) (bank_start s.k h b) (bank_size s.k h) cells)
    (bank_tests s h b (length cells))

-- the banks of a list of numbers, built one after the other
unfoldable pub banks_built : Shape → ℕ → List ℕ → List ℕ → List ℕ
banks_built s h [] cells = cells
banks_built s h (b ∷ bs) cells = banks_built s h bs (bank_built s h b cells)
