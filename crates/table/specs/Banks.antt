-- A bank is a stretch of a table. Document 01, "The calls". A table is the list of its cells. Assumes nothing.
use Rattle.std.specs.Prelude.{ℕ, ◌-◌, ◌*◌, ◌^◌, List, [], ◌∷◌, ◌++◌, length, take, drop}
use Rattle.units.specs.Refusals.{Reply, Test, answer, input_width, width_tests, bank_height, bank_number, few_cells}
use Rattle.units.specs.declared.shapes.Shape.{Shape}

-- "bank b (0 to 2^h - 1) is the 2^(k-h) entries from b·2^(k-h) on"
abbrev pub bank_size : ℕ → ℕ → ℕ
bank_size k h = 2 ^ (k - h)

abbrev pub bank_start : ℕ → ℕ → ℕ → ℕ
bank_start k h b = b * bank_size k h

abbrev pub bank_of : ℕ → ℕ → ℕ → List ℕ → List ℕ
bank_of k h b cells = take (bank_size k h) (drop (bank_start k h b) cells)

-- 4 for h and b
abbrev pub bank_name : ℕ → ℕ → ℕ → List Test
bank_name k h b = bank_height k h ∷ bank_number h b ∷ []

-- and after them 3
abbrev pub bank_place : ℕ → ℕ → ℕ → ℕ → List Test
bank_place k h b lent = bank_name k h b ++ (few_cells lent (2 ^ k) ∷ [])

-- 1, 2, 4 for h, then b: a bank by its number
abbrev pub named_tests : Shape → ℕ → ℕ → List Test
named_tests s h b = width_tests s ++ bank_name s.k h b

-- "Show a bank .. takes k, h, b and the table": 1, 4 for h and b, 3
abbrev pub view_tests : ℕ → ℕ → ℕ → ℕ → List Test
view_tests k h b lent = input_width k ∷ bank_place k h b lent

-- "hands the caller that stretch of the lent table itself .. an empty stretch means refusal"
abbrev pub shown : ℕ → ℕ → ℕ → List ℕ → List ℕ
shown k h b cells = answer (λ (_ : Reply). []) (bank_of k h b cells) (view_tests k h b (length cells))
