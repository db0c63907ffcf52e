-- The answer of "Look up". Document 02, L1; document 01, "The calls" and "Refusal numbers and their order". Assumes nothing.
use Rattle.std.specs.Prelude.{ℕ, ◌-◌, ◌/◌, ◌^◌, List, [], ◌∷◌, ◌++◌, length, get_or, Result, Ok, Err}
use Rattle.units.specs.Refusals.{Reply, fault_reply, Test, answer, table_tests, divisor}
use Rattle.units.specs.declared.shapes.Shape.{Shape}
use Rattle.entry.specs.Errors.{j_of}
use Rattle.entry.specs.Fields.{too_wide}
use Rattle.table.specs.Shift.{shift_of, shifted}
use Rattle.units.specs.declared.refusals.Fault.{Fault}
use Rattle.table.specs.declared.lookups.Found.{Found}

-- "give s with n and j". "Fields that an answer doesn't use are zero."
pub record Report : Type 0 where
  pub number : ℕ
  pub s : ℕ
  pub n : ℕ
  pub j : ℕ

abbrev pub refused : Reply → Report
refused b = record { number = b.number; s = 0; n = b.n; j = 0 }

abbrev pub looked_up : ℕ → ℕ → ℕ → Report
looked_up s n j = record { number = 0; s = s; n = n; j = j }

-- what each case of the answer says in document 01's numbers
abbrev pub reported : Result Found Fault → Report
reported (Ok found) = looked_up found.s.0 found.n.0 found.j.0
reported (Err fault) = refused (fault_reply fault)

-- "The index is floor(X/2^(15-k)) - 2^k", for an X from 32768 to 65535. Nothing is cut off at 0 there, and a cell of the table is
-- named: laws `quotient_from`, `index_below`
abbrev pub index_of : Shape → ℕ → ℕ
index_of s x = x / 2 ^ (15 - s.k) - 2 ^ s.k

-- 1, 2, 3, 6
abbrev pub divisor_tests : Shape → ℕ → ℕ → List Test
divisor_tests s x lent = table_tests s lent ++ (divisor x ∷ [])

-- and then 5, of the one field
abbrev pub lookup_tests : Shape → ℕ → List ℕ → ℕ → List Test
lookup_tests s x cells n = divisor_tests s x (length cells) ++ (too_wide s n (get_or cells n 0) ∷ [])

abbrev pub lookup_at : Shape → ℕ → List ℕ → ℕ → Report
lookup_at s x cells n = answer refused (looked_up (shift_of x) n (j_of s (get_or cells n 0))) (lookup_tests s x cells n)

-- "Lookup shall take any X from 1 to 65535, shift it left by the least s .., and give s with n and j": the index is that of X·2^s
abbrev pub lookup_report : Shape → ℕ → List ℕ → Report
lookup_report s x cells = lookup_at s x cells (index_of s (shifted x))
