-- The answer of "Check". Document 01, "The calls" and "Refusal numbers and their order". Assumes nothing.
use Rattle.std.specs.Prelude.{ℕ, suc, ◌^◌, Bool, true, false, cond, List, [], ◌∷◌, take, Result, Ok, Err}
use Rattle.units.specs.Refusals.{Reply, fault_reply, answer}
use Rattle.units.specs.declared.shapes.Shape.{Shape}
use Rattle.entry.specs.Errors.{unit, i_of, j_of, worst}
use Rattle.entry.specs.Least.{least_worst, is_best}
use Rattle.table.specs.Wide.{field_tests}
use Rattle.verdict.specs.declared.NotPassed.{NotPassed}
use Rattle.verdict.specs.declared.NotPassed.TheVariants.{NotBest, Faulty}

-- "Check answers yes, or the smallest n whose entry is not best, with its worst error and the least one."
-- "Fields that an answer doesn't use are zero."
pub record Report : Type 0 where
  pub number : ℕ
  pub yes : Bool
  pub n : ℕ
  pub worst : ℕ
  pub least : ℕ

abbrev pub refused : Reply → Report
refused b = record { number = b.number; yes = false; n = b.n; worst = 0; least = 0 }

abbrev pub passed : Report
passed = record { number = 0; yes = true; n = 0; worst = 0; least = 0 }

abbrev pub not_best : ℕ → ℕ → ℕ → Report
not_best n worst least = record { number = 0; yes = false; n = n; worst = worst; least = least }

-- what each case of the answer says in document 01's numbers
abbrev pub reported : Result (Unit {0}) NotPassed → Report
reported (Ok _) = passed
reported (Err (NotBest n worst least)) = not_best n.0 worst.0 least.0
reported (Err (Faulty fault)) = refused (fault_reply fault)

-- the first entry that fails a test of its n and j, where the first of the fields is that of interval n; or yes at the end
unfoldable pub first_failing : (ℕ → ℕ → Bool) → Shape → ℕ → List ℕ → Report
first_failing good s n [] = passed
first_failing good s n (f ∷ fs) =
    cond (good n (j_of s f)) (first_failing good s (suc n) fs)
    (not_best n (worst (unit s) (i_of s n) (j_of s f)) (least_worst s n))

-- 1, 2, 3, then 5 "in the whole lent table first", then whether each entry is best: the table is the first 2^k cells
abbrev pub check_report : Shape → List ℕ → Report
check_report s cells = answer refused (first_failing (is_best s) s 0 (take (2 ^ s.k) cells)) (field_tests s cells)
