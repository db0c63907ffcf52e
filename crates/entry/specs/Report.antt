-- The answer of "Entry error". Document 01, "The calls" and "Refusal numbers and their order". Assumes nothing.
use Rattle.std.specs.Prelude.{ℕ, List, [], ◌∷◌, ◌++◌, ℤ, pos, Result, Ok, Err}
use Rattle.units.specs.Refusals.{Reply, fault_reply, Test, answer, width_tests, place}
use Rattle.units.specs.Sides.{side_number}
use Rattle.units.specs.declared.shapes.Shape.{Shape}
use Rattle.entry.specs.Errors.{unit, i_of, j_of, low, high, worst, side}
use Rattle.entry.specs.Fields.{too_wide}
use Rattle.units.specs.declared.refusals.Fault.{Fault}
use Rattle.entry.specs.declared.measure.Errors.{Errors}

-- "gives low, high, worst and side"; with number 5 also n. "Fields that an answer doesn't use are zero, with any number, 0 and 5 too."
pub record Report : Type 0 where
  pub number : ℕ
  pub n : ℕ
  pub low : ℤ
  pub high : ℤ
  pub worst : ℕ
  pub side : ℕ

abbrev pub refused : Reply → Report
refused b = record { number = b.number; n = b.n; low = pos 0; high = pos 0; worst = 0; side = 0 }

-- what each case of the answer says in document 01's numbers
abbrev pub reported : Result Errors Fault → Report
reported (Ok e) =
    record {
      number = 0;
      n = 0;
      low = e.low.0;
      high = e.high.0;
      worst = e.worst.0;
      side = side_number e.side;
    }
reported (Err fault) = refused (fault_reply fault)

-- 1, 2, 4 for n, then 5: "Lookup and entry error look at their one field and name its n"
abbrev pub place_tests : Shape → ℕ → List Test
place_tests s n = width_tests s ++ (place s.k n ∷ [])

abbrev pub entry_tests : Shape → ℕ → ℕ → List Test
entry_tests s n f = place_tests s n ++ (too_wide s n f ∷ [])

abbrev pub measured : ℕ → ℕ → ℕ → Report
measured u i j = record { number = 0; n = 0; low = low u i j; high = high u i j; worst = worst u i j; side = side u i j }

-- "Entry error takes k, m, n, f and gives low, high, worst and side."
abbrev pub entry_report : Shape → ℕ → ℕ → Report
entry_report s n f = answer refused (measured (unit s) (i_of s n) (j_of s f)) (entry_tests s n f)
