-- The answer of `check` can be read back from its numbers and its yes, so no two answers have the same; and which of
-- its values are zero. Assumes nothing.
use Prim.Native.Nat.{ℕ, suc, ◌<◌, ◌^◌}
use mathlib.Core.Bool.{Bool, true, false, cond, false≢true}
use mathlib.Core.Path.{◌≡◌, refl}
use mathlib.Core.List.{List, [], ◌∷◌}
use native.Mathlib.Omega.{arith}
use lib.ListN.{take}
use Rattle.units.specs.declared.shapes.Shape.{Shape}
use Rattle.units.proofs.Laws.OneToOne.{one_to_one, by_fault, fault_reads}
use Rattle.units.proofs.Laws.Tests.{answer_has}
use Rattle.entry.specs.Errors.{unit, i_of, j_of, worst}
use Rattle.entry.specs.Least.{least_worst, is_best}
use Rattle.table.specs.Wide.{field_tests}
use Rattle.verdict.specs.Check.{Report, refused, not_best, reported, first_failing, check_report}
use Rattle.std.specs.Prelude.{Result, Ok, Err}
use Rattle.units.specs.declared.refusals.Fault.{Fault}
use Rattle.verdict.specs.declared.NotPassed.{NotPassed}
use Rattle.verdict.specs.declared.NotPassed.TheVariants.{NotBest, Faulty}

faulty : Fault → Result (Unit {0}) NotPassed
faulty fault = Err (Faulty fault)

answer_of : Report → Result (Unit {0}) NotPassed
answer_of r =
    cond r.yes (Ok tt)
    (by_fault r.number r.n (Err (NotBest (record { 0 = r.n }) (record { 0 = r.worst }) (record { 0 = r.least }))) faulty)

reads : (a : Result (Unit {0}) NotPassed) → answer_of (reported a) ≡ a
unfolding answer_of faulty
reads (Ok _) = refl
reads (Err (NotBest n worst least)) = refl
reads (Err (Faulty fault)) = fault_reads fault _ faulty

-- Document 01: "That any two answers allowed by a statement are equal is itself proved"
pub reported_one_to_one : (a b : Result (Unit {0}) NotPassed) → reported a ≡ reported b → a ≡ b
reported_one_to_one = one_to_one reported answer_of reads

-- "Fields that an answer doesn't use are zero, with any number, 0 and 5 too."
-- Check: with 0 and yes nothing else; with 0 and no all of n, worst and least; with 5 n alone; yes with 0 alone
pub record CheckUnused (r : Report) : Type 0 where
  pub yes_with_0 : 0 < r.number → r.yes ≡ false
  pub n_without_yes : r.yes ≡ true → r.n ≡ 0
  pub worst_without_yes : r.yes ≡ true → r.worst ≡ 0
  pub least_without_yes : r.yes ≡ true → r.least ≡ 0
  pub n_with_0_and_5 : 0 < r.number → (r.number ≡ 5 → ⊥) → r.n ≡ 0
  pub worst_with_0 : 0 < r.number → r.worst ≡ 0
  pub least_with_0 : 0 < r.number → r.least ≡ 0

check_refused : (number : ℕ) → CheckUnused (refused (record { number = number; n = 0 }))
check_refused number =
    record {
      yes_with_0 = λ _. refl;
      n_without_yes = λ _. refl;
      worst_without_yes = λ _. refl;
      least_without_yes = λ _. refl;
      n_with_0_and_5 = λ _ _. refl;
      worst_with_0 = λ _. refl;
      least_with_0 = λ _. refl;
    }

scan_unused : (good : ℕ → ℕ → Bool) (s : Shape) (n : ℕ) (fields : List ℕ) → CheckUnused (first_failing good s n fields)
unfolding first_failing
scan_unused good s n [] =
    record {
      yes_with_0 = λ h. absurd (omega arith);
      n_without_yes = λ _. refl;
      worst_without_yes = λ _. refl;
      least_without_yes = λ _. refl;
      n_with_0_and_5 = λ _ _. refl;
      worst_with_0 = λ _. refl;
      least_with_0 = λ _. refl;
    }
scan_unused good s n (f ∷ fs) = by_test (good n (j_of s f)) (first_failing good s (suc n) fs) (scan_unused good s (suc n) fs)
  where
    by_test : (passes : Bool) (rest : Report) → CheckUnused rest
        → CheckUnused (cond passes rest (not_best n (worst (unit s) (i_of s n) (j_of s f)) (least_worst s n)))
    by_test true rest p = p
    by_test false rest p =
        record {
          yes_with_0 = λ _. refl;
          n_without_yes = λ e. absurd (false≢true e);
          worst_without_yes = λ e. absurd (false≢true e);
          least_without_yes = λ e. absurd (false≢true e);
          n_with_0_and_5 = λ h. absurd (omega arith);
          worst_with_0 = λ h. absurd (omega arith);
          least_with_0 = λ h. absurd (omega arith);
        }

pub check_unused : (s : Shape) (cells : List ℕ) → CheckUnused (check_report s cells)
check_unused s cells =
    answer_has CheckUnused refused _ (field_tests s cells) (
      check_refused 1,
      (
        check_refused 2,
        (
          check_refused 3,
          (
            record {
              yes_with_0 = λ _. refl;
              n_without_yes = λ e. absurd (false≢true e);
              worst_without_yes = λ _. refl;
              least_without_yes = λ _. refl;
              n_with_0_and_5 = λ _ not. absurd (not refl);
              worst_with_0 = λ _. refl;
              least_with_0 = λ _. refl;
            },
            tt,
          ),
        ),
      ),
    )
    (scan_unused (is_best s) s 0 (take (2 ^ s.k) cells))
