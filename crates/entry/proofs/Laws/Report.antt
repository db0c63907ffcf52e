-- The answer of `entry_error` can be read back from its numbers, so no two answers have the same; and which of its values are zero.
-- Assumes nothing.
use mathlib.Core.Path.{◌≡◌, refl, ap}
use Rattle.units.specs.declared.counts.Side.{Side}
use Rattle.units.proofs.Laws.OneToOne.{one_to_one, side_of, side_reads, by_fault, fault_reads}
use Rattle.entry.specs.Report.{Report, refused, reported, entry_tests, entry_report}
use Rattle.entry.specs.declared.measure.Errors.{Errors}
use Rattle.std.specs.Prelude.{Result, Ok, Err}
use Rattle.units.specs.declared.refusals.Fault.{Fault}
use Prim.Native.Nat.{ℕ, ◌<◌}
use native.Mathlib.Omega.{arith}
use lib.IntN.{pos}
use Rattle.units.specs.declared.shapes.Shape.{Shape}
use Rattle.units.proofs.Laws.Tests.{answer_has}

errors_of : Report → Side → Errors
errors_of r s =
    record { low = record { 0 = r.low }; high = record { 0 = r.high }; worst = record { 0 = r.worst }; side = s }

answer_of : Report → Result Errors Fault
answer_of r = by_fault r.number r.n (Ok (errors_of r (side_of r.side))) (λ (fault : Fault). Err fault)

reads : (a : Result Errors Fault) → answer_of (reported a) ≡ a
unfolding answer_of errors_of
reads (Ok e) = ap (λ (s : Side). Ok (errors_of (reported (Ok e)) s)) (side_reads e.side)
reads (Err fault) = fault_reads fault _ (λ (fault : Fault). Err fault)

pub reported_one_to_one : (a b : Result Errors Fault) → reported a ≡ reported b → a ≡ b
reported_one_to_one = one_to_one reported answer_of reads

-- "Fields that an answer doesn't use are zero, with any number, 0 and 5 too."
-- Entry error: n with 5 alone, the errors with 0 alone
pub record EntryUnused (r : Report) : Type 0 where
  pub n_with_5 : (r.number ≡ 5 → ⊥) → r.n ≡ 0
  pub low_with_0 : 0 < r.number → r.low ≡ pos 0
  pub high_with_0 : 0 < r.number → r.high ≡ pos 0
  pub worst_with_0 : 0 < r.number → r.worst ≡ 0
  pub side_with_0 : 0 < r.number → r.side ≡ 0

entry_refused : (b : ℕ) → EntryUnused (refused (record { number = b; n = 0 }))
entry_refused b =
    record { n_with_5 = λ _. refl; low_with_0 = λ _. refl; high_with_0 = λ _. refl; worst_with_0 = λ _. refl; side_with_0 = λ _. refl }

pub entry_error_unused : (s : Shape) (n f : ℕ) → EntryUnused (entry_report s n f)
entry_error_unused s n f =
    answer_has EntryUnused refused _ (entry_tests s n f) (
      entry_refused 1,
      (
        entry_refused 2,
        (
          entry_refused 4,
          (
            record {
              n_with_5 = λ not. absurd (not refl);
              low_with_0 = λ _. refl;
              high_with_0 = λ _. refl;
              worst_with_0 = λ _. refl;
              side_with_0 = λ _. refl;
            },
            tt,
          ),
        ),
      ),
    )
    (record {
      n_with_5 = λ _. refl;
      low_with_0 = λ h. absurd (omega arith);
      high_with_0 = λ h. absurd (omega arith);
      worst_with_0 = λ h. absurd (omega arith);
      side_with_0 = λ h. absurd (omega arith);
    })
