-- The answer of `look_up` can be read back from its numbers, so no two answers have the same; and which of its values are zero.
-- Assumes nothing.
use Prim.Native.Nat.{ℕ, ◌<◌}
use mathlib.Core.List.{List}
use Rattle.std.specs.Prelude.{Result, Ok, Err}
use Rattle.units.specs.declared.refusals.Fault.{Fault}
use mathlib.Core.Path.{◌≡◌, refl}
use native.Mathlib.Omega.{arith}
use Rattle.units.specs.declared.shapes.Shape.{Shape}
use Rattle.units.proofs.Laws.OneToOne.{one_to_one, by_fault, fault_reads}
use Rattle.units.proofs.Laws.Tests.{answer_has}
use Rattle.table.specs.Lookup.{Report, refused, reported, index_of, lookup_tests, lookup_report}
use Rattle.table.specs.Shift.{shifted}
use Rattle.table.specs.declared.lookups.Found.{Found}

answer_of : Report → Result Found Fault
answer_of r =
    by_fault r.number r.n (Ok (record { s = record { 0 = r.s }; n = record { 0 = r.n }; j = record { 0 = r.j } }))
    (λ (fault : Fault). Err fault)

reads : (a : Result Found Fault) → answer_of (reported a) ≡ a
unfolding answer_of
reads (Ok found) = refl
reads (Err fault) = fault_reads fault _ (λ (fault : Fault). Err fault)

pub reported_one_to_one : (a b : Result Found Fault) → reported a ≡ reported b → a ≡ b
reported_one_to_one = one_to_one reported answer_of reads

-- "Fields that an answer doesn't use are zero, with any number, 0 and 5 too."
-- Look up: s and j with 0 alone, n with 0 and 5
pub record LookupUnused (r : Report) : Type 0 where
  pub s_with_0 : 0 < r.number → r.s ≡ 0
  pub n_with_0_and_5 : 0 < r.number → (r.number ≡ 5 → ⊥) → r.n ≡ 0
  pub j_with_0 : 0 < r.number → r.j ≡ 0

pub look_up_unused : (s : Shape) (x : ℕ) (cells : List ℕ) → LookupUnused (lookup_report s x cells)
look_up_unused s x cells =
    let only : (b : ℕ) → LookupUnused (refused (record { number = b; n = 0 })) =
    λ b. record { s_with_0 = λ _. refl; n_with_0_and_5 = λ _ _. refl; j_with_0 = λ _. refl } in
    answer_has LookupUnused refused _ (lookup_tests s x cells (index_of s (shifted x)))
    (only 1, (only 2, (only 3, (only 6, (record { s_with_0 = λ _. refl; n_with_0_and_5 = λ _ not. absurd (not refl); j_with_0 = λ _. refl }, tt)))))
    (record { s_with_0 = λ h. absurd (omega arith); n_with_0_and_5 = λ h. absurd (omega arith); j_with_0 = λ h. absurd (omega arith) })
