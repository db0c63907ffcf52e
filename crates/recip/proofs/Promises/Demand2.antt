-- The order, demand 2, of tables of either kind: a shape has its kind. Assumes nothing.
--     built_reaches_least, built_entry    "every entry built has the least worst relative error of all m-bit entries .. and is the entry that
--                                         document 01 names where two are equally good"
--     bank_built_reaches_least, bank_built_entry    the same of a bank
--     yes_exactly_if_best                 "The checker says yes exactly to tables whose every entry reaches that least error."
--     built_passes                        so it says yes to every built table
-- and below, the same at every x, and "A call to which no refusal number's reason applies is done and answers 0."
use Prim.Native.Nat.{ℕ, ◌+◌, ◌≤◌, ◌<◌, ◌^◌}
use mathlib.Core.Bool.{Bool, true, false, cond}
use mathlib.Core.List.{List, [], ◌∷◌, ◌++◌}
use mathlib.Core.Path.{◌≡◌, refl, sym, ap}
use native.Mathlib.Omega.{arith}
use lib.IntN.{pos}
use lib.ListN.{length, take, get_or}
use lib.Pow.{pow_pos}
use Rattle.units.specs.Refusals.{Reply, reply, Test, answer, refusal}
use Rattle.units.specs.Inner.Good.{GoodTable}
use Rattle.units.specs.declared.shapes.Shape.{Shape}
use Rattle.units.proofs.Laws.Tests.{Passed, Numbered, all_passed, done_by, answer_number}
use Rattle.entry.specs.Errors.{unit, i_of, j_of}
use Rattle.entry.specs.Everywhere.{◌over◌, Bounds}
use Rattle.entry.specs.Fields.{cap}
use Rattle.entry.specs.Least.{is_best}
use Rattle.entry.specs.Report as error_specs
use Rattle.entry.proofs.Laws.Everywhere.{better_entry_bounded}
use Rattle.entry.proofs.Laws.Least.{least_below}
use Rattle.entry.proofs.Laws.Table.{unit_splits}
use Rattle.table.specs.Build.{built}
use Rattle.table.specs.Lookup as lookup_specs
use Rattle.table.specs.Shift.{shifted}
use Rattle.table.specs.Wide.{wide_among, field_tests}
use Rattle.survey.specs.Survey as survey_specs
use Rattle.survey.specs.Tally as tally_specs
use Rattle.verdict.specs.Check as check_specs
use Rattle.memory_text.specs.Write as write_specs
use Rattle.verdict.proofs.Laws.Scan.{scan_number}
pub use Rattle.table.proofs.Laws.Built.{built_reaches_least, built_entry, bank_built_reaches_least, bank_built_entry}
pub use Rattle.verdict.proofs.Laws.Verdict.{yes_exactly_if_best}
pub use Rattle.verdict.proofs.Laws.Built.{built_passes}
pub use Rattle.memory_text.proofs.Laws.Number.{text_tests, read_tests, read_tests_numbered, read_memory_number, place_of, read_memory_place}

-- at every x: what bounds the error of some entry at every x of an interval bounds that of the entry built
pub built_bound_is_least : (s : Shape) (cells : List ℕ) → GoodTable s (length cells) → (n : ℕ) → n < 2 ^ s.k
    → (j : ℕ) → 2 ^ s.m ≤ j → j ≤ cap s
    → (a b : ℕ) → Bounds (2 ^ s.k) (2 ^ (s.m + 1)) (i_of s n) j (pos a over b)
    → Bounds (2 ^ s.k) (2 ^ (s.m + 1)) (i_of s n) (j_of s (get_or (built s cells) n 0)) (pos a over b)
built_bound_is_least s cells good n inside j from to =
    better_entry_bounded (2 ^ s.k) (2 ^ (s.m + 1)) (unit s) (i_of s n) j (unit_splits s) (pow_pos s.k) (j_of s (get_or (built s cells) n 0))
    (omega (arith, built_reaches_least s cells good n inside, least_below (unit s) (i_of s n) from to))

-- if no reason of a call's tests holds, its number is 0, and if its number is 0, none does
pub no_reason_is_done : (tests : List Test) → Passed tests → (refusal tests).number ≡ 0
no_reason_is_done tests p = sym (ap (λ (b : Reply). b.number) (done_by (λ (b : Reply). b) (reply 0 0) tests p))

pub done_has_no_reason : (tests : List Test) → Numbered tests → (refusal tests).number ≡ 0 → Passed tests
done_has_no_reason = all_passed

-- a test's answer is given where its reason holds and that of no test before it does
pub data First : List Test → Reply → Type 0 where
  here : {t : Test} {ts : List Test} → t.holds ≡ true → First (t ∷ ts) t.gives
  later : {t : Test} {ts : List Test} {b : Reply} → t.holds ≡ false → First ts b → First (t ∷ ts) b

by_first : (t : Test) (ts : List Test) (holds : Bool) → t.holds ≡ holds → (0 < (refusal ts).number → First ts (refusal ts))
    → 0 < (cond holds t.gives (refusal ts)).number
    → First (t ∷ ts) (cond holds t.gives (refusal ts))
by_first t ts true e rest h = here e
by_first t ts false e rest h = later e (rest h)

pub refused_has_its_reason : (tests : List Test) → 0 < (refusal tests).number → First tests (refusal tests)
unfolding answer
refused_has_its_reason [] h = absurd (omega arith)
refused_has_its_reason (t ∷ ts) h = by_first t ts t.holds refl (refused_has_its_reason ts) h

-- The number that a call answers is that of its tests, so the three theorems above speak of every call. Build, Build a bank and Show a
-- bank's companion answer `refusal` of their tests itself. Those of Read memory are its own and after them those of each token in order, and
-- at the end that of a missing cell (`read_tests`); the place that it names is that of the first which holds (`read_memory_place`).
pub entry_error_number : (s : Shape) (n f : ℕ) → (error_specs.entry_report s n f).number ≡ (refusal (error_specs.entry_tests s n f)).number
entry_error_number s n f =
    answer_number (λ (r : error_specs.Report). r.number) error_specs.refused _ (error_specs.entry_tests s n f) (λ b. refl) refl

pub take_number : (t : tally_specs.State) (f : ℕ) → (tally_specs.tally_report t f).number ≡ (refusal (error_specs.entry_tests t.shape t.next f)).number
take_number t f =
    answer_number (λ (r : tally_specs.Report). r.number) (tally_specs.handed_back t) _ (error_specs.entry_tests t.shape t.next f) (λ b. refl) refl

-- all three surveys
pub survey_number : (tests : List Test) (s : Shape) (n : ℕ) (fields : List ℕ)
    → (survey_specs.survey_after tests s n fields).number ≡ (refusal (tests ++ (wide_among s n fields ∷ []))).number
survey_number tests s n fields =
    answer_number (λ (r : survey_specs.Report). r.number) survey_specs.refused _ (tests ++ (wide_among s n fields ∷ [])) (λ b. refl) refl

pub check_number : (s : Shape) (cells : List ℕ) → (check_specs.check_report s cells).number ≡ (refusal (field_tests s cells)).number
check_number s cells =
    answer_number (λ (r : check_specs.Report). r.number) check_specs.refused _ (field_tests s cells) (λ b. refl)
    (scan_number (is_best s) s 0 (take (2 ^ s.k) cells))

pub look_up_number : (s : Shape) (x : ℕ) (cells : List ℕ)
    → (lookup_specs.lookup_report s x cells).number
    ≡ (refusal (lookup_specs.lookup_tests s x cells (lookup_specs.index_of s (shifted x)))).number
look_up_number s x cells =
    answer_number (λ (r : lookup_specs.Report). r.number) lookup_specs.refused _
    (lookup_specs.lookup_tests s x cells (lookup_specs.index_of s (shifted x)))
    (λ b. refl)
    refl

pub write_memory_number : (s : Shape) (cells : List ℕ) (room : ℕ)
    → (write_specs.write_report s cells room).number ≡ (refusal (write_specs.write_tests s cells room)).number
write_memory_number s cells room =
    answer_number (λ (r : write_specs.Report). r.number) write_specs.refused _ (write_specs.write_tests s cells room) (λ b. refl) refl
