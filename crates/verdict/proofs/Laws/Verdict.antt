-- The verdict is yes exactly where every entry of the table is best, and no cell past the table counts. Assumes nothing.
use Prim.Native.Nat.{ℕ, ◌^◌, ◌≤◌, ◌<◌}
use mathlib.Core.Bool.{true, false≢true}
use mathlib.Core.List.{List, [], ◌++◌}
use mathlib.Core.Path.{◌≡◌, refl, sym, ap, ◌∙◌}
use native.Mathlib.Omega.{arith}
use borrow.Author.Tests.{le-ltb, eq-eqb, eqb-true}
use lib.ListN.{length, take, get_or, length-append}
use lib.Seq.{get_or-take, take-append-le}
use Rattle.units.specs.Refusals.{answer, refusal}
use Rattle.units.specs.Inner.Good.{GoodTable}
use Rattle.units.specs.declared.shapes.Shape.{Shape}
use Rattle.units.proofs.Laws.Order.{by_order}
use Rattle.units.proofs.Laws.Tests.{all_passed, done_by, refused_by}
use Rattle.entry.specs.Errors.{unit, i_of, j_of, worst}
use Rattle.entry.specs.Least.{least_worst, is_best}
use Rattle.entry.specs.Rule.{rule_field}
use Rattle.entry.proofs.Laws.Table.{rule_field_narrow, rule_field_reaches_least}
use Rattle.entry.specs.Fields.{is_wide}
use Rattle.table.specs.Inner.Good.{GoodFields}
use Rattle.table.specs.Wide.{field_tests}
use Rattle.table.proofs.Laws.Good.{fields_good, good_fields, table_size}
use Rattle.table.proofs.Laws.First.{each_none}
use Rattle.verdict.specs.Check.{Report, refused, passed, first_failing, check_report}
use Rattle.verdict.proofs.Laws.Scan.{scan_from, yes_all_pass, all_pass_yes}

-- the entry with field f reaches the least worst error of interval n
abbrev pub Best : Shape → ℕ → ℕ → Type 0
Best s n f = worst (unit s) (i_of s n) (j_of s f) ≡ least_worst s n

-- every entry of the table does
abbrev pub AllBest : Shape → List ℕ → Type 0
AllBest s cells = (n : ℕ) → n < 2 ^ s.k → Best s n (get_or cells n 0)

module _ (s : Shape) (cells : List ℕ) where
  -- no refusal is a yes
  yes_good : (check_report s cells).yes ≡ true → GoodFields s cells
  yes_good e =
      by_order (refusal (field_tests s cells)).number 0
      (λ l. fields_good (all_passed (field_tests s cells) (omega arith) (omega arith)))
      (λ l. absurd (false≢true (ap (λ (r : Report). r.yes) (refused_by refused _ (field_tests s cells) [] refl l) ∙ e)))

  -- where every test passes the answer is the scan's, of 2^k cells
  pub scanned : GoodFields s cells → scan_from (is_best s) s (take (2 ^ s.k) cells) 0 ≡ check_report s cells
  scanned g = done_by refused (first_failing (is_best s) s 0 (take (2 ^ s.k) cells)) (field_tests s cells) (good_fields g)

  yes_all_best : (check_report s cells).yes ≡ true → AllBest s cells
  yes_all_best e n h =
      let g = yes_good e in
      rw (← (get_or-take (2 ^ s.k) cells n 0 h))
      (eqb-true _ _
      (yes_all_pass (is_best s) s (take (2 ^ s.k) cells) (rw (← (scanned g)) at e) n (omega (arith, table_size cells g.table))))

  all_best_yes : GoodFields s cells → AllBest s cells → check_report s cells ≡ passed
  all_best_yes g best =
      sym (scanned g)
      ∙ all_pass_yes (is_best s) s (take (2 ^ s.k) cells)
      (λ n h.
      let within : n < 2 ^ s.k = omega (arith, table_size cells g.table) in
      rw (get_or-take (2 ^ s.k) cells n 0) (eq-eqb (worst (unit s) (i_of s n) (j_of s (get_or cells n 0))) (least_worst s n) (best n within)))

  -- The order, demand 2: "The checker says yes exactly to tables whose every entry reaches that least error": no reason for refusal
  -- holds, and every entry is best
  pub yes_exactly_if_best : ((check_report s cells).yes ≡ true → GoodFields s cells × AllBest s cells)
      × (GoodFields s cells → AllBest s cells → check_report s cells ≡ passed)
  yes_exactly_if_best = (λ e. (yes_good e, yes_all_best e), all_best_yes)

  -- so to every table of the builder's fields
  pub rule_fields_pass : GoodTable s (length cells) → ((n : ℕ) → n < 2 ^ s.k → get_or cells n 0 ≡ rule_field s n) → check_report s cells ≡ passed
  rule_fields_pass g rule =
      all_best_yes
      (record {
        table = g;
        narrow =
            each_none (is_wide s) (take (2 ^ s.k) cells)
            (λ n h.
            let within : n < 2 ^ s.k = omega (arith, table_size cells g) in
            rw (get_or-take (2 ^ s.k) cells n 0, rule n within) (rule_field_narrow s within));
      })
      (λ n h. rw (rule n h) (rule_field_reaches_least s h))

  -- Document 01: "Cells past the table change no answer"
  pub check_past_table : (more : List ℕ) → 2 ^ s.k ≤ length cells → check_report s (cells ++ more) ≡ check_report s cells
  unfolding answer
  check_past_table more h =
      simp (
        take-append-le (2 ^ s.k) cells more h,
        le-ltb (length cells) (2 ^ s.k) h,
        le-ltb (length (cells ++ more)) (2 ^ s.k) (omega (arith, length-append cells more)),
      )
