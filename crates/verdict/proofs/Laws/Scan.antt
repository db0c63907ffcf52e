-- A scan for the first entry that fails a test takes one cell after the other. The test, `good`, is any test of an n and a j.
-- Assumes nothing.
use Prim.Native.Nat.{ℕ, zero, suc, ◌+◌, ◌≤◌, ◌<◌}
use mathlib.Core.Bool.{Bool, true, false, cond, false≢true}
use mathlib.Core.List.{List, [], ◌∷◌}
use mathlib.Core.Path.{◌≡◌, refl, sym, ◌∙◌}
use native.Mathlib.Nat.{le_refl}
use native.Mathlib.Numerals.{add-one}
use native.Mathlib.Omega.{arith}
use lib.ListN.{length, drop, get_or, drop_of_length-le}
use lib.Seq.{drop-cons}
use Rattle.units.specs.declared.shapes.Shape.{Shape}
use Rattle.units.proofs.Laws.Order.{by_order}
use Rattle.entry.specs.Errors.{unit, i_of, j_of, worst}
use Rattle.entry.specs.Fields.{is_wide}
use Rattle.entry.specs.Least.{least_worst}
use Rattle.table.specs.Wide.{any_wide}
use Rattle.table.proofs.Laws.First.{none_from}
use Rattle.verdict.specs.Check.{Report, passed, not_best, first_failing}

-- the scan over the cells from at on
abbrev pub scan_from : (ℕ → ℕ → Bool) → Shape → List ℕ → ℕ → Report
scan_from good s cells at = first_failing good s at (drop at cells)

-- and what it gives where it ends at a cell whose value is j
abbrev pub failing : Shape → ℕ → ℕ → Report
failing s at j = not_best at (worst (unit s) (i_of s at) j) (least_worst s at)

-- the report r names the first of the cells from first on whose entry fails, with its worst error and the least one
pub record FirstFailing (good : ℕ → ℕ → Bool) (s : Shape) (cells : List ℕ) (first : ℕ) (r : Report) : Type 0 where
  pub from : first ≤ r.n
  pub within : r.n < length cells
  pub its_worst : r.worst ≡ worst (unit s) (i_of s r.n) (j_of s (get_or cells r.n 0))
  pub its_least : r.least ≡ least_worst s r.n
  pub fails : good r.n (j_of s (get_or cells r.n 0)) ≡ false
  pub good_before : (i : ℕ) → first ≤ i → i < r.n → good i (j_of s (get_or cells i 0)) ≡ true

-- a scan is done, whether or not it finds an entry
pub scan_number : (good : ℕ → ℕ → Bool) (s : Shape) (n : ℕ) (fields : List ℕ) → (first_failing good s n fields).number ≡ 0
unfolding first_failing
scan_number good s n [] = refl
scan_number good s n (f ∷ fs) = by_test (good n (j_of s f)) (first_failing good s (suc n) fs) (scan_number good s (suc n) fs)
  where
    by_test : (passes : Bool) (rest : Report) → rest.number ≡ 0 → (cond passes rest (failing s n (j_of s f))).number ≡ 0
    by_test true rest e = e
    by_test false rest e = refl

module _ (good : ℕ → ℕ → Bool) (s : Shape) (cells : List ℕ) where
  pub ends_yes : (at : ℕ) → length cells ≤ at → scan_from good s cells at ≡ passed
  unfolding first_failing
  ends_yes at h = rw (drop_of_length-le cells)

  module _ (at : ℕ) (h : at < length cells) where
    module _ {j : ℕ} (is : j ≡ j_of s (get_or cells at 0)) where
      pub goes_on : good at j ≡ true → scan_from good s cells at ≡ scan_from good s cells (at + 1)
      unfolding first_failing
      goes_on e = rw (add-one at, drop-cons cells at 0 h, ← is, e)

      pub ends_here : good at j ≡ false → scan_from good s cells at ≡ failing s at j
      unfolding first_failing
      ends_here e = rw (drop-cons cells at 0 h, ← is, e)

    -- one of the two
    by_cell : {G : Type 0}
        → (good at (j_of s (get_or cells at 0)) ≡ true → scan_from good s cells at ≡ scan_from good s cells (at + 1) → G)
        → (good at (j_of s (get_or cells at 0)) ≡ false → scan_from good s cells at ≡ failing s at (j_of s (get_or cells at 0)) → G)
        → G
    by_cell {G} passes fails = by_test (good at (j_of s (get_or cells at 0))) refl
      where
        by_test : (b : Bool) → good at (j_of s (get_or cells at 0)) ≡ b → G
        by_test true e = passes e (goes_on refl e)
        by_test false e = fails e (ends_here refl e)

  -- yes says that every entry passes, and is said where every entry does
  yes_each : (at more : ℕ) → at + more ≡ length cells → (scan_from good s cells at).yes ≡ true
      → (n : ℕ) → at ≤ n → n < length cells → good n (j_of s (get_or cells n 0)) ≡ true
  yes_each at zero all e n from h = absurd (omega arith)
  yes_each at (suc more) all e n from h =
      by_cell at (omega arith)
      (λ passes next.
      by_order n at
      (λ l.
      let same : n ≡ at = omega arith in
      rw same passes)
      (λ l. yes_each (at + 1) more (omega arith) (rw next at e) n (omega arith) h))
      (λ fails end. absurd (false≢true (rw end at e)))

  each_yes : (at more : ℕ) → at + more ≡ length cells → ((n : ℕ) → at ≤ n → n < length cells → good n (j_of s (get_or cells n 0)) ≡ true)
      → scan_from good s cells at ≡ passed
  each_yes at zero all passes = ends_yes at (omega arith)
  each_yes at (suc more) all passes =
      let here : at < length cells = omega arith in
      goes_on at here refl (passes at (omega arith) here)
      ∙ each_yes (at + 1) more (omega arith) (λ n from h. passes n (omega arith) h)

  pub yes_all_pass : (scan_from good s cells 0).yes ≡ true → (n : ℕ) → n < length cells → good n (j_of s (get_or cells n 0)) ≡ true
  yes_all_pass e n = yes_each 0 (length cells) (omega arith) e n (omega arith)

  pub all_pass_yes : ((n : ℕ) → n < length cells → good n (j_of s (get_or cells n 0)) ≡ true) → scan_from good s cells 0 ≡ passed
  all_pass_yes passes = each_yes 0 (length cells) (omega arith) (λ n from h. passes n h)

  -- anything else names the first that fails: one cell more, whose entry passes
  earlier : (at : ℕ) {r : Report} → good at (j_of s (get_or cells at 0)) ≡ true → FirstFailing good s cells (at + 1) r → FirstFailing good s cells at r
  earlier at passes found =
      record {
        from = omega (arith, found.from);
        within = found.within;
        its_worst = found.its_worst;
        its_least = found.its_least;
        fails = found.fails;
        good_before =
            λ i from h.
            by_order i at
            (λ l.
            let same : i ≡ at = omega arith in
            rw same passes)
            (λ l. found.good_before i (omega arith) h);
      }

  finding : (at more : ℕ) → at + more ≡ length cells → (scan_from good s cells at).yes ≡ false → FirstFailing good s cells at (scan_from good s cells at)
  finding at zero all e = absurd (false≢true (sym (rw (ends_yes at (omega arith)) at e)))
  finding at (suc more) all e =
      let here : at < length cells = omega arith in
      by_cell at here
      (λ passes next. rw next (earlier at passes (finding (at + 1) more (omega arith) (rw next at e))))
      (λ fails end.
      rw end
      record {
        from = le_refl at;
        within = here;
        its_worst = refl;
        its_least = refl;
        fails = fails;
        good_before = λ i from h. absurd (omega arith);
      })

  pub finding_is_first_failing : (scan_from good s cells 0).yes ≡ false → FirstFailing good s cells 0 (scan_from good s cells 0)
  finding_is_first_failing = finding 0 (length cells) (omega arith)

-- a scan that has come to `at`: no field from there on is over-wide, and it ends as the scan over all cells
pub record Scanning (good : ℕ → ℕ → Bool) (s : Shape) (cells : List ℕ) (at : ℕ) : Type 0 where
  pub within : at ≤ length cells
  pub narrow : any_wide s (drop at cells) ≡ false
  pub left_is : scan_from good s cells at ≡ scan_from good s cells 0

module _ {good : ℕ → ℕ → Bool} {s : Shape} {cells : List ℕ} {at : ℕ} (v : Scanning good s cells at) where
  pub scanning_ends : length cells ≤ at → passed ≡ scan_from good s cells 0
  scanning_ends past = sym (ends_yes good s cells at past) ∙ v.left_is

  pub scanning_narrow : at < length cells → is_wide s (get_or cells at 0) ≡ false
  scanning_narrow inside = (none_from (is_wide s) cells at inside v.narrow).0

  module _ (inside : at < length cells) {j : ℕ} (is : j ≡ j_of s (get_or cells at 0)) where
    pub scanning_goes_on : good at j ≡ true → Scanning good s cells (at + 1)
    scanning_goes_on passes =
        record {
          within = omega arith;
          narrow = (none_from (is_wide s) cells at inside v.narrow).1;
          left_is = sym (goes_on good s cells at inside is passes) ∙ v.left_is;
        }

    pub scanning_stops : good at j ≡ false → failing s at j ≡ scan_from good s cells 0
    scanning_stops fails = sym (ends_here good s cells at inside is fails) ∙ v.left_is
