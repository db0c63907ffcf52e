-- The survey of a whole from the surveys of its banks: the one with the largest worst error and, of equal ones, the smallest n.
-- Every entry of the table lies in a bank, whose survey is no smaller. Assumes nothing.
use Prim.Native.Nat.{ℕ, ◌+◌, ◌-◌, ◌/◌, ◌^◌, ◌≤◌, ◌<◌}
use mathlib.Core.List.{List}
use mathlib.Core.Path.{◌≡◌, sym, ap, ap₂, ◌∙◌}
use native.Mathlib.Nat.{div-mul-le_self, lt-div-mul-add, div-lt_iff_lt-mul}
use native.Mathlib.Omega.{arith}
use lib.ListN.{length, take, drop, length-take, length-drop}
use lib.Pow.{pow_pos}
use lib.Seq.{get_or-take, get_or-drop, length-take-le}
use Rattle.units.specs.declared.shapes.Shape.{Shape}
use Rattle.units.proofs.Laws.Order.{by_order}
use Rattle.units.proofs.Laws.Powers.{power_splits}
use Rattle.table.specs.Banks.{bank_size, bank_start, bank_of}
use Rattle.table.proofs.Laws.Banks.{bank_within}
use Rattle.survey.specs.Finding.{Figures, fresh, entry_figures, finding_over}
use Rattle.survey.proofs.Laws.Largest.{entry_at, Largest, survey_is_largest, largest_is_one}

-- the finding of bank b, and of the table
abbrev pub bank_figures : Shape → ℕ → List ℕ → ℕ → Figures
bank_figures s h cells b = finding_over s (bank_start s.k h b) (bank_of s.k h b cells) fresh

abbrev pub table_figures : Shape → List ℕ → Figures
table_figures s cells = finding_over s 0 (take (2 ^ s.k) cells) fresh

-- the largest worst error of the banks, and the smallest n of those that have it
pub record LargestBank (s : Shape) (h : ℕ) (cells : List ℕ) (f : Figures) : Type 0 where
  pub b : ℕ
  pub number : b < 2 ^ h
  pub is : f ≡ bank_figures s h cells b
  pub largest : (c : ℕ) → c < 2 ^ h → (bank_figures s h cells c).worst ≤ f.worst
  pub smallest : (c : ℕ) → c < 2 ^ h → (bank_figures s h cells c).worst ≡ f.worst → f.n ≤ (bank_figures s h cells c).n

module _ (s : Shape) (h : ℕ) (cells : List ℕ) (low : h ≤ s.k) (enough : 2 ^ s.k ≤ length cells) where
  size_of : (b : ℕ) → b < 2 ^ h → length (bank_of s.k h b cells) ≡ bank_size s.k h
  size_of b number = simp (length-take, length-drop) (omega (arith, bank_within s.k h b low number))

  survey_of : (b : ℕ) → b < 2 ^ h → Largest s (bank_start s.k h b) (bank_of s.k h b cells) (bank_figures s h cells b)
  survey_of b number = survey_is_largest s (bank_start s.k h b) (bank_of s.k h b cells) (omega (arith, size_of b number, pow_pos (s.k - h)))

  -- an entry of a bank is that entry of the table
  same_entry : (b i : ℕ) → b < 2 ^ h → i < bank_size s.k h
      → entry_at s (bank_start s.k h b) (bank_of s.k h b cells) i ≡ entry_at s 0 (take (2 ^ s.k) cells) (bank_start s.k h b + i)
  same_entry b i number inside =
      ap₂ (λ (n f : ℕ). entry_figures s n f) (omega arith)
      (get_or-take (bank_size s.k h) (drop (bank_start s.k h b) cells) i 0 inside
      ∙ get_or-drop (bank_start s.k h b) cells i 0
      ∙ sym (get_or-take (2 ^ s.k) cells (bank_start s.k h b + i) 0 (omega (arith, bank_within s.k h b low number))))

  -- an entry of the table lies in the bank i/2^(k-h)
  number_of : (i : ℕ) → i < 2 ^ s.k → i / bank_size s.k h < 2 ^ h
  number_of i inside = (div-lt_iff_lt-mul (pow_pos (s.k - h))).1 (omega (arith, power_splits low))

  in_bank : (i : ℕ) → i < 2 ^ s.k → i - bank_start s.k h (i / bank_size s.k h) < bank_size s.k h
  in_bank i inside = omega (arith, div-mul-le_self i (bank_size s.k h), lt-div-mul-add {a = i} (pow_pos (s.k - h)))

  entry_in_bank : (i : ℕ) → i < 2 ^ s.k
      → entry_at s 0 (take (2 ^ s.k) cells) i
      ≡ entry_at s (bank_start s.k h (i / bank_size s.k h)) (bank_of s.k h (i / bank_size s.k h) cells) (i - bank_start s.k h (i / bank_size s.k h))
  entry_in_bank i inside =
      ap (entry_at s 0 (take (2 ^ s.k) cells)) (omega (arith, div-mul-le_self i (bank_size s.k h)))
      ∙ sym (same_entry (i / bank_size s.k h) (i - bank_start s.k h (i / bank_size s.k h)) (number_of i inside) (in_bank i inside))

  -- an entry's worst error is no larger than its bank's, and smaller before its bank's finding
  below_bank : (i : ℕ) → i < 2 ^ s.k → (entry_at s 0 (take (2 ^ s.k) cells) i).worst ≤ (bank_figures s h cells (i / bank_size s.k h)).worst
  below_bank i inside =
      let finding = survey_of (i / bank_size s.k h) (number_of i inside) in
      omega (
        arith,
        ap (λ (f : Figures). f.worst) (entry_in_bank i inside),
        finding.largest (i - bank_start s.k h (i / bank_size s.k h)) (omega (arith, size_of (i / bank_size s.k h) (number_of i inside), in_bank i inside)),
      )

  before_bank : (i : ℕ) → i < 2 ^ s.k → i < (bank_figures s h cells (i / bank_size s.k h)).n
      → (entry_at s 0 (take (2 ^ s.k) cells) i).worst < (bank_figures s h cells (i / bank_size s.k h)).worst
  before_bank i inside less =
      let finding = survey_of (i / bank_size s.k h) (number_of i inside) in
      omega (
        arith,
        ap (λ (f : Figures). f.worst) (entry_in_bank i inside),
        finding.smallest (i - bank_start s.k h (i / bank_size s.k h))
            (omega (arith, less, ap (λ (f : Figures). f.n) finding.is, div-mul-le_self i (bank_size s.k h))),
      )

  whole : length (take (2 ^ s.k) cells) ≡ 2 ^ s.k
  whole = length-take-le (2 ^ s.k) cells enough

  whole_survey : Largest s 0 (take (2 ^ s.k) cells) (table_figures s cells)
  whole_survey = survey_is_largest s 0 (take (2 ^ s.k) cells) (omega (arith, whole, pow_pos s.k))

  -- a bank's finding is an entry of the table
  module _ (b : ℕ) (number : b < 2 ^ h) where
    place : ℕ
    place = bank_start s.k h b + (survey_of b number).at

    in_size : (survey_of b number).at < bank_size s.k h
    in_size = omega (arith, (survey_of b number).within, size_of b number)

    place_within : place < 2 ^ s.k
    unfolding place
    place_within = omega (arith, in_size, bank_within s.k h b low number)

    is_entry : bank_figures s h cells b ≡ entry_at s 0 (take (2 ^ s.k) cells) place
    unfolding place
    is_entry = (survey_of b number).is ∙ same_entry b (survey_of b number).at number in_size

  joined : {f : Figures} → LargestBank s h cells f → Largest s 0 (take (2 ^ s.k) cells) f
  joined {f} j =
      let is = j.is ∙ is_entry j.b j.number in
      let inside = place_within j.b j.number in
      record {
        at = place j.b j.number;
        within = omega (arith, whole, inside);
        is = is;
        largest =
            λ i h'.
            let i_in : i < 2 ^ s.k = omega (arith, whole) in
            omega (arith, below_bank i i_in, j.largest (i / bank_size s.k h) (number_of i i_in));
        smallest =
            λ i h'.
            let i_in : i < 2 ^ s.k = omega (arith, inside) in
            by_order f.worst (bank_figures s h cells (i / bank_size s.k h)).worst
            (λ e.
            let top = j.largest (i / bank_size s.k h) (number_of i i_in) in
            omega (
              arith,
              e,
              top,
              before_bank i i_in
                  (omega (arith, j.smallest (i / bank_size s.k h) (number_of i i_in) (omega (arith, e, top)), ap (λ (x : Figures). x.n) is)),
            ))
            (λ e. omega (arith, e, below_bank i i_in));
      }

  -- the surveys of the banks of one h, by their largest worst and smallest n, give the survey of the whole
  pub banks_give_whole : {f : Figures} → LargestBank s h cells f → f ≡ table_figures s cells
  banks_give_whole j = largest_is_one s 0 (take (2 ^ s.k) cells) (joined j) whole_survey

  -- the bank that the whole's finding lies in has it too
  home : ℕ
  home = whole_survey.at / bank_size s.k h

  found : whole_survey.at < 2 ^ s.k
  found = omega (arith, whole_survey.within, whole)

  home_has : table_figures s cells ≡ bank_figures s h cells home
  unfolding home
  home_has =
      let number = number_of whole_survey.at found in
      let start = div-mul-le_self whole_survey.at (bank_size s.k h) in
      let same : (i : ℕ) → i < bank_size s.k h → _ = λ i l. ap (λ (f : Figures). f.worst) (same_entry home i number l) in
      largest_is_one s (bank_start s.k h home) (bank_of s.k h home cells)
      (record {
        at = whole_survey.at - bank_start s.k h home;
        within = omega (arith, size_of home number, in_bank whole_survey.at found);
        is = whole_survey.is ∙ entry_in_bank whole_survey.at found;
        largest =
            λ i l.
            let i_in : i < bank_size s.k h = omega (arith, size_of home number) in
            omega (arith, same i i_in, whole_survey.largest (bank_start s.k h home + i) (omega (arith, whole, i_in, bank_within s.k h home low number)));
        smallest =
            λ i l.
            let i_in : i < bank_size s.k h = omega (arith, in_bank whole_survey.at found) in
            omega (arith, same i i_in, whole_survey.smallest (bank_start s.k h home + i) (omega (arith, start)));
      })
      (survey_of home number)

  -- so the whole's finding is the largest of the banks', and a largest there always is
  pub whole_is_largest_bank : LargestBank s h cells (table_figures s cells)
  unfolding home
  whole_is_largest_bank =
      record {
        b = home;
        number = number_of whole_survey.at found;
        is = home_has;
        largest =
            λ c l.
            omega (arith, ap (λ (f : Figures). f.worst) (is_entry c l), whole_survey.largest (place c l) (omega (arith, whole, place_within c l)));
        smallest =
            λ c l same.
            by_order whole_survey.at (place c l)
            (λ e. omega (arith, e, ap (λ (f : Figures). f.n) (is_entry c l), ap (λ (f : Figures). f.n) whole_survey.is))
            (λ e. absurd (omega (arith, ap (λ (f : Figures). f.worst) (is_entry c l), same, whole_survey.smallest (place c l) e)));
      }
