-- The finding is the largest worst error, at the smallest n that has it: stated over the list of entries, with no tally.
-- Assumes nothing.
use Prim.Native.Nat.{ℕ, zero, suc, ◌+◌, ◌≤◌, ◌<◌}
use mathlib.Core.List.{List, [], ◌∷◌}
use mathlib.Core.Logic.{◌⊎◌, inl, inr, ⊎_elim}
use mathlib.Core.Path.{◌≡◌, refl, sym, ap, subst⁻¹, ◌∙◌}
use native.Mathlib.Nat.{le_refl, le_of_lt}
use native.Mathlib.Omega.{arith}
use borrow.Author.Tests.{lt-ltb, le-ltb}
use lib.ListN.{length, get_or}
use lib.Pow.{pow_pos}
use Rattle.units.specs.declared.shapes.Shape.{Shape}
use Rattle.units.proofs.Laws.Order.{by_order}
use Rattle.entry.specs.Errors.{unit, i_of, j_of}
use Rattle.entry.proofs.Laws.Worst.{worst_doubled}
use Rattle.survey.specs.Finding.{Figures, fresh, entry_figures, finding_over}

-- what the entry at place i of some fields has, the first of them that of interval n
abbrev pub entry_at : Shape → ℕ → List ℕ → ℕ → Figures
entry_at s n fields i = entry_figures s (n + i) (get_or fields i 0)

-- "the largest worst error, the smallest n that has it, and that entry's side"
pub record Largest (s : Shape) (n : ℕ) (fields : List ℕ) (f : Figures) : Type 0 where
  pub at : ℕ
  pub within : at < length fields
  pub is : f ≡ entry_at s n fields at
  pub largest : (i : ℕ) → i < length fields → (entry_at s n fields i).worst ≤ f.worst
  pub smallest : (i : ℕ) → i < at → (entry_at s n fields i).worst < f.worst

-- a survey keeps its finding where no entry is larger, and has the largest where one is
record Kept (s : Shape) (n : ℕ) (fields : List ℕ) (old new : Figures) : Type 0 where
  same : new ≡ old
  none : (i : ℕ) → i < length fields → (entry_at s n fields i).worst ≤ old.worst

record Replaced (s : Shape) (n : ℕ) (fields : List ℕ) (old new : Figures) : Type 0 where
  by : Largest s n fields new
  larger_than : old.worst < new.worst

module _ (s : Shape) where
  -- an entry in front of others
  shift : (n i f : ℕ) (fs : List ℕ) → entry_at s n (f ∷ fs) (suc i) ≡ entry_at s (suc n) fs i
  shift n i f fs = ap (λ (x : ℕ). entry_figures s x (get_or fs i 0)) (omega arith)

  head : (n f : ℕ) (fs : List ℕ) → entry_at s n (f ∷ fs) 0 ≡ entry_figures s n f
  head n f fs = ap (λ (x : ℕ). entry_figures s x f) (omega arith)

  -- what holds of the first entry and of those after it holds of all
  all_at_most : (n f : ℕ) (fs : List ℕ) {w : ℕ} → (entry_figures s n f).worst ≤ w → ((i : ℕ) → i < length fs → (entry_at s (suc n) fs i).worst ≤ w)
      → (i : ℕ) → i < length (f ∷ fs) → (entry_at s n (f ∷ fs) i).worst ≤ w
  all_at_most n f fs {w} first rest zero h = subst⁻¹ (λ (x : Figures). x.worst ≤ w) (head n f fs) first
  all_at_most n f fs {w} first rest (suc i) h = subst⁻¹ (λ (x : Figures). x.worst ≤ w) (shift n i f fs) (rest i (omega arith))

  all_below : (n f : ℕ) (fs : List ℕ) {w at : ℕ} → (entry_figures s n f).worst < w → ((i : ℕ) → i < at → (entry_at s (suc n) fs i).worst < w)
      → (i : ℕ) → i < suc at → (entry_at s n (f ∷ fs) i).worst < w
  all_below n f fs {w} first rest zero h = subst⁻¹ (λ (x : Figures). x.worst < w) (head n f fs) first
  all_below n f fs {w} first rest (suc i) h = subst⁻¹ (λ (x : Figures). x.worst < w) (shift n i f fs) (rest i (omega arith))

  -- the largest is among the entries after the first
  later : (n f : ℕ) (fs : List ℕ) {new : Figures} → (entry_figures s n f).worst < new.worst → Largest s (suc n) fs new → Largest s n (f ∷ fs) new
  later n f fs less l =
      record {
        at = suc l.at;
        within = omega (arith, l.within);
        is = l.is ∙ sym (shift n l.at f fs);
        largest = all_at_most n f fs (le_of_lt less) l.largest;
        smallest = all_below n f fs less l.smallest;
      }

  -- or is the first
  now_first : (n f : ℕ) (fs : List ℕ) {new : Figures} → Kept s (suc n) fs (entry_figures s n f) new → Largest s n (f ∷ fs) new
  now_first n f fs kept =
      record {
        at = 0;
        within = omega arith;
        is = kept.same ∙ sym (head n f fs);
        largest = rw kept.same (all_at_most n f fs (le_refl _) kept.none);
        smallest = λ i h. absurd (omega arith);
      }

  either : (n : ℕ) (fields : List ℕ) (old : Figures) → Kept s n fields old (finding_over s n fields old) ⊎ Replaced s n fields old (finding_over s n fields old)
  unfolding finding_over
  either n [] old = inl (record { same = refl; none = λ i h. absurd (omega arith) })
  either n (f ∷ fs) old =
      by_order (entry_figures s n f).worst old.worst
      (λ (small : (entry_figures s n f).worst ≤ old.worst).
      rw (le-ltb old.worst (entry_figures s n f).worst small)
      (⊎_elim
      (λ (kept : Kept s (suc n) fs old (finding_over s (suc n) fs old)).
      inl (record { same = kept.same; none = all_at_most n f fs small kept.none }))
      (λ (r : Replaced s (suc n) fs old (finding_over s (suc n) fs old)).
      inr (record { by = later n f fs (omega (arith, r.larger_than)) r.by; larger_than = r.larger_than }))
      (either (suc n) fs old)))
      (λ (big : old.worst < (entry_figures s n f).worst).
      rw (lt-ltb old.worst (entry_figures s n f).worst big)
      (⊎_elim
      (λ (kept : Kept s (suc n) fs (entry_figures s n f) (finding_over s (suc n) fs (entry_figures s n f))).
      inr (record { by = now_first n f fs kept; larger_than = rw kept.same big }))
      (λ (r : Replaced s (suc n) fs (entry_figures s n f) (finding_over s (suc n) fs (entry_figures s n f))).
      inr (record { by = later n f fs r.larger_than r.by; larger_than = omega (arith, r.larger_than) }))
      (either (suc n) fs (entry_figures s n f))))

  -- an entry's worst error is never 0: twice it is j at least
  worst_positive : (n f : ℕ) → 0 < (entry_figures s n f).worst
  worst_positive n f = omega (arith, worst_doubled (unit s) (i_of s n) (j_of s f), pow_pos s.m)

  -- Document 01: the survey "gives the largest worst error, the smallest n that has it, and that entry's side"
  pub survey_is_largest : (n : ℕ) (fields : List ℕ) → 0 < length fields → Largest s n fields (finding_over s n fields fresh)
  survey_is_largest n fields some =
      ⊎_elim
      (λ kept. absurd (omega (arith, kept.none 0 some, worst_positive (n + 0) (get_or fields 0 0))))
      (λ r. r.by)
      (either n fields fresh)

  -- and no other finding is that
  pub largest_is_one : (n : ℕ) (fields : List ℕ) {f g : Figures} → Largest s n fields f → Largest s n fields g → f ≡ g
  largest_is_one n fields {f} {g} a b =
      let f_worst = ap (λ (x : Figures). x.worst) a.is in
      let g_worst = ap (λ (x : Figures). x.worst) b.is in
      by_order a.at b.at
      (λ l.
      by_order b.at a.at
      (λ e. a.is ∙ ap (entry_at s n fields) (omega arith) ∙ sym b.is)
      (λ e. absurd (omega (arith, b.smallest a.at e, a.largest b.at b.within))))
      (λ l. absurd (omega (arith, a.smallest b.at l, b.largest a.at a.within)))
