-- The first of some cells of which a test holds, one cell after the other. Assumes nothing.
use Prim.Native.Nat.{ℕ, zero, suc, ◌+◌, ◌<◌}
use mathlib.Core.Bool.{Bool, true, false, ◌||◌, cond, false≢true}
use mathlib.Core.List.{List, [], ◌∷◌}
use mathlib.Core.Path.{◌≡◌, refl, ap, sym, ◌∙◌}
use native.Mathlib.Numerals.{add-one}
use native.Mathlib.Omega.{arith}
use lib.ListN.{length, drop, get_or, drop_of_length-le}
use lib.Seq.{drop-cons}
use Rattle.units.proofs.Laws.Order.{by_order}
use Rattle.units.proofs.Laws.Tests.{or_false}
use Rattle.table.specs.First.{any_of, first_of}

module _ (holds : ℕ → Bool) where
  -- where it holds of none, it does not of the first, nor of any after it
  pub none_of : (c : ℕ) (cs : List ℕ) → any_of holds (c ∷ cs) ≡ false → (holds c ≡ false) × (any_of holds cs ≡ false)
  unfolding any_of
  none_of c cs e = or_false (holds c) (any_of holds cs) e

  pub each_none : (cs : List ℕ) → ((i : ℕ) → i < length cs → holds (get_or cs i 0) ≡ false) → any_of holds cs ≡ false
  unfolding any_of
  each_none [] each = refl
  each_none (c ∷ cs) each = rw (each 0 (omega arith)) (each_none cs (λ i h. each (suc i) (omega arith)))

  pub all_none : (cs : List ℕ) → any_of holds cs ≡ false → (i : ℕ) → i < length cs → holds (get_or cs i 0) ≡ false
  all_none [] e i h = absurd (omega arith)
  all_none (c ∷ cs) e zero h = (none_of c cs e).0
  all_none (c ∷ cs) e (suc i) h = all_none cs (none_of c cs e).1 i (omega arith)

-- r is the smallest n of whose cell it holds, where the first of the cells is that of interval n
pub record Smallest (holds : ℕ → Bool) (n : ℕ) (cs : List ℕ) (r : ℕ) : Type 0 where
  pub at : ℕ
  pub is : r ≡ n + at
  pub within : at < length cs
  pub it_holds : holds (get_or cs at 0) ≡ true
  pub none_before : (i : ℕ) → i < at → holds (get_or cs i 0) ≡ false

pub first_is_smallest : (holds : ℕ → Bool) (n : ℕ) (cs : List ℕ) → any_of holds cs ≡ true → Smallest holds n cs (first_of holds n cs)
unfolding any_of first_of
first_is_smallest holds n [] e = absurd (false≢true e)
first_is_smallest holds n (c ∷ cs) e = by_cell (holds c) refl (first_is_smallest holds (suc n) cs)
  where
    by_cell : (here : Bool) → holds c ≡ here → (any_of holds cs ≡ true → Smallest holds (suc n) cs (first_of holds (suc n) cs))
        → Smallest holds n (c ∷ cs) (cond here n (first_of holds (suc n) cs))
    by_cell true h rest =
        record { at = 0; is = omega arith; within = omega arith; it_holds = h; none_before = λ i l. absurd (omega arith) }
    by_cell false h rest =
        let r = rest (sym (ap (λ (b : Bool). b || any_of holds cs) h) ∙ e) in
        record {
          at = suc r.at;
          is = omega (arith, r.is);
          within = omega (arith, r.within);
          it_holds = r.it_holds;
          none_before = below_first r.at h r.none_before;
        }
      where
        below_first : (at : ℕ) → holds c ≡ false → ((i : ℕ) → i < at → holds (get_or cs i 0) ≡ false)
            → (i : ℕ) → i < suc at → holds (get_or (c ∷ cs) i 0) ≡ false
        below_first at first later zero h = first
        below_first at first later (suc i) h = later i (omega arith)

-- the search over the cells from at on
module _ (holds : ℕ → Bool) (cells : List ℕ) (at : ℕ) where
  pub none_from : at < length cells → any_of holds (drop at cells) ≡ false
      → (holds (get_or cells at 0) ≡ false) × (any_of holds (drop (at + 1) cells) ≡ false)
  none_from h e = rw (add-one at) (none_of holds _ _ (rw (drop-cons cells at 0 h) at e))

  pub one_within : any_of holds (drop at cells) ≡ true → at < length cells
  unfolding any_of
  one_within e =
      by_order (length cells) at (λ h. absurd (false≢true (sym (ap (any_of holds) (drop_of_length-le cells h)) ∙ e))) (λ h. h)

  pub first_here : at < length cells → holds (get_or cells at 0) ≡ true → first_of holds at (drop at cells) ≡ at
  unfolding first_of
  first_here h e = rw (drop-cons cells at 0) (rw e)

  pub first_after : at < length cells → holds (get_or cells at 0) ≡ false
      → (any_of holds (drop (at + 1) cells) ≡ any_of holds (drop at cells))
      × (first_of holds (at + 1) (drop (at + 1) cells) ≡ first_of holds at (drop at cells))
  unfolding any_of first_of
  first_after h e = rw (add-one at, drop-cons cells at 0) (rw e, rw e)
