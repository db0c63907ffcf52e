-- "A shown bank is never empty; an empty stretch means refusal." Assumes nothing.
use Prim.Native.Nat.{ℕ, ◌-◌, ◌<◌}
use mathlib.Core.List.{List, []}
use mathlib.Core.Path.{◌≡◌, sym, ap, ◌∙◌, refl}
use native.Mathlib.Omega.{arith}
use lib.ListN.{length, length-take, length-drop}
use lib.Pow.{pow_pos}
use Rattle.units.specs.Refusals.{Reply, refusal}
use Rattle.units.proofs.Laws.Order.{by_order}
use Rattle.units.proofs.Laws.Tests.{all_passed, done_by, refused_by}
use Rattle.table.specs.Banks.{bank_size, bank_of, view_tests, shown}
use Rattle.table.specs.Inner.Good.{GoodView}
use Rattle.table.proofs.Laws.Banks.{bank_within}
use Rattle.table.proofs.Laws.Good.{view_good, good_view}

module _ (k h b : ℕ) (cells : List ℕ) where
  pub shown_is : GoodView k h b (length cells) → shown k h b cells ≡ bank_of k h b cells
  shown_is good = sym (done_by (λ (_ : Reply). []) (bank_of k h b cells) (view_tests k h b (length cells)) (good_view good))

  pub bank_whole : GoodView k h b (length cells) → length (bank_of k h b cells) ≡ bank_size k h
  bank_whole good =
      simp (length-take, length-drop) (omega (arith, bank_within k h b good.bank.low good.bank.number, good.enough))

  pub shown_whole : GoodView k h b (length cells) → length (shown k h b cells) ≡ bank_size k h
  shown_whole good = ap length (shown_is good) ∙ bank_whole good

  pub empty_is_refused : shown k h b cells ≡ [] → 0 < (refusal (view_tests k h b (length cells))).number
  empty_is_refused e =
      by_order (refusal (view_tests k h b (length cells))).number 0
      (λ z.
      let done = all_passed (view_tests k h b (length cells)) (omega arith) (omega arith) in
      let bank = done_by (λ (_ : Reply). []) (bank_of k h b cells) (view_tests k h b (length cells)) done in
      absurd (omega (arith, ap length (bank ∙ e), bank_whole (view_good done), pow_pos (k - h))))
      (λ p. p)

  pub refused_is_empty : 0 < (refusal (view_tests k h b (length cells))).number → shown k h b cells ≡ []
  refused_is_empty p = sym (refused_by (λ (_ : Reply). []) (bank_of k h b cells) (view_tests k h b (length cells)) [] refl p)
