-- "All banks of one h, built in any order, give the whole table." A bank that is filled gets its fields, so a cell that holds its
-- field keeps it, whatever is filled after; and every cell of the table lies in a bank of the list. Assumes nothing.
use Prim.Native.Nat.{ℕ, ◌+◌, ◌-◌, ◌/◌, ◌^◌, ◌≤◌, ◌<◌}
use mathlib.Core.Bool.{cond}
use mathlib.Core.List.{List, [], ◌∷◌, ◌++◌, Memᴰ}
use mathlib.Core.Path.{◌≡◌, refl, sym, ap, subst, ◌∙◌}
use native.Mathlib.Nat.{div-mul-le_self, lt-div-mul-add, div-lt_iff_lt-mul}
use native.Mathlib.Omega.{arith}
use borrow.Author.Tests.{le-ltb, le-leb, lt-ltb}
use lib.Dec.{ltb}
use lib.ListN.{length, get_or}
use lib.Pow.{pow_pos}
use lib.Seq.{ext_get_or}
use Rattle.units.specs.Refusals.{Reply, bank_height, bank_number, width_tests}
use Rattle.units.specs.Inner.Good.{GoodTable}
use Rattle.units.specs.declared.shapes.Shape.{Shape}
use Rattle.units.proofs.Laws.Good.{good_widths}
use Rattle.units.proofs.Laws.Order.{by_order}
use Rattle.units.proofs.Laws.Powers.{power_splits}
use Rattle.units.proofs.Laws.Tests.{passed_also, refused_after}
use Rattle.entry.specs.Rule.{rule_field}
use Rattle.table.specs.Banks.{bank_size, bank_start}
use Rattle.table.specs.Build.{filled, built, bank_built, banks_built}
use Rattle.table.proofs.Laws.Banks.{bank_within}
use Rattle.table.proofs.Laws.Rows.{length_filled, filled_in, filled_before, filled_after}
use Rattle.table.proofs.Laws.Built.{built_is, bank_built_is}

-- a bank is filled, or its number is none and nothing is written
abbrev bank_filled : (ℕ → ℕ) → ℕ → ℕ → ℕ → List ℕ → List ℕ
bank_filled field k h b cells = cond (ltb b (2 ^ h)) (filled field (bank_start k h b) (bank_size k h) cells) cells

abbrev banks_filled : (ℕ → ℕ) → ℕ → ℕ → List ℕ → List ℕ → List ℕ
banks_filled field k h [] cells = cells
banks_filled field k h (b ∷ bs) cells = banks_filled field k h bs (bank_filled field k h b cells)

-- Below, `field` is any function from an interval to a field
module _ (field : ℕ → ℕ) (k h : ℕ) (low : h ≤ k) where
  either : (P : List ℕ → Type 0) (b : ℕ) (cells : List ℕ)
      → (b < 2 ^ h → bank_start k h b + bank_size k h ≤ 2 ^ k → P (filled field (bank_start k h b) (bank_size k h) cells))
      → (2 ^ h ≤ b → P cells)
      → P (bank_filled field k h b cells)
  either P b cells yes_bank no_bank =
      by_order (2 ^ h) b
      (λ past. rw (le-ltb b (2 ^ h) past) (no_bank past))
      (λ number. rw (lt-ltb b (2 ^ h) number) (yes_bank number (bank_within k h b low number)))

  module _ (cells : List ℕ) (enough : 2 ^ k ≤ length cells) (b : ℕ) where
    same_length : length (bank_filled field k h b cells) ≡ length cells
    same_length =
        either (λ (xs : List ℕ). length xs ≡ length cells) b cells
        (λ number within. length_filled field (bank_start k h b) (bank_size k h) cells (omega arith))
        (λ past. refl)

    still_enough : 2 ^ k ≤ length (bank_filled field k h b cells)
    still_enough = omega (arith, same_length)

    -- a cell past the table keeps its value, and one that holds its field keeps it
    keeps : (i : ℕ) → 2 ^ k ≤ i → get_or (bank_filled field k h b cells) i 0 ≡ get_or cells i 0
    keeps i past =
        either (λ (xs : List ℕ). get_or xs i 0 ≡ get_or cells i 0) b cells
        (λ number within. filled_after field (bank_start k h b) (bank_size k h) cells (omega arith) i (omega arith))
        (λ none. refl)

    keeps_field : (i : ℕ) → get_or cells i 0 ≡ field i → get_or (bank_filled field k h b cells) i 0 ≡ field i
    keeps_field i e =
        either (λ (xs : List ℕ). get_or xs i 0 ≡ field i) b cells
        (λ number within.
        by_order (bank_start k h b) i
        (λ l.
        by_order (bank_start k h b + bank_size k h) i
        (λ a. filled_after field (bank_start k h b) (bank_size k h) cells (omega arith) i a ∙ e)
        (λ a. filled_in field (bank_start k h b) (bank_size k h) cells (omega arith) i l a))
        (λ l. filled_before field (bank_start k h b) (bank_size k h) cells (omega arith) i l ∙ e))
        (λ none. e)

    writes_field : (i : ℕ) → b < 2 ^ h → bank_start k h b ≤ i → i < bank_start k h b + bank_size k h → get_or (bank_filled field k h b cells) i 0 ≡ field i
    writes_field i number from to =
        either (λ (xs : List ℕ). get_or xs i 0 ≡ field i) b cells
        (λ _ within. filled_in field (bank_start k h b) (bank_size k h) cells (omega arith) i from to)
        (λ none. absurd (omega arith))

  -- the same of a list of banks
  all_length : (bs cells : List ℕ) → 2 ^ k ≤ length cells → length (banks_filled field k h bs cells) ≡ length cells
  all_length [] cells enough = refl
  all_length (b ∷ bs) cells enough =
      all_length bs (bank_filled field k h b cells) (still_enough cells enough b) ∙ same_length cells enough b

  all_keep : (i : ℕ) → 2 ^ k ≤ i → (bs cells : List ℕ) → 2 ^ k ≤ length cells → get_or (banks_filled field k h bs cells) i 0 ≡ get_or cells i 0
  all_keep i past [] cells enough = refl
  all_keep i past (b ∷ bs) cells enough =
      all_keep i past bs (bank_filled field k h b cells) (still_enough cells enough b) ∙ keeps cells enough b i past

  all_keep_field : (i : ℕ) (bs cells : List ℕ) → 2 ^ k ≤ length cells → get_or cells i 0 ≡ field i → get_or (banks_filled field k h bs cells) i 0 ≡ field i
  all_keep_field i [] cells enough e = e
  all_keep_field i (b ∷ bs) cells enough e =
      all_keep_field i bs (bank_filled field k h b cells) (still_enough cells enough b) (keeps_field cells enough b i e)

  some_writes : (i b : ℕ) → b < 2 ^ h → bank_start k h b ≤ i → i < bank_start k h b + bank_size k h
      → (bs cells : List ℕ) → 2 ^ k ≤ length cells → Memᴰ b bs → get_or (banks_filled field k h bs cells) i 0 ≡ field i
  some_writes i b number from to [] cells enough mem = elim mem [ ]
  some_writes i b number from to (c ∷ bs) cells enough (Memᴰ.head e) =
      all_keep_field i bs (bank_filled field k h c cells) (still_enough cells enough c)
      (subst (λ (x : ℕ). get_or (bank_filled field k h x cells) i 0 ≡ field i) e (writes_field cells enough b i number from to))
  some_writes i b number from to (c ∷ bs) cells enough (Memᴰ.tail mem) =
      some_writes i b number from to bs (bank_filled field k h c cells) (still_enough cells enough c) mem

  -- every bank is filled, so every cell is
  pub banks_fill_table : (bs cells : List ℕ) → ((b : ℕ) → b < 2 ^ h → Memᴰ b bs) → 2 ^ k ≤ length cells
      → banks_filled field k h bs cells ≡ filled field 0 (2 ^ k) cells
  banks_fill_table bs cells every enough =
      let fits : 0 + 2 ^ k ≤ length cells = omega arith in
      ext_get_or 0 (banks_filled field k h bs cells) (filled field 0 (2 ^ k) cells)
      (all_length bs cells enough ∙ sym (length_filled field 0 (2 ^ k) cells fits))
      (λ i _.
      by_order (2 ^ k) i
      (λ past. all_keep i past bs cells enough ∙ sym (filled_after field 0 (2 ^ k) cells fits i (omega arith)))
      (λ inside.
      let number : i / bank_size k h < 2 ^ h = (div-lt_iff_lt-mul (pow_pos (k - h))).1 (omega (arith, power_splits low)) in
      some_writes i (i / bank_size k h) number (div-mul-le_self i (bank_size k h)) (lt-div-mul-add (pow_pos (k - h))) bs cells enough (every (i / bank_size k h) number)
      ∙ sym (filled_in field 0 (2 ^ k) cells fits i (omega arith) (omega arith))))

-- the builders fill by the rule, and refuse a number that is none
module _ (s : Shape) (h : ℕ) (low : h ≤ s.k) where
  one_bank : (b : ℕ) (cells : List ℕ) → GoodTable s (length cells) → bank_built s h b cells ≡ bank_filled (rule_field s) s.k h b cells
  one_bank b cells good =
      by_order (2 ^ h) b
      (λ past.
      rw (le-ltb b (2 ^ h) past)
      (sym
      (refused_after (λ (_ : Reply). cells) _ (width_tests s ++ (bank_height s.k h ∷ [])) (bank_number h b) _
      (passed_also (width_tests s) (bank_height s.k h ∷ []) (good_widths good.widths) (le-ltb s.k h low, tt))
      (le-leb (2 ^ h) b past))))
      (λ number.
      rw (lt-ltb b (2 ^ h) number)
      (bank_built_is s h b cells
      (record {
        widths = good.widths;
        view = record { bank = record { some = good.widths.some_in; narrow = good.widths.narrow_in; low = low; number = number }; enough = good.enough };
      })))

  all_banks : (bs cells : List ℕ) → GoodTable s (length cells) → banks_built s h bs cells ≡ banks_filled (rule_field s) s.k h bs cells
  unfolding banks_built
  all_banks [] cells good = refl
  all_banks (b ∷ bs) cells good =
      ap (banks_built s h bs) (one_bank b cells good)
      ∙ all_banks bs (bank_filled (rule_field s) s.k h b cells)
      (record { widths = good.widths; enough = still_enough (rule_field s) s.k h low cells good.enough b })

  -- Document 01: "All banks of one h, built in any order, give the whole table", repeats and numbers of no bank among them
  pub banks_in_any_order : (bs cells : List ℕ) → ((b : ℕ) → b < 2 ^ h → Memᴰ b bs) → GoodTable s (length cells)
      → banks_built s h bs cells ≡ built s cells
  banks_in_any_order bs cells every good =
      all_banks bs cells good ∙ banks_fill_table (rule_field s) s.k h low bs cells every good.enough ∙ sym (built_is s cells good)
