-- Fields as a list that grows by one, and cells with such a list in them. `field` is any function from an interval to a field.
-- Assumes nothing.
use Prim.Native.Nat.{ℕ, zero, suc, ◌+◌, ◌-◌, ◌≤◌, ◌<◌}
use mathlib.Core.List.{List, ◌∷◌, ◌++◌}
use mathlib.Core.Path.{◌≡◌, refl, ap, ◌∙◌}
use native.Mathlib.Omega.{arith}
use lib.ListN.{length, take, drop, set, get_or, length-append, length-take, length-drop, get_or-append}
use lib.Seq.{drop-cons, drop-drop, set_at, length-take-le, get_or-take, get_or-drop, get_or-append-add}
use Rattle.table.specs.Build.{rows, filled}

pub length_rows : (field : ℕ → ℕ) (n count : ℕ) → length (rows field n count) ≡ count
unfolding rows
length_rows field n zero = refl
length_rows field n (suc count) = ap suc (length_rows field (suc n) count)

-- the last field, at the end
rows_more : (field : ℕ → ℕ) (n count : ℕ) (rest : List ℕ) → rows field n (suc count) ++ rest ≡ rows field n count ++ (field (n + count) ∷ rest)
unfolding rows
rows_more field n zero rest = ap (λ (x : ℕ). field x ∷ rest) (omega arith)
rows_more field n (suc count) rest =
    ap (λ (xs : List ℕ). field n ∷ xs)
    (rw (next) (rows_more field (suc n) count rest))
  where
    next : n + suc count ≡ suc n + count
    next = omega arith

-- one cell more is written
pub rows_step : (field : ℕ → ℕ) (n : ℕ) (cells : List ℕ) {at : ℕ} → at < length cells
    → set (rows field n at ++ drop at cells) at (field (n + at)) ≡ rows field n (suc at) ++ drop (suc at) cells
rows_step field n cells {at} h =
    rw (drop-cons cells at 0, set_at (rows field n at) (get_or cells at 0) (drop (suc at) cells) (field (n + at)) at (length_rows field n at), rows_more)

-- a part that was filled, back in its place
pub filled_part : (field : ℕ → ℕ) (first count : ℕ) (cells part : List ℕ) → first + count ≤ length cells
    → part ≡ rows field first (length (take count (drop first cells)))
    → take first cells ++ (part ++ drop count (drop first cells)) ≡ filled field first count cells
filled_part field first count cells part h e =
    let long : length (take count (drop first cells)) ≡ count = simp (length-take, length-drop) (omega arith) in
    rw (e, long, drop-drop)

-- the cells of a table with a filled stretch, one by one
pub get_or_rows : (field : ℕ → ℕ) (n count : ℕ) (rest : List ℕ) (i : ℕ) → i < count → get_or (rows field n count ++ rest) i 0 ≡ field (n + i)
unfolding rows
get_or_rows field n zero rest i h = absurd (omega arith)
get_or_rows field n (suc count) rest zero h = ap field (omega arith)
get_or_rows field n (suc count) rest (suc i) h =
    get_or_rows field (suc n) count rest i (omega arith) ∙ ap field (omega arith)

past : (xs ys : List ℕ) (n i : ℕ) → length xs ≡ n → n ≤ i → get_or (xs ++ ys) i 0 ≡ get_or ys (i - n) 0
past xs ys n i e h =
    let at : i ≡ length xs + (i - n) = omega arith in
    rw at (get_or-append-add xs ys (i - n) 0 ∙ ap (λ (x : ℕ). get_or ys x 0) (omega arith))

module _ (field : ℕ → ℕ) (first count : ℕ) (cells : List ℕ) (fits : first + count ≤ length cells) where
  pub length_filled : length (filled field first count cells) ≡ length cells
  length_filled = simp (length-append, length-take, length-drop, length_rows) (omega arith)

  front : length (take first cells) ≡ first
  front = length-take-le first cells (omega arith)

  behind : (i : ℕ) → first ≤ i → get_or (filled field first count cells) i 0 ≡ get_or (rows field first count ++ drop (first + count) cells) (i - first) 0
  behind i l = past (take first cells) (rows field first count ++ drop (first + count) cells) first i front l

  pub filled_in : (i : ℕ) → first ≤ i → i < first + count → get_or (filled field first count cells) i 0 ≡ field i
  filled_in i l h =
      behind i l ∙ get_or_rows field first count (drop (first + count) cells) (i - first) (omega arith) ∙ ap field (omega arith)

  pub filled_before : (i : ℕ) → i < first → get_or (filled field first count cells) i 0 ≡ get_or cells i 0
  filled_before i h =
      get_or-append (take first cells) (rows field first count ++ drop (first + count) cells) 0 i (omega (arith, front))
      ∙ get_or-take first cells i 0 h

  pub filled_after : (i : ℕ) → first + count ≤ i → get_or (filled field first count cells) i 0 ≡ get_or cells i 0
  filled_after i h =
      behind i (omega arith)
      ∙ past (rows field first count) (drop (first + count) cells) count (i - first) (length_rows field first count) (omega arith)
      ∙ get_or-drop (first + count) cells (i - first - count) 0
      ∙ ap (λ (x : ℕ). get_or cells x 0) (omega arith)
