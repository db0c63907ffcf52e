-- Document 02, L5: "For m >= k both kinds build the same table." Assumes nothing.
use Prim.Native.Nat.{ℕ, zero, suc, ◌+◌, ◌-◌, ◌^◌, ◌≤◌, ◌<◌}
use mathlib.Core.List.{List, ◌∷◌, ◌++◌}
use mathlib.Core.Path.{◌≡◌, refl, ap, ap₂}
use native.Mathlib.Omega.{arith}
use lib.ListN.{length, drop}
use Rattle.units.specs.Refusals.{Reply, answer, table_tests}
use Rattle.units.specs.Shapes.{shape}
use Rattle.units.specs.declared.kinds.Kind.{Kind}
use Rattle.entry.specs.Rule.{rule_field}
use Rattle.entry.proofs.Laws.Kinds.{kinds_choose_alike}
use Rattle.table.specs.Build.{rows, built}

rows_alike : (f g : ℕ → ℕ) (n count : ℕ) → ((x : ℕ) → x < n + count → f x ≡ g x) → rows f n count ≡ rows g n count
unfolding rows
rows_alike f g n zero alike = refl
rows_alike f g n (suc count) alike =
    ap₂ (λ (x : ℕ) (xs : List ℕ). x ∷ xs) (alike n (omega arith)) (rows_alike f g (suc n) count (λ x h. alike x (omega arith)))

-- cell by cell, also where both are refused
pub kinds_build_alike : (k m : ℕ) (a b : Kind) → k ≤ m → (cells : List ℕ) → built (shape k m a) cells ≡ built (shape k m b) cells
kinds_build_alike k m a b wide cells =
    ap (λ (fields : List ℕ). answer (λ (_ : Reply). cells) (fields ++ drop (0 + 2 ^ k) cells) (table_tests (shape k m a) (length cells)))
    (rows_alike (rule_field (shape k m a)) (rule_field (shape k m b)) 0 (2 ^ k) (λ n h. ap (λ (j : ℕ). j - 2 ^ m) (kinds_choose_alike k m a b wide (omega arith))))
