-- The least worst error is a minimum: no value in range has a smaller one, and some value has it. Assumes nothing.
use Prim.Native.Nat.{ℕ, zero, suc, ◌+◌, ◌-◌, ◌≤◌, ◌<◌}
use mathlib.Core.Path.{◌≡◌, refl, ap}
use native.Mathlib.Nat.{le_refl}
use native.Mathlib.Omega.{arith}
use Rattle.units.proofs.Laws.Order.{by_order}
use Rattle.entry.specs.Errors.{worst}
use Rattle.entry.specs.Least.{least_of, least}

-- a value from first to last whose worst error is w
pub record Reached (u i first last w : ℕ) : Type 0 where
  pub j : ℕ
  pub from : first ≤ j
  pub to : j ≤ last
  pub is : worst u i j ≡ w

below_each : (u i first more : ℕ) {j : ℕ} → first ≤ j → j ≤ first + more → least_of u i first more ≤ worst u i j
unfolding least_of
below_each u i first zero {j} l h =
    let e : worst u i first ≡ worst u i j = ap (worst u i) (omega arith) in
    omega arith
below_each u i first (suc more) {j} l h =
    by_order j first
    (λ (b : j ≤ first).
    let e : worst u i first ≡ worst u i j = ap (worst u i) (omega arith) in
    omega arith)
    (λ (b : first < j). omega (arith, below_each u i (suc first) more b (omega arith)))

reached_in : (u i first more : ℕ) → Reached u i first (first + more) (least_of u i first more)
unfolding least_of
reached_in u i first zero = record { j = first; from = le_refl first; to = omega arith; is = refl }
reached_in u i first (suc more) =
    let r = reached_in u i (suc first) more in
    by_order (worst u i first) (least_of u i (suc first) more)
    (λ h. record { j = first; from = le_refl first; to = omega arith; is = omega arith })
    (λ h. record { j = r.j; from = omega arith; to = omega arith; is = omega (arith, r.is) })

pub least_below : (u i : ℕ) {first j last : ℕ} → first ≤ j → j ≤ last → least u i first last ≤ worst u i j
unfolding least
least_below u i {first} {j} {last} l h = below_each u i first (last - first) l (omega arith)

pub least_reached : (u i : ℕ) {first last : ℕ} → first ≤ last → Reached u i first last (least u i first last)
unfolding least
least_reached u i {first} {last} h =
    let r = reached_in u i first (last - first) in
    record { j = r.j; from = r.from; to = omega arith; is = r.is }

-- a value in range that no other value up to last beats has the least worst error
pub unbeaten_is_least : (u i : ℕ) {first j last : ℕ} → first ≤ j → j ≤ last
    → ((x : ℕ) → x ≤ last → worst u i j ≤ worst u i x)
    → worst u i j ≡ least u i first last
unbeaten_is_least u i {first} {j} {last} l h best =
    let r = least_reached u i {first = first} {last = last} (omega arith) in
    omega (arith, least_below u i l h, best r.j r.to, r.is)
