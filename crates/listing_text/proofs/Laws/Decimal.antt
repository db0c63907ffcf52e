-- The fewest digits that hold a number are as many as it has. Assumes nothing.
use Prim.Native.Nat.{ℕ, zero, suc, ◌+◌, ◌-◌, ◌*◌, ◌/◌, ◌^◌, ◌≤◌, ◌<◌}
use mathlib.Core.Path.{◌≡◌, refl, ap, sym}
use native.Mathlib.Nat.{pow-suc, one-le-pow, le-div_iff_mul-le, div-lt_iff_lt-mul}
use native.Mathlib.Omega.{arith}
use lib.Pow.{pow-add}
use borrow.Author.Tests.{lt-ltb, le-ltb}
use Rattle.std.proofs.lemmas.Slice.{overwrites}
use Rattle.units.proofs.Laws.Order.{by_order}
use Rattle.io.specs.Digits.{last_digits, IsDigitCount}
use Rattle.listing_text.specs.Text.{places, decimal}

one_fewer : (r : ℕ) → 10 ^ (suc r - 1) ≡ 10 ^ r
one_fewer r = ap (λ (x : ℕ). 10 ^ x) (omega arith)

-- 10 or more: what more than one digit as the fewest says
ten : {n : ℕ} (r : ℕ) → IsDigitCount 10 1 n (suc (suc r)) → 10 ≤ n
ten r p = omega (arith, p.2 (omega arith), one_fewer (suc r), pow-suc 10 r, one-le-pow r 10 (omega arith))

-- without the last digit, the others are the fewest
others : {n : ℕ} (r : ℕ) → IsDigitCount 10 1 n (suc (suc r)) → IsDigitCount 10 1 (n / 10) (suc r)
others r p = (
  omega arith,
  omega (arith, pow-suc 10 (suc r), p.1),
  λ more. omega (arith, pow-suc 10 r, one_fewer r, one_fewer (suc r), p.2 (omega arith)),
)

pub places_are : (most n r : ℕ) → n < 10 ^ suc most → IsDigitCount 10 1 n r → places (suc most) n ≡ r
unfolding places
places_are most n zero h p = absurd (omega (arith, p.0))
places_are most n (suc zero) h p = rw (lt-ltb n 10 p.1) refl
places_are zero n (suc (suc r)) h p = absurd (omega (arith, ten r p))
places_are (suc most) n (suc (suc r)) h p =
    rw (le-ltb n 10 (ten r p)) (ap suc (places_are most (n / 10) (suc r) (omega (arith, pow-suc 10 (suc most))) (others r p)))

-- a number of r + m digits is no less than the least of them
at_least : (m r : ℕ) {n : ℕ} → 10 ^ m ≤ n → IsDigitCount 10 1 (n / 10 ^ m) r → 10 ^ (r - 1) * 10 ^ m ≤ n
at_least m zero h p = absurd (omega (arith, p.0))
at_least m (suc zero) h p = omega (arith, h)
at_least m (suc (suc r)) h p = (le-div_iff_mul-le (one-le-pow m 10 (omega arith))).0 (p.2 (omega arith))

-- where r are the fewest without the last m digits, r + m are the fewest
pub fewest_more : (m : ℕ) {n r : ℕ} → 10 ^ m ≤ n → IsDigitCount 10 1 (n / 10 ^ m) r → IsDigitCount 10 1 n (r + m)
fewest_more m {n} {r} h p =
    let fewer : r + m - 1 ≡ (r - 1) + m = omega (arith, p.0) in (
      omega (arith, p.0),
      rw (pow-add 10 r m) ((div-lt_iff_lt-mul (one-le-pow m 10 (omega arith))).0 p.1),
      λ more. rw (fewer, pow-add 10 (r - 1) m) (at_least m r h p),
    )

pub decimal_is : {n r : ℕ} → n < 10 ^ 20 → IsDigitCount 10 1 n r → last_digits 10 r n ≡ decimal n
unfolding decimal
decimal_is {n} {r} h p = ap (λ (x : ℕ). last_digits 10 x n) (sym (places_are 19 n r h p))

pub places_at_most : (most n : ℕ) → places most n ≤ most
unfolding places
places_at_most zero n = omega arith
places_at_most (suc most) n =
    by_order 10 n (λ large. rw (le-ltb n 10 large) (omega (arith, places_at_most most (n / 10)))) (λ small. rw (lt-ltb n 10 small) (omega arith))

-- how many digits are put, and where
pub ruleset put_places = (places_at_most, overwrites)
