-- Differences of whole numbers, with their sign. Such a number is n above zero where the first is n more than the second, and below
-- it where the second is more; so products and orders of differences are sums and products of whole numbers. Assumes nothing.
use Prim.Native.Nat.{ℕ, zero, suc, ◌+◌, ◌-◌, ◌*◌, ◌≤◌, ◌<◌}
use mathlib.Core.Path.{◌≡◌, ap, sym, ◌∙◌}
use native.Mathlib.Omega.{arith}
use borrow.Author.Tests.{lt-ltb, le-ltb}
use lib.Dec.{leb→le, le→leb, lt→ltb}
use lib.IntN.{ℤ, pos, negsuc, neg_ℤ, ◌+ℤ◌, ◌-ℤ◌, ◌*ℤ◌, +ℤ_assoc, +ℤ_comm, neg_ℤ-+ℤ, +ℤ-neg_ℤ_cancel, -ℤ-+ℤ_cancel}
use lib.Signed.{◌≤ℤ◌, ◌<ℤ◌, le_z_yes, lt_z_yes}
use Rattle.units.proofs.Laws.Order.{by_order}

-- whole numbers are in order iff they are as signed numbers
pub whole_at_most : (a b : ℕ) → a ≤ b → pos a ≤ℤ pos b
whole_at_most a b h = le_z_yes (le→leb a b h)

pub at_most_whole : (a b : ℕ) → pos a ≤ℤ pos b → a ≤ b
at_most_whole a b h = leb→le a b h.le

-- z is a - b
pub data IsDifference (a b : ℕ) : ℤ → Type 0 where
  above : (n : ℕ) → a ≡ b + n → IsDifference a b (pos n)
  under : (n : ℕ) → b ≡ a + suc n → IsDifference a b (negsuc n)

pub difference : (a b : ℕ) → IsDifference a b (pos a -ℤ pos b)
difference a zero = above (a + 0) (omega arith)
difference a (suc b) =
    by_order (suc b) a
    (λ (h : suc b ≤ a). rw (le-ltb a (suc b) h) (above (a - suc b) (omega arith)))
    (λ (h : a < suc b). rw (lt-ltb a (suc b) h) (under (suc b - suc a) (omega arith)))

negative : (x : ℕ) {a b : ℕ} → b ≡ a + x → IsDifference a b (neg_ℤ (pos x))
negative zero h = above 0 (omega arith)
negative (suc x) h = under x h

pub times : {a b : ℕ} {z : ℤ} → IsDifference a b z → (c : ℕ) → IsDifference (a * c) (b * c) (z *ℤ pos c)
times (above n h) c = above (n * c) (omega (arith, ap (λ (x : ℕ). x * c) h))
times (under n h) c = negative (suc n * c) (omega (arith, ap (λ (x : ℕ). x * c) h))

pub at_most : {a b c d : ℕ} {y z : ℤ} → IsDifference a b y → IsDifference c d z → a + d ≤ c + b → y ≤ℤ z
at_most (above n g) (above l h) o = le_z_yes (le→leb n l (omega arith))
at_most (above n g) (under l h) o = omega arith
at_most (under n g) (above l h) o = le_z_yes tt
at_most (under n g) (under l h) o = le_z_yes (le→leb l n (omega arith))

pub from_at_most : {a b c d : ℕ} {y z : ℤ} → IsDifference a b y → IsDifference c d z → y ≤ℤ z → a + d ≤ c + b
from_at_most (above n g) (above l h) o = omega (arith, leb→le n l o.le)
from_at_most (above n g) (under l h) o = absurd o.le
from_at_most (under n g) (above l h) o = omega arith
from_at_most (under n g) (under l h) o = omega (arith, leb→le l n o.le)

below : {a b c d : ℕ} {y z : ℤ} → IsDifference a b y → IsDifference c d z → a + d < c + b → y <ℤ z
below (above n g) (above l h) o = lt_z_yes (lt→ltb n l (omega arith))
below (above n g) (under l h) o = absurd (omega arith)
below (under n g) (above l h) o = lt_z_yes tt
below (under n g) (under l h) o = lt_z_yes (lt→ltb l n (omega arith))

-- (a - b)·e against (c - d)·f
module _ (a b c d e f : ℕ) where
  pub products_at_most : a * e + d * f ≤ c * f + b * e → ((pos a -ℤ pos b) *ℤ pos e) ≤ℤ ((pos c -ℤ pos d) *ℤ pos f)
  products_at_most = at_most (times (difference a b) e) (times (difference c d) f)

  pub products_below : a * e + d * f < c * f + b * e → ((pos a -ℤ pos b) *ℤ pos e) <ℤ ((pos c -ℤ pos d) *ℤ pos f)
  products_below = below (times (difference a b) e) (times (difference c d) f)

-- what is less by a sum is less by both
pub less_sum : (a b c : ℕ) → pos a -ℤ pos (b + c) ≡ pos a -ℤ pos b -ℤ pos c
less_sum a b c = ap (λ x. pos a +ℤ x) (neg_ℤ-+ℤ (pos b) (pos c)) ∙ sym (+ℤ_assoc (pos a) (neg_ℤ (pos b)) (neg_ℤ (pos c)))

-- y and what is z less differ by z
pub less_by : (y z : ℤ) → y -ℤ (y -ℤ z) ≡ z
less_by y z =
    ap (λ x. x -ℤ (y -ℤ z)) (sym (-ℤ-+ℤ_cancel y z) ∙ +ℤ_comm (y -ℤ z) z) ∙ +ℤ-neg_ℤ_cancel z (y -ℤ z)
