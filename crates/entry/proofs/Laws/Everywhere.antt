-- What low, high and worst say of every x of the interval. Over x the error falls, from high at the left end to low at the right
-- end, which is not in the interval: so high is reached, low is not, and no bound below worst holds at every x, since an x near
-- enough to the right end has an error as near to low as one likes: at x = ((i+1)·t - 1)/(K·t) it is low + j/t, in parts of u.
-- Assumes nothing.
use Prim.Native.Nat.{ℕ, suc, ◌+◌, ◌*◌, ◌≤◌, ◌<◌}
use mathlib.Core.Path.{◌≡◌, ap}
use native.Mathlib.Nat.{le_refl, le_trans, le_of_lt, mul-le-mul_left, mul-le-mul_right, mul-lt-mul_of_pos_right, le_of_mul-le-mul_left, le_of_mul-le-mul_right}
use native.Mathlib.Omega.{arith}
use lib.IntN.{ℤ, pos, negsuc, ◌-ℤ◌, nat_abs}
use Rattle.units.proofs.Laws.Order.{by_order}
use Rattle.entry.specs.Errors.{high, low, worst}
use Rattle.entry.specs.Everywhere.{◌over◌, Below, AtMost, size, Holds, error_at, Bounds, WithinErrors}
use Rattle.entry.proofs.Laws.Worst.{dist, size_of_difference, worst_by_ends, within_worst}
use Rattle.entry.proofs.Laws.Differences.{IsDifference, above, under, difference, times, at_most, from_at_most, whole_at_most, at_most_whole, products_at_most, products_below}

-- a multiple of a distance is at most d iff the multiples are at most d apart
dist_times_within : (a b c d : ℕ) → a * c ≤ b * c + d → b * c ≤ a * c + d → dist a b * c ≤ d
unfolding dist
dist_times_within a b c d l r =
    by_order a b
    (λ (h : a ≤ b). let e : dist a b + a ≡ b = omega arith in omega (arith, ap (λ (x : ℕ). x * c) e))
    (λ (h : b < a). let e : dist a b + b ≡ a = omega arith in omega (arith, ap (λ (x : ℕ). x * c) e))

within_dist_times : (a b c d : ℕ) → dist a b * c ≤ d → (a * c ≤ b * c + d) × (b * c ≤ a * c + d)
unfolding dist
within_dist_times a b c d h =
    let l : a ≤ b + dist a b = omega arith in
    let r : b ≤ a + dist a b = omega arith in
    (omega (arith, mul-le-mul_right c l), omega (arith, mul-le-mul_right c r))

-- a multiple of the worst error is at most c iff the multiples of u and of the products at the ends say so
times_worst_within : (u i j b c : ℕ) → u * b ≤ i * j * b + c → (i + 1) * j * b ≤ u * b + c → worst u i j * b ≤ c
times_worst_within u i j b c l r =
    by_order ((2 * i + 1) * j) (2 * u)
    (λ h. let e : u ≡ i * j + worst u i j = omega (arith, worst_by_ends u i j) in omega (arith, ap (λ (x : ℕ). x * b) e))
    (λ h. let e : (i + 1) * j ≡ u + worst u i j = omega (arith, worst_by_ends u i j) in omega (arith, ap (λ (x : ℕ). x * b) e))

within_times_worst : (u i j b c : ℕ) → worst u i j * b ≤ c → (u * b ≤ i * j * b + c) × ((i + 1) * j * b ≤ u * b + c)
within_times_worst u i j b c h =
    let ends = within_worst u i j in
    (omega (arith, mul-le-mul_right b ends.0), omega (arith, mul-le-mul_right b ends.1))

-- two x of the interval: its left end, and one that is near its right end where s is large
left_end_held : (K i : ℕ) → 0 < K → Holds K i i K
left_end_held K i k_pos = record { fraction = k_pos; from = omega arith; before = omega arith }

near_right_end_held : (K i s : ℕ) → 0 < K → Holds K i (i + (i + 1) * s) (K * (s + 1))
near_right_end_held K i s k_pos = record { fraction = omega arith; from = omega arith; before = omega arith }

-- what holds but for less than one part in s + 1 holds
closes_in : (a b s : ℕ) → a * (s + 1) ≤ b * (s + 1) + s → a ≤ b
closes_in a b s h = by_order a b (λ l. l) (λ l. absurd (omega (arith, mul-le-mul_right (s + 1) l)))

-- u is 2^(k+m+1) where K is 2^k and M is 2^(m+1)
module _ (K M u i j : ℕ) (unit : u ≡ K * M) (k_pos : 0 < K) where
  -- "Over interval n it runs from low (not reached) to high (reached at the left end)"
  pub error_above_low : {p q : ℕ} → 0 < M → 0 < j → Holds K i p q → Below (low u i j over u) (error_at M j p q)
  unfolding low
  error_above_low {p} {q} m_pos j_pos x =
      rw unit
      (products_below (K * M) ((i + 1) * j) (q * M) (p * j) (q * M) (K * M)
      (omega (arith, mul-lt-mul_of_pos_right (mul-lt-mul_of_pos_right x.before j_pos) m_pos)))

  pub error_at_most_high : {p q : ℕ} → Holds K i p q → AtMost (error_at M j p q) (high u i j over u)
  unfolding high
  error_at_most_high {p} {q} x =
      rw unit
      (products_at_most (q * M) (p * j) (K * M) (i * j) (K * M) (q * M)
      (omega (arith, mul-le-mul_right (j * M) x.from)))

  pub high_reached : Holds K i i K × (error_at M j i K ≡ (high u i j over u))
  unfolding high
  high_reached = (left_end_held K i k_pos, rw unit)

  -- (c - d)/b is at or below the error at every x: then it is so at the right end
  to_the_right_end : (c d b : ℕ) → ((p q : ℕ) → Holds K i p q → c * (q * M) + p * j * b ≤ q * M * b + d * (q * M))
      → c * (K * M) + (i + 1) * j * b ≤ K * M * b + d * (K * M)
  to_the_right_end c d b bound =
      let s : ℕ = b * j in
      closes_in (c * (K * M) + (i + 1) * j * b) (K * M * b + d * (K * M)) s
      (omega (arith, bound (i + (i + 1) * s) (K * (s + 1)) (near_right_end_held K i s k_pos)))

  approached : {c d : ℕ} {z : ℤ} → IsDifference c d z → (b : ℕ)
      → ((p q : ℕ) → Holds K i p q → AtMost (z over b) (error_at M j p q))
      → AtMost (z over b) (low u i j over u)
  unfolding low
  approached {c} {d} z b bound =
      rw unit
      (at_most (times z (K * M)) (times (difference (K * M) ((i + 1) * j)) b)
      (to_the_right_end c d b
      (λ p q x. from_at_most (times z (q * M)) (times (difference (q * M) (p * j)) b) (bound p q x))))

  -- and no fraction above low is at or below the error at every x
  pub low_approached : (z : ℤ) (b : ℕ)
      → ((p q : ℕ) → Holds K i p q → AtMost (z over b) (error_at M j p q))
      → AtMost (z over b) (low u i j over u)
  low_approached (pos n) = approached {c = n} {d = 0} (above n (omega arith))
  low_approached (negsuc n) = approached {c = 0} {d = suc n} (under n (omega arith))

  module _ (a b : ℕ) where
    -- a bound of the error at x, in whole numbers
    bounded : (p q : ℕ) → dist (q * M) (p * j) * b ≤ a * (q * M) → AtMost (size (error_at M j p q)) (pos a over b)
    bounded p q h = rw size_of_difference (whole_at_most (dist (q * M) (p * j) * b) (a * (q * M)) h)

    bounded_by : (p q : ℕ) → AtMost (size (error_at M j p q)) (pos a over b) → dist (q * M) (p * j) * b ≤ a * (q * M)
    bounded_by p q h =
        rw size_of_difference at (at_most_whole (nat_abs (pos (q * M) -ℤ pos (p * j)) * b) (a * (q * M)) h)

    -- what bounds the worst error bounds the error at every x
    bounds_every_x : worst u i j * b ≤ a * u → Bounds K M i j (pos a over b)
    bounds_every_x h p q x =
        let ends = within_times_worst (K * M) i j b (a * (K * M)) (rw unit at h) in
        bounded p q
        (dist_times_within (q * M) (p * j) b (a * (q * M))
        (le_of_mul-le-mul_left {k = K} (omega (arith, mul-le-mul_left q ends.0, mul-le-mul_left (j * b) x.from)) k_pos)
        (le_of_mul-le-mul_left {k = K} (omega (arith, mul-le-mul_left q ends.1, mul-le-mul_left (j * b) (le_of_lt x.before))) k_pos))

    -- what bounds the error at the left end and near enough to the right end bounds the worst error
    bound_at_left : Bounds K M i j (pos a over b) → K * M * b ≤ i * j * b + a * (K * M)
    bound_at_left bound =
        (within_dist_times (K * M) (i * j) b (a * (K * M)) (bounded_by i K (bound i K (left_end_held K i k_pos)))).0

    bound_at_right : Bounds K M i j (pos a over b) → (i + 1) * j * b ≤ K * M * b + a * (K * M)
    bound_at_right bound =
        omega (
          arith,
          to_the_right_end 0 a b
              (λ p q x. omega (arith, (within_dist_times (q * M) (p * j) b (a * (q * M)) (bounded_by p q (bound p q x))).1)),
        )

    bounds_worst : Bounds K M i j (pos a over b) → worst u i j * b ≤ a * u
    bounds_worst bound =
        rw unit (times_worst_within (K * M) i j b (a * (K * M)) (bound_at_left bound) (bound_at_right bound))

    -- A fraction bounds the size of the error at every x iff the worst error is at most that fraction
    pub worst_is_least_bound :
        (Bounds K M i j (pos a over b) → AtMost (pos (worst u i j) over u) (pos a over b))
        × (AtMost (pos (worst u i j) over u) (pos a over b) → Bounds K M i j (pos a over b))
    worst_is_least_bound = (
      λ bound. whole_at_most (worst u i j * b) (a * u) (bounds_worst bound),
      λ h. bounds_every_x (at_most_whole (worst u i j * b) (a * u) h),
    )

  -- The size of the error is at most the worst error at every x
  pub worst_bounds_error : Bounds K M i j (pos (worst u i j) over u)
  worst_bounds_error = bounds_every_x (worst u i j) u (le_refl (worst u i j * u))

  -- and all of this of one x
  pub every_x_within : (p q : ℕ) → 0 < M → 0 < j → Holds K i p q → WithinErrors u i j (error_at M j p q)
  every_x_within p q m_pos j_pos x =
      record {
        above_low = error_above_low m_pos j_pos x;
        at_most_high = error_at_most_high x;
        within_worst = worst_bounds_error p q x;
      }

-- Where the worst error of j', as a fraction, is no larger than that of j, what bounds the error of j bounds that of j': over
-- an interval of another table, and over the same interval
module _ (K M u i j : ℕ) (unit : u ≡ K * M) (k_pos : 0 < K) where
  pub bounds_carry_over : (K' M' u' i' j' : ℕ) → u' ≡ K' * M' → 0 < K' → 0 < u → worst u' i' j' * u ≤ worst u i j * u'
      → (a b : ℕ) → Bounds K M i j (pos a over b) → Bounds K' M' i' j' (pos a over b)
  bounds_carry_over K' M' u' i' j' unit' k_pos' u_pos h a b bound =
      bounds_every_x K' M' u' i' j' unit' k_pos' a b
      (le_of_mul-le-mul_right {k = u}
      (omega (arith, mul-le-mul_right b h, mul-le-mul_right u' (bounds_worst K M u i j unit k_pos a b bound)))
      u_pos)

  pub better_entry_bounded : (j' : ℕ) → worst u i j' ≤ worst u i j
      → (a b : ℕ) → Bounds K M i j (pos a over b) → Bounds K M i j' (pos a over b)
  better_entry_bounded j' h a b bound =
      bounds_every_x K M u i j' unit k_pos a b
      (le_trans (mul-le-mul_right b h) (bounds_worst K M u i j unit k_pos a b bound))
