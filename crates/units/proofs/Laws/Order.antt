-- Going by cases on the order of two numbers. Assumes nothing.
use Prim.Native.Nat.{ℕ, ◌≤◌, ◌<◌}
use native.Mathlib.Decide.{dec_le}
use native.Mathlib.Nat.{lt_of_not-le}

by_decision : {a b : ℕ} {G : Type 0} → Dec (a ≤ b) → (a ≤ b → G) → (b < a → G) → G
by_decision (yes h) f g = f h
by_decision (no h) f g = g (lt_of_not-le h)

pub by_order : (a b : ℕ) {G : Type 0} → (a ≤ b → G) → (b < a → G) → G
by_order a b f g = by_decision (dec_le a b) f g
