-- Where a bank lies. Assumes nothing.
use Prim.Native.Nat.{ℕ, ◌+◌, ◌-◌, ◌^◌, ◌≤◌, ◌<◌}
use mathlib.Core.Path.{◌≡◌}
use native.Mathlib.Nat.{mul-le-mul_right}
use native.Mathlib.Omega.{arith}
use lib.Pow.{pow_mono, pow_pos}
use Rattle.units.proofs.Laws.Powers.{power_splits}
use Rattle.table.specs.Banks.{bank_size, bank_start}
use Rattle.table.specs.Inner.Good.{GoodBank}

pub bank_within : (k h b : ℕ) → h ≤ k → b < 2 ^ h → bank_start k h b + bank_size k h ≤ 2 ^ k
bank_within k h b l p = omega (arith, power_splits l, mul-le-mul_right (bank_size k h) p)

-- the ends of a bank within its table
pub record Within (k first end : ℕ) : Type 0 where
  pub some : first < end
  pub in_table : end ≤ 2 ^ k
  pub small : 2 ^ k ≤ 2 ^ 15

pub good_bank_within : {k h b first end : ℕ} → GoodBank k h b → (first ≡ bank_start k h b) × (end ≡ bank_start k h b + bank_size k h) → Within k first end
good_bank_within {k} {h} {b} g at =
    record {
      some = omega (arith, at.0, at.1, pow_pos (k - h));
      in_table = omega (arith, at.1, bank_within k h b g.low g.number);
      small = pow_mono g.narrow;
    }
