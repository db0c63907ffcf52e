-- Document 02, L5, "Entries of exactly one". The promises of the order are stated over any kind; here is what the kinds have of their own.
-- Assumes nothing.
--     kinds_build_alike, kinds_reach_alike    "For m >= k both kinds build the same table", so they have the same least errors
--     cap_by_kind                             the largest value is 2^(m+1) - 1, and in tables with one 2^(m+1)
--     bits_hold_fields, fewer_bits_do_not     a field needs m bits, and in tables with one m+1
-- Below is the example with which the request begins, and by it why "the step from with one to plain is not claimed".
use Prim.Native.Nat.{◌*◌, ◌<◌}
use mathlib.Core.Path.{◌≡◌, refl}
use native.Mathlib.Omega.{arith}
use Rattle.units.specs.Shapes.{shape}
use Rattle.units.specs.declared.kinds.Kind.TheVariants.{Plain, WithOne}
use Rattle.entry.specs.Errors.{unit, low, high, worst}
use Rattle.entry.specs.Fields.{fields_end, cap}
use Rattle.entry.specs.Inside.{Inside}
use Rattle.entry.specs.Least.{least, least_of, least_worst}
use Rattle.entry.specs.Rule.{nearest, rule, rule_value}
pub use Rattle.units.proofs.Laws.Kinds.{bits_hold_fields, fewer_bits_do_not}
pub use Rattle.entry.proofs.Laws.Fields.{cap_by_kind}
pub use Rattle.entry.proofs.Laws.Kinds.{kinds_reach_alike}
pub use Rattle.table.proofs.Laws.Kinds.{kinds_build_alike}

-- "we get 4.000, since index 0 is capped at 15 of 16": 4096 parts of 65536, where 1.0 has 16
pub record Index0 : Type 0 where
  pub parts : unit (shape 12 3 Plain) ≡ 65536
  pub plain_value : rule_value (shape 12 3 Plain) 0 ≡ 15
  pub plain_least : least_worst (shape 12 3 Plain) 0 ≡ 4096
  pub one_value : rule_value (shape 12 3 WithOne) 0 ≡ 16
  pub one_least : least_worst (shape 12 3 WithOne) 0 ≡ 16

pub index_0_of_12_3 : Index0
unfolding rule nearest fields_end cap low high worst least least_of
index_0_of_12_3 = record { parts = refl; plain_value = refl; plain_least = refl; one_value = refl; one_least = refl }

-- so from with one to plain the same interval's least error grows
pub with_one_to_plain_can_loosen : Inside (shape 12 3 WithOne) 0 (shape 12 3 Plain) 0
    × (least_worst (shape 12 3 WithOne) 0 * unit (shape 12 3 Plain) < least_worst (shape 12 3 Plain) 0 * unit (shape 12 3 WithOne))
with_one_to_plain_can_loosen = (
  record { left = omega arith; right = omega arith },
  rw (index_0_of_12_3.plain_least, index_0_of_12_3.one_least) (omega arith),
)
