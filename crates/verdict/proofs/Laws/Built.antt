-- Every built table passes the check: its fields are the rule's. Assumes nothing.
use Prim.Native.Nat.{ℕ}
use mathlib.Core.List.{List}
use mathlib.Core.Path.{◌≡◌}
use native.Mathlib.Omega.{arith}
use lib.ListN.{length}
use Rattle.units.specs.Inner.Good.{GoodTable}
use Rattle.units.specs.declared.shapes.Shape.{Shape}
use Rattle.table.specs.Build.{built}
use Rattle.table.proofs.Laws.Built.{built_field, length_built}
use Rattle.verdict.specs.Check.{passed, check_report}
use Rattle.verdict.proofs.Laws.Verdict.{rule_fields_pass}

pub built_passes : (s : Shape) (cells : List ℕ) → GoodTable s (length cells) → check_report s (built s cells) ≡ passed
built_passes s cells good =
    rule_fields_pass s (built s cells)
    (record { widths = good.widths; enough = omega (arith, good.enough, length_built s cells good) })
    (built_field s cells good)
