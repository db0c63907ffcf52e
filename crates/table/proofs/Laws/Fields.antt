-- What the end of the tests of a table's fields says to the call that made them. Assumes nothing.
use mathlib.Core.List.{List}
use Prim.Native.Nat.{ℕ}
use mathlib.Core.Path.{◌≡◌}
use native.Mathlib.Omega.{arith}
use Rattle.units.specs.Refusals.{reply, refusal}
use Rattle.units.specs.declared.shapes.Shape.{Shape}
use Rattle.units.proofs.Laws.Tests.{done_so}
use Rattle.table.specs.Inner.Good.{GoodFields}
use Rattle.table.specs.Wide.{field_tests}
use Rattle.table.proofs.Laws.Good.{fields_good}

pub fields_done : (s : Shape) (cells : List ℕ) → reply 0 0 ≡ refusal (field_tests s cells) → GoodFields s cells
fields_done s cells tests = fields_good (done_so (field_tests s cells) (omega arith) tests)
