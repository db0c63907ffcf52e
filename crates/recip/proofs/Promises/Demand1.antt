-- The order, demand 1: "a refused call writes nothing". Build, Build a bank and Read memory are lent cells to write, and Write memory
-- bytes; every other call is lent cells to read alone. Assumes nothing.
use Prim.Native.Nat.{ℕ, ◌<◌}
use mathlib.Core.List.{List, []}
use mathlib.Core.Path.{◌≡◌, refl, sym}
use lib.ListN.{length}
use Rattle.units.specs.Refusals.{Reply, refusal, table_tests}
use Rattle.units.specs.declared.shapes.Shape.{Shape}
use Rattle.units.proofs.Laws.Tests.{refused_by}
use Rattle.table.specs.Build.{built, bank_tests, bank_built}
pub use Rattle.memory_text.proofs.Laws.Leaves.{refused_read_writes_nothing, refused_write_writes_nothing}

pub refused_build_writes_nothing : (s : Shape) (cells : List ℕ) → 0 < (refusal (table_tests s (length cells))).number → built s cells ≡ cells
refused_build_writes_nothing s cells h = sym (refused_by (λ (_ : Reply). cells) _ (table_tests s (length cells)) [] refl h)

pub refused_bank_writes_nothing : (s : Shape) (h b : ℕ) (cells : List ℕ) → 0 < (refusal (bank_tests s h b (length cells))).number
    → bank_built s h b cells ≡ cells
refused_bank_writes_nothing s h b cells l = sym (refused_by (λ (_ : Reply). cells) _ (bank_tests s h b (length cells)) [] refl l)
