-- What the program writes where the widths are good. Document 02, L2. Assumes nothing.
use Rattle.std.specs.Prelude.{ℕ, ◌^◌, List}
use Rattle.units.specs.declared.shapes.Shape.{Shape}
use Rattle.entry.specs.Rule.{rule_field}
use Rattle.table.specs.Build.{rows}
use Rattle.memory_text.specs.Write.{memory_text}

-- the memory text of the best table
abbrev pub best_text : Shape → List ℕ
best_text s = memory_text s (rows (rule_field s) 0 (2 ^ s.k))
