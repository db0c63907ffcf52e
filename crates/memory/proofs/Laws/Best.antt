-- The text of a table that was built is that of the best one. Assumes nothing.
use Prim.Native.Nat.{ℕ, ◌^◌}
use mathlib.Core.List.{List}
use mathlib.Core.Path.{◌≡◌, sym, ap, ◌∙◌}
use native.Mathlib.Omega.{arith}
use lib.ListN.{length, take}
use lib.Seq.{take_at, take_all}
use Rattle.units.specs.Inner.Good.{GoodTable}
use Rattle.units.specs.declared.shapes.Shape.{Shape}
use Rattle.entry.specs.Rule.{rule_field}
use Rattle.table.specs.Build.{rows, built}
use Rattle.table.proofs.Laws.Built.{built_is}
use Rattle.table.proofs.Laws.Rows.{length_rows}
use Rattle.memory_text.specs.Write.{digit_count, lines_of, memory_text}
use Rattle.memory.specs.Text.{best_text}

pub built_text : (s : Shape) (cells : List ℕ) → GoodTable s (length cells) → memory_text s (built s cells) ≡ best_text s
built_text s cells good =
    let fields = rows (rule_field s) 0 (2 ^ s.k) in
    let all = length_rows (rule_field s) 0 (2 ^ s.k) in
    ap (lines_of (digit_count s)) (ap (take (2 ^ s.k)) (built_is s cells good) ∙ take_at fields _ (2 ^ s.k) all ∙ sym (take_all (2 ^ s.k) fields (rw all (omega arith))))
