-- `memory::write` sends the text that was written, which is that of the table. Assumes nothing.
use Rattle.std.proofs.Common.{◌≡◌, ℕ, List, sym, ap, ◌∙◌, length}
use mathlib.Core.Path.{ap₂}
use lib.ListN.{take}
use Rattle.units.specs.declared.shapes.Shape.{Shape}
use Rattle.memory_text.specs.Write.{Report, memory_text, write_report, written, written_bytes}
use Rattle.memory_text.proofs.Laws.RoundTrip.{done_wrote}
use Rattle.memory.proofs.write.Goals as goal

-- the bytes up to the length that the writer gives are the table's text
text : (s : Shape) (cells bytes : List ℕ) {after : List ℕ} {end : ℕ} → after ≡ written_bytes s cells bytes
    → written end ≡ write_report s cells (length bytes)
    → take end after ≡ memory_text s cells
text s cells bytes after is =
    ap₂ take (ap (λ (r : Report). r.length) is) after ∙ (done_wrote s cells bytes (sym (ap (λ (r : Report). r.number) is))).text

pub send-requires : goal.send-requires
send-requires g c =
    text c.args.asked.shape c.args.table.now _ c.in-Ok.ensures.bytes c.in-Ok.ensures.answer ∙ c.requires
