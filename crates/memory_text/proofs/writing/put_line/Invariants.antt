-- The digits that are left to put, and the line from them on, stay the same.
use Rattle.std.proofs.Common.{◌≡◌, ◌-◌, ◌++◌, length, drop}
use Rattle.memory_text.specs.Write.{hex_digits, line_of}
use Rattle.memory_text.proofs.writing.put_line.Given as goal

abbrev pub invariant-loop-i : goal.invariant-loop-i
invariant-loop-i l = hex_digits l.i l.rest ++ drop l.i l.line ≡ line_of (length l.initial.line - 1) l.f
