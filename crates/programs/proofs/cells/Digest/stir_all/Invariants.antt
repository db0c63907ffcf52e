-- From the digest so far, the items that are left lead where all of them lead from the first.
use Rattle.std.proofs.Common.{ℕ, drop}
use Rattle.programs.specs.Digests.{Stirs}
use Rattle.programs.proofs.cells.Digest.stir_all.Given as goal

abbrev pub invariant-loop-value : goal.invariant-loop-value
invariant-loop-value g l =
    (after : ℕ) → Stirs g.T.Into.converts l.self.0 (drop l.value-index l.values) after → Stirs g.T.Into.converts l.fn.self.0 l.values after
