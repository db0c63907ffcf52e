-- `intake::blank` has as many bytes as it says, by a law: the list is too long to count out. Assumes nothing.
use Rattle.std.proofs.Common.{ℕ, ◌≡◌, length, replicate, sym}
use lib.ListN.{length-replicate}
use Rattle.intake.proofs.blank.Goals as goal

as_many : (n : ℕ) → n ≡ length (replicate {A = ℕ} n 0)
as_many n = sym (length-replicate n 0)

pub returns : goal.returns
returns c = as_many 1048587
