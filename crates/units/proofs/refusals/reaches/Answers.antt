-- `units::reaches` meets its contract: no `u64` is 2^64 or more. Assumes nothing.
use Prim.Native.Nat.{◌^◌}
use native.Mathlib.Omega.{arith}
use borrow.Author.Tests.{lt-leb, le-ltb}
use lib.Pow.{pow_mono}
use Rattle.units.proofs.refusals.reaches.Goals as goal

pub returns-else-w-lt64 : goal.returns-else-w-lt64
returns-else-w-lt64 c =
    rw (lt-leb (2 ^ c.args.w) c.args.x (omega (arith, pow_mono c.if-w-lt64.false))) (le-ltb c.args.w 64 c.if-w-lt64.false)
