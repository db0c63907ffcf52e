-- The order, demand 3. Assumes nothing.
--     nothing_loosens         "For each input interval of the second table, its best entry's worst error, as an exact fraction, is no larger
--                             than that of the best entry of the first table whose interval contains it." Document 02: "per kind, and from
--                             plain to with one" (`MayBeFollowedBy`)
--     every_interval_contained    and there is such an interval of the first table
--     least_within_ceiling    "Where m is at least k, no best entry's worst error passes 2^m + 2^(k-1) parts in 2^(k+m+1)", and document 01's
--                             ceiling for m < k, in tables of either kind
-- They speak of `least_worst`, which names no rounding rule, so no constant and no table of a wrong builder can meet them alone.
-- Below, the same of every bound of the error over an interval.
use Prim.Native.Nat.{ℕ, ◌+◌, ◌≤◌, ◌<◌, ◌^◌}
use mathlib.Core.List.{List}
use lib.IntN.{pos}
use lib.ListN.{length, get_or}
use lib.Pow.{pow_pos}
use Rattle.units.specs.Inner.Good.{GoodTable}
use Rattle.units.specs.Kinds.{MayBeFollowedBy}
use Rattle.units.specs.declared.shapes.Shape.{Shape}
use Rattle.entry.specs.Errors.{unit, i_of, j_of}
use Rattle.entry.specs.Everywhere.{◌over◌, Bounds}
use Rattle.entry.specs.Inside.{Inside}
use Rattle.entry.proofs.Laws.Everywhere.{bounds_carry_over}
use Rattle.entry.proofs.Laws.Table.{unit_splits}
use Rattle.table.specs.Build.{built}
use Rattle.table.proofs.Laws.Built.{built_reaches_least}
pub use Rattle.entry.proofs.Laws.Narrowing.{nothing_loosens, every_interval_contained}
pub use Rattle.entry.proofs.Laws.Ceiling.{least_within_ceiling}

-- two built tables, the first of a kind that may be followed by the second's, and the second with neither width smaller: what bounds the
-- error at every x of the first's interval bounds it at every x of the second's that lies within it
pub no_bound_loosens : (s t : Shape) → MayBeFollowedBy s.kind t.kind → s.k ≤ t.k → s.m ≤ t.m
    → (first second : List ℕ) → GoodTable s (length first) → GoodTable t (length second)
    → (n y : ℕ) → n < 2 ^ s.k → y < 2 ^ t.k → Inside s n t y
    → (a b : ℕ) → Bounds (2 ^ s.k) (2 ^ (s.m + 1)) (i_of s n) (j_of s (get_or (built s first) n 0)) (pos a over b)
    → Bounds (2 ^ t.k) (2 ^ (t.m + 1)) (i_of t y) (j_of t (get_or (built t second) y 0)) (pos a over b)
no_bound_loosens s t follows wider finer first second good_s good_t n y inside_s inside_t contains =
    bounds_carry_over (2 ^ s.k) (2 ^ (s.m + 1)) (unit s) (i_of s n) (j_of s (get_or (built s first) n 0)) (unit_splits s) (pow_pos s.k)
    (2 ^ t.k) (2 ^ (t.m + 1)) (unit t) (i_of t y) (j_of t (get_or (built t second) y 0)) (unit_splits t) (pow_pos t.k) (pow_pos (s.k + s.m + 1))
    (rw (built_reaches_least s first good_s n inside_s, built_reaches_least t second good_t y inside_t) (nothing_loosens s t follows wider finer contains))
