-- What a call's tests let through to the functions below it, fact by fact. Assumes nothing.
use Rattle.std.specs.Prelude.{ℕ, ◌^◌, ◌≤◌, ◌<◌, false, List, ◌≡◌, length, take}
use Rattle.units.specs.Inner.Good.{GoodWidths, GoodTable}
use Rattle.units.specs.declared.shapes.Shape.{Shape}
use Rattle.table.specs.Wide.{any_wide}

-- 1, and 4 for h and b
pub record GoodBank (k h b : ℕ) : Type 0 where
  pub some : 1 ≤ k
  pub narrow : k ≤ 15
  pub low : h ≤ k
  pub number : b < 2 ^ h

-- and 2: the bank surveys, before they look at cells
pub record GoodNamed (s : Shape) (h b : ℕ) : Type 0 where
  pub widths : GoodWidths s
  pub bank : GoodBank s.k h b

-- 1, 4 for h and b, and 3: Show a bank
pub record GoodView (k h b lent : ℕ) : Type 0 where
  pub bank : GoodBank k h b
  pub enough : 2 ^ k ≤ lent

-- and 2: Build a bank
pub record GoodBuild (s : Shape) (h b lent : ℕ) : Type 0 where
  pub widths : GoodWidths s
  pub view : GoodView s.k h b lent

-- 1, 2, 3, 5: Survey and Check
pub record GoodFields (s : Shape) (cells : List ℕ) : Type 0 where
  pub table : GoodTable s (length cells)
  pub narrow : any_wide s (take (2 ^ s.k) cells) ≡ false

-- 1, 2, 3, 6: Look up
pub record GoodLookup (s : Shape) (x lent : ℕ) : Type 0 where
  pub table : GoodTable s lent
  pub some : 1 ≤ x
  pub to : x ≤ 65535
