-- The lines of the listing. Document 01, "The listing". A text is a list of ASCII codes. Assumes nothing.
use Rattle.std.specs.Prelude.{ℕ, zero, suc, ◌/◌, cond, List, [], ◌∷◌, ◌++◌, ltb, ℤ, pos, nat_abs}
use Rattle.std.specs.Int.Signed.{lt_z}
use Rattle.io.specs.Digits.{last_digits}
use Rattle.units.specs.declared.shapes.Shape.{Shape}
use Rattle.entry.specs.Errors.{unit, i_of, j_of, low, high, worst, side}
use Rattle.survey.specs.Finding.{Figures}

-- how many decimal digits n has, for an n of at most `most` of them
unfoldable pub places : ℕ → ℕ → ℕ
places zero n = zero
places (suc most) n = cond (ltb n 10) 1 (suc (places most (n / 10)))

-- n in decimal, for every n below 10^20
unfoldable pub decimal : ℕ → List ℕ
decimal n = last_digits 10 (places 20 n) n

-- a number with what stands before it
abbrev pub field : List ℕ → ℕ → List ℕ
field label n = label ++ decimal n

abbrev pub space : List ℕ
space = 32 ∷ []

abbrev pub newline : List ℕ
newline = 10 ∷ []

-- an error after a space, with "-" where it is below zero
abbrev pub signed : ℤ → List ℕ
signed e = field (cond (lt_z e (pos 0)) (32 ∷ 45 ∷ []) space) (nat_abs e)

-- " left" or " right", and the end of the line
abbrev pub side_end : ℕ → List ℕ
side_end zero = 32 ∷ 108 ∷ 101 ∷ 102 ∷ 116 ∷ 10 ∷ []
side_end (suc _) = 32 ∷ 114 ∷ 105 ∷ 103 ∷ 104 ∷ 116 ∷ 10 ∷ []

-- "First line: widths and 2^P": "k=1 m=2 unit=16"
abbrev pub first_line : Shape → List ℕ
first_line s =
    field (107 ∷ 61 ∷ []) s.k ++ field (32 ∷ 109 ∷ 61 ∷ []) s.m ++ field (32 ∷ 117 ∷ 110 ∷ 105 ∷ 116 ∷ 61 ∷ []) (unit s) ++ newline

-- "Then per entry: n, i, j, low, high, worst, side": "0 2 6 -2 4 4 left"
abbrev pub entry_start : ℕ → ℕ → ℕ → List ℕ
entry_start n i j = field [] n ++ field space i ++ field space j

abbrev pub errors_end : ℤ → ℤ → ℕ → ℕ → List ℕ
errors_end low high worst side = signed low ++ signed high ++ field space worst ++ side_end side

abbrev pub entry_line : Shape → ℕ → ℕ → List ℕ
entry_line s n f =
    let u : ℕ = unit s in
    let i : ℕ = i_of s n in
    let j : ℕ = j_of s f in
    entry_start n i j ++ errors_end (low u i j) (high u i j) (worst u i j) (side u i j)

-- "Last: survey's worst, its n, its side": "worst 4 0 left"
abbrev pub last_line : Figures → List ℕ
last_line f = field (119 ∷ 111 ∷ 114 ∷ 115 ∷ 116 ∷ 32 ∷ []) f.worst ++ field space f.n ++ side_end f.side

-- "A refusal is the single line "refused" with its number"
abbrev pub refused_line : ℕ → List ℕ
refused_line r = field (114 ∷ 101 ∷ 102 ∷ 117 ∷ 115 ∷ 101 ∷ 100 ∷ 32 ∷ []) r ++ newline
