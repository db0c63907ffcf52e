-- The digest by which two programs compare their cells and bytes. Assumes nothing.
use Rattle.std.specs.Prelude.{ℕ, ◌+◌, ◌*◌, ◌%◌, List, [], ◌∷◌, ◌≡◌}

-- with one value more: "31 times the digest, plus the value, below 2^32"
abbrev pub stirred : ℕ → ℕ → ℕ
stirred digest value = (digest % 4294967296 * 31 + value % 4294967296) % 4294967296

-- with some items more, one after the other, each by a number that it gives
abbrev pub Stirs : {T : Type 0} → (T → ℕ → Type 0) → ℕ → List T → ℕ → Type 0
Stirs gives before [] after = after ≡ before
Stirs gives before (x ∷ xs) after = (value : ℕ) × (gives x value × Stirs gives (stirred before value) xs after)
