-- Sets of small numbers as masks: bit x of a mask says whether x is in the set.
use Rattle.std.specs.Prelude.{ℕ, ◌/◌, ◌%◌, ◌^◌, Bool, ◌==◌, bit_and, bit_or, bit_xor}

-- x is in the set
unfoldable pub has : ℕ → ℕ → Bool
has m x = m / 2 ^ x % 2 == 1

-- the set of x alone
unfoldable pub only : ℕ → ℕ
only x = 2 ^ x

-- what is in one of two sets
unfoldable pub union : ℕ → ℕ → ℕ
union a b = bit_or a b

-- the set less x
unfoldable pub without : ℕ → ℕ → ℕ
without m x = bit_xor m (bit_and m (2 ^ x))
