-- Sums: over the members of a set, and over all numbers below a bound.
use Rattle.std.specs.Prelude.{ℕ, zero, suc, ◌+◌, ◌-◌, cond}
use Rattle.derivation.specs.declared.types.Size.{Size}
use Rattle.derivation.specs.declared.types.TypeKind.{TypeKind}
use Rattle.derivation.specs.declared.types.TypeKind.TheVariants.{Arrow, Pair}
use Rattle.basics.specs.Sets.{has}
use Rattle.derivation.specs.Trees.{Tree, qubit, arrow, pair, atoms}

-- the sum of f over the members below n of a set
abbrev pub weight : ℕ → (ℕ → ℕ) → ℕ → ℕ
weight m f zero = 0
weight m f (suc n) = weight m f n + cond (has m n) (f n) 0

-- the sum of f over the numbers below n
abbrev pub sum_to : (ℕ → ℕ) → ℕ → ℕ
sum_to f zero = 0
sum_to f (suc n) = sum_to f n + f n

-- the number of positive atoms of a tree
abbrev pub positives : Tree → ℕ
positives qubit = 1
positives (arrow a c) = (atoms a - positives a) + positives c
positives (pair a c) = positives a + positives c

-- how many atoms a tree has, and how many of them are positive
abbrev pub size_of : Tree → Size
size_of t = record { atoms = atoms t; positive = positives t }

-- the size of an arrow or a pair by those of its parts
abbrev pub joined_size : TypeKind → Size → Size → Size
joined_size Arrow a c = record { atoms = a.atoms + c.atoms; positive = (a.atoms - a.positive) + c.positive }
joined_size Pair a c = record { atoms = a.atoms + c.atoms; positive = a.positive + c.positive }
