-- Counts over the rows, one row at a time.
use Rattle.std.proofs.Common.{◌≡◌, ℕ, ◌+◌, ◌-◌, ◌<◌, ◌≤◌, Bool, true, false, cond, List, length, get_or, take, sum_by, sym, refl, ap, ◌∙◌, add-one, arith}
use mathlib.Core.Path.{subst⁻¹}
use Rattle.std.proofs.lemmas.List.Recursion.{is_sum_by}
use Rattle.std.proofs.lemmas.List.Sums.{length-filter, sum_by_more}
use Rattle.basics.specs.declared.gate.Gate.TheVariants.{H, S, T, X, Z, Cx, Cz, Ccx}
use Rattle.derivation.specs.declared.rows.Row.{Row}
use Rattle.derivation.specs.declared.rows.Rule.{Rule}
use Rattle.derivation.specs.declared.rows.Rule.TheVariants.{Variable, Zero, One, Gate, Lambda, PairLambda, Apply, Pair}
use Rattle.derivation.specs.declared.types.Size.{Size}
use Rattle.derivation.specs.declared.types.TypeEntry.{TypeEntry}
use Rattle.derivation.specs.Judgements.{env_at, tree_at}
use Rattle.derivation.specs.Places.{all_mates, given, keep, mates}
use Rattle.basics.specs.Sets.{has}
use Rattle.derivation.specs.Trees.{Tree, atoms}
use Rattle.derivation.specs.Weights.{positives, size_of, weight}
use Rattle.derivation.proofs.PlaceLaws.{length-given}
use Rattle.derivation.proofs.WeightLaws.{positives_le}

-- one element more
pub kept_more : {A : Type 0} (t : A → Bool) (xs : List A) (i : ℕ) (d : A) → i < length xs
    → length (keep t (take (i + 1) xs)) ≡ length (keep t (take i xs)) + cond (t (get_or xs i d)) 1 0
kept_more t xs i d h =
    length-filter t (take (i + 1) xs)
    ∙ sum_by_more (λ x. cond (t x) 1 0) xs i d h
    ∙ ap (λ n. n + cond (t (get_or xs i d)) 1 0) (sym (length-filter t (take i xs)))

-- a rule moves at most three tokens together
pub mates_le : (rule : Rule) → mates rule ≤ 2
mates_le Variable = omega arith
mates_le Zero = omega arith
mates_le One = omega arith
mates_le (Gate H) = omega arith
mates_le (Gate S) = omega arith
mates_le (Gate T) = omega arith
mates_le (Gate X) = omega arith
mates_le (Gate Z) = omega arith
mates_le (Gate Cx) = omega arith
mates_le (Gate Cz) = omega arith
mates_le (Gate Ccx) = omega arith
mates_le (Lambda p x) = omega arith
mates_le (PairLambda p x y) = omega arith
mates_le (Apply f a) = omega arith
mates_le (Pair l r) = omega arith

pub mates-sum : (rows : List Row) → all_mates rows ≡ sum_by (λ row. mates row.rule) rows
mates-sum = is_sum_by all_mates (λ (row : Row). mates row.rule) refl (λ _ _. refl)

pub mates-more : (rows : List Row) (i : ℕ) (d : Row) → i < length rows → all_mates (take (i + 1) rows) ≡ all_mates (take i rows) + mates (get_or rows i d).rule
mates-more rows i d h =
    mates-sum (take (i + 1) rows)
    ∙ sum_by_more (λ (row : Row). mates row.rule) rows i d h
    ∙ ap (λ n. n + mates (get_or rows i d).rule) (sym (mates-sum (take i rows)))

-- a size has no more positive atoms than atoms
pub size_fits : (s : Size) (t : Tree) → s ≡ size_of t → s.positive ≤ s.atoms
size_fits s t e = subst⁻¹ (λ (z : Size). z.positive ≤ z.atoms) e (positives_le t)

-- a size with at most 16 atoms
pub size_small : (s : Size) (t : Tree) → s ≡ size_of t → atoms t ≤ 16 → (s.atoms ≤ 16) × (s.positive ≤ 16)
size_small s t e h = subst⁻¹ (λ (z : Size). (z.atoms ≤ 16) × (z.positive ≤ 16)) e (h, omega (arith, positives_le t))

-- the negative places in the last row's type, and those in its variables below n
unfoldable pub given_to : List TypeEntry → List Row → ℕ → ℕ → ℕ
given_to es rows env n =
    let last = tree_at es rows (length rows - 1) in
    (atoms last - positives last) + weight env (λ x. positives (tree_at es rows x)) n

-- by the size of the last row's type
pub given_none : (es : List TypeEntry) (rows : List Row) (env : ℕ) (s : Size) → s ≡ size_of (tree_at es rows (length rows - 1)) → s.atoms - s.positive ≡ given_to es rows env 0
unfolding given_to
given_none es rows env s e = let all = ap (λ (z : Size). z.atoms) e in let plus = ap (λ (z : Size). z.positive) e in omega arith

given-more : (es : List TypeEntry) (rows : List Row) (env n : ℕ) → given_to es rows env (n + 1) ≡ given_to es rows env n + cond (has env n) (positives (tree_at es rows n)) 0
unfolding given_to
given-more es rows env n = let more = ap (weight env (λ x. positives (tree_at es rows x))) (add-one n) in omega arith

-- row n is one of the variables
pub given_adds : (es : List TypeEntry) (rows : List Row) (env n : ℕ) → true ≡ has env n → (s : Size) → s ≡ size_of (tree_at es rows n) → atoms (tree_at es rows n) ≤ 16
    → (given_to es rows env n + s.positive ≡ given_to es rows env (n + 1)) × (s.positive ≤ 16)
given_adds es rows env n b s e small =
    let more = rw (← b) at (given-more es rows env n) in
    let plus = ap (λ (z : Size). z.positive) e in
    (omega arith, (size_small s _ e small).1)

-- and here it is none
pub given_stays : (es : List TypeEntry) (rows : List Row) (env n : ℕ) → false ≡ has env n → given_to es rows env n ≡ given_to es rows env (n + 1)
given_stays es rows env n b = let more = rw (← b) at (given-more es rows env n) in omega arith

pub given-all : (es : List TypeEntry) (rows : List Row) (env n : ℕ) → env ≡ env_at rows (length rows - 1) → n ≡ length rows → given_to es rows env n ≡ length (given es rows)
unfolding given_to
given-all es rows env n last end =
    let all = length-given es rows in
    let set = ap (λ m. weight m (λ x. positives (tree_at es rows x)) n) last in
    let up_to = ap (weight (env_at rows (length rows - 1)) (λ x. positives (tree_at es rows x))) end in
    omega arith
