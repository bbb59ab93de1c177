-- The typing rules of the linear calculus, as a relation between judgements.
use Rattle.std.specs.Prelude.{◌≡◌, ℕ, true, List, [], ◌∷◌, map, ◌≢◌, slice_index, slice_index_or}
use Rattle.basics.specs.declared.gate.Gate.{Gate as GateName}
use Rattle.derivation.specs.declared.types.TypeEntry.{TypeEntry}
use Rattle.basics.specs.declared.numbers.RowId.{RowId}
use Rattle.derivation.specs.declared.rows.Rule.{Rule}
use Rattle.derivation.specs.declared.rows.Rule.TheVariants.{Variable, Zero, One, Gate, Lambda, PairLambda, Apply, Pair}
use Rattle.derivation.specs.declared.rows.Row.{Row}
use Rattle.basics.specs.Sets.{has, only, union, without}
use Rattle.basics.specs.Gates.{arity}
use Rattle.derivation.specs.Trees.{Tree, qubit, arrow, pair, power, tree}
use Rattle.derivation.specs.Rows.{premises, environments, no_row, type_at}

infix 20 ◌⊢◌
-- a judgement: from the variables of a set follows a value of a type
pub record Judgement : Type 0 where
  pub env : ℕ
  pub type : Tree

abbrev pub ◌⊢◌ : ℕ → Tree → Judgement
◌⊢◌ m a = record { env = m; type = a }

-- no variable is in both environments
abbrev pub Apart : ℕ → ℕ → Type 0
Apart m n = (z : ℕ) → has m z ≡ true → has n z ≢ true

-- the judgement of row k that a rule infers from its premises' judgements; of gives each variable's type
pub data Infers (of : ℕ → Tree) (k : ℕ) : Rule → List Judgement → Judgement → Type 0 where
  variable : Infers of k Variable [] (only k ⊢ of k)
  zero_bit : Infers of k Zero [] (0 ⊢ qubit)
  one_bit : Infers of k One [] (0 ⊢ qubit)
  gate : {g : GateName} → Infers of k (Gate g) [] (0 ⊢ arrow (power (arity g)) (power (arity g)))
  abstraction : {p x : RowId} {m : ℕ} {c : Tree} → has m x.0 ≡ true → Infers of k (Lambda p x) ((m ⊢ c) ∷ []) (without m x.0 ⊢ arrow (of x.0) c)
  pair_abstraction : {p x y : RowId} {m : ℕ} {c : Tree} → has m x.0 ≡ true → has m y.0 ≡ true → (x.0 ≢ y.0) → Infers of k (PairLambda p x y) ((m ⊢ c) ∷ []) (without (without m x.0) y.0 ⊢ arrow (pair (of x.0) (of y.0)) c)
  application : {f a : RowId} {m n : ℕ} {s c : Tree} → Apart m n → Infers of k (Apply f a) ((m ⊢ arrow s c) ∷ (n ⊢ s) ∷ []) (union m n ⊢ c)
  pairing : {l r : RowId} {m n : ℕ} {s c : Tree} → Apart m n → Infers of k (Pair l r) ((m ⊢ s) ∷ (n ⊢ c) ∷ []) (union m n ⊢ pair s c)

-- the rule of row r
abbrev pub rule_at : List Row → ℕ → Rule
rule_at rows r = (slice_index_or rows r no_row).rule

-- the type of row r, as a tree
abbrev pub tree_at : List TypeEntry → List Row → ℕ → Tree
tree_at es rows r = tree es (type_at rows r)

-- the environment of row r
abbrev pub env_at : List Row → ℕ → ℕ
env_at rows r = slice_index (environments rows) r

-- the judgement that row r states
abbrev pub judged : List TypeEntry → List Row → ℕ → Judgement
judged es rows r = env_at rows r ⊢ tree_at es rows r

-- row r follows by its rule from the judgements of its premises
abbrev pub Follows : List TypeEntry → List Row → ℕ → Type 0
Follows es rows r = Infers (tree_at es rows) r (rule_at rows r) (map (judged es rows) (premises (rule_at rows r))) (judged es rows r)
