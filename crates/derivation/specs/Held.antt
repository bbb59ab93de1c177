-- The atoms that the rows hold in their environments.
use Rattle.std.specs.Prelude.{ℕ, List, length}
use Rattle.derivation.specs.declared.types.TypeEntry.{TypeEntry}
use Rattle.derivation.specs.declared.rows.Row.{Row}
use Rattle.derivation.specs.Trees.{atoms}
use Rattle.derivation.specs.Judgements.{env_at, tree_at}
use Rattle.derivation.specs.Weights.{weight}

-- the number of atoms in the environment of row r
unfoldable pub held_at : List TypeEntry → List Row → ℕ → ℕ
held_at es rows r = weight (env_at rows r) (λ x. atoms (tree_at es rows x)) (length rows)
