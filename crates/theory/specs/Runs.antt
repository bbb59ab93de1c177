-- What is reached from the starts by moves, in whatever order.
use Rattle.std.specs.Prelude.{◌≡◌, ℕ, suc, List, [], ◌++◌, Some}
use Rattle.std.specs.Option.{option_to_list}
use Rattle.derivation.specs.declared.types.TypeEntry.{TypeEntry}
use Rattle.derivation.specs.declared.rows.Row.{Row}
use Rattle.derivation.specs.declared.rows.Place.{Place}
use Rattle.theory.specs.Ports.{starts}
use Rattle.theory.specs.Tokens.{Fired, Moved, move}

-- tokens that some moves lead to, the number of moves, and the gates that fired, in order
pub data Reached (es : List TypeEntry) (rows : List Row) : List Place → ℕ → List Fired → Type 0 where
  begun : Reached es rows (starts es rows) 0 []
  moved : {tokens : List Place} {n : ℕ} {fired : List Fired} → Reached es rows tokens n fired → (w : ℕ) (m : Moved) → move es rows tokens w ≡ Some m → Reached es rows m.tokens (suc n) (fired ++ option_to_list m.fired)
