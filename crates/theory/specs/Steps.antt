-- One step of the multi-token machine, as a relation on tokens.
use Rattle.std.specs.Prelude.{◌≡◌, ℕ, ◌+◌, ◌<◌, true, false, ◌⊎◌, List, length, Some, None, Option, slice_index, slice_index_or, slice_set}
use Rattle.basics.specs.declared.gate.Gate.{Gate as GateName}
use Rattle.derivation.specs.declared.types.TypeEntry.{TypeEntry}
use Rattle.basics.specs.declared.numbers.RowId.{RowId}
use Rattle.derivation.specs.declared.rows.Rule.TheVariants.{Variable, Gate, Lambda, PairLambda, Apply, Pair}
use Rattle.derivation.specs.declared.rows.Row.{Row}
use Rattle.derivation.specs.declared.rows.Place.{Place}
use Rattle.basics.specs.Sets.{has}
use Rattle.basics.specs.Gates.{arity}
use Rattle.derivation.specs.Rows.{premises, binders}
use Rattle.derivation.specs.Judgements.{rule_at, env_at}
use Rattle.derivation.specs.Places.{negative}
use Rattle.theory.specs.Ports.{at, held, width, listed}
use Rattle.theory.specs.Tokens.{Fired, no_place}

-- the rule of row r joins two places: a token that enters it at one leaves it at the other
pub data Joins (es : List TypeEntry) (rows : List Row) (r : ℕ) : Place → Place → Type 0 where
  -- a variable and the type of its row
  variable : {i : ℕ} → rule_at rows r ≡ Variable → i < width es rows r → Joins es rows r (held r r i) (at r i)
  -- a variable of the environment, here and at the premise that has it
  environment : {q z i : ℕ} → listed q (premises (rule_at rows r)) ≡ true → has (env_at rows q) z ≡ true → listed z (binders (rule_at rows r)) ≡ false → i < width es rows z → Joins es rows r (held r z i) (held q z i)
  -- the first atoms of a lambda and its bound variable, and the rest and its body
  bound : {p x : RowId} {i : ℕ} → rule_at rows r ≡ Lambda p x → i < width es rows x.0 → Joins es rows r (at r i) (held p.0 x.0 i)
  body : {p x : RowId} {i : ℕ} → rule_at rows r ≡ Lambda p x → i < width es rows p.0 → Joins es rows r (at r (width es rows x.0 + i)) (at p.0 i)
  -- the same of a pair lambda and its two bound variables
  bound_first : {p x y : RowId} {i : ℕ} → rule_at rows r ≡ PairLambda p x y → i < width es rows x.0 → Joins es rows r (at r i) (held p.0 x.0 i)
  bound_second : {p x y : RowId} {i : ℕ} → rule_at rows r ≡ PairLambda p x y → i < width es rows y.0 → Joins es rows r (at r (width es rows x.0 + i)) (held p.0 y.0 i)
  pair_body : {p x y : RowId} {i : ℕ} → rule_at rows r ≡ PairLambda p x y → i < width es rows p.0 → Joins es rows r (at r (width es rows x.0 + width es rows y.0 + i)) (at p.0 i)
  -- the first atoms of a function and its argument, and the rest and the application
  argument : {f a : RowId} {i : ℕ} → rule_at rows r ≡ Apply f a → i < width es rows a.0 → Joins es rows r (at f.0 i) (at a.0 i)
  result : {f a : RowId} {i : ℕ} → rule_at rows r ≡ Apply f a → i < width es rows r → Joins es rows r (at r i) (at f.0 (width es rows a.0 + i))
  -- a pair and its two parts
  left_part : {p q : RowId} {i : ℕ} → rule_at rows r ≡ Pair p q → i < width es rows p.0 → Joins es rows r (at r i) (at p.0 i)
  right_part : {p q : RowId} {i : ℕ} → rule_at rows r ≡ Pair p q → i < width es rows q.0 → Joins es rows r (at r (width es rows p.0 + i)) (at q.0 i)

-- a token at p is about to enter the rule of row r: it climbs at r, or descends at a premise of r
abbrev pub Enters : List TypeEntry → List Row → ℕ → Place → Type 0
Enters es rows r p =
    ((negative es rows p ≡ true) × (p.row.0 ≡ r))
    ⊎ ((negative es rows p ≡ false) × (r < length rows) × (listed p.row.0 (premises (rule_at rows r)) ≡ true))

-- one step of wire w's token
pub data Step (es : List TypeEntry) (rows : List Row) : List Place → ℕ → Option Fired → List Place → Type 0 where
  -- a token passes through a rule, from a place to the place that the rule joins with it
  passes : {tokens : List Place} {w r : ℕ} {p q : Place} → w < length tokens → slice_index_or tokens w no_place ≡ p → Enters es rows r p → Joins es rows r p q ⊎ Joins es rows r q p → Step es rows tokens w None (slice_set tokens w q)
  -- a gate whose seats are all held fires: the tokens of its seats pass together to the results of the same seats
  fires : {tokens after : List Place} {w r : ℕ} {g : GateName} {ws : List ℕ} → w < length tokens → r < length rows → rule_at rows r ≡ Gate g → length ws ≡ arity g → listed w ws ≡ true →
      ((i : ℕ) → i < arity g → (slice_index ws i < length tokens) × (slice_index_or tokens (slice_index ws i) no_place ≡ at r i)) →
      length after ≡ length tokens →
      ((i : ℕ) → i < arity g → slice_index_or after (slice_index ws i) no_place ≡ at r (arity g + i)) →
      ((v : ℕ) → v < length tokens → listed v ws ≡ false → slice_index_or after v no_place ≡ slice_index_or tokens v no_place) →
      Step es rows tokens w (Some (record { gate = g; wires = ws })) after
