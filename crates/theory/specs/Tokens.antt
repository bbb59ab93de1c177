-- The machine: tokens on places, one for each wire.
use Rattle.std.specs.Prelude.{ℕ, suc, Bool, true, false, cond, not, ◌&&◌, ◌||◌, List, [], ◌∷◌, map, length, Some, None, Option, ◌==◌, nat_lt, slice_index_or}
use Rattle.std.specs.Option.{unwrap_or}
use Rattle.basics.specs.declared.gate.Gate.{Gate as GateName}
use Rattle.derivation.specs.declared.types.TypeEntry.{TypeEntry}
use Rattle.derivation.specs.declared.rows.Rule.{Rule}
use Rattle.derivation.specs.declared.rows.Rule.TheVariants.{Variable, Zero, One, Gate, Lambda, PairLambda, Apply, Pair}
use Rattle.derivation.specs.declared.rows.Row.{Row}
use Rattle.derivation.specs.declared.rows.Part.{Part}
use Rattle.derivation.specs.declared.rows.Part.TheVariants.{Ty, Variable as Var}
use Rattle.derivation.specs.declared.rows.Place.{Place}
use Rattle.basics.specs.Gates.{arity}
use Rattle.derivation.specs.Judgements.{rule_at}
use Rattle.derivation.specs.Places.{numbers}
use Rattle.theory.specs.Ports.{at, next, is_end}

abbrev pub same_part : Part → Part → Bool
same_part Ty Ty = true
same_part Ty (Var y) = false
same_part (Var x) Ty = false
same_part (Var x) (Var y) = x.0 == y.0

abbrev pub same_place : Place → Place → Bool
same_place p q = p.row.0 == q.row.0 && (same_part p.part q.part && p.atom.0 == q.atom.0)

-- q stands in the list
abbrev pub among : Place → List Place → Bool
among q [] = false
among q (p ∷ ps) = same_place p q || among q ps

-- how many tokens a rule wants before one passes: a gate its arity, other rules one
abbrev pub seats : Rule → ℕ
seats Variable = 0
seats Zero = 0
seats One = 0
seats (Gate g) = arity g
seats (Lambda p x) = 0
seats (PairLambda p x y) = 0
seats (Apply f a) = 0
seats (Pair l r) = 0

-- a seat is one of a gate row's first places, as many as its arity
abbrev pub seat_in : Rule → Part → ℕ → Bool
seat_in rule Ty i = nat_lt i (seats rule)
seat_in rule (Var x) i = false

-- a place of no derivation, where a list of places has no further one
abbrev pub no_place : Place
no_place = at 0 0

-- a gate that fired, and its wires in the order of its seats
pub record Fired : Type 0 where
  pub gate : GateName
  pub wires : List ℕ

-- tokens after a move, and the gate that it fired, if any
pub record Moved : Type 0 where
  pub tokens : List Place
  pub fired : Option Fired

-- some token stands at p
abbrev pub stands_at : List Place → Place → Bool
stands_at tokens p = among p tokens

-- the wire whose token stands at p, or their number if none does
abbrev pub wire_at : List Place → Place → ℕ
wire_at [] p = 0
wire_at (t ∷ ts) p = cond (same_place t p) 0 (suc (wire_at ts p))

abbrev pub all_stand : List Place → List Place → Bool
all_stand tokens [] = true
all_stand tokens (p ∷ ps) = stands_at tokens p && all_stand tokens ps

module _ (es : List TypeEntry) (rows : List Row) where
  abbrev pub is_seat : Place → Bool
  is_seat p = seat_in (rule_at rows p.row.0) p.part p.atom.0

  -- the places whose tokens move together with one at p: a gate's seats, or p alone
  abbrev pub together : Place → List Place
  together p = cond (is_seat p) (map (at p.row.0) (numbers 0 (seats (rule_at rows p.row.0)))) (p ∷ [])

  -- a token can move if it is not at an end and all that move with it are in place
  abbrev pub movable : List Place → Place → Bool
  movable tokens p = not (is_end es rows p) && all_stand tokens (together p)

  -- the place after p
  abbrev pub advance : Place → Place
  advance p = unwrap_or (next es rows p) p

  -- the tokens after those of some places have moved
  abbrev pub advanced : List Place → List Place → List Place
  advanced moving tokens = map (λ t. cond (among t moving) (advance t) t) tokens

  -- the gate of a rule: read only when it fires
  abbrev pub gate_fired : Rule → List ℕ → Option Fired
  gate_fired Variable ws = None
  gate_fired Zero ws = None
  gate_fired One ws = None
  gate_fired (Gate g) ws = Some (record { gate = g; wires = ws })
  gate_fired (Lambda p x) ws = None
  gate_fired (PairLambda p x y) ws = None
  gate_fired (Apply f a) ws = None
  gate_fired (Pair l r) ws = None

  abbrev pub fired_at : List Place → Place → Option Fired
  fired_at tokens p = cond (is_seat p) (gate_fired (rule_at rows p.row.0) (map (wire_at tokens) (together p))) None

  abbrev pub moved_from : List Place → Place → Option Moved
  moved_from tokens p = cond (movable tokens p) (Some (record { tokens = advanced (together p) tokens; fired = fired_at tokens p })) None

  -- the one move that wire w's token has, if it can move now
  unfoldable pub move : List Place → ℕ → Option Moved
  move tokens w = cond (nat_lt w (length tokens)) (moved_from tokens (slice_index_or tokens w no_place)) None
