-- What a machine's calls answer.
use Rattle.std.specs.Prelude.{ℕ, cond, ◌&&◌, List, length, Some, None, Option, nat_lt, slice_index_or}
use Rattle.basics.specs.declared.gate.Gate.{Gate as GateName}
use Rattle.derivation.specs.declared.types.TypeEntry.{TypeEntry}
use Rattle.basics.specs.declared.numbers.EndId.{EndId}
use Rattle.derivation.specs.declared.rows.Rule.{Rule}
use Rattle.derivation.specs.declared.rows.Rule.TheVariants.{Variable, Zero, One, Gate, Lambda, PairLambda, Apply, Pair}
use Rattle.derivation.specs.declared.rows.Row.{Row}
use Rattle.derivation.specs.declared.rows.Place.{Place}
use Rattle.derivation.specs.Judgements.{rule_at}
use Rattle.machine.specs.declared.machine.Seat.{Seat}
use Rattle.theory.specs.Ports.{is_place}
use Rattle.theory.specs.Tokens.{is_seat, no_place, seats, wire_at}

-- the gate of a rule
abbrev pub gate_in : Rule → Option GateName
gate_in Variable = None
gate_in Zero = None
gate_in One = None
gate_in (Gate g) = Some g
gate_in (Lambda p x) = None
gate_in (PairLambda p x y) = None
gate_in (Apply f a) = None
gate_in (Pair l r) = None

-- the rule of row r, if there is such a row
abbrev pub rule_found : List Row → ℕ → Option Rule
rule_found rows r = cond (nat_lt r (length rows)) (Some (rule_at rows r)) None

-- the gate of row r, if there is such a row
abbrev pub gate_at : List Row → ℕ → Option GateName
gate_at rows r = cond (nat_lt r (length rows)) (gate_in (rule_at rows r)) None

-- the seat that is at p: its gate's row, its number, and how many seats the gate has
abbrev pub seat_at : List TypeEntry → List Row → Place → Option Seat
seat_at es rows p = cond (is_place es rows p && is_seat es rows p) (Some (record { row = p.row; number = p.atom.0; arity = seats (rule_at rows p.row.0) })) None

-- place i of a list, if it has so many
abbrev pub place_at : List Place → ℕ → Option Place
place_at ps i = cond (nat_lt i (length ps)) (Some (slice_index_or ps i no_place)) None

-- the number of the first of some ends that is p, if one is and a byte can hold its number
abbrev pub end_at : List Place → Place → Option EndId
end_at ps p = cond (nat_lt (wire_at ps p) (length ps) && nat_lt (wire_at ps p) 256) (Some (record { 0 = wire_at ps p })) None
