-- What a seat that was found says of its place, and of the gate of its row.
use Rattle.std.proofs.Common.{◌≡◌, ℕ, ◌<◌, true, ◌&&◌, ltb, List, length, Some, sym, ap, ◌∙◌}
use Rattle.std.proofs.lemmas.Bool.{and_parts, cond-true, lt-ltb}
use Rattle.std.proofs.lemmas.Option.{cond_some}
use Rattle.basics.specs.declared.gate.Gate.{Gate as GateName}
use Rattle.derivation.specs.declared.types.TypeEntry.{TypeEntry}
use Rattle.derivation.specs.declared.rows.Rule.{Rule}
use Rattle.derivation.specs.declared.rows.Rule.TheVariants.{Variable, Zero, One, Gate, Lambda, PairLambda, Apply, Pair}
use Rattle.derivation.specs.declared.rows.Row.{Row}
use Rattle.derivation.specs.declared.rows.Place.{Place}
use Rattle.derivation.specs.Judgements.{rule_at}
use Rattle.machine.specs.declared.machine.Seat.{Seat}
use Rattle.machine.specs.Calls.{gate_at, gate_in, seat_at}
use Rattle.theory.specs.Ports.{is_place}
use Rattle.theory.specs.Tokens.{is_seat, seats}
use Rattle.theory.proofs.Basics.{none_some, same_some}

module _ (es : List TypeEntry) (rows : List Row) (p : Place) (s : Seat) (e : seat_at es rows p ≡ Some s) where
  pub seat_here : is_seat es rows p ≡ true
  seat_here = (and_parts (is_place es rows p) (is_seat es rows p) (cond_some (is_place es rows p && is_seat es rows p) _ s e).0).1

  pub seat_is : record { row = p.row; number = p.atom.0; arity = seats (rule_at rows p.row.0) } ≡ s
  seat_is = (cond_some (is_place es rows p && is_seat es rows p) _ s e).1

gate_in_lem : (rule : Rule) (g : GateName) → gate_in rule ≡ Some g → rule ≡ Gate g
gate_in_lem Variable g e = absurd (none_some e)
gate_in_lem Zero g e = absurd (none_some e)
gate_in_lem One g e = absurd (none_some e)
gate_in_lem (Gate f) g e = ap Gate (same_some e)
gate_in_lem (Lambda q x) g e = absurd (none_some e)
gate_in_lem (PairLambda q x y) g e = absurd (none_some e)
gate_in_lem (Apply f x) g e = absurd (none_some e)
gate_in_lem (Pair l r) g e = absurd (none_some e)

-- the gate of a row is that of its rule
pub gate-of : (rows : List Row) (r : ℕ) (g : GateName) → r < length rows → gate_at rows r ≡ Some g → rule_at rows r ≡ Gate g
gate-of rows r g h e = gate_in_lem (rule_at rows r) g (sym (cond-true (ltb r (length rows)) _ _ (lt-ltb _ _ h)) ∙ e)
