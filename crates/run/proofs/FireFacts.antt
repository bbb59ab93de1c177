-- What the facts that a run keeps say of the move of a wire whose token is at a seat.
use Rattle.std.proofs.Common.{◌≡◌, ℕ, suc, ◌^◌, ◌<◌, ◌≤◌, true, false, ltb, List, map, length, get_or, take, Some, None, sym, ap, ◌∙◌, subst}
use lib.Count.{ones}
use Rattle.std.proofs.lemmas.Bool.{cond-true, lt-ltb}
use Rattle.basics.specs.declared.gate.Gate.{Gate as GateName}
use Rattle.derivation.specs.declared.types.TypeEntry.{TypeEntry}
use Rattle.derivation.specs.declared.rows.Rule.TheVariants.{Gate}
use Rattle.derivation.specs.declared.rows.Row.{Row}
use Rattle.derivation.specs.declared.rows.Place.{Place}
use Rattle.derivation.specs.Accepted.{Accepted}
use Rattle.derivation.specs.Judgements.{rule_at}
use Rattle.derivation.specs.Rows.{all_below}
use Rattle.machine.specs.declared.machine.Seat.{Seat}
use Rattle.machine.specs.Calls.{gate_at, gate_in, seat_at}
use Rattle.theory.specs.Tokens.{advanced, is_seat, movable, no_place, seats, together, wire_at}
use Rattle.theory.proofs.Basics.{none_some}
use Rattle.theory.proofs.Ways.{seat_facts}
use Rattle.target.specs.Interface.{numbers_of}
use Rattle.run.specs.Books.{Kept, Right, Underway, nobody, passed}
use Rattle.run.proofs.Arriving.{seats-few}
use Rattle.run.proofs.MoveFacts.{full-below, full-can, full-counted, full-kept, full-led, full-under, full-wires, seat-row, waits}
use Rattle.run.proofs.SeatParts.{gate-of, seat_here, seat_is}

module _ (es : List TypeEntry) (rows : List Row) (b : Kept) (n w : ℕ) where
  abbrev pub place : Place
  place = get_or b.tokens w no_place

  -- as many wires wait at the row of a seat as it has seats
  abbrev pub Full : Seat → Type 0
  Full s = ones (get_or b.waiting s.row.0 nobody).wires ≡ s.arity

  -- the wires at the seats of its row
  abbrev pub sitting : Seat → List ℕ
  sitting s = numbers_of (take s.arity (get_or b.waiting s.row.0 nobody).seats)

  -- the books after all of them have passed
  abbrev pub onward : Seat → Kept
  onward s = passed es rows b s.row.0 s.arity

  pub record AtSeat (s : Seat) : Type 0 where
    pub row_in : s.row.0 < length rows
    pub arity_few : s.arity ≤ 3
    pub gated : gate_at rows s.row.0 ≡ None → ⊥
    pub ruled : (g : GateName) → gate_at rows s.row.0 ≡ Some g → rule_at rows place.row.0 ≡ Gate g
    pub short : (Full s → ⊥) → movable es rows b.tokens place ≡ false
    pub can : Full s → movable es rows b.tokens place ≡ true
    pub below : Full s → all_below (length b.tokens) (sitting s) ≡ true
    pub led : Full s → (g : GateName) → gate_at rows s.row.0 ≡ Some g → advanced es rows (together es rows place) b.tokens ≡ (onward s).tokens
    pub who : Full s → (g : GateName) → gate_at rows s.row.0 ≡ Some g → map (wire_at b.tokens) (together es rows place) ≡ sitting s
    pub under : Full s → (g : GateName) → gate_at rows s.row.0 ≡ Some g → Underway es rows (onward s).tokens (suc n)
    pub kept : Full s → (g : GateName) → gate_at rows s.row.0 ≡ Some g → ∥ Right es rows (onward s) ∥₁
    pub counted : Full s → (g : GateName) → gate_at rows s.row.0 ≡ Some g → suc n < 2 ^ 32

  module _ (a : Accepted es rows) (so : Underway es rows b.tokens n) (right : ∥ Right es rows b ∥₁) (l : w < length b.tokens) where
    -- at the seat as its place has it
    at_own : is_seat es rows place ≡ true → AtSeat (record { row = place.row; number = place.atom.0; arity = seats (rule_at rows place.row.0) })
    at_own seat =
        let (g, gate, inside, here) = seat_facts es rows place seat in
        let low = seat-row es rows a b n so right w l seat in
        let rule = λ (g : GateName). gate-of rows place.row.0 g low in
        record {
          row_in = low;
          arity_few = seats-few (rule_at rows place.row.0);
          gated = λ none. none_some (sym none ∙ cond-true (ltb place.row.0 (length rows)) _ _ (lt-ltb _ _ low) ∙ ap gate_in gate);
          ruled = rule;
          short = waits es rows a b n so right w l seat;
          can = full-can es rows a b n so right w l seat;
          below = full-below es rows a b n so right w l seat;
          led = λ full g e. full-led es rows a b n so right w l seat full g (rule g e);
          who = λ full g e. full-wires es rows a b n so right w l seat full g (rule g e);
          under = λ full g e. full-under es rows a b n so right w l seat full g (rule g e);
          kept = λ full g e. full-kept es rows a b n so right w l seat full g (rule g e);
          counted = λ full g e. full-counted es rows a b n so right w l seat full g (rule g e);
        }

    pub at_seat : (s : Seat) → seat_at es rows place ≡ Some s → AtSeat s
    at_seat s e =
        let seat = seat_here es rows place s e in
        subst AtSeat (seat_is es rows place s e) (at_own seat)
