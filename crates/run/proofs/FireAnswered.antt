-- The move of a wire whose token is at a seat, as its call makes it.
use Rattle.std.proofs.Common.{◌≡◌, ℕ, ◌+◌, ◌^◌, ◌<◌, Bool, List, length, get_or, take, Some, None, Ok, Err, Result, vec_items, sym, ap, ◌∙◌, subst, arith}
use mathlib.Core.Path.{subst⁻¹}
use native.Mathlib.Numerals.{suc-eq-add-one}
use lib.Count.{ones}
use Rattle.basics.specs.declared.gate.Gate.{Gate as GateName}
use Rattle.basics.specs.declared.refusal.Refusal.{Refusal}
use Rattle.basics.specs.declared.refusal.Refusal.TheVariants.{SeatEmpty}
use Rattle.derivation.specs.declared.types.TypeEntry.{TypeEntry}
use Rattle.derivation.specs.declared.rows.Row.{Row}
use Rattle.derivation.specs.Accepted.{Accepted}
use Rattle.derivation.proofs.AcceptedLaws.{accepted_from_valid}
use Rattle.machine.specs.declared.machine.Seat.{Seat}
use Rattle.machine.specs.Calls.{gate_at, seat_at}
use Rattle.theory.specs.Tokens.{no_place}
use Rattle.theory.proofs.Ways.{seat_no_end}
use Rattle.target.specs.Interface.{View, applied_view, apply_fault, numbers_of}
use Rattle.run.specs.declared.books.Waiting.{Waiting}
use Rattle.run.specs.declared.run.Run.{Run}
use Rattle.run.specs.Answers.{MoveAnswers, stage_of}
use Rattle.run.specs.Books.{Fit, Kept, Right, Underway, books_of, nobody, passed}
use Rattle.run.specs.Calls.{Stage, move_of}
use Rattle.run.proofs.FireFacts.{AtSeat, Full, at_seat, sitting}
use Rattle.run.proofs.MoveAnswered.{refused_so}
use Rattle.run.proofs.MoveCases.{moved-fired, moved-not, moved-refused}
use Rattle.run.proofs.MoveFacts.{books_fit}
use Rattle.std.proofs.lemmas.List.{get_or_default}
use Rattle.run.proofs.SeatParts.{seat_here}

-- a run, and one of its wires whose token is at seat s
module _ (run : Run) (w : ℕ) (l : w < length (vec_items run.books.places)) (s : Seat)
    (at : seat_at (vec_items run.machine.types) (vec_items run.machine.rows) (get_or (vec_items run.books.places) w no_place) ≡ Some s) where
  abbrev es : List TypeEntry
  es = vec_items run.machine.types

  abbrev rows : List Row
  rows = vec_items run.machine.rows

  abbrev b : Kept
  b = books_of run.books

  abbrev n : ℕ
  n = run.moves

  a : Accepted es rows
  a = accepted_from_valid es rows run.machine.accepted

  pub sits : AtSeat es rows b n w s
  sits = at_seat es rows b n w a run.reached run.kept l s at

  -- the books are fit for one more pass
  pub fit_now : Fit es rows b
  fit_now = books_fit es rows a b n run.reached run.kept

  -- there is an entry for its row
  pub entry_in : s.row.0 < length b.waiting
  entry_in = omega (arith, sits.row_in, fit_now.0)

  -- the entry of its row, as it was read
  module _ (x : Waiting) (is : x ≡ get_or b.waiting s.row.0 x) where
    own : x ≡ get_or b.waiting s.row.0 nobody
    own = is ∙ get_or_default b.waiting s.row.0 x nobody entry_in

    pub full-so : ones x.wires ≡ s.arity → Full es rows b n w s
    full-so e = ap (λ (y : Waiting). ones y.wires) (sym own) ∙ e

    -- the wires at the seats, as they are handed over
    handed : numbers_of (take s.arity x.seats) ≡ sitting es rows b n w s
    handed = ap (λ (y : Waiting). numbers_of (take s.arity y.seats)) own

    module _ {S : Type 0} (takes : GateName → Bool) (applied : GateName → List ℕ → S → S) (v : View S) where
      abbrev before : Stage S
      before = stage_of run v

      -- a seat is empty
      pub wait-answer : (ones x.wires ≡ s.arity → ⊥) → MoveAnswers (move_of takes applied es rows before w) before (Err (SeatEmpty (record { 0 = w }))) before
      wait-answer not-all =
          let seat = seat_here es rows (get_or b.tokens w no_place) s at in
          refused_so _ before _ (moved-not takes applied es rows before w l (seat_no_end es rows a (get_or b.tokens w no_place) seat)
          (sits.short (λ all. not-all (ap (λ (y : Waiting). ones y.wires) own ∙ all))))

      module _ (all : ones x.wires ≡ s.arity) (g : GateName) (gate : gate_at rows s.row.0 ≡ Some g) where
        -- the target refuses
        pub refuse-answer : (e : Refusal) → apply_fault takes v g (numbers_of (take s.arity x.seats)) ≡ Some e → (after : View S) → after ≡ v
            → MoveAnswers (move_of takes applied es rows before w) before (Err e) (record { tokens = b.tokens; moves = n; target = after })
        refuse-answer e fault after same =
            let seat = seat_here es rows (get_or b.tokens w no_place) s at in
            subst⁻¹ (λ (u : View S). MoveAnswers (move_of takes applied es rows before w) before (Err e) (record { tokens = b.tokens; moves = n; target = u })) same
            (refused_so _ before e (moved-refused takes applied es rows before w l (seat_no_end es rows a (get_or b.tokens w no_place) seat) (sits.can (full-so all)) _ (sits.led (full-so all) g gate)
            g seat (sits.ruled g gate) (sitting es rows b n w s) (sits.who (full-so all) g gate) e (ap (apply_fault takes v g) (sym handed) ∙ fault)))

        -- the gate fires
        pub fire-answer : (c : Kept) → c ≡ passed es rows b s.row.0 s.arity → apply_fault takes v g (numbers_of (take s.arity x.seats)) ≡ None
            → (after : View S) → after ≡ applied_view applied v g (numbers_of (take s.arity x.seats))
            → MoveAnswers (move_of takes applied es rows before w) before (Ok tt) (record { tokens = c.tokens; moves = n + 1; target = after })
        fire-answer c led fine after made =
            let seat = seat_here es rows (get_or b.tokens w no_place) s at in
            let fired = moved-fired takes applied es rows before w l (seat_no_end es rows a (get_or b.tokens w no_place) seat) (sits.can (full-so all)) c.tokens (sits.led (full-so all) g gate ∙ ap (λ (k : Kept). k.tokens) (sym led))
            g seat (sits.ruled g gate) (sitting es rows b n w s) (sits.who (full-so all) g gate) (ap (apply_fault takes v g) (sym handed) ∙ fine) in
            subst⁻¹ (λ (r : Result (Stage S) Refusal). MoveAnswers r before (Ok tt) (record { tokens = c.tokens; moves = n + 1; target = after })) fired
            (λ i. record { tokens = c.tokens; moves = sym (suc-eq-add-one n) i; target = (made ∙ ap (applied_view applied v g) handed) i })

    module _ (all : ones x.wires ≡ s.arity) (g : GateName) (gate : gate_at rows s.row.0 ≡ Some g) (c : Kept) (led : c ≡ passed es rows b s.row.0 s.arity) where
      pub fire-under : Underway es rows c.tokens (n + 1)
      fire-under = subst⁻¹ (λ (k : Kept). Underway es rows k.tokens (n + 1)) led (subst (λ (m : ℕ). Underway es rows (passed es rows b s.row.0 s.arity).tokens m) (suc-eq-add-one n) (sits.under (full-so all) g gate))

      pub fire-kept : ∥ Right es rows c ∥₁
      fire-kept = subst⁻¹ (λ (k : Kept). ∥ Right es rows k ∥₁) led (sits.kept (full-so all) g gate)

      pub fire-counted : n + 1 < 2 ^ 32
      fire-counted = omega (arith, sits.counted (full-so all) g gate)
