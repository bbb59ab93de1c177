-- What a move comes to, case by case.
use Rattle.std.proofs.Common.{◌≡◌, ℕ, suc, ◌<◌, ◌≤◌, Bool, true, false, not, ltb, List, map, length, get_or, Some, None, Ok, Err, Option, refl, ap, ◌∙◌, ap₂}
use Rattle.std.proofs.lemmas.Bool.{cond-true, cond-false, lt-ltb, le-ltb}
use Rattle.basics.specs.declared.gate.Gate.{Gate as GateName}
use Rattle.basics.specs.declared.refusal.Refusal.{Refusal}
use Rattle.basics.specs.declared.refusal.Refusal.TheVariants.{NoSuchWire, AtHome, SeatEmpty}
use Rattle.derivation.specs.declared.types.TypeEntry.{TypeEntry}
use Rattle.derivation.specs.declared.rows.Rule.{Rule}
use Rattle.derivation.specs.declared.rows.Rule.TheVariants.{Gate}
use Rattle.derivation.specs.declared.rows.Row.{Row}
use Rattle.derivation.specs.declared.rows.Place.{Place}
use Rattle.derivation.specs.Judgements.{rule_at}
use Rattle.theory.specs.Ports.{is_end}
use Rattle.theory.specs.Tokens.{Fired, Moved, advanced, fired_at, gate_fired, is_seat, movable, move, no_place, together, wire_at}
use Rattle.target.specs.Interface.{apply_fault, applied_view}
use Rattle.run.specs.Calls.{Stage, move_of, moved_to}

module _ (es : List TypeEntry) (rows : List Row) (tokens : List Place) (w : ℕ) (h : w < length tokens) where
  -- a token that can move makes the move that it has
  pub move_some : movable es rows tokens (get_or tokens w no_place) ≡ true → move es rows tokens w ≡ Some (record { tokens = advanced es rows (together es rows (get_or tokens w no_place)) tokens; fired = fired_at es rows tokens (get_or tokens w no_place) })
  unfolding move
  move_some can = cond-true (ltb w (length tokens)) _ _ (lt-ltb _ _ h) ∙ cond-true (movable es rows tokens (get_or tokens w no_place)) _ _ can

  -- one that cannot makes none
  move_none : movable es rows tokens (get_or tokens w no_place) ≡ false → move es rows tokens w ≡ None
  unfolding move
  move_none not_yet = cond-true (ltb w (length tokens)) _ _ (lt-ltb _ _ h) ∙ cond-false (movable es rows tokens (get_or tokens w no_place)) _ _ not_yet

  fired_none : is_seat es rows (get_or tokens w no_place) ≡ false → fired_at es rows tokens (get_or tokens w no_place) ≡ None
  fired_none plain = cond-false (is_seat es rows (get_or tokens w no_place)) _ _ plain

  pub fired-some : (g : GateName) → is_seat es rows (get_or tokens w no_place) ≡ true → rule_at rows (get_or tokens w no_place).row.0 ≡ Gate g →
      fired_at es rows tokens (get_or tokens w no_place) ≡ Some (record { gate = g; wires = map (wire_at tokens) (together es rows (get_or tokens w no_place)) })
  fired-some g seat rule = cond-true (is_seat es rows (get_or tokens w no_place)) _ _ seat ∙ ap (λ (u : Rule). gate_fired es rows u (map (wire_at tokens) (together es rows (get_or tokens w no_place)))) rule

module _ {S : Type 0} (takes : GateName → Bool) (applied : GateName → List ℕ → S → S) (es : List TypeEntry) (rows : List Row) (s : Stage S) (w : ℕ) where
  pub moved_past : length s.tokens ≤ w → move_of takes applied es rows s w ≡ Err (NoSuchWire (record { 0 = w }))
  unfolding move_of
  moved_past h = cond-true (not (ltb w (length s.tokens))) _ _ (ap not (le-ltb _ _ h))

  module _ (h : w < length s.tokens) where
    pub moved-home : is_end es rows (get_or s.tokens w no_place) ≡ true → move_of takes applied es rows s w ≡ Err (AtHome (record { 0 = w }))
    unfolding move_of
    moved-home e = cond-false (not (ltb w (length s.tokens))) _ _ (ap not (lt-ltb _ _ h)) ∙ cond-true (is_end es rows (get_or s.tokens w no_place)) _ _ e

    -- a move that is looked for
    sought : is_end es rows (get_or s.tokens w no_place) ≡ false → (o : Option Moved) → move es rows s.tokens w ≡ o
        → move_of takes applied es rows s w ≡ elim o [ None ↦ Err (SeatEmpty (record { 0 = w })) | Some m ↦ moved_to takes applied s m ]
    unfolding move_of
    sought e o is = cond-false (not (ltb w (length s.tokens))) _ _ (ap not (lt-ltb _ _ h)) ∙ cond-false (is_end es rows (get_or s.tokens w no_place)) _ _ e
        ∙ rw is refl

    module _ (away : is_end es rows (get_or s.tokens w no_place) ≡ false) where
      -- a token that waits
      pub moved-not : movable es rows s.tokens (get_or s.tokens w no_place) ≡ false → move_of takes applied es rows s w ≡ Err (SeatEmpty (record { 0 = w }))
      moved-not waits = sought away None (move_none es rows s.tokens w h waits)

      module _ (can : movable es rows s.tokens (get_or s.tokens w no_place) ≡ true) (after : List Place)
          (led : advanced es rows (together es rows (get_or s.tokens w no_place)) s.tokens ≡ after) where
        made_of : (f : Option Fired) → fired_at es rows s.tokens (get_or s.tokens w no_place) ≡ f → move_of takes applied es rows s w ≡ moved_to takes applied s (record { tokens = after; fired = f })
        made_of f is = sought away _ (move_some es rows s.tokens w h can) ∙ ap₂ (λ (ts : List Place) (o : Option Fired). moved_to takes applied s (record { tokens = ts; fired = o })) led is

        -- a token that passes alone
        pub moved_on : is_seat es rows (get_or s.tokens w no_place) ≡ false → move_of takes applied es rows s w ≡ Ok (record { tokens = after; moves = suc s.moves; target = s.target })
        moved_on plain = made_of None (fired_none es rows s.tokens w h plain)

        module _ (g : GateName) (seat : is_seat es rows (get_or s.tokens w no_place) ≡ true) (rule : rule_at rows (get_or s.tokens w no_place).row.0 ≡ Gate g)
            (ws : List ℕ) (who : map (wire_at s.tokens) (together es rows (get_or s.tokens w no_place)) ≡ ws) where
          fires : move_of takes applied es rows s w ≡ moved_to takes applied s (record { tokens = after; fired = Some (record { gate = g; wires = ws }) })
          fires = made_of _ (fired-some es rows s.tokens w h g seat rule ∙ ap (λ (vs : List ℕ). Some (record { gate = g; wires = vs })) who)

          -- a gate that the target takes
          pub moved-fired : apply_fault takes s.target g ws ≡ None → move_of takes applied es rows s w ≡ Ok (record { tokens = after; moves = suc s.moves; target = applied_view applied s.target g ws })
          moved-fired fine = fires ∙ rw (fine, moved_to) refl

          -- a gate that the target refuses
          pub moved-refused : (e : Refusal) → apply_fault takes s.target g ws ≡ Some e → move_of takes applied es rows s w ≡ Err e
          moved-refused e fault = fires ∙ rw (fault, moved_to) refl
