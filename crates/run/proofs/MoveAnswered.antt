-- What the call that moves a wire answers, case by case.
use Rattle.std.proofs.Common.{◌≡◌, ℕ, ◌+◌, ◌^◌, ◌<◌, ◌≤◌, Bool, true, false, cond, ◌&&◌, ltb, List, length, get_or, None, Ok, Err, Result, vec_items, sym, refl, ap, ◌∙◌, subst, ⊎_elim, arith}
use mathlib.Core.Path.{subst⁻¹}
use mathlib.Core.Bool.{Bool-set}
use mathlib.Core.Logic.{∥∥₁_elim}
use native.Mathlib.Numerals.{suc-eq-add-one}
use Rattle.std.proofs.lemmas.Bool.{and_from, cases_Bool, cond-true, ltb-true, ltb-false}
use Rattle.basics.specs.declared.gate.Gate.{Gate as GateName}
use Rattle.basics.specs.declared.refusal.Refusal.{Refusal}
use Rattle.basics.specs.declared.refusal.Refusal.TheVariants.{NoSuchWire}
use Rattle.derivation.specs.declared.types.TypeEntry.{TypeEntry}
use Rattle.derivation.specs.declared.rows.Row.{Row}
use Rattle.derivation.specs.declared.rows.Place.{Place}
use Rattle.derivation.specs.Accepted.{Accepted}
use Rattle.derivation.proofs.AcceptedLaws.{accepted_from_valid}
use Rattle.machine.specs.Calls.{seat_at}
use Rattle.theory.specs.Ports.{is_end, is_place}
use Rattle.theory.specs.Tokens.{is_seat, no_place}
use Rattle.theory.proofs.Basics.{none_some}
use Rattle.target.specs.Interface.{View}
use Rattle.run.specs.declared.run.Run.{Run}
use Rattle.run.specs.Answers.{MoveAnswers, move_in, place_of, stage_of}
use Rattle.run.specs.Books.{Fit, Kept, Right, Underway, books_of, stepped}
use Rattle.run.specs.Calls.{Stage}
use Rattle.run.proofs.MoveCases.{moved_on}
use Rattle.run.proofs.MoveFacts.{books_fit, plain-can, plain-counted, plain-kept, plain-led, plain-under}
use Rattle.run.proofs.MoveLaws.{run_stand}

-- which way a test led
passed_so : {A E : Type 0} (b : Bool) {x p : A} (f : E) → ◌≡◌ {A = Result A E} (Ok p) (cond b (Ok x) (Err f)) → (b ≡ true) × (p ≡ x)
passed_so true f e = (refl, cc)
passed_so false f e = cc

failed_so : {A E : Type 0} (b : Bool) (x : A) {e f : E} → ◌≡◌ {A = Result A E} (Err e) (cond b (Ok x) (Err f)) → (b ≡ false) × (f ≡ e)
failed_so true x e = cc
failed_so false x e = (refl, cc)

module _ (tokens : List Place) (w : ℕ) where
  -- a place that is told is that of a wire's token
  pub told_place : (p : Place) → Ok p ≡ place_of tokens w → (w < length tokens) × (p ≡ get_or tokens w no_place)
  told_place p e = let (below, is) = passed_so (ltb w (length tokens)) _ e in (ltb-true w (length tokens) below, is)

  -- otherwise there is no such wire
  pub told_none : (f : Refusal) → Err f ≡ place_of tokens w → (length tokens ≤ w) × (NoSuchWire (record { 0 = w }) ≡ f)
  told_none f e = let (past, is) = failed_so (ltb w (length tokens)) _ e in (ltb-false w (length tokens) past, is)

-- a move that is refused changes nothing
pub refused_so : {S : Type 0} (m : Result (Stage S) Refusal) (s : Stage S) (e : Refusal) → m ≡ Err e → MoveAnswers m s (Err e) s
refused_so {S} m s e is = subst⁻¹ (λ (r : Result (Stage S) Refusal). MoveAnswers r s (Err e) s) is (refl, refl)

module _ (es : List TypeEntry) (rows : List Row) (a : Accepted es rows) (tokens : List Place) (n : ℕ) (under : Underway es rows tokens n)
    (w : ℕ) (l : w < length tokens) (p : Place) (is : p ≡ get_or tokens w no_place) where
  stands : is_place es rows (get_or tokens w no_place) ≡ true
  stands = ∥∥₁_elim under (Bool-set _ _) (λ (fired, run). run_stand es rows a run w l)

  -- the token of a wire is at a place, so it is asked whether that is an end
  pub at_end : (t : Bool) → t ≡ (is_place es rows p && is_end es rows p) → is_end es rows (get_or tokens w no_place) ≡ t
  at_end t e = sym (e ∙ ap (λ (q : Place). is_place es rows q && is_end es rows q) is ∙ ap (λ (x : Bool). x && is_end es rows (get_or tokens w no_place)) stands)

  -- and whether it is a seat
  pub no_seat : None ≡ seat_at es rows p → is_seat es rows (get_or tokens w no_place) ≡ false
  no_seat e = ⊎_elim
      (λ t. absurd (none_some (e ∙ ap (seat_at es rows) is ∙ cond-true (is_place es rows (get_or tokens w no_place) && is_seat es rows (get_or tokens w no_place)) _ _ (and_from _ _ stands t))))
      (λ f. f) (cases_Bool (is_seat es rows (get_or tokens w no_place)))

-- a run, and one of its wires
module _ (run : Run) (w : ℕ) where
  abbrev es : List TypeEntry
  es = vec_items run.machine.types

  abbrev rows : List Row
  rows = vec_items run.machine.rows

  abbrev b : Kept
  b = books_of run.books

  abbrev n : ℕ
  n = run.moves

  a : Accepted es rows
  a = accepted_from_valid es rows run.machine.accepted

  -- the books are fit for one more step
  pub fit_now : Fit es rows b
  fit_now = books_fit es rows a b n run.reached run.kept

  -- its token is at place p, and that is an end or not
  pub told_end : (p : Place) → Ok p ≡ place_of b.tokens w → (t : Bool) → t ≡ (is_place es rows p && is_end es rows p) → (w < length b.tokens) × (is_end es rows (get_or b.tokens w no_place) ≡ t)
  told_end p told t end =
      let (l, is) = told_place b.tokens w p told in
      (l, at_end es rows a b.tokens n run.reached w l p is t end)

  -- a token that is neither home nor at a seat goes on alone
  module _ (p : Place) (told : Ok p ≡ place_of b.tokens w) (end : false ≡ (is_place es rows p && is_end es rows p)) (seat : None ≡ seat_at es rows p) where
    l : w < length b.tokens
    l = (told_end p told false end).0

    away : is_end es rows (get_or b.tokens w no_place) ≡ false
    away = (told_end p told false end).1

    plain : is_seat es rows (get_or b.tokens w no_place) ≡ false
    plain = let (l, is) = told_place b.tokens w p told in no_seat es rows a b.tokens n run.reached w l p is seat

    -- the books as they are kept after it
    module _ (c : Kept) (is : c ≡ stepped es rows b w) where
      pub step-under : Underway es rows c.tokens (n + 1)
      step-under = subst⁻¹ (λ (k : Kept). Underway es rows k.tokens (n + 1)) is (subst (λ (m : ℕ). Underway es rows (stepped es rows b w).tokens m) (suc-eq-add-one n) (plain-under es rows a b n run.reached run.kept w l plain away))

      pub step_kept : ∥ Right es rows c ∥₁
      step_kept = subst⁻¹ (λ (k : Kept). ∥ Right es rows k ∥₁) is (plain-kept es rows a b n run.reached run.kept w l plain away)

      pub step-counted : n + 1 < 2 ^ 32
      step-counted = omega (arith, plain-counted es rows a b n run.reached run.kept w l plain away)

      pub step-answer : {S : Type 0} (takes : GateName → Bool) (applied : GateName → List ℕ → S → S) (v : View S)
          → MoveAnswers (move_in takes applied run v w) (stage_of run v) (Ok tt) (record { tokens = c.tokens; moves = n + 1; target = v })
      step-answer {S} takes applied v =
          let s : Stage S = stage_of run v in
          let led = plain-led es rows a b n run.reached run.kept w l plain away ∙ ap (λ (k : Kept). k.tokens) (sym is) in
          let made = moved_on takes applied es rows s w l away (plain-can es rows a b n run.reached run.kept w l plain away) c.tokens led plain in
          subst⁻¹ (λ (r : Result (Stage S) Refusal). MoveAnswers r s (Ok tt) (record { tokens = c.tokens; moves = n + 1; target = v })) made
          (ap (λ (m : ℕ). record { tokens = c.tokens; moves = m; target = v }) (sym (suc-eq-add-one n)))
