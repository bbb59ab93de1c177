-- What the facts that a run keeps say of the next move of a wire.
use Rattle.std.proofs.Common.{◌≡◌, ℕ, suc, ◌^◌, ◌<◌, true, false, List, [], ◌++◌, map, length, get_or, take, Some, Option, sym, ap, ◌∙◌, subst, ⊎_elim, arith}
use mathlib.Core.Bool.{Bool-set}
use mathlib.Core.List.{is_set}
use mathlib.Core.Logic.{∥∥₁_elim, ∥∥₁_prop}
use native.Mathlib.Bridge.{le_prop}
use native.Mathlib.Nat.{ℕ_set}
use lib.Count.{ones}
use Rattle.std.specs.Option.{option_to_list}
use Rattle.std.proofs.lemmas.Bool.{cases_Bool}
use Rattle.basics.specs.declared.gate.Gate.{Gate as GateName}
use Rattle.derivation.specs.declared.types.TypeEntry.{TypeEntry}
use Rattle.derivation.specs.declared.rows.Rule.TheVariants.{Gate}
use Rattle.derivation.specs.declared.rows.Row.{Row}
use Rattle.derivation.specs.declared.rows.Place.{Place}
use Rattle.derivation.specs.Accepted.{Accepted}
use Rattle.derivation.specs.Judgements.{rule_at}
use Rattle.derivation.specs.Rows.{all_below}
use Rattle.theory.specs.Ports.{is_end}
use Rattle.theory.specs.Runs.{Reached, moved}
use Rattle.theory.specs.Tokens.{Fired, advanced, is_seat, movable, no_place, seats, together, wire_at}
use Rattle.theory.proofs.Assembled.{theory}
use Rattle.theory.proofs.Basics.{none_some, same_some}
use Rattle.theory.proofs.Progress.{move_facts}
use Rattle.target.specs.Interface.{numbers_of}
use Rattle.run.specs.declared.books.Waiting.{Waiting}
use Rattle.run.specs.Books.{Fit, Kept, Right, Underway, nobody, passed, stepped}
use Rattle.run.proofs.Bounds.{few-moves}
use Rattle.run.proofs.Firing.{fire-move, wires-below}
use Rattle.run.proofs.MoveCases.{fired-some, move_some}
use Rattle.run.proofs.MoveLaws.{full-moves, not_full, plain-move, row_low}
use Rattle.run.proofs.PlaceSets.{places-set}

module _ (es : List TypeEntry) (rows : List Row) (a : Accepted es rows) (b : Kept) (n : ℕ) (under : Underway es rows b.tokens n) (kept : ∥ Right es rows b ∥₁) where
  -- what follows from a run and right books, where it has at most one proof
  sure : {P : Type 0} → IsProp P → ((fired : List Fired) → Reached es rows b.tokens n fired → Right es rows b → P) → P
  sure prop f = ∥∥₁_elim under prop (λ (fired, run). ∥∥₁_elim kept prop (λ right. f fired run right))

  -- each row has room for its seats
  pub books_fit : Fit es rows b
  books_fit = (sure (ℕ_set _ _) (λ fired run right. right.fit.0), (λ r h. sure (ℕ_set _ _) (λ fired run right. right.fit.1 r h)), sure le_prop (λ fired run right. right.fit.2))

  -- a move more is counted, and its number is no larger than a counter can hold
  pub counted : (after : List Place) (f : List Fired) → ((fired : List Fired) → Reached es rows b.tokens n fired → Right es rows b → Reached es rows after (suc n) (fired ++ f)) → suc n < 2 ^ 32
  counted after f more = sure le_prop (λ fired run right. let t = theory es rows a in omega (arith, few-moves es rows a, (t.count after (suc n) (fired ++ f) (more fired run right)).1))

  module _ (w : ℕ) (l : w < length b.tokens) where
    module _ (plain : is_seat es rows (get_or b.tokens w no_place) ≡ false) (away : is_end es rows (get_or b.tokens w no_place) ≡ false) where
      pub plain-can : movable es rows b.tokens (get_or b.tokens w no_place) ≡ true
      plain-can = sure (Bool-set _ _) (λ fired run right. let (m, e, none, led, more) = plain-move es rows a b run right w l plain away in (move_facts es rows b.tokens w m e).1)

      pub plain-led : advanced es rows (together es rows (get_or b.tokens w no_place)) b.tokens ≡ (stepped es rows b w).tokens
      plain-led = sure (places-set _ _) (λ fired run right. let (m, e, none, led, more) = plain-move es rows a b run right w l plain away in sym (led ∙ (move_facts es rows b.tokens w m e).2))

      plain-reached : (fired : List Fired) → Reached es rows b.tokens n fired → Right es rows b → Reached es rows (stepped es rows b w).tokens (suc n) (fired ++ [])
      plain-reached fired run right =
          let (m, e, none, led, more) = plain-move es rows a b run right w l plain away in
          subst (λ (ts : List Place). Reached es rows ts (suc n) (fired ++ [])) (sym led) (subst (λ (o : Option Fired). Reached es rows m.tokens (suc n) (fired ++ option_to_list o)) none (moved run w m e))

      pub plain-under : Underway es rows (stepped es rows b w).tokens (suc n)
      plain-under = sure ∥∥₁_prop (λ fired run right. ∣ (fired ++ [], plain-reached fired run right) ∣₁)

      pub plain-kept : ∥ Right es rows (stepped es rows b w) ∥₁
      plain-kept = sure ∥∥₁_prop (λ fired run right. let (m, e, none, led, more) = plain-move es rows a b run right w l plain away in ∣ more ∣₁)

      pub plain-counted : suc n < 2 ^ 32
      plain-counted = counted (stepped es rows b w).tokens [] plain-reached

    module _ (seat : is_seat es rows (get_or b.tokens w no_place) ≡ true) where
      -- the gate's row, how many seats it has, and who waits there
      abbrev row : ℕ
      row = (get_or b.tokens w no_place).row.0

      abbrev many : ℕ
      many = seats (rule_at rows row)

      abbrev here : Waiting
      here = get_or b.waiting row nobody

      pub seat-row : row < length rows
      seat-row = sure le_prop (λ fired run right. row_low es rows a b run right w l seat)

      -- no token passes while a seat is empty
      pub waits : (ones here.wires ≡ many → ⊥) → movable es rows b.tokens (get_or b.tokens w no_place) ≡ false
      waits short = sure (Bool-set _ _) (λ fired run right. ⊎_elim
          (λ can. absurd (none_some (sym (not_full es rows a b run right w l seat short) ∙ move_some es rows b.tokens w l can)))
          (λ no. no) (cases_Bool (movable es rows b.tokens (get_or b.tokens w no_place))))

      module _ (full : ones here.wires ≡ many) where
        pub full-can : movable es rows b.tokens (get_or b.tokens w no_place) ≡ true
        full-can = sure (Bool-set _ _) (λ fired run right. full-moves es rows a b run right w l seat full)

        pub full-below : all_below (length b.tokens) (numbers_of (take many here.seats)) ≡ true
        full-below = sure (Bool-set _ _) (λ fired run right. wires-below es rows a b run right w l seat full)

        module _ (g : GateName) (rule : rule_at rows row ≡ Gate g) where
          abbrev fired-by : Fired
          fired-by = record { gate = g; wires = numbers_of (take many here.seats) }

          pub full-led : advanced es rows (together es rows (get_or b.tokens w no_place)) b.tokens ≡ (passed es rows b row many).tokens
          full-led = sure (places-set _ _) (λ fired run right. let (m, e, some, led, more) = fire-move es rows a b run right w l seat full g rule in sym (led ∙ (move_facts es rows b.tokens w m e).2))

          pub full-wires : map (wire_at b.tokens) (together es rows (get_or b.tokens w no_place)) ≡ numbers_of (take many here.seats)
          full-wires = sure (is_set ℕ_set _ _) (λ fired run right.
              let (m, e, some, led, more) = fire-move es rows a b run right w l seat full g rule in
              ap (λ (f : Fired). f.wires) (sym (same_some (sym some ∙ (move_facts es rows b.tokens w m e).3 ∙ fired-some es rows b.tokens w l g seat rule))))

          full-reached : (fired : List Fired) → Reached es rows b.tokens n fired → Right es rows b → Reached es rows (passed es rows b row many).tokens (suc n) (fired ++ option_to_list (Some fired-by))
          full-reached fired run right =
              let (m, e, some, led, more) = fire-move es rows a b run right w l seat full g rule in
              subst (λ (ts : List Place). Reached es rows ts (suc n) (fired ++ option_to_list (Some fired-by))) (sym led) (subst (λ (o : Option Fired). Reached es rows m.tokens (suc n) (fired ++ option_to_list o)) some (moved run w m e))

          pub full-under : Underway es rows (passed es rows b row many).tokens (suc n)
          full-under = sure ∥∥₁_prop (λ fired run right. ∣ (fired ++ option_to_list (Some fired-by), full-reached fired run right) ∣₁)

          pub full-kept : ∥ Right es rows (passed es rows b row many) ∥₁
          full-kept = sure ∥∥₁_prop (λ fired run right. let (m, e, some, led, more) = fire-move es rows a b run right w l seat full g rule in ∣ more ∣₁)

          pub full-counted : suc n < 2 ^ 32
          full-counted = counted (passed es rows b row many).tokens (option_to_list (Some fired-by)) full-reached
