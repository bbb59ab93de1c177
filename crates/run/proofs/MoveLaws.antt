-- Moves by what is kept: a token that goes on alone (plain-move), and tokens at seats, which can move if as many wait as there are
-- seats (full-moves), and otherwise cannot (not_full).
use Rattle.std.proofs.Common.{◌≡◌, ℕ, ◌<◌, ◌≤◌, true, false, cond, not, List, [], ◌∷◌, length, get_or, Some, None, sym, refl, ap, ◌∙◌, subst, ⊎_elim, arith}
use lib.Count.{ones}
use Rattle.std.proofs.lemmas.List.{get_or_default, get_or_past, length-map}
use Rattle.std.proofs.lemmas.Bool.{both_ways, and_parts, and_from, cases_Bool, cases_lt, cond-true, cond-false, or_left, eq-eqb, lt-ltb, not-true, not_from_false}
use Rattle.derivation.specs.declared.types.TypeEntry.{TypeEntry}
use Rattle.derivation.specs.declared.rows.Row.{Row}
use Rattle.derivation.specs.declared.rows.Place.{Place}
use Rattle.derivation.specs.Judgements.{rule_at}
use Rattle.derivation.specs.Accepted.{Accepted}
use Rattle.derivation.proofs.TreeLaws.{not_so}
use Rattle.theory.specs.Ports.{is_end, is_place, listed, next}
use Rattle.theory.specs.Runs.{Reached, moved}
use Rattle.theory.specs.Theory.{Theory}
use Rattle.theory.specs.Tokens.{Fired, Moved, advance, advanced, all_stand, among, fired_at, is_seat, movable, move, no_place, seats, together}
use Rattle.theory.proofs.Basics.{both_pass, listed-one}
use Rattle.theory.proofs.Assembled.{theory}
use Rattle.theory.proofs.Progress.{advanced_at, mates_no-end, move_facts, next_advance, reached-length, tokens-distinct, tokens-here}
use Rattle.theory.proofs.Ways.{among-at, among-here, mates-from, place-parts, seat_no_end}
use Rattle.run.specs.Books.{Kept, Right, nobody, stepped, stepped_all}
use Rattle.run.proofs.Standing.{nowhere, Held, Known, full-held, held-full}
use Rattle.run.proofs.RightLaws.{spots, can_movable, known-right, movable_can, right_known}
use Rattle.run.proofs.Stepping.{Unlike, awaited, all-step}
use Rattle.run.proofs.Leaving.{leave_plain}

module _ (es : List TypeEntry) (rows : List Row) (a : Accepted es rows) where
  all : Theory es rows
  all = theory es rows a

  -- tokens of a run stand at places, each at one of its own
  pub run_stand : {tokens : List Place} {n : ℕ} {fired : List Fired} → Reached es rows tokens n fired → (w : ℕ) → w < length tokens → is_place es rows (get_or tokens w no_place) ≡ true
  run_stand run w l = tokens-here es rows a all.ports all.begins run w (subst (λ k. w < k) (reached-length es rows all.begins run) l)

  pub run_apart : {tokens : List Place} {n : ℕ} {fired : List Fired} → Reached es rows tokens n fired
      → (w v : ℕ) → w < length tokens → v < length tokens → get_or tokens w no_place ≡ get_or tokens v no_place → w ≡ v
  run_apart run w v l k =
      let size = reached-length es rows all.begins run in
      tokens-distinct es rows a all.ports all.begins run w v (subst (λ j. w < j) size l) (subst (λ j. v < j) size k)

  -- known where the tokens are, it is right
  pub right_as : (c : Kept) (after : List Place) {n : ℕ} {fired : List Fired} → Reached es rows after n fired → length after ≤ 32 → c.tokens ≡ after → Known es rows (spots rows after) c → Right es rows c
  right_as c after run few same k =
      known-right es rows c
      (subst (λ ts. (w v : ℕ) → w < length ts → v < length ts → get_or ts w no_place ≡ get_or ts v no_place → w ≡ v) (sym same) (run_apart run))
      (subst (λ ts. (w : ℕ) → w < length ts → is_place es rows (get_or ts w no_place) ≡ true) (sym same) (run_stand run))
      (subst (λ ts. Known es rows (spots rows ts) c) (sym same) k)
      (subst (λ ts. length ts ≤ 32) (sym same) few)

  -- a move, and the wires that it moves
  module _ {tokens : List Place} {n : ℕ} {fired : List Fired} (run : Reached es rows tokens n fired) (few : length tokens ≤ 32)
      (w : ℕ) (m : Moved) (e : move es rows tokens w ≡ Some m) (ws : List ℕ) (inside : (v : ℕ) → listed v ws ≡ true → v < length tokens)
      (who : (v : ℕ) → v < length tokens → among (get_or tokens v no_place) (together es rows (get_or tokens w no_place)) ≡ listed v ws) where
    -- there are as many tokens as before
    same_size : length m.tokens ≡ length tokens
    same_size = ap length (move_facts es rows tokens w m e).2 ∙ length-map tokens _

    -- one token after the move
    after-at : (v : ℕ) → v < length tokens → get_or m.tokens v no_place ≡ cond (listed v ws) (advance es rows (get_or tokens v no_place)) (get_or tokens v no_place)
    after-at v l =
        ap (λ ts. get_or ts v no_place) (move_facts es rows tokens w m e).2 ∙ advanced_at es rows _ tokens v l
        ∙ ap (λ c. cond c (advance es rows (get_or tokens v no_place)) (get_or tokens v no_place)) (who v l)

    -- a token that moves has a next place
    goes_on : (v : ℕ) → listed v ws ≡ true → next es rows (get_or tokens v no_place) ≡ Some (get_or m.tokens v no_place)
    goes_on v h =
        let l = inside v h in
        let going = not-true _ (and_parts (not (is_end es rows (get_or tokens w no_place))) _ (move_facts es rows tokens w m e).1).0 in
        let mates = mates-from es rows (get_or tokens w no_place) (get_or tokens v no_place) (who v l ∙ h) in
        next_advance es rows all.ports (get_or tokens v no_place) (run_stand run v l) (mates_no-end es rows a (get_or tokens w no_place) (get_or tokens v no_place) going mates)
        ∙ ap Some (sym (after-at v l ∙ cond-true _ _ _ h))

    -- where the others are
    others-stay : (v : ℕ) → awaited es rows ws (spots rows tokens) v ≡ awaited es rows ws (spots rows m.tokens) v
    others-stay v = ⊎_elim
        (λ h. cond-true (listed v ws) _ _ h ∙ sym (cond-true (listed v ws) _ _ h))
        (λ h. ap (λ p. cond (listed v ws) (nowhere rows) p) (⊎_elim
        (λ l.
        get_or_default tokens v (nowhere rows) no_place l ∙ sym (after-at v l ∙ cond-false _ _ _ h)
        ∙ get_or_default m.tokens v no_place (nowhere rows) (omega (arith, same_size)))
        (λ l. get_or_past tokens v (nowhere rows) l ∙ sym (get_or_past m.tokens v (nowhere rows) (omega (arith, same_size))))
        (cases_lt v (length tokens))))
        (cases_Bool (listed v ws))

    -- what is kept is right when all of them have gone on
    pub moved-right : Unlike ws → (c : Kept) → c.tokens ≡ tokens → Known es rows (awaited es rows ws (spots rows tokens)) c
        → ((stepped_all es rows c ws).tokens ≡ m.tokens) × Right es rows (stepped_all es rows c ws)
    moved-right unlike c same k =
        let next-run = moved run w m e in
        let (tokens-are, known) = all-step es rows (seat_no_end es rows a) m.tokens (run_apart next-run) (run_stand next-run) ws c unlike (ap length same ∙ sym same_size)
        (λ v l h. ap (λ ts. get_or ts v no_place) same ∙ sym (after-at v (omega (arith, same_size)) ∙ cond-false _ _ _ h))
        (λ v h. (
          omega (arith, same_size, inside v h),
          ap (λ ts. is_place es rows (get_or ts v no_place)) same ∙ run_stand run v (inside v h),
          ap (λ ts. next es rows (get_or ts v no_place)) same ∙ goes_on v h,
        ))
        (subst (λ f. Known es rows f c) (λ i v. others-stay v i) k) in
        (tokens-are, right_as (stepped_all es rows c ws) m.tokens next-run (omega (arith, same_size)) tokens-are known)

  -- what is kept of a run is right
  module _ (b : Kept) {n : ℕ} {fired : List Fired} (run : Reached es rows b.tokens n fired) (right : Right es rows b) where
    pub known : Known es rows (spots rows b.tokens) b
    known = right_known es rows b (run_apart run) (run_stand run) right

    -- the move of a wire that can move
    pub made : (w : ℕ) → w < length b.tokens → movable es rows b.tokens (get_or b.tokens w no_place) ≡ true
        → move es rows b.tokens w ≡ Some (record { tokens = advanced es rows (together es rows (get_or b.tokens w no_place)) b.tokens; fired = fired_at es rows b.tokens (get_or b.tokens w no_place) })
    unfolding move
    made w l h = cond-true _ _ _ (lt-ltb _ _ l) ∙ cond-true _ _ _ h

    -- a token at a place that is no seat and no end goes on alone
    pub plain-move : (w : ℕ) → w < length b.tokens → is_seat es rows (get_or b.tokens w no_place) ≡ false → is_end es rows (get_or b.tokens w no_place) ≡ false
        → (m : Moved) × (move es rows b.tokens w ≡ Some m) × (m.fired ≡ None) × ((stepped es rows b w).tokens ≡ m.tokens) × Right es rows (stepped es rows b w)
    plain-move w l plain on = (
      _,
      made w l can,
      cond-false _ _ _ plain,
      onward.0,
      onward.1,
    )
      where
        p : Place
        p = get_or b.tokens w no_place

        alone : together es rows p ≡ p ∷ []
        alone = cond-false _ _ _ plain

        can : movable es rows b.tokens p ≡ true
        can = and_from _ _ (not_from_false _ on) (ap (all_stand b.tokens) alone ∙ and_from _ true (among-here p b.tokens w l refl) refl)

        inside : (v : ℕ) → listed v (w ∷ []) ≡ true → v < length b.tokens
        inside v h = subst (λ u. u < length b.tokens) (listed-one v w h) l

        who : (v : ℕ) → v < length b.tokens → among (get_or b.tokens v no_place) (together es rows p) ≡ listed v (w ∷ [])
        who v k = ap (among (get_or b.tokens v no_place)) alone ∙ both_pass _ _
            (λ h. let (i, j, e) = among-at (get_or b.tokens v no_place) (p ∷ []) h in
            let first : i ≡ 0 = omega arith in
            or_left _ false (eq-eqb w v (run_apart run w v l k (sym (ap (λ x. get_or (p ∷ []) x no_place) first) ∙ e))))
            (λ h. among-here _ (p ∷ []) 0 (omega arith) (ap (λ u. get_or b.tokens u no_place) (listed-one v w h)))

        left : Known es rows (awaited es rows (w ∷ []) (spots rows b.tokens)) b
        left = leave_plain es rows (spots rows b.tokens) (λ v. listed v (w ∷ [])) b
            (λ v s. not_so _ (λ h. both_ways _ (ap (λ u. is_seat es rows (spots rows b.tokens u)) (sym (listed-one v w h)) ∙ ap (is_seat es rows) (get_or_default b.tokens w (nowhere rows) no_place l) ∙ plain) s))
            known

        onward : ((stepped es rows b w).tokens ≡ advanced es rows (together es rows p) b.tokens) × Right es rows (stepped es rows b w)
        onward = moved-right run right.fit.2 w _ (made w l can) (w ∷ []) inside who (refl, tt) b refl left

    -- a wire that waits at a seat
    module _ (w : ℕ) (l : w < length b.tokens) (seat : is_seat es rows (get_or b.tokens w no_place) ≡ true) where
      -- its place and its row
      abbrev place : Place
      place = get_or b.tokens w no_place

      abbrev row : ℕ
      row = place.row.0

      pub row_low : row < length rows
      row_low = (place-parts es rows place (run_stand run w l)).0

      -- if as many wait as the row has seats, all its seats are held
      pub full-held-all : ones (get_or b.waiting row nobody).wires ≡ seats (rule_at rows row) → Held es rows (spots rows b.tokens) row
      full-held-all = full-held es rows (spots rows b.tokens) row (get_or b.waiting row nobody) (known.sits row row_low)

      -- and they can move
      pub full-moves : ones (get_or b.waiting row nobody).wires ≡ seats (rule_at rows row) → movable es rows b.tokens place ≡ true
      full-moves full =
          can_movable es rows b.tokens w place l (get_or_default b.tokens w (nowhere rows) no_place l)
          (seat_no_end es rows a place seat, λ s. full-held-all full)

      pub full-stands : ones (get_or b.waiting row nobody).wires ≡ seats (rule_at rows row) → all_stand b.tokens (together es rows place) ≡ true
      full-stands full = (and_parts (not (is_end es rows place)) _ (full-moves full)).1

      -- otherwise they wait
      pub not_full : (ones (get_or b.waiting row nobody).wires ≡ seats (rule_at rows row) → ⊥) → move es rows b.tokens w ≡ None
      unfolding move
      not_full short =
          cond-true _ _ _ (lt-ltb _ _ l)
          ∙ cond-false _ _ _ (not_so _ (λ m. short (held-full es rows (spots rows b.tokens) row (get_or b.waiting row nobody) (known.sits row row_low) ((movable_can es rows b.tokens place m).1 seat))))
