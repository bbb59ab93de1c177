-- The machine makes exactly the steps of the relation.
use Rattle.std.proofs.Common.{◌≡◌, ℕ, zero, suc, ◌+◌, ◌<◌, true, false, cond, not, List, [], ◌∷◌, map, length, get_or, set, Some, None, Option, unwrap_or, sym, refl, ap, ◌∙◌, subst, ⊎_elim, add-zero, zero-add, arith, length-set}
use lib.ListN.{length-map}
use Rattle.std.proofs.lemmas.List.{ext_get_or, get_or-map, get_or-set_same, get_or-set_other}
use Rattle.std.proofs.lemmas.Bool.{and_parts, and_from, or_cases, not-true, not_from_false, both_ways, cond-true, cond-false, cases_Bool, lt-ltb}
use Rattle.basics.specs.declared.gate.Gate.{Gate as GateName}
use Rattle.derivation.specs.declared.types.TypeEntry.{TypeEntry}
use Rattle.derivation.specs.declared.rows.Rule.TheVariants.{Gate}
use Rattle.derivation.specs.declared.rows.Row.{Row}
use Rattle.derivation.specs.declared.rows.Place.{Place}
use Rattle.basics.specs.Gates.{arity}
use Rattle.derivation.specs.Judgements.{rule_at}
use Rattle.derivation.specs.Places.{numbers}
use Rattle.derivation.specs.Accepted.{Accepted}
use Rattle.derivation.proofs.TreeLaws.{not_so}
use Rattle.derivation.proofs.PlaceLaws.{length-numbers}
use Rattle.theory.specs.Ports.{at, listed, next, is_place, is_end}
use Rattle.theory.specs.Tokens.{Fired, Moved, no_place, same_place, among, wire_at, all_stand, is_seat, together, movable, advance, advanced, gate_fired, fired_at, move}
use Rattle.theory.specs.Steps.{Step}
use Rattle.theory.specs.Runs.{Reached}
use Rattle.theory.specs.Laws.{PortLaws, MovesAreSteps}
use Rattle.theory.proofs.Basics.{none_some, listed_at, at_listed}
use Rattle.theory.proofs.Ways.{place-parts, same_place_lem, among-here, wire-found, all-stand-from, all-stand_to, row-among, among-row, seat_facts, seat_is, together_seat, next-seat}
use Rattle.theory.proofs.Joined.{next-joins, joins-next}
use Rattle.theory.proofs.Progress.{move_facts, advanced_at, next_advance}

-- the first n places of row r's type
abbrev seats_at : ℕ → ℕ → List Place
seats_at r n = map (at r) (numbers 0 n)

-- there are as many as the arity
length-seats : (r n : ℕ) → length (seats_at r n) ≡ n
length-seats r n = length-map (numbers 0 n) (at r) ∙ length-numbers 0 n

-- a number of some in a row
get_or-numbers : (k n i : ℕ) → i < n → get_or (numbers k n) i 0 ≡ k + i
get_or-numbers k zero i h = absurd (omega arith)
get_or-numbers k (suc n) zero h = sym (add-zero k)
get_or-numbers k (suc n) (suc i) h = get_or-numbers (suc k) n i (omega arith) ∙ omega arith

-- the seat of an index
get_or-seats : (r n i : ℕ) → i < n → get_or (seats_at r n) i no_place ≡ at r i
get_or-seats r n i h = get_or-map (at r) (numbers 0 n) i 0 no_place (rw length-numbers h) ∙ ap (at r) (get_or-numbers 0 n i h ∙ zero-add i)

-- tokens that stand on different places of an accepted derivation
module _ (es : List TypeEntry) (rows : List Row) (a : Accepted es rows) (ports : PortLaws es rows) (tokens : List Place)
    (apart : (w v : ℕ) → w < length tokens → v < length tokens → get_or tokens w no_place ≡ get_or tokens v no_place → w ≡ v)
    (stand : (w : ℕ) → w < length tokens → is_place es rows (get_or tokens w no_place) ≡ true) where
  -- the place of a wire's token
  abbrev token : ℕ → Place
  token w = get_or tokens w no_place

  -- the wire whose token stands at a place
  wire_is : (w : ℕ) (p : Place) → w < length tokens → token w ≡ p → wire_at tokens p ≡ w
  wire_is w p l e =
      let f = wire-found tokens p (among-here p tokens w l e) in
      apart (wire_at tokens p) w f.0 l (f.1 ∙ sym e)

  -- what the tokens are after some have moved, by each token
  advanced_is : (ps after : List Place) → length after ≡ length tokens
      → ((v : ℕ) → v < length tokens → among (token v) ps ≡ true → get_or after v no_place ≡ advance es rows (token v))
      → ((v : ℕ) → v < length tokens → among (token v) ps ≡ false → get_or after v no_place ≡ token v)
      → after ≡ advanced es rows ps tokens
  advanced_is ps after n moving staying =
      ext_get_or no_place after (advanced es rows ps tokens) (n ∙ sym (length-map tokens (λ t. cond (among t ps) (advance es rows t) t)))
      (λ v k.
      let l : v < length tokens = omega (arith, n) in
      ⊎_elim (λ e. moving v l e ∙ sym (cond-true _ _ _ e)) (λ e. staying v l e ∙ sym (cond-false _ _ _ e)) (cases_Bool (among (token v) ps)) ∙ sym (advanced_at es rows ps tokens v l))

  -- one token that moves alone
  advanced_alone : (w : ℕ) → w < length tokens → set tokens w (advance es rows (token w)) ≡ advanced es rows (token w ∷ []) tokens
  advanced_alone w l =
      advanced_is (token w ∷ []) (set tokens w (advance es rows (token w))) (length-set tokens w _)
      (λ v k e.
      let same = alone v k e in ap (λ n. get_or (set tokens w (advance es rows (token w))) n no_place) same ∙ get_or-set_same tokens w _ no_place l ∙ ap (λ n. advance es rows (token n)) (sym same))
      (λ v k e. get_or-set_other tokens w v _ no_place (λ same. both_ways _ e (subst (λ n. among (token n) (token w ∷ []) ≡ true) (sym same) (among-here _ (token w ∷ []) 0 (omega arith) refl))))
    where
      alone : (v : ℕ) → v < length tokens → among (token v) (token w ∷ []) ≡ true → v ≡ w
      alone v k e = ⊎_elim (λ s. sym (apart w v l k (same_place_lem _ _ s))) (λ s. absurd (both_ways false refl s)) (or_cases (same_place (token w) (token v)) false e)

  -- the move of a wire that can move
  move_made : (w : ℕ) (after : List Place) (f : Option Fired) → w < length tokens → movable es rows tokens (token w) ≡ true
      → advanced es rows (together es rows (token w)) tokens ≡ after → fired_at es rows tokens (token w) ≡ f → move es rows tokens w ≡ Some (record { tokens = after; fired = f })
  unfolding move
  move_made w after f l h e k =
      cond-true _ _ _ (lt-ltb _ _ l) ∙ cond-true _ _ _ h
      ∙ ap (λ ts. Some (record { tokens = ts; fired = fired_at es rows tokens (token w) })) e ∙ ap (λ g. Some (record { tokens = after; fired = g })) k

  -- a place with a next place is no end
  next_no-end : (p q : Place) → next es rows p ≡ Some q → is_end es rows p ≡ false
  next_no-end p q e = not_so _ (λ t. none_some (sym (ports.at_end p t) ∙ e))

  -- a token at a place that is no seat moves alone, and fires nothing
  move_alone : (w : ℕ) (q : Place) → w < length tokens → is_seat es rows (token w) ≡ false → next es rows (token w) ≡ Some q
      → move es rows tokens w ≡ Some (record { tokens = set tokens w q; fired = None })
  move_alone w q l s e =
      let one : together es rows (token w) ≡ token w ∷ [] = cond-false _ _ _ s in
      move_made w (set tokens w q) None l
      (and_from _ _ (not_from_false _ (next_no-end (token w) q e)) (ap (all_stand tokens) one ∙ and_from _ true (among-here _ tokens w l refl) refl))
      (ap (λ ps. advanced es rows ps tokens) one ∙ sym (advanced_alone w l) ∙ ap (λ o. set tokens w (unwrap_or o (token w))) e)
      (cond-false _ _ _ s)

  -- a gate's row
  module _ (r : ℕ) (g : GateName) (h : r < length rows) (e : rule_at rows r ≡ Gate g) where
    -- the gate's seats
    abbrev seating : List Place
    seating = seats_at r (arity g)

    -- the wires at the gate's seats
    abbrev seated : List ℕ
    seated = map (wire_at tokens) seating

    -- what fires at a seat
    fired-seat : (i : ℕ) → i < arity g → fired_at es rows tokens (at r i) ≡ Some (record { gate = g; wires = seated })
    fired-seat i l =
        cond-true _ _ _ (seat_is es rows r g e i l)
        ∙ ap (λ k. gate_fired es rows k (map (wire_at tokens) (together es rows (at r i)))) e
        ∙ ap (λ ps. Some (record { gate = g; wires = map (wire_at tokens) ps })) (together_seat es rows r g e i l)

    -- the move of a gate whose seats are all held
    move-gate : (w i : ℕ) → w < length tokens → i < arity g → token w ≡ at r i → all_stand tokens seating ≡ true
        → move es rows tokens w ≡ Some (record { tokens = advanced es rows seating tokens; fired = Some (record { gate = g; wires = seated }) })
    move-gate w i l k t all =
        move_made w (advanced es rows seating tokens) (Some (record { gate = g; wires = seated })) l
        (ap (movable es rows tokens) t ∙ and_from _ _ (not_from_false _ (next_no-end (at r i) _ (next-seat es rows a r g e i k))) (ap (all_stand tokens) (together_seat es rows r g e i k) ∙ all))
        (ap (λ p. advanced es rows (together es rows p) tokens) t ∙ ap (λ ps. advanced es rows ps tokens) (together_seat es rows r g e i k))
        (ap (fired_at es rows tokens) t ∙ fired-seat i k)

    -- the seats are the gate's first places
    seat-among : (i : ℕ) → i < arity g → among (at r i) seating ≡ true
    seat-among i l = among-row r 0 (arity g) i (omega arith) (omega arith)

    -- a place among the seats is one of them
    among-seat : (p : Place) → among p seating ≡ true → (i : ℕ) × (i < arity g) × (p ≡ at r i)
    among-seat p m =
        let (i, l, e) = row-among r 0 (arity g) p m in
        (i, omega arith, sym e)

    -- a token at a seat comes to its result
    advance-seat : (v i : ℕ) → i < arity g → token v ≡ at r i → advance es rows (token v) ≡ at r (arity g + i)
    advance-seat v i l t = ap (advance es rows) t ∙ ap (λ o. unwrap_or o (at r i)) (next-seat es rows a r g e i l)

    -- each seat has one wire
    length-seated : length seated ≡ arity g
    length-seated = length-map seating (wire_at tokens) ∙ length-seats r (arity g)

    -- the wire of one seat
    get_or-seated : (i : ℕ) → i < arity g → get_or seated i 0 ≡ wire_at tokens (at r i)
    get_or-seated i l = get_or-map (wire_at tokens) seating i no_place 0 (rw length-seats l) ∙ ap (wire_at tokens) (get_or-seats r (arity g) i l)

    -- a gate whose seats are all held fires
    step-gate : (w i : ℕ) → w < length tokens → i < arity g → token w ≡ at r i → all_stand tokens seating ≡ true
        → Step es rows tokens w (Some (record { gate = g; wires = seated })) (advanced es rows seating tokens)
    step-gate w i l k t all =
        Step.fires l h e length-seated (wired w i k l t) holds (length-map tokens _)
        (λ j m. advanced_at es rows seating tokens (get_or seated j 0) (holds j m).0 ∙ cond-true _ _ _ (subst (λ p. among p seating ≡ true) (sym (holds j m).1) (seat-among j m)) ∙ advance-seat _ j m (holds j m).1)
        (λ v m n. advanced_at es rows seating tokens v m ∙ cond-false _ _ _ (not_so _ (λ b. let s = among-seat (token v) b in both_ways _ n (wired v s.0 s.1 m s.2))))
      where
        holds : (j : ℕ) → j < arity g → (get_or seated j 0 < length tokens) × (token (get_or seated j 0) ≡ at r j)
        holds j m =
            subst (λ v. (v < length tokens) × (token v ≡ at r j)) (sym (get_or-seated j m))
            (wire-found tokens (at r j) (all-stand-from tokens seating all (at r j) (seat-among j m)))

        wired : (v j : ℕ) → j < arity g → v < length tokens → token v ≡ at r j → listed v seated ≡ true
        wired v j m n s = subst (λ u. listed u seated ≡ true) (get_or-seated j m ∙ wire_is v (at r j) n s) (at_listed seated j (rw length-seated m))

    -- a gate that fires makes the move of its seats
    gate-moves : (w : ℕ) (ws : List ℕ) (after : List Place) → w < length tokens → length ws ≡ arity g → listed w ws ≡ true
        → ((i : ℕ) → i < arity g → (get_or ws i 0 < length tokens) × (token (get_or ws i 0) ≡ at r i))
        → length after ≡ length tokens
        → ((i : ℕ) → i < arity g → get_or after (get_or ws i 0) no_place ≡ at r (arity g + i))
        → ((v : ℕ) → v < length tokens → listed v ws ≡ false → get_or after v no_place ≡ token v)
        → move es rows tokens w ≡ Some (record { tokens = after; fired = Some (record { gate = g; wires = ws }) })
    gate-moves w ws after l n x holds m there others =
        let s = listed_at w ws x in
        let k : s.0 < arity g = omega (arith, s.1) in
        move-gate w s.0 l k (ap token (sym s.2) ∙ (holds s.0 k).1) (all-stand_to tokens seating all)
        ∙ ap (λ ts. Some (record { tokens = ts; fired = Some (record { gate = g; wires = seated }) })) (sym (advanced_is seating after m moving staying))
        ∙ ap (λ us. Some (record { tokens = after; fired = Some (record { gate = g; wires = us }) })) (sym same-wires)
      where
        all : (p : Place) → among p seating ≡ true → among p tokens ≡ true
        all p b = let (j, k, e) = among-seat p b in among-here p tokens (get_or ws j 0) (holds j k).0 ((holds j k).1 ∙ sym e)

        same-wires : ws ≡ seated
        same-wires =
            ext_get_or 0 ws seated (n ∙ sym length-seated)
            (λ j b. let k : j < arity g = omega arith in sym (get_or-seated j k ∙ wire_is (get_or ws j 0) (at r j) (holds j k).0 (holds j k).1))

        moving : (v : ℕ) → v < length tokens → among (token v) seating ≡ true → get_or after v no_place ≡ advance es rows (token v)
        moving v b c =
            let (j, k, t) = among-seat (token v) c in
            let same = apart v (get_or ws j 0) b (holds j k).0 (t ∙ sym (holds j k).1) in
            ap (λ u. get_or after u no_place) same ∙ there j k ∙ sym (advance-seat v j k t)

        staying : (v : ℕ) → v < length tokens → among (token v) seating ≡ false → get_or after v no_place ≡ token v
        staying v b c =
            others v b (not_so _ (λ y.
            let s = listed_at v ws y in
            let k : s.0 < arity g = omega (arith, s.1) in
            both_ways _ c (subst (λ p. among p seating ≡ true) (sym (holds s.0 k).1 ∙ ap token s.2) (seat-among s.0 k))))

  -- a wire has only one move
  step_as : (w : ℕ) (k m : Moved) → move es rows tokens w ≡ Some k → move es rows tokens w ≡ Some m → Step es rows tokens w k.fired k.tokens → Step es rows tokens w m.fired m.tokens
  step_as w k m d e s = let same : k ≡ m = cc in subst (λ n. Step es rows tokens w n.fired n.tokens) same s

  -- each move is a step
  step_from : (w : ℕ) (m : Moved) → move es rows tokens w ≡ Some m → Step es rows tokens w m.fired m.tokens
  step_from w m e =
      let (l, can, after, fired) = move_facts es rows tokens w m e in
      let (going, all) = and_parts (not (is_end es rows (token w))) _ can in
      let r = (token w).row.0 in
      let i = (token w).atom.0 in
      ⊎_elim
      (λ s.
      let (g, k, j, same) = seat_facts es rows (token w) s in
      let h = (place-parts es rows (token w) (stand w l)).0 in
      let here : token w ≡ at r i = sym same in
      let held = sym (ap (λ p. all_stand tokens (together es rows p)) here ∙ ap (all_stand tokens) (together_seat es rows r g k i j)) ∙ all in
      step_as w _ m (move-gate r g h k w i l j here held) e (step-gate r g h k w i l j here held))
      (λ s.
      let f = next_advance es rows ports (token w) (stand w l) (not-true _ going) in
      let (r, enters, joins) = next-joins es rows a (token w) _ (stand w l) s f in
      step_as w _ m (move_alone w _ l s f) e (Step.passes l refl enters joins))
      (cases_Bool (is_seat es rows (token w)))

  -- each step is a move
  move_of_lem : {w : ℕ} {f : Option Fired} {after : List Place} → Step es rows tokens w f after → move es rows tokens w ≡ Some (record { tokens = after; fired = f })
  move_of_lem (Step.passes {w = w} {r = r} {p = p} {q = q} l t enters joins) =
      let (n, s) = joins-next es rows a r p q (subst (λ x. is_place es rows x ≡ true) t (stand w l)) enters joins in
      move_alone w q l (ap (is_seat es rows) t ∙ s) (ap (next es rows) t ∙ n)
  move_of_lem (Step.fires {after = after} {w = w} {r = r} {g = g} {ws = ws} l h e n x holds m there others) = gate-moves r g h e w ws after l n x holds m there others

-- in runs whose tokens stand on different places of the derivation
module _ (es : List TypeEntry) (rows : List Row) (a : Accepted es rows) (ports : PortLaws es rows)
    (apart-tokens : (tokens : List Place) (n : ℕ) (fired : List Fired) → Reached es rows tokens n fired → (w v : ℕ) → w < length tokens → v < length tokens → get_or tokens w no_place ≡ get_or tokens v no_place → w ≡ v)
    (stand : (tokens : List Place) (n : ℕ) (fired : List Fired) → Reached es rows tokens n fired → (w : ℕ) → w < length tokens → is_place es rows (get_or tokens w no_place) ≡ true) where
  -- the machine makes exactly the steps of the relation
  pub moves_are-steps : MovesAreSteps es rows
  moves_are-steps tokens n fired reached w m = (
    step_from es rows a ports tokens (apart-tokens tokens n fired reached) (stand tokens n fired reached) w m,
    move_of_lem es rows a ports tokens (apart-tokens tokens n fired reached) (stand tokens n fired reached),
  )
