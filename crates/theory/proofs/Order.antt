-- Complete runs fire the same gates with the same wires, in the same order on each wire.
use Rattle.std.proofs.Common.{◌≡◌, ℕ, zero, suc, ◌<◌, ◌≤◌, Bool, true, false, cond, not, eqb, ltb, ◌⊎◌, List, [], ◌∷◌, ◌++◌, map, length, get_or, Some, None, sym, refl, ap, ◌∙◌, inl, inr, ⊎_elim, arith}
use Rattle.std.specs.Option.{option_to_list}
use Rattle.std.specs.List.{AllByRecursion as All}
use Rattle.std.proofs.ByRecursion.{All-append, All-get_or}
use Rattle.std.proofs.lemmas.List.{append-nil, length-map}
use Rattle.std.proofs.lemmas.Bool.{and_parts, or_cases, or_left, or_right, not-true, both_ways, cases_Bool, cases_lt, cond_both, cond-true, cond-false, eqb-true, ltb-true}
use Rattle.basics.specs.declared.gate.Gate.{Gate as GateName}
use Rattle.derivation.specs.declared.types.TypeEntry.{TypeEntry}
use Rattle.derivation.specs.declared.rows.Rule.{Rule}
use Rattle.derivation.specs.declared.rows.Rule.TheVariants.{Variable, Zero, One, Gate, Lambda, PairLambda, Apply, Pair}
use Rattle.derivation.specs.declared.rows.Row.{Row}
use Rattle.derivation.specs.declared.rows.Part.{Part}
use Rattle.derivation.specs.declared.rows.Part.TheVariants.{Ty, Variable as Var}
use Rattle.derivation.specs.declared.rows.Place.{Place}
use Rattle.derivation.specs.Judgements.{rule_at}
use Rattle.derivation.specs.Places.{numbers, wires}
use Rattle.derivation.specs.Accepted.{Accepted}
use Rattle.derivation.proofs.TreeLaws.{not_so}
use Rattle.derivation.proofs.PlaceLaws.{length-numbers}
use Rattle.theory.specs.Ports.{at, listed, is_place, is_end, starts, next}
use Rattle.theory.specs.Tokens.{among, seats, seat_in, is_seat, no_place, wire_at, all_stand, together, gate_fired, fired_at, advance, Fired}
use Rattle.theory.specs.Runs.{Reached, begun, moved}
use Rattle.theory.specs.Gates.{on_wire, Wired}
use Rattle.theory.specs.Laws.{PortLaws, StartLaws, Determined, Ordered}
use Rattle.theory.proofs.Basics.{keep_append}
use Rattle.theory.proofs.Ways.{place_same, wire-found, Mates, mates-from}
use Rattle.theory.proofs.Progress.{move_facts, advanced_at, next_advance, mates_no-end}
use Rattle.theory.proofs.Swapping.{Touches}

-- a wire that stands at one of some places has its token there
listed-stands : (tokens ps : List Place) (v : ℕ) → all_stand tokens ps ≡ true → listed v (map (wire_at tokens) ps) ≡ true
    → (v < length tokens) × (among (get_or tokens v no_place) ps ≡ true)
listed-stands tokens [] v h l = absurd (both_ways false refl l)
listed-stands tokens (p ∷ ps) v h l =
    let (here, rest) = and_parts (among p tokens) (all_stand tokens ps) h in
    ⊎_elim (λ e.
    let ev = eqb-true (wire_at tokens p) v e in
    let (k, at_p) = wire-found tokens p here in
    let at-v : get_or tokens v no_place ≡ p = cc in
    (omega arith, or_left _ _ (place_same p _ (sym at-v))))
    (λ e. let (k, there) = listed-stands tokens ps v rest e in (k, or_right _ _ there))
    (or_cases (eqb (wire_at tokens p) v) _ l)

module _ (es : List TypeEntry) (rows : List Row) where
  -- the same places move with two that move together
  mate_together : (p t : Place) → Mates es rows p t → together es rows p ≡ together es rows t
  mate_together p t (inl (x, y, e)) = rw (x, y, e) refl
  mate_together p t (inr (x, e)) = ap (together es rows) e

  -- and the same gate fires
  mate_fires : (tokens : List Place) (p t : Place) → Mates es rows p t → fired_at es rows tokens p ≡ fired_at es rows tokens t
  mate_fires tokens p t (inl (x, y, e)) = rw (x, y, e) refl
  mate_fires tokens p t (inr (x, e)) = ap (fired_at es rows tokens) e

  -- the wires of a gate that fires stand at its seats
  fired-wires : (tokens : List Place) (p : Place)
      → (fired_at es rows tokens p ≡ None) ⊎ ((g : GateName) × (fired_at es rows tokens p ≡ Some (record { gate = g; wires = map (wire_at tokens) (together es rows p) })))
  fired-wires tokens p = go (is_seat es rows p) (rule_at rows p.row.0) (map (wire_at tokens) (together es rows p))
    where
      go : (b : Bool) (rule : Rule) (ws : List ℕ)
          → (cond b (gate_fired es rows rule ws) None ≡ None) ⊎ ((g : GateName) × (cond b (gate_fired es rows rule ws) None ≡ Some (record { gate = g; wires = ws })))
      go false rule ws = inl refl
      go true Variable ws = inl refl
      go true Zero ws = inl refl
      go true One ws = inl refl
      go true (Gate g) ws = inr (g, refl)
      go true (Lambda q x) ws = inl refl
      go true (PairLambda q x y) ws = inl refl
      go true (Apply f x) ws = inl refl
      go true (Pair x y) ws = inl refl

  -- a wire is on a gate that fires only if its token moves
  unmet : (tokens : List Place) (p : Place) (w : ℕ) → all_stand tokens (together es rows p) ≡ true
      → (w < length tokens → among (get_or tokens w no_place) (together es rows p) ≡ true → ⊥) → on_wire w (option_to_list (fired_at es rows tokens p)) ≡ []
  unmet tokens p w h n =
      ⊎_elim (λ e. ap (λ o. on_wire w (option_to_list o)) e)
      (λ (g, e). ap (λ o. on_wire w (option_to_list o)) e ∙ cond-false _ _ _ (not_so _ (λ l. let (k, m) = listed-stands tokens (together es rows p) w h l in n k m)))
      (fired-wires tokens p)

  -- some token moves
  some_together : (p : Place) → 0 < length (together es rows p)
  some_together p = go p.part (rule_at rows p.row.0)
    where
      go : (part : Part) (rule : Rule) → 0 < length (cond (seat_in rule part p.atom.0) (map (at p.row.0) (numbers 0 (seats rule))) (p ∷ []))
      go Ty rule =
          cond_both (ltb p.atom.0 (seats rule)) _ (p ∷ []) (λ l. 0 < length l)
          (λ e. let l = ltb-true p.atom.0 (seats rule) e in rw (length-map, length-numbers) (omega arith)) (λ e. omega arith)
      go (Var x) rule = omega arith

  -- each gate that fired has a wire
  all_touch : {tokens : List Place} {n : ℕ} {fired : List Fired} → Reached es rows tokens n fired → All Touches fired
  all_touch begun = tt
  all_touch (moved {tokens} {n} {fired} r w m e) =
      All-append Touches fired (option_to_list m.fired) (all_touch r) (rw (move_facts es rows tokens w m e).3 (one (get_or tokens w no_place)))
    where
      one : (p : Place) → All Touches (option_to_list (fired_at es rows tokens p))
      one p = ⊎_elim (λ none. rw none tt) (λ (g, some). rw some (rw length-map (some_together p), tt)) (fired-wires tokens p)

  -- the same, by the numbers of the gates
  pub wired : {tokens : List Place} {n : ℕ} {fired : List Fired} → Reached es rows tokens n fired → Wired fired
  wired {tokens} {n} {fired} r i d h = All-get_or Touches fired i d h (all_touch r)

  -- in some run, a token of wire w passes from p to q and meets some gates
  record Passes (w : ℕ) (p q : Place) (gates : List Fired) : Type 0 where
    tokens : List Place
    count : ℕ
    fired : List Fired
    reached : Reached es rows tokens count fired
    place : is_place es rows p ≡ true
    stand : all_stand tokens (together es rows p) ≡ true
    onward : next es rows p ≡ Some q
    met : on_wire w (option_to_list (fired_at es rows tokens p)) ≡ gates

  -- a token of wire w that comes to q by so many moves has met some gates
  abbrev Passed : ℕ → ℕ → Place → List Fired → Type 0
  Passed w zero q gates = (get_or (starts es rows) w no_place ≡ q) × ([] ≡ gates)
  Passed w (suc k) q gates = (p : Place) × (before : List Fired) × (then : List Fired) × Passed w k p before × Passes w p q then × (before ++ then ≡ gates)

  module _ (a : Accepted es rows) (ports : PortLaws es rows) (begin : StartLaws es rows) (det : Determined es rows)
      (places : (tokens : List Place) (n : ℕ) (fired : List Fired) → Reached es rows tokens n fired → (w : ℕ) → w < length tokens → is_place es rows (get_or tokens w no_place) ≡ true)
      (as_many : (tokens : List Place) (n : ℕ) (fired : List Fired) → Reached es rows tokens n fired → length tokens ≡ wires es rows) where
    -- each wire has come to its place by moves, and met the gates that fired on it
    history : {tokens : List Place} {n : ℕ} {fired : List Fired} → Reached es rows tokens n fired → (w : ℕ) → w < wires es rows
        → (k : ℕ) × Passed w k (get_or tokens w no_place) (on_wire w fired)
    history begun w l = (0, (refl, refl))
    history (moved {tokens} {n} {fired} r v m e) w l =
        let (inside, can, moving, fires) = move_facts es rows tokens v m e in
        let p = get_or tokens v no_place in
        let (no_end, stand) = and_parts (not (is_end es rows p)) (all_stand tokens (together es rows p)) can in
        let t = get_or tokens w no_place in
        let (k, past) = history r w l in
        let within : w < length tokens = omega (arith, as_many tokens n fired r) in
        let place = places tokens n fired r w within in
        let after : get_or m.tokens w no_place ≡ cond (among t (together es rows p)) (advance es rows t) t =
        ap (λ ts. get_or ts w no_place) moving ∙ advanced_at es rows (together es rows p) tokens w within in
        let met : on_wire w (fired ++ option_to_list m.fired) ≡ on_wire w fired ++ on_wire w (option_to_list (fired_at es rows tokens p)) =
        keep_append _ fired (option_to_list m.fired) ∙ ap (λ o. on_wire w fired ++ on_wire w (option_to_list o)) fires in
        ⊎_elim
        (λ h. let b = mates-from es rows p t h in (
          suc k,
          (
            t,
            on_wire w fired,
            on_wire w (option_to_list (fired_at es rows tokens p)),
            past,
            record {
              tokens = tokens;
              count = n;
              fired = fired;
              reached = r;
              place = place;
              stand = rw (mate_together p t b) at stand;
              onward = next_advance es rows ports t place (mates_no-end es rows a p t (not-true _ no_end) b) ∙ ap Some (sym (after ∙ cond-true _ _ _ h));
              met = ap (λ o. on_wire w (option_to_list o)) (sym (mate_fires tokens p t b));
            },
            sym met,
          ),
        ))
        (λ h.
        let e1 = after ∙ cond-false _ _ _ h in
        let e2 = met ∙ ap (λ l. on_wire w fired ++ l) (unmet tokens p w stand (λ u. both_ways _ h)) ∙ append-nil (on_wire w fired) in
        (k, rw (e1, e2) past))
        (cases_Bool (among t (together es rows p)))

    -- the wires that stand at some places are the same in all runs
    same-wires : (s t : List Place) (m n : ℕ) (fs gs : List Fired) → Reached es rows s m fs → Reached es rows t n gs
        → (ps : List Place) → all_stand s ps ≡ true → all_stand t ps ≡ true → map (wire_at s) ps ≡ map (wire_at t) ps
    same-wires s t m n fs gs x y [] hs ht = refl
    same-wires s t m n fs gs x y (p ∷ ps) hs ht =
        let (s-here, s-rest) = and_parts (among p s) _ hs in
        let (t-here, t-rest) = and_parts (among p t) _ ht in
        let (s-within, s-at) = wire-found s p s-here in
        let (t_within, t-at) = wire-found t p t-here in
        let here =
        det.same_wire s t m n fs gs x y (wire_at s p) (wire_at t p)
        (omega (arith, as_many s m fs x)) (omega (arith, as_many t n gs y)) (s-at ∙ sym t-at) in
        let rest = same-wires s t m n fs gs x y ps s-rest t-rest in
        cc

    -- no token passes to a start
    start-apart : (w : ℕ) → w < wires es rows → (p q : Place) (gates : List Fired) → get_or (starts es rows) w no_place ≡ q → Passes w p q gates → ⊥
    start-apart w h p q gates e c =
        let (place, start) = begin.each w h in
        let none = ports.at_start (get_or (starts es rows) w no_place) place start in
        let some = (ports.forth p q c.place c.onward).1 in
        let z : ◌≡◌ {A = ℕ} 0 1 = cc in
        omega arith

    -- what a wire has met when it comes to a place is the same in all runs
    passed-same : (w : ℕ) → w < wires es rows → (k l : ℕ) (q : Place) (fs gs : List Fired) → Passed w k q fs → Passed w l q gs → fs ≡ gs
    passed-same w h zero zero q fs gs (e, x) (d, y) = sym x ∙ y
    passed-same w h zero (suc l) q fs gs (e, x) (p, before, then, past, c, y) = absurd (start-apart w h p q then e c)
    passed-same w h (suc k) zero q fs gs (p, before, then, past, c, y) (e, x) = absurd (start-apart w h p q then e c)
    passed-same w h (suc k) (suc l) q fs gs (p, before, then, past, c, x) (p', before', then', past', c', y) =
        let back = (ports.forth p q c.place c.onward).1 in
        let back' = (ports.forth p' q c'.place c'.onward).1 in
        let same : p' ≡ p = cc in
        let earlier = passed-same w h k l p before before' past (rw same at past') in
        let seated =
        same-wires c.tokens c'.tokens c.count c'.count c.fired c'.fired c.reached c'.reached
        (together es rows p) c.stand (rw same at c'.stand) in
        let met : on_wire w (option_to_list (fired_at es rows c.tokens p)) ≡ on_wire w (option_to_list (fired_at es rows c'.tokens p')) = rw (same, seated) refl in
        let e = c.met in
        let e' = c'.met in
        cc

    -- a number that is no wire is on no gate
    no-wire : {tokens : List Place} {n : ℕ} {fired : List Fired} → Reached es rows tokens n fired → (v : ℕ) → wires es rows ≤ v → on_wire v fired ≡ []
    no-wire begun v h = refl
    no-wire (moved {tokens} {n} {fired} r w m e) v h =
        let (inside, can, moving, fires) = move_facts es rows tokens w m e in
        let p = get_or tokens w no_place in
        let now = unmet tokens p v (and_parts (not (is_end es rows p)) (all_stand tokens (together es rows p)) can).1 (λ l. absurd (omega (arith, as_many tokens n fired r))) in
        keep_append _ fired (option_to_list m.fired) ∙ rw (no-wire r v h, fires) now

    -- complete runs fire the same gates in the same order on each wire
    pub ordered : Ordered es rows
    ordered s t m n fs gs x y hs ht v =
        ⊎_elim
        (λ l.
        let (k, past) = history x v l in
        let (j, past') = history y v l in
        passed-same v l k j (get_or s v no_place) (on_wire v fs) (on_wire v gs) past (rw (det.same_ends s t m n fs gs x y hs ht) past'))
        (λ l. no-wire x v l ∙ sym (no-wire y v l))
        (cases_lt v (wires es rows))
