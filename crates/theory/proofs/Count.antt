-- A run's moves are counted by the lead places that it has entered: all tokens are at ends exactly if every lead place has been entered.
use Rattle.std.proofs.Common.{◌≡◌, ℕ, suc, ◌+◌, ◌-◌, ◌<◌, ◌≤◌, Bool, true, false, cond, ◌&&◌, ◌||◌, List, [], ◌∷◌, length, Some, None, Option, unwrap_or, sym, refl, ap, ◌∙◌, subst, inl, inr, ⊎_elim, arith}
use mathlib.Core.Path.{fun_ext}
use Rattle.std.proofs.lemmas.Bool.{and_parts, and_from, not_from_false, cases_Bool, cases_lt, both_ways, lt-ltb, le-ltb, cond-true, cond-false}
use Rattle.derivation.specs.declared.types.TypeEntry.{TypeEntry}
use Rattle.basics.specs.declared.gate.Gate.{Gate as GateName}
use Rattle.derivation.specs.declared.rows.Rule.TheVariants.{Gate}
use Rattle.derivation.specs.declared.rows.Row.{Row}
use Rattle.derivation.specs.declared.rows.Place.{Place}
use Rattle.basics.specs.Gates.{arity}
use Rattle.derivation.specs.Judgements.{rule_at}
use Rattle.derivation.specs.Places.{keep, places, is_gate, moves}
use Rattle.derivation.specs.Accepted.{Accepted}
use Rattle.derivation.proofs.TreeLaws.{not_so}
use Rattle.theory.specs.Ports.{at, next, prev, is_place, is_end, is_start}
use Rattle.theory.specs.Tokens.{Fired, same_place, seats, is_seat, advance}
use Rattle.theory.specs.Runs.{Reached, begun, moved}
use Rattle.theory.specs.Laws.{PortLaws, StartLaws, Saturates, Home, Count}
use Rattle.theory.proofs.Basics.{both_pass, same_some}
use Rattle.theory.proofs.Signs.{gate-of}
use Rattle.theory.proofs.Ways.{place-parts, same_place_lem, place_same, seat_facts, next-seat, Mates}
use Rattle.theory.proofs.Marked.{RunFact, leaving}
use Rattle.theory.proofs.Progress.{machine, placed, with-from, with_to, marked, left_by, move_moves, next_advance, prev_advance, reached-length, run_fact, home-visited}
use Rattle.theory.proofs.Occurrences.{one, keep-cons}
use Rattle.theory.proofs.Starts.{occ-places}
use Rattle.theory.proofs.Leads.{is_late, late_facts, lead, seats-width, result-positive, lead-parts, lead-count}

-- what passes a test passes one of two others: so many of a list pass them together
keep_either : {A : Type 0} (t u v : A → Bool) → ((x : A) → one (t x) + one (u x) ≡ one (v x))
    → (xs : List A) → length (keep t xs) + length (keep u xs) ≡ length (keep v xs)
keep_either t u v h [] = refl
keep_either t u v h (x ∷ xs) = omega (arith, keep-cons t x xs, keep-cons u x xs, keep-cons v x xs, h x, keep_either t u v h xs)

-- what passes one test passes another: no more of a list pass the one
keep-fewer : {A : Type 0} (t u : A → Bool) → ((x : A) → one (t x) ≤ one (u x)) → (xs : List A) → length (keep t xs) ≤ length (keep u xs)
keep-fewer t u h [] = omega arith
keep-fewer t u h (x ∷ xs) = omega (arith, keep-cons t x xs, keep-cons u x xs, h x, keep-fewer t u h xs)

-- a test of what an option holds
abbrev holds : (Place → Bool) → Option Place → Bool
holds t (Some p) = t p
holds t None = false

module _ (es : List TypeEntry) (rows : List Row) (a : Accepted es rows) where
  -- a token at a seat goes on to the result of the same seat
  seat_advance : (p : Place) → is_seat es rows p ≡ true → advance es rows p ≡ at p.row.0 (seats (rule_at rows p.row.0) + p.atom.0)
  seat_advance p s =
      let (g, rule, h, e) = seat_facts es rows p s in
      let r = p.row.0 in
      let i = p.atom.0 in
      subst (λ (x : Place). advance es rows x ≡ at r (seats (rule_at rows r) + i)) e
      (ap (λ o. unwrap_or o (at r i)) (next-seat es rows a r g rule i h) ∙ ap (λ k. at r (seats k + i)) (sym rule))

  -- and a token at a result came from the seat
  result_prev : (r i : ℕ) → is_gate (rule_at rows r) ≡ true → seats (rule_at rows r) ≤ i → prev es rows (at r i) ≡ Some (at r (i - seats (rule_at rows r)))
  unfolding prev
  result_prev r i gated h = go (gate-of (rule_at rows r) gated).0 (gate-of (rule_at rows r) gated).1
    where
      go : (g : GateName) → rule_at rows r ≡ Gate g → prev es rows (at r i) ≡ Some (at r (i - seats (rule_at rows r)))
      go g e = let past = le-ltb i (arity g) (omega (arith, ap seats e)) in rw (result-positive es rows a r gated i h, e, past) refl

  -- what stands before a later result is a seat, and no first one
  late_seat : (p q : Place) → is_place es rows q ≡ true → is_late rows q ≡ true → prev es rows q ≡ Some p → (is_seat es rows p ≡ true) × (0 < p.atom.0)
  late_seat p q here late e =
      let r = q.row.0 in
      let i = q.atom.0 in
      let s = seats (rule_at rows r) in
      let (gated, above, whole) = late_facts rows q late in
      let both = seats-width es rows a r gated in
      let (row, below) = place-parts es rows (at r i) (subst (λ (x : Place). is_place es rows x ≡ true) (sym whole) here) in
      let same = same_some (sym (result_prev r i gated (omega arith)) ∙ ap (prev es rows) whole ∙ e) in
      subst (λ (x : Place). (is_seat es rows x ≡ true) × (0 < x.atom.0)) same (lt-ltb (i - s) s (omega arith), omega arith)

  -- what stands behind a seat that is no first one is a later result
  seat_late : (p : Place) → is_seat es rows p ≡ true → 0 < p.atom.0 → is_late rows (advance es rows p) ≡ true
  seat_late p s h =
      let r = p.row.0 in
      let (g, rule, within, e) = seat_facts es rows p s in
      subst (λ (x : Place). is_late rows x ≡ true) (sym (seat_advance p s))
      (and_from (is_gate (rule_at rows r)) _ (ap is_gate rule) (lt-ltb (seats (rule_at rows r)) (seats (rule_at rows r) + p.atom.0) (omega arith)))

  -- the first of the places that move together with p
  abbrev leader : Place → Place
  leader p = cond (is_seat es rows p) (at p.row.0 0) p

  -- among seats it is the first seat of the row
  leader_seat : (p : Place) → is_seat es rows p ≡ true → is_seat es rows (at p.row.0 0) ≡ true
  leader_seat p s = let (g, rule, within, e) = seat_facts es rows p s in lt-ltb 0 (seats (rule_at rows p.row.0)) (omega (arith, ap seats rule))

  -- it moves together with p
  leader_mate : (p : Place) → Mates es rows p (leader p)
  leader_mate p = ⊎_elim
      (λ (s : is_seat es rows p ≡ true). inl (s, rw s (leader_seat p s), rw s refl))
      (λ (s : is_seat es rows p ≡ false). inr (s, rw s refl))
      (cases_Bool (is_seat es rows p))

  -- if it is a seat, it is the first one
  leader_first : (p : Place) → is_seat es rows (leader p) ≡ true → (leader p).atom.0 ≡ 0
  leader_first p = ⊎_elim
      (λ (s : is_seat es rows p ≡ true). rw s (λ h. refl))
      (λ (s : is_seat es rows p ≡ false). rw s (λ h. absurd (both_ways _ s h)))
      (cases_Bool (is_seat es rows p))

  -- it is the only mate that is no seat or the first one
  leader_only : (p q : Place) → Mates es rows p q → (is_seat es rows q ≡ true → q.atom.0 ≡ 0) → leader p ≡ q
  leader_only p q (inl (s, t, e)) first =
      let (g, rule, within, f) = seat_facts es rows q t in
      cond-true _ _ _ s ∙ (let z = sym (first t) in λ i. at (e i) (z i)) ∙ f
  leader_only p q (inr (s, e)) first = cond-false _ _ _ s ∙ e

  module _ (ports : PortLaws es rows) (begin : StartLaws es rows) (p : Place) (here : is_place es rows p ≡ true) (on : is_end es rows p ≡ false) where
    -- the place after p is a lead place, if p is no seat or the first one
    lead-advance : (is_seat es rows p ≡ true → p.atom.0 ≡ 0) → lead es rows (advance es rows p) ≡ true
    lead-advance first =
        let q = advance es rows p in
        let came = prev_advance es rows ports p here on in
        let there = (ports.forth p q here (next_advance es rows ports p here on)).0 in
        and_from _ _ there (and_from _ _
        (not_from_false _ (not_so _ (λ y. let none = ports.at_start q there y in let z : ◌≡◌ {A = ℕ} 0 1 = cc in omega arith)))
        (not_from_false _ (not_so _ (λ y. let (seat, more) = late_seat p q there y came in omega (arith, first seat)))))

    -- and is not otherwise
    advance-lead : lead es rows (advance es rows p) ≡ true → is_seat es rows p ≡ true → p.atom.0 ≡ 0
    advance-lead y s = ⊎_elim
        (λ (h : 0 < p.atom.0). absurd (both_ways _ (lead-parts es rows (advance es rows p) y).2 (seat_late p s h)))
        (λ h. omega arith)
        (cases_lt 0 p.atom.0)

module _ (es : List TypeEntry) (rows : List Row) (a : Accepted es rows) (ports : PortLaws es rows) (begin : StartLaws es rows) where
  -- q is a lead place, and the place before it passes a test
  abbrev led : (Place → Bool) → Place → Bool
  led t q = lead es rows q && holds t (prev es rows q)

  -- then it is the place after one that passes
  led_from : (t : Place → Bool) (q : Place) → led t q ≡ true
      → (p : Place) × (is_place es rows p ≡ true) × (is_end es rows p ≡ false) × (advance es rows p ≡ q) × (t p ≡ true)
  led_from t q h = go (prev es rows q) refl (and_parts (lead es rows q) _ h).1
    where
      go : (o : Option Place) → prev es rows q ≡ o → holds t o ≡ true
          → (p : Place) × (is_place es rows p ≡ true) × (is_end es rows p ≡ false) × (advance es rows p ≡ q) × (t p ≡ true)
      go (Some p) e y =
          let (here, after) = ports.back p q (lead-parts es rows q (and_parts (lead es rows q) _ h).0).0 e in
          (p, here, not_so _ (λ ended. let none = ports.at_end p ended in let z : ◌≡◌ {A = ℕ} 0 1 = cc in omega arith), ap (λ o. unwrap_or o p) after, y)
      go None e y = absurd (both_ways false refl y)

  -- and the place after one that passes is so, if it is a lead place
  led_to : (t : Place → Bool) (p : Place) → is_place es rows p ≡ true → is_end es rows p ≡ false → lead es rows (advance es rows p) ≡ true → t p ≡ true
      → led t (advance es rows p) ≡ true
  led_to t p here on first y = and_from _ _ first (ap (holds t) (prev_advance es rows ports p here on) ∙ y)

  -- what a token at p enters with those that move together with it
  module _ (p : Place) (here : is_place es rows p ≡ true) (on : is_end es rows p ≡ false) where
    -- the first of them is a place, and no end
    leader-with : (machine es rows).with p (leader es rows a p) ≡ true
    leader-with = with_to es rows p (leader es rows a p) on (leader_mate es rows a p)

    leader-here : is_place es rows (leader es rows a p) ≡ true
    leader-here = (marked es rows a ports begin).with_here p (leader es rows a p) here leader-with

    leader-on : is_end es rows (leader es rows a p) ≡ false
    leader-on = (marked es rows a ports begin).with_end p (leader es rows a p) leader-with

    -- the place after it is a lead place, the only one that is entered, and stands among the places once
    abbrev entry : Place
    entry = advance es rows (leader es rows a p)

    entry-lead : lead es rows entry ≡ true
    entry-lead = lead-advance es rows a ports begin (leader es rows a p) leader-here leader-on (leader_first es rows a p)

    entry-only : (q : Place) → led ((machine es rows).with p) q ≡ same_place q entry
    entry-only q = both_pass _ _ from to
      where
        from : led ((machine es rows).with p) q ≡ true → same_place q entry ≡ true
        from h =
            let (x, x-here, x-on, e, y) = led_from ((machine es rows).with p) q h in
            let first = advance-lead es rows a ports begin x x-here x-on (subst (λ z. lead es rows z ≡ true) (sym e) (and_parts (lead es rows q) _ h).0) in
            place_same q entry (sym e ∙ ap (advance es rows) (sym (leader_only es rows a p x (with-from es rows p x y).1 first)))

        to : same_place q entry ≡ true → led ((machine es rows).with p) q ≡ true
        to h =
            subst (λ z. led ((machine es rows).with p) z ≡ true) (sym (same_place_lem q entry h))
            (led_to ((machine es rows).with p) (leader es rows a p) leader-here leader-on entry-lead leader-with)

    entry-once : length (keep (λ q. same_place q entry) (places es rows)) ≡ 1
    entry-once = occ-places es rows a entry ∙ ap one (lead-parts es rows entry entry-lead).0

  -- tests that do not both pass are counted apart
  led_apart : (t u : Place → Bool) → ((p : Place) → t p ≡ true → u p ≡ true → ⊥)
      → (q : Place) → one (led t q) + one (led u q) ≡ one (led (λ p. t p || u p) q)
  led_apart t u apart q = go (lead es rows q) (prev es rows q)
    where
      alone : (b c : Bool) → (b ≡ true → c ≡ true → ⊥) → one b + one c ≡ one (b || c)
      alone true true h = absurd (h refl refl)
      alone true false h = refl
      alone false c h = omega arith

      go : (b : Bool) (o : Option Place) → one (b && holds t o) + one (b && holds u o) ≡ one (b && holds (λ p. t p || u p) o)
      go true (Some p) = alone (t p) (u p) (apart p)
      go true None = refl
      go false o = refl

  -- a move from places that were not left enters one lead place more
  led_more : (left : Place → Bool) (p : Place) → is_place es rows p ≡ true → is_end es rows p ≡ false
      → ((q : Place) → left q ≡ true → (machine es rows).with p q ≡ true → ⊥)
      → length (keep (led (leaving (machine es rows) left p)) (places es rows)) ≡ suc (length (keep (led left) (places es rows)))
  led_more left p here on apart =
      let with-p = (machine es rows).with p in
      let more = keep_either (led left) (led with-p) (led (leaving (machine es rows) left p)) (led_apart left with-p apart) (places es rows) in
      let new = ap (λ (t : Place → Bool). length (keep t (places es rows))) (fun_ext (entry-only p here on)) in
      omega (arith, more, new, entry-once p here on)

  -- and never more than all are entered
  led_few : (t : Place → Bool) → length (keep (led t) (places es rows)) ≤ moves es rows
  led_few t = omega (arith, keep-fewer (led t) (lead es rows) (λ q. within (lead es rows q) (holds t (prev es rows q))) (places es rows), lead-count es rows a)
    where
      within : (b c : Bool) → one (b && c) ≤ one b
      within true true = omega arith
      within true false = omega arith
      within false c = omega arith

  -- the moves of a run are as many as the lead places behind those that tokens have left
  reached-many : {tokens : List Place} {n : ℕ} {fired : List Fired} (r : Reached es rows tokens n fired)
      → length (keep (led (left_by es rows r)) (places es rows)) ≡ n
  reached-many begun =
      let none : Place → Bool = λ p. false in
      omega (arith, keep_either (led none) (led none) (led none) (led_apart none none (λ p y z. both_ways false refl y)) (places es rows))
  reached-many (moved {tokens = before} r w m e) =
      let k = move_moves es rows before (reached-length es rows begin r) w m e in
      let f = run_fact es rows a ports begin r in
      let left = left_by es rows r in
      led_more left (placed before w) (f.stands w k.wire) k.enabled.0
      (λ x y z. let (v, h, s) = k.enabled.1 x z in both_ways (left x) (subst (λ c. left c ≡ false) s (f.off v h)) y)
      ∙ ap suc (reached-many r)

  -- a run with as many moves as lead places is complete
  full_home : {tokens : List Place} {n : ℕ} {fired : List Fired} → Reached es rows tokens n fired → n ≡ moves es rows → Home es rows tokens
  full_home {tokens} r full w h =
      let p = placed tokens w in
      let f = run_fact es rows a ports begin r in
      let left = left_by es rows r in
      let apart : (q : Place) → left q ≡ true → (machine es rows).with p q ≡ true → ⊥
      = λ q y z. both_ways (left p) (f.off w h) (f.whole q p ((marked es rows a ports begin).with_sym p q z) y) in
      ⊎_elim
      (λ e. e)
      (λ on. absurd (omega (arith, full, reached-many r, led_more left p (f.stands w h) on apart, led_few (leaving (machine es rows) left p))))
      (cases_Bool (is_end es rows p))

  module _ (sat : Saturates es rows) where
    -- a complete run has entered every lead place
    home-full : {tokens : List Place} {n : ℕ} {fired : List Fired} → Reached es rows tokens n fired → Home es rows tokens → n ≡ moves es rows
    home-full {tokens} r home = sym (reached-many r) ∙ ap (λ (t : Place → Bool). length (keep t (places es rows))) (fun_ext all) ∙ lead-count es rows a
      where
        left : Place → Bool
        left = left_by es rows r

        f : RunFact (machine es rows) (placed tokens) left
        f = run_fact es rows a ports begin r

        all : (q : Place) → led left q ≡ lead es rows q
        all q = both_pass _ _ (λ h. (and_parts (lead es rows q) _ h).0) (λ h.
            let (here, no_start, no-late) = lead-parts es rows q h in
            ⊎_elim
            (λ (w, l, e). absurd (both_ways _ no_start (subst (λ x. is_start es rows x ≡ true) e (begin.each w l).1)))
            (λ (p, y, e).
            let (there, on, next) = f.goes_on p y in
            subst (λ x. led left x ≡ true) e (led_to left p there on (subst (λ x. lead es rows x ≡ true) (sym e) h) y))
            (f.came q (home-visited es rows a ports begin sat r home q here)))

    -- all are at ends exactly if the moves number N, and never more than N can be made
    pub count : Count es rows
    count tokens n fired r = ((home-full r, full_home r), subst (λ k. k ≤ moves es rows) (reached-many r) (led_few (left_by es rows r)))
