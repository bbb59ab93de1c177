-- No place is entered twice, and in a complete run each place is stood on by one wire, once.
use Rattle.std.proofs.Common.{◌≡◌, ℕ, zero, suc, ◌+◌, ◌<◌, Bool, true, false, cond, not, ◌&&◌, ◌⊎◌, List, [], ◌∷◌, ◌++◌, map, length, Some, sym, refl, ap, ◌∙◌, subst, inl, inr, ⊎_elim, arith}
use mathlib.Core.Path.{subst⁻¹}
use Rattle.std.proofs.lemmas.List.{append-nil}
use Rattle.std.proofs.lemmas.Bool.{both_ways, and_parts, and_from, not_from_false}
use Rattle.derivation.specs.declared.types.TypeEntry.{TypeEntry}
use Rattle.derivation.specs.declared.rows.Row.{Row}
use Rattle.derivation.specs.declared.rows.Place.{Place}
use Rattle.derivation.specs.Places.{wires, keep}
use Rattle.derivation.specs.Accepted.{Accepted}
use Rattle.derivation.proofs.TreeLaws.{not_so}
use Rattle.theory.specs.Ports.{is_end, starts}
use Rattle.theory.specs.Tokens.{Fired, Moved, same_place, among, together, advance, move}
use Rattle.theory.specs.Runs.{Reached, begun, moved}
use Rattle.theory.specs.Laws.{PortLaws, StartLaws, Saturates}
use Rattle.theory.specs.Visits.{Stand, standing, onward, entered, stands_on, VisitedOnce, Logged, begun as log-begun, moved as log-moved}
use Rattle.theory.proofs.Basics.{some_below, keep_append}
use Rattle.theory.proofs.Ways.{same_place_lem, place_same}
use Rattle.theory.proofs.Marked.{Comes, comes-once}
use Rattle.theory.proofs.Progress.{machine, placed, marked, VisitedBy, reached-length, run_fact, visited_place, step, move-fresh, move-visited, move-back, home-visited}
use Rattle.theory.proofs.Determined.{comes}

-- what is kept of elements that are made from others
keep-map : {A B : Type 0} (t : B → Bool) (f : A → B) (xs : List A) → keep t (map f xs) ≡ map f (keep (λ x. t (f x)) xs)
keep-map t f [] = refl
keep-map {A} {B} t f (x ∷ xs) = go (t (f x)) (keep-map t f xs)
  where
    go : (b : Bool) → keep t (map f xs) ≡ map f (keep (λ x. t (f x)) xs)
        → cond b (f x ∷ keep t (map f xs)) (keep t (map f xs)) ≡ map f (cond b (x ∷ keep (λ x. t (f x)) xs) (keep (λ x. t (f x)) xs))
    go true ih = ap (λ (l : List B). f x ∷ l) ih
    go false ih = ih

-- what passes one test and then another
keep-keep : {A : Type 0} (t u : A → Bool) (xs : List A) → keep t (keep u xs) ≡ keep (λ x. u x && t x) xs
keep-keep t u [] = refl
keep-keep {A} t u (x ∷ xs) = go (u x) (keep-keep t u xs)
  where
    go : (b : Bool) → keep t (keep u xs) ≡ keep (λ x. u x && t x) xs
        → keep t (cond b (x ∷ keep u xs) (keep u xs)) ≡ cond (b && t x) (x ∷ keep (λ x. u x && t x) xs) (keep (λ x. u x && t x) xs)
    go true ih = ap (λ (l : List A). cond (t x) (x ∷ l) l) ih
    go false ih = ih

-- where no token passes a test
stand_none : (u : Place → Bool) (k : ℕ) (tokens : List Place) → ((v : ℕ) → v < length tokens → u (placed tokens v) ≡ false)
    → keep (λ s. u s.place) (standing k tokens) ≡ []
stand_none u k [] none = refl
stand_none u k (p ∷ ps) none = rw (none 0 (omega arith)) (stand_none u (suc k) ps (λ v h. none (suc v) (omega arith)))

-- where one token passes a test
stand-one : (u : Place → Bool) (k : ℕ) (tokens : List Place) (v w : ℕ) → w ≡ k + v → v < length tokens → u (placed tokens v) ≡ true
    → ((j : ℕ) → j < length tokens → u (placed tokens j) ≡ true → j ≡ v)
    → keep (λ s. u s.place) (standing k tokens) ≡ record { wire = w; place = placed tokens v } ∷ []
stand-one u k [] v w e h y only = absurd (omega arith)
stand-one u k (p ∷ ps) zero w e h y only =
    let s : k ≡ w = omega arith in
    let rest = stand_none u (suc k) ps (λ v l. not_so _ (λ z. absurd (let n = only (suc v) (omega arith) z in omega arith))) in
    rw (y, rest, s) refl
stand-one u k (p ∷ ps) (suc v) w e h y only =
    let first : u p ≡ false = not_so _ (λ z. absurd (let n = only 0 (omega arith) z in omega arith)) in
    rw first (stand-one u (suc k) ps v w (omega arith) (omega arith) y (λ j l z. let n = only (suc j) (omega arith) z in omega arith))

module _ (es : List TypeEntry) (rows : List Row) (moving tokens : List Place) (p : Place) where
  -- a token at q moves to p
  abbrev enters : Place → Bool
  enters q = among q moving && same_place (advance es rows q) p

  -- what a move adds to the log of p
  stands_entered : stands_on p (entered es rows moving tokens) ≡ map (onward es rows) (keep (λ s. enters s.place) (standing 0 tokens))
  stands_entered =
      keep-map (λ s. same_place s.place p) (onward es rows) (keep (λ s. among s.place moving) (standing 0 tokens))
      ∙ ap (map (onward es rows)) (keep-keep (λ s. same_place (advance es rows s.place) p) (λ s. among s.place moving) (standing 0 tokens))

  -- where no token enters p
  entered_none : ((v : ℕ) → v < length tokens → enters (placed tokens v) ≡ false) → stands_on p (entered es rows moving tokens) ≡ []
  entered_none none = stands_entered ∙ ap (map (onward es rows)) (stand_none enters 0 tokens none)

  -- where one does
  entered_one : (v : ℕ) → v < length tokens → enters (placed tokens v) ≡ true → ((j : ℕ) → j < length tokens → enters (placed tokens j) ≡ true → j ≡ v)
      → stands_on p (entered es rows moving tokens) ≡ record { wire = v; place = advance es rows (placed tokens v) } ∷ []
  entered_one v h y only = stands_entered ∙ ap (map (onward es rows)) (stand-one enters 0 tokens v v (omega arith) h y only)

-- the run of a log
abbrev reached_by : (es : List TypeEntry) (rows : List Row) {tokens : List Place} {n : ℕ} {fired : List Fired} {log : List Stand}
    → Logged es rows tokens n fired log → Reached es rows tokens n fired
reached_by es rows log-begun = begun
reached_by es rows (log-moved l w m e) = moved (reached_by es rows l) w m e

-- each run has a log
log_of : (es : List TypeEntry) (rows : List Row) {tokens : List Place} {n : ℕ} {fired : List Fired}
    → Reached es rows tokens n fired → (log : List Stand) × Logged es rows tokens n fired log
log_of es rows begun = (_, log-begun)
log_of es rows (moved r w m e) = (_, log-moved (log_of es rows r).1 w m e)

-- p stands in a log once, with a wire that comes to it
record Seen (es : List TypeEntry) (rows : List Row) (p : Place) (log : List Stand) : Type 0 where
  wire : ℕ
  inside : wire < wires es rows
  comes : Comes (machine es rows) wire p
  stands : stands_on p log ≡ record { wire = wire; place = p } ∷ []

-- p was visited and stands in the log once, or was not and does not
abbrev Tally : (es : List TypeEntry) (rows : List Row) {tokens : List Place} {n : ℕ} {fired : List Fired}
    → Reached es rows tokens n fired → List Stand → Place → Type 0
Tally es rows r log p = (VisitedBy es rows r p × Seen es rows p log) ⊎ ((VisitedBy es rows r p → ⊥) × (stands_on p log ≡ []))

module _ (es : List TypeEntry) (rows : List Row) (a : Accepted es rows) (ports : PortLaws es rows) (begin : StartLaws es rows) where
  -- at the starts
  tally-begun : (p : Place) → Tally es rows begun (standing 0 (starts es rows)) p
  tally-begun p = ⊎_elim
      (λ (w, h, e).
      let same = same_place_lem (placed (starts es rows) w) p e in
      inl (
        inr (w, h, same),
        record {
          wire = w;
          inside = h;
          comes = (0, (λ j l. absurd (omega arith)), same);
          stands =
              stand-one on 0 (starts es rows) w w (omega arith) (outside w h) e
              (λ j l f. begin.distinct j w (within j l) h (same_place_lem _ p f ∙ sym same))
              ∙ ap (λ (q : Place). record { wire = w; place = q } ∷ []) same;
        },
      ))
      (λ none. inr (
        ⊎_elim (λ e. both_ways false refl e) (λ (w, h, e). both_ways _ (none w h) (place_same _ p e)),
        stand_none on 0 (starts es rows) (λ v l. none v (within v l)),
      ))
      (some_below (λ w. on (placed (starts es rows) w)) (wires es rows))
    where
      on : Place → Bool
      on q = same_place q p

      outside : (w : ℕ) → w < wires es rows → w < length (starts es rows)
      outside w h = subst⁻¹ (λ n. w < n) begin.count h

      within : (w : ℕ) → w < length (starts es rows) → w < wires es rows
      within w h = subst (λ n. w < n) begin.count h

  -- after a move
  module _ {tokens : List Place} {n : ℕ} {fired : List Fired} (r : Reached es rows tokens n fired) (w : ℕ) (m : Moved) (e : move es rows tokens w ≡ Some m) (p : Place) where
    -- the places that move
    abbrev moving : List Place
    moving = together es rows (placed tokens w)

    -- wire v enters p
    abbrev coming : ℕ → Bool
    coming v = enters es rows moving tokens p (placed tokens v)

    -- each wire has a token
    within : (v : ℕ) → v < length tokens → v < wires es rows
    within v h = subst (λ n. v < n) (reached-length es rows begin r) h

    -- the token of a wire that enters p moves, to p
    coming-with : (v : ℕ) → coming v ≡ true → ((machine es rows).with (placed tokens w) (placed tokens v) ≡ true) × (advance es rows (placed tokens v) ≡ p)
    coming-with v y =
        let (moves, s) = and_parts (among (placed tokens v) moving) _ y in
        (and_from _ _ (not_from_false _ (step es rows a ports begin r w m e).enabled.0) moves, same_place_lem _ p s)

    -- only one wire enters p
    coming-once : (v u : ℕ) → v < wires es rows → u < wires es rows → coming v ≡ true → coming u ≡ true → v ≡ u
    coming-once v u hv hu yv yu =
        let f = run_fact es rows a ports begin r in
        let g = marked es rows a ports begin in
        let (mv, ev) = coming-with v yv in
        let (mu, eu) = coming-with u yu in
        f.distinct v u hv hu
        (g.one_way _ _ (f.stands v hv) (f.stands u hu) (g.with_end _ _ mv) (g.with_end _ _ mu) (ev ∙ sym eu))

    -- where a wire enters p
    tally-new : (log : List Stand) → Tally es rows r log p → (v : ℕ) → v < wires es rows → coming v ≡ true
        → Tally es rows (moved r w m e) (log ++ entered es rows moving tokens) p
    tally-new log (inl (visited, seen)) v h y =
        let (moves, s) = coming-with v y in
        absurd (move-fresh es rows a ports begin r w m e v h moves (subst⁻¹ (VisitedBy es rows r) s visited))
    tally-new log (inr (new, empty)) v h y =
        let (moves, s) = coming-with v y in
        let arrived = (step es rows a ports begin r w m e).goes v h moves ∙ s in
        inl (
          inr (v, h, arrived),
          record {
            wire = v;
            inside = h;
            comes = subst (Comes (machine es rows) v) arrived (comes es rows a ports begin (moved r w m e) v h);
            stands =
                keep_append _ log _
                ∙ ap (λ (l : List Stand). l ++ stands_on p (entered es rows moving tokens)) empty
                ∙ entered_one es rows moving tokens p v (subst⁻¹ (λ n. v < n) (reached-length es rows begin r) h) y (λ j l z. coming-once j v (within j l) h z y)
                ∙ ap (λ (q : Place). record { wire = v; place = q } ∷ []) s;
          },
        )

    -- where none does
    tally-old : (log : List Stand) → Tally es rows r log p → ((v : ℕ) → v < wires es rows → coming v ≡ false)
        → Tally es rows (moved r w m e) (log ++ entered es rows moving tokens) p
    tally-old log before none = ⊎_elim
        (λ (visited, seen). inl (
          move-visited es rows a ports begin r w m e p visited,
          record {
            wire = seen.wire;
            inside = seen.inside;
            comes = seen.comes;
            stands = same ∙ seen.stands;
          },
        ))
        (λ (new, empty). inr ((λ visited. ⊎_elim new entering (move-back es rows a ports begin r w m e p visited)), same ∙ empty))
        before
      where
        same : stands_on p (log ++ entered es rows moving tokens) ≡ stands_on p log
        same =
            keep_append _ log _
            ∙ ap (λ (l : List Stand). stands_on p log ++ l) (entered_none es rows moving tokens p (λ v l. none v (within v l)))
            ∙ append-nil (stands_on p log)

        entering : (v : ℕ) × (v < wires es rows) × ((machine es rows).with (placed tokens w) (placed tokens v) ≡ true) × (advance es rows (placed tokens v) ≡ p) → ⊥
        entering (v, h, moves, s) = both_ways _ (none v h) (and_from _ _ (and_parts (not (is_end es rows (placed tokens w))) _ moves).1 (place_same _ p s))

  -- a log has each visited place once, and no other
  tally : {tokens : List Place} {n : ℕ} {fired : List Fired} {log : List Stand} (l : Logged es rows tokens n fired log) (p : Place) → Tally es rows (reached_by es rows l) log p
  tally log-begun p = tally-begun p
  tally (log-moved {log = before} l w m e) p =
      let r = reached_by es rows l in
      ⊎_elim
      (λ (v, h, y). tally-new r w m e p before (tally l p) v h y)
      (λ none. tally-old r w m e p before (tally l p) none)
      (some_below (coming r w m e p) (wires es rows))

  -- a wire that stands in the log with p comes to p
  stood : {tokens : List Place} {n : ℕ} {fired : List Fired} {log : List Stand} (l : Logged es rows tokens n fired log) (p : Place) (w : ℕ)
      → stands_on p log ≡ record { wire = w; place = p } ∷ [] → (w < wires es rows) × Comes (machine es rows) w p
  stood {log} l p w e = ⊎_elim
      (λ (visited, seen).
      let there = seen.stands in
      let one : ◌≡◌ {A = Stand} (record { wire = seen.wire; place = p }) (record { wire = w; place = p }) = cc in
      let same = ap (λ (s : Stand). s.wire) one in
      (subst (λ v. v < wires es rows) same seen.inside, subst (λ v. Comes (machine es rows) v p) same seen.comes))
      (λ (new, empty). let z : ◌≡◌ {A = ℕ} 0 1 = cc in absurd (omega arith))
      (tally l p)

  module _ (sat : Saturates es rows) where
    -- each run has a log, and each log has a place at most once, and once where all tokens are at ends
    pub visited-once : VisitedOnce es rows
    visited-once = record {
      logged = λ tokens n fired r. log_of es rows r;
      reached = λ tokens n fired log l. reached_by es rows l;
      once = λ tokens n fired log l p. ⊎_elim
          (λ (visited, seen). let one = ap length seen.stands in omega arith)
          (λ (new, empty). let none = ap length empty in omega arith)
          (tally l p);
      only = λ tokens n fired log l p h. ⊎_elim
          (λ (visited, seen). absurd (both_ways _ h (visited_place es rows a ports begin (reached_by es rows l) p visited)))
          (λ (new, empty). empty)
          (tally l p);
      all = λ tokens n fired log l home p h. ⊎_elim
          (λ (visited, seen). (seen.wire, seen.inside, seen.stands))
          (λ (new, empty). absurd (new (home-visited es rows a ports begin sat (reached_by es rows l) home p h)))
          (tally l p);
      same = λ s t m n fs gs k l first second p w v ew ev.
          let (hw, cw) = stood first p w ew in
          let (hv, cv) = stood second p v ev in
          comes-once (machine es rows) (marked es rows a ports begin) w v p p hw hv cw cv refl;
    }
