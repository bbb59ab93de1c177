-- The machine as a net of tokens. After any moves the tokens stand on different places that none has left (run_fact), a place that a
-- token enters is new (move-fresh), and where no wire can move all places were visited and all tokens are at ends (all-visited, all-home);
-- so some wire can move exactly while some token is not at an end (progress).
use Rattle.std.proofs.Common.{◌≡◌, ℕ, ◌<◌, Bool, true, false, cond, not, ◌&&◌, ltb, ◌⊎◌, List, length, get_or, Some, sym, ap, ◌∙◌, subst, inl, inr, ⊎_elim}
use mathlib.Core.Path.{subst⁻¹}
use Rattle.std.proofs.lemmas.List.{get_or-map, length-map}
use Rattle.std.proofs.lemmas.Bool.{both_ways, and_parts, and_from, and_left, and_cases, not-true, not_from_true, not_from_false, ltb-true, cond-true, cond-false}
use Rattle.derivation.specs.declared.types.TypeEntry.{TypeEntry}
use Rattle.derivation.specs.declared.rows.Row.{Row}
use Rattle.derivation.specs.declared.rows.Place.{Place}
use Rattle.derivation.specs.Places.{wires}
use Rattle.derivation.specs.Accepted.{Accepted}
use Rattle.theory.specs.Ports.{next, prev, is_place, is_end, starts}
use Rattle.theory.specs.Tokens.{Fired, Moved, no_place, among, together, movable, advance, advanced, fired_at, move}
use Rattle.theory.specs.Runs.{Reached, begun, moved}
use Rattle.theory.specs.Laws.{PortLaws, StartLaws, Saturates, Home, Progress}
use Rattle.theory.proofs.Basics.{some_below, none_some, same_some, some-under, value_some}
use Rattle.theory.proofs.Ways.{among-at, among-here, all-stand-from, all-stand_to, Mates, mates-from, mates_to, mates_self, mates_sym, mates_trans, seat_place, seat_no_end}
use Rattle.theory.proofs.Marked.{Net, Marked, Enabled, leaving, Visited, RunFact, Closes, start-fact, fresh, visited-on, visited-back, moved-fact, visited-here, stuck-visited, stuck-home}

-- the machine's places and moves as a net; places move together where none is an end
abbrev pub machine : List TypeEntry → List Row → Net Place
machine es rows = record {
  here = is_place es rows;
  wires = wires es rows;
  start = λ w. get_or (starts es rows) w no_place;
  next = advance es rows;
  end = is_end es rows;
  with = λ p q. not (is_end es rows p) && among q (together es rows p);
}

-- where the tokens of a list stand
abbrev pub placed : List Place → ℕ → Place
placed tokens w = get_or tokens w no_place

module _ (es : List TypeEntry) (rows : List Row) where
  -- what a move is: w's token can move, and all that move with it go on
  pub move_facts : (tokens : List Place) (w : ℕ) (m : Moved) → move es rows tokens w ≡ Some m
      → (w < length tokens) × (movable es rows tokens (placed tokens w) ≡ true)
      × (m.tokens ≡ advanced es rows (together es rows (placed tokens w)) tokens) × (m.fired ≡ fired_at es rows tokens (placed tokens w))
  unfolding move
  move_facts tokens w m e =
      let (inside, e1) = some-under (ltb w (length tokens)) _ m e in
      let (can, e2) = some-under (movable es rows tokens (placed tokens w)) _ m e1 in
      (ltb-true _ _ inside, can, ap (λ (k : Moved). k.tokens) (sym (same_some e2)), ap (λ (k : Moved). k.fired) (sym (same_some e2)))

  -- a token can move exactly if it is enabled
  pub enabled-from : (tokens : List Place) (p : Place) → length tokens ≡ wires es rows → movable es rows tokens p ≡ true → Enabled (machine es rows) (placed tokens) p
  enabled-from tokens p size e =
      let (no_end, all) = and_parts (not (is_end es rows p)) _ e in (
        not-true _ no_end,
        λ q m.
            let (w, h, s) = among-at q tokens (all-stand-from tokens (together es rows p) all q (and_parts _ (among q (together es rows p)) m).1) in
            (w, subst (λ n. w < n) size h, s),
      )

  pub enabled_to : (tokens : List Place) (p : Place) → length tokens ≡ wires es rows → Enabled (machine es rows) (placed tokens) p → movable es rows tokens p ≡ true
  enabled_to tokens p size (no_end, held) =
      let free = not_from_false _ no_end in
      and_from _ _ free
      (all-stand_to tokens (together es rows p) (λ q m. let (w, h, s) = held q (and_from _ _ free m) in among-here q tokens w (subst⁻¹ (λ n. w < n) size h) s))

  -- the tokens of a move, one by one
  pub advanced_at : (moving tokens : List Place) (v : ℕ) → v < length tokens
      → placed (advanced es rows moving tokens) v ≡ cond (among (placed tokens v) moving) (advance es rows (placed tokens v)) (placed tokens v)
  advanced_at moving tokens v h = get_or-map (λ t. cond (among t moving) (advance es rows t) t) tokens v no_place no_place h

-- what a move of wire w does: its token and all that move with it go on, and the others stay
pub record Moves (es : List TypeEntry) (rows : List Row) (tokens : List Place) (w : ℕ) (after : List Place) : Type 0 where
  pub wire : w < wires es rows
  pub size : length after ≡ wires es rows
  pub enabled : Enabled (machine es rows) (placed tokens) (placed tokens w)
  pub goes : (v : ℕ) → v < wires es rows → (machine es rows).with (placed tokens w) (placed tokens v) ≡ true → placed after v ≡ advance es rows (placed tokens v)
  pub stays : (v : ℕ) → v < wires es rows → (machine es rows).with (placed tokens w) (placed tokens v) ≡ false → placed after v ≡ placed tokens v

module _ (es : List TypeEntry) (rows : List Row) where
  -- what a move of the machine does
  pub move_moves : (tokens : List Place) → length tokens ≡ wires es rows → (w : ℕ) (m : Moved) → move es rows tokens w ≡ Some m → Moves es rows tokens w m.tokens
  move_moves tokens size w m e =
      let (h, can, after, fired) = move_facts es rows tokens w m e in
      let p = placed tokens w in
      let moving = together es rows p in
      let on = enabled-from es rows tokens p size can in
      let inside : (v : ℕ) → v < wires es rows → v < length tokens = λ v l. subst⁻¹ (λ n. v < n) size l in
      let one : (v : ℕ) → v < wires es rows → placed m.tokens v ≡ cond (among (placed tokens v) moving) (advance es rows (placed tokens v)) (placed tokens v)
      = λ v l. ap (λ (ts : List Place). placed ts v) after ∙ advanced_at es rows moving tokens v (inside v l) in
      record {
        wire = subst (λ n. w < n) size h;
        size = ap length after ∙ length-map tokens _ ∙ size;
        enabled = on;
        goes = λ v l y. one v l ∙ cond-true _ _ _ (and_parts (not (is_end es rows p)) _ y).1;
        stays = λ v l y. one v l ∙ cond-false _ _ _ (⊎_elim (λ f. absurd (both_ways _ f (not_from_false _ on.0))) (λ f. f) (and_cases _ _ y));
      }

  -- what moves together: a place that is no end and its mates
  pub with-from : (p q : Place) → (machine es rows).with p q ≡ true → (is_end es rows p ≡ false) × Mates es rows p q
  with-from p q e = let (n, m) = and_parts (not (is_end es rows p)) (among q (together es rows p)) e in (not-true _ n, mates-from es rows p q m)

  pub with_to : (p q : Place) → is_end es rows p ≡ false → Mates es rows p q → (machine es rows).with p q ≡ true
  with_to p q e m = and_from _ _ (not_from_false _ e) (mates_to es rows p q m)

module _ (es : List TypeEntry) (rows : List Row) (ports : PortLaws es rows) where
  -- the place after one that is no end
  pub next_advance : (p : Place) → is_place es rows p ≡ true → is_end es rows p ≡ false → next es rows p ≡ Some (advance es rows p)
  next_advance p h e = value_some (next es rows p) p (λ none. both_ways (is_end es rows p) e (ports.to_end p h none))

  -- the place before the one after p is p
  pub prev_advance : (p : Place) → is_place es rows p ≡ true → is_end es rows p ≡ false → prev es rows (advance es rows p) ≡ Some p
  prev_advance p h e = (ports.forth p (advance es rows p) h (next_advance p h e)).1

module _ (es : List TypeEntry) (rows : List Row) (a : Accepted es rows) where
  -- the mates of a place that is no end are none, and those of a place are places
  pub mates_no-end : (p q : Place) → is_end es rows p ≡ false → Mates es rows p q → is_end es rows q ≡ false
  mates_no-end p q e (inl (s, t, r)) = seat_no_end es rows a q t
  mates_no-end p q e (inr (s, f)) = subst (λ (x : Place). is_end es rows x ≡ false) f e

  mates-here : (p q : Place) → is_place es rows p ≡ true → Mates es rows p q → is_place es rows q ≡ true
  mates-here p q h (inl (s, t, r)) = seat_place es rows a q t
  mates-here p q h (inr (s, f)) = subst (λ (x : Place). is_place es rows x ≡ true) f h

module _ (es : List TypeEntry) (rows : List Row) (a : Accepted es rows) (ports : PortLaws es rows) (begin : StartLaws es rows) where
  -- the machine is a marked net
  pub marked : Marked (machine es rows)
  marked = record {
    apart = begin.distinct;
    start_here = λ w h. (begin.each w h).0;
    next_here = λ p h e. (ports.forth p (advance es rows p) h (next_advance es rows ports p h e)).0;
    one_way = λ p q hp hq ep eq same. same_some (sym (prev_advance es rows ports p hp ep) ∙ ap (prev es rows) same ∙ prev_advance es rows ports q hq eq);
    from_start = λ p w h hp e same.
        let (here, start) = begin.each w h in
        none_some (sym (ports.at_start _ here start) ∙ ap (prev es rows) (sym same) ∙ prev_advance es rows ports p hp e);
    with_self = λ p e. with_to es rows p p e (mates_self es rows p);
    with_sym = λ p q e. let (n, m) = with-from es rows p q e in with_to es rows q p (mates_no-end es rows a p q n m) (mates_sym es rows p q m);
    with_trans = λ p q r e f. let (n, m) = with-from es rows p q e in with_to es rows p r n (mates_trans es rows p q r m (with-from es rows q r f).1);
    with_end = λ p q e. let (n, m) = with-from es rows p q e in mates_no-end es rows a p q n m;
    with_here = λ p q h e. mates-here es rows a p q h (with-from es rows p q e).1;
  }

-- the places that the tokens have left, by the moves that were made
abbrev pub left_by : (es : List TypeEntry) (rows : List Row) {tokens : List Place} {n : ℕ} {fired : List Fired} → Reached es rows tokens n fired → Place → Bool
left_by es rows begun = λ p. false
left_by es rows (moved {tokens = before} r w m e) = leaving (machine es rows) (left_by es rows r) (placed before w)

-- a place on which a token stands, or which one has left
abbrev pub VisitedBy : (es : List TypeEntry) (rows : List Row) {tokens : List Place} {n : ℕ} {fired : List Fired} → Reached es rows tokens n fired → Place → Type 0
VisitedBy es rows {tokens} r = Visited (machine es rows) (placed tokens) (left_by es rows r)

-- each wire has a token
pub reached-length : (es : List TypeEntry) (rows : List Row) → StartLaws es rows → {tokens : List Place} {n : ℕ} {fired : List Fired}
    → Reached es rows tokens n fired → length tokens ≡ wires es rows
reached-length es rows begin begun = begin.count
reached-length es rows begin (moved {tokens = before} r w m e) = (move_moves es rows before (reached-length es rows begin r) w m e).size

module _ (es : List TypeEntry) (rows : List Row) (a : Accepted es rows) (ports : PortLaws es rows) (begin : StartLaws es rows) where
  -- what holds of the tokens of a run and of the places that they have left
  pub run_fact : {tokens : List Place} {n : ℕ} {fired : List Fired} (r : Reached es rows tokens n fired) → RunFact (machine es rows) (placed tokens) (left_by es rows r)
  run_fact begun = start-fact (machine es rows) (marked es rows a ports begin)
  run_fact (moved {tokens = before} r w m e) =
      let k = move_moves es rows before (reached-length es rows begin r) w m e in
      let f = run_fact r in
      moved-fact (machine es rows) (marked es rows a ports begin) (placed before) (left_by es rows r) f (placed before w) k.enabled (placed m.tokens) k.goes k.stays
      (f.stands w k.wire)

  -- the tokens of a run stand on different places of the derivation
  pub tokens-here : {tokens : List Place} {n : ℕ} {fired : List Fired} → Reached es rows tokens n fired → (w : ℕ) → w < wires es rows → is_place es rows (placed tokens w) ≡ true
  tokens-here r = (run_fact r).stands

  pub tokens-distinct : {tokens : List Place} {n : ℕ} {fired : List Fired} → Reached es rows tokens n fired
      → (w v : ℕ) → w < wires es rows → v < wires es rows → placed tokens w ≡ placed tokens v → w ≡ v
  tokens-distinct r = (run_fact r).distinct

  -- visited places are places of the derivation
  pub visited_place : {tokens : List Place} {n : ℕ} {fired : List Fired} (r : Reached es rows tokens n fired) (p : Place) → VisitedBy es rows r p → is_place es rows p ≡ true
  visited_place {tokens} r = visited-here (machine es rows) (marked es rows a ports begin) (placed tokens) (left_by es rows r) (run_fact r)

  -- one more move
  module _ {tokens : List Place} {n : ℕ} {fired : List Fired} (r : Reached es rows tokens n fired) (w : ℕ) (m : Moved) (e : move es rows tokens w ≡ Some m) where
    -- what it does
    pub step : Moves es rows tokens w m.tokens
    step = move_moves es rows tokens (reached-length es rows begin r) w m e

    -- no token has been where one goes
    pub move-fresh : (v : ℕ) → v < wires es rows → (machine es rows).with (placed tokens w) (placed tokens v) ≡ true → VisitedBy es rows r (advance es rows (placed tokens v)) → ⊥
    move-fresh =
        fresh (machine es rows) (marked es rows a ports begin) (placed tokens) (left_by es rows r) (run_fact r) (placed tokens w) step.enabled
        (placed m.tokens) step.goes step.stays

    -- what was visited still is
    pub move-visited : (q : Place) → VisitedBy es rows r q → VisitedBy es rows (moved r w m e) q
    move-visited =
        visited-on (machine es rows) (marked es rows a ports begin) (placed tokens) (left_by es rows r) (run_fact r) (placed tokens w) step.enabled
        (placed m.tokens) step.goes step.stays

    -- what is visited was so before the move, or was entered by it
    pub move-back : (q : Place) → VisitedBy es rows (moved r w m e) q
        → VisitedBy es rows r q ⊎ ((v : ℕ) × (v < wires es rows) × ((machine es rows).with (placed tokens w) (placed tokens v) ≡ true) × (advance es rows (placed tokens v) ≡ q))
    move-back =
        visited-back (machine es rows) (marked es rows a ports begin) (placed tokens) (left_by es rows r) (run_fact r) (placed tokens w) step.enabled
        (placed m.tokens) step.goes step.stays

  module _ (sat : Saturates es rows) where
    -- the places follow from the starts
    closes : Closes (machine es rows)
    closes S first step = sat S first (λ p h e all. step p h e (λ q m. all q (and_parts (not (is_end es rows p)) (among q (together es rows p)) m).1))

    -- where no wire can move
    module _ {tokens : List Place} {n : ℕ} {fired : List Fired} (r : Reached es rows tokens n fired)
        (stuck : (w : ℕ) → w < wires es rows → movable es rows tokens (placed tokens w) ≡ false) where
      -- no token is enabled
      not-enabled : (w : ℕ) → w < wires es rows → Enabled (machine es rows) (placed tokens) (placed tokens w) → ⊥
      not-enabled w h on = both_ways _ (stuck w h) (enabled_to es rows tokens (placed tokens w) (reached-length es rows begin r) on)

      -- every place has been visited
      pub all-visited : (p : Place) → is_place es rows p ≡ true → VisitedBy es rows r p
      all-visited = stuck-visited (machine es rows) (marked es rows a ports begin) (placed tokens) (left_by es rows r) (run_fact r) closes not-enabled

      -- every token is at an end
      pub all-home : Home es rows tokens
      all-home = stuck-home (machine es rows) (marked es rows a ports begin) (placed tokens) (left_by es rows r) (run_fact r) closes not-enabled

    -- where all tokens are at ends every place has been visited
    pub home-visited : {tokens : List Place} {n : ℕ} {fired : List Fired} (r : Reached es rows tokens n fired) → Home es rows tokens
        → (p : Place) → is_place es rows p ≡ true → VisitedBy es rows r p
    home-visited r home = all-visited r (λ w h. and_left _ _ (not_from_true _ (home w h)))

    -- some wire can move exactly while some token is not at an end
    pub progress : Progress es rows
    progress tokens n fired r = (
      (λ (w, h, e). (w, h, not-true _ (and_parts (not (is_end es rows (placed tokens w))) _ e).0)),
      (λ (w, h, e). ⊎_elim
          (λ f. f)
          (λ none. absurd (both_ways _ e (all-home r none w h)))
          (some_below (λ v. movable es rows tokens (placed tokens v)) (wires es rows))),
    )
