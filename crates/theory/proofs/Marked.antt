-- Tokens on a net: where a token goes next, and which places move together. Whatever moves are made, no place is entered twice, and
-- where no move is left every place has been visited, if the places follow from the starts.
use Rattle.std.proofs.Common.{◌≡◌, ℕ, zero, suc, ◌<◌, Bool, true, false, ◌||◌, ◌⊎◌, sym, refl, ap, ◌∙◌, subst, inl, inr, ⊎_elim, arith}
use mathlib.Core.Path.{subst⁻¹}
use Rattle.std.proofs.lemmas.Bool.{both_ways, cases_Bool, cases_order, or_cases, or_left, or_right, or_from}
use Rattle.derivation.proofs.TreeLaws.{not_so}
use Rattle.theory.proofs.Basics.{below_suc}

-- a net: its places, the wires and their starts, the place after a place, the ends, and the places that move with a place
pub record Net (P : Type 0) : Type 0 where
  pub here : P → Bool
  pub wires : ℕ
  pub start : ℕ → P
  pub next : P → P
  pub end : P → Bool
  pub with : P → P → Bool

module _ {P : Type 0} (g : Net P) where
  -- starts differ, no two places lead to one, none to a start, and what moves together is a class of places that are no ends
  pub record Marked : Type 0 where
    pub apart : (w v : ℕ) → w < g.wires → v < g.wires → g.start w ≡ g.start v → w ≡ v
    pub start_here : (w : ℕ) → w < g.wires → g.here (g.start w) ≡ true
    pub next_here : (p : P) → g.here p ≡ true → g.end p ≡ false → g.here (g.next p) ≡ true
    pub one_way : (p q : P) → g.here p ≡ true → g.here q ≡ true → g.end p ≡ false → g.end q ≡ false → g.next p ≡ g.next q → p ≡ q
    pub from_start : (p : P) (w : ℕ) → w < g.wires → g.here p ≡ true → g.end p ≡ false → g.next p ≡ g.start w → ⊥
    pub with_self : (p : P) → g.end p ≡ false → g.with p p ≡ true
    pub with_sym : (p q : P) → g.with p q ≡ true → g.with q p ≡ true
    pub with_trans : (p q r : P) → g.with p q ≡ true → g.with q r ≡ true → g.with p r ≡ true
    pub with_end : (p q : P) → g.with p q ≡ true → g.end q ≡ false
    pub with_here : (p q : P) → g.here p ≡ true → g.with p q ≡ true → g.here q ≡ true

  -- p is the start of a wire
  abbrev pub Started : P → Type 0
  Started p = (w : ℕ) × (w < g.wires) × (g.start w ≡ p)

  -- a token stands at p, when wire w's is at (at w)
  abbrev pub Held : (ℕ → P) → P → Type 0
  Held at p = (w : ℕ) × (w < g.wires) × (at w ≡ p)

  -- a token at p can move: p is no end, and tokens stand at all places that move with it
  abbrev pub Enabled : (ℕ → P) → P → Type 0
  Enabled at p = (g.end p ≡ false) × ((q : P) → g.with p q ≡ true → Held at q)

  -- the places left once those that move with p have been
  abbrev pub leaving : (P → Bool) → P → P → Bool
  leaving left p q = left q || g.with p q

  -- a token stands at p, or has left it
  abbrev pub Visited : (ℕ → P) → (P → Bool) → P → Type 0
  Visited at left p = (left p ≡ true) ⊎ Held at p

  -- what holds of the tokens' places and of the places that they have left, after any moves
  pub record RunFact (at : ℕ → P) (left : P → Bool) : Type 0 where
    pub stands : (w : ℕ) → w < g.wires → g.here (at w) ≡ true
    pub off : (w : ℕ) → w < g.wires → left (at w) ≡ false
    pub distinct : (w v : ℕ) → w < g.wires → v < g.wires → at w ≡ at v → w ≡ v
    pub goes_on : (p : P) → left p ≡ true → (g.here p ≡ true) × (g.end p ≡ false) × Visited at left (g.next p)
    pub came : (p : P) → Visited at left p → Started p ⊎ ((q : P) × (left q ≡ true) × (g.next q ≡ p))
    pub whole : (p q : P) → g.with p q ≡ true → left p ≡ true → left q ≡ true
    pub begun : (w : ℕ) → w < g.wires → Visited at left (g.start w)

  -- the places that wire w's token comes to, one after the other
  abbrev pub way : ℕ → ℕ → P
  way w zero = g.start w
  way w (suc k) = g.next (way w k)

  -- wire w's token comes to p: the first k places of its way are no ends, and place k is p
  abbrev pub Comes : ℕ → P → Type 0
  Comes w p = (k : ℕ) × ((j : ℕ) → j < k → g.end (way w j) ≡ false) × (way w k ≡ p)

  -- a set that holds the starts and is closed under the moves holds all places
  abbrev pub Closes : Type 1
  Closes = (S : P → Type 0) → ((w : ℕ) → w < g.wires → S (g.start w))
      → ((p : P) → g.here p ≡ true → g.end p ≡ false → ((q : P) → g.with p q ≡ true → S q) → S (g.next p))
      → (p : P) → g.here p ≡ true → S p

  module _ (l : Marked) where
    -- at the starts nothing has been left
    pub start-fact : RunFact g.start (λ p. false)
    start-fact = record {
      stands = l.start_here;
      off = λ w h. refl;
      distinct = l.apart;
      goes_on = λ p e. absurd (both_ways false refl e);
      came = λ p v. inl (⊎_elim (λ e. absurd (both_ways false refl e)) (λ h. h) v);
      whole = λ p q h e. absurd (both_ways false refl e);
      begun = λ w h. inr (w, h, refl);
    }

    -- one move, of the tokens that move with one at p
    module _ (at : ℕ → P) (left : P → Bool) (f : RunFact at left) (p : P) (on : Enabled at p) (after : ℕ → P)
        (moved : (v : ℕ) → v < g.wires → g.with p (at v) ≡ true → after v ≡ g.next (at v))
        (stays : (v : ℕ) → v < g.wires → g.with p (at v) ≡ false → after v ≡ at v) where
      -- where a token goes none has been yet
      pub fresh : (v : ℕ) → v < g.wires → g.with p (at v) ≡ true → Visited at left (g.next (at v)) → ⊥
      fresh v h e visited =
          let no_end = l.with_end p (at v) e in
          ⊎_elim
          (λ (s : Started (g.next (at v))). l.from_start (at v) s.0 s.1 (f.stands v h) no_end (sym s.2))
          (λ (q : (q : P) × (left q ≡ true) × (g.next q ≡ g.next (at v))).
          let on = f.goes_on q.0 q.1 in
          let same = l.one_way q.0 (at v) on.0 (f.stands v h) on.1 no_end q.2 in
          both_ways (left (at v)) (f.off v h) (subst (λ (x : P). left x ≡ true) same q.1))
          (f.came (g.next (at v)) visited)

      -- a place visited before the move is so after it
      pub visited-on : (q : P) → Visited at left q → Visited after (leaving left p) q
      visited-on q (inl e) = inl (or_left (left q) (g.with p q) e)
      visited-on q (inr (v, h, s)) = ⊎_elim
          (λ e. inl (or_right (left q) (g.with p q) (subst (λ (x : P). g.with p x ≡ true) s e)))
          (λ e. inr (v, h, stays v h e ∙ s))
          (cases_Bool (g.with p (at v)))

      -- a place behind one that was left is visited
      visited-new : (q : P) → g.with p q ≡ true → Visited after (leaving left p) (g.next q)
      visited-new q e =
          let (v, h, s) = on.1 q e in
          inr (v, h, moved v h (subst⁻¹ (λ (x : P). g.with p x ≡ true) s e) ∙ ap g.next s)

      -- a place visited after the move was so before it, or was entered by it
      pub visited-back : (q : P) → Visited after (leaving left p) q
          → Visited at left q ⊎ ((v : ℕ) × (v < g.wires) × (g.with p (at v) ≡ true) × (g.next (at v) ≡ q))
      visited-back q (inl e) = ⊎_elim (λ l. inl (inl l)) (λ w. inl (inr (on.1 q w))) (or_cases (left q) (g.with p q) e)
      visited-back q (inr (v, h, s)) = ⊎_elim
          (λ e. inr (v, h, e, sym (moved v h e) ∙ s))
          (λ e. inl (inr (v, h, sym (stays v h e) ∙ s)))
          (cases_Bool (g.with p (at v)))

      -- tokens still stand on places
      stands_after : (v : ℕ) → v < g.wires → g.here (after v) ≡ true
      stands_after v h = ⊎_elim
          (λ e. subst⁻¹ (λ (x : P). g.here x ≡ true) (moved v h e) (l.next_here (at v) (f.stands v h) (l.with_end p (at v) e)))
          (λ e. subst⁻¹ (λ (x : P). g.here x ≡ true) (stays v h e) (f.stands v h))
          (cases_Bool (g.with p (at v)))

      -- that none has left
      off-after : (v : ℕ) → v < g.wires → leaving left p (after v) ≡ false
      off-after v h = ⊎_elim
          (λ e. subst⁻¹ (λ (x : P). leaving left p x ≡ false) (moved v h e)
          (or_from _ _
          (not_so _ (λ y. fresh v h e (inl y)))
          (not_so _ (λ y. fresh v h e (inr (on.1 (g.next (at v)) y))))))
          (λ e. subst⁻¹ (λ (x : P). leaving left p x ≡ false) (stays v h e) (or_from _ _ (f.off v h) e))
          (cases_Bool (g.with p (at v)))

      -- and that differ
      distinct-after : (v u : ℕ) → v < g.wires → u < g.wires → after v ≡ after u → v ≡ u
      distinct-after v u hv hu same = ⊎_elim
          (λ ev. ⊎_elim
          (λ eu. f.distinct v u hv hu
          (l.one_way (at v) (at u) (f.stands v hv) (f.stands u hu) (l.with_end p (at v) ev) (l.with_end p (at u) eu)
          (sym (moved v hv ev) ∙ same ∙ moved u hu eu)))
          (λ nu. absurd (fresh v hv ev (inr (u, hu, sym (stays u hu nu) ∙ sym same ∙ moved v hv ev))))
          (cases_Bool (g.with p (at u))))
          (λ nv. ⊎_elim
          (λ eu. absurd (fresh u hu eu (inr (v, hv, sym (stays v hv nv) ∙ same ∙ moved u hu eu))))
          (λ nu. f.distinct v u hv hu (sym (stays v hv nv) ∙ same ∙ stays u hu nu))
          (cases_Bool (g.with p (at u))))
          (cases_Bool (g.with p (at v)))

      -- behind a place that was left is a visited one
      goes-on-after : g.here p ≡ true → (q : P) → leaving left p q ≡ true
          → (g.here q ≡ true) × (g.end q ≡ false) × Visited after (leaving left p) (g.next q)
      goes-on-after h q e = ⊎_elim
          (λ y. let (here, no_end, visited) = f.goes_on q y in (here, no_end, visited-on (g.next q) visited))
          (λ y. (l.with_here p q h y, l.with_end p q y, visited-new q y))
          (or_cases (left q) (g.with p q) e)

      -- before a visited place is one that was left, or it is a start
      came-after : (q : P) → Visited after (leaving left p) q → Started q ⊎ ((r : P) × (leaving left p r ≡ true) × (g.next r ≡ q))
      came-after q visited = ⊎_elim
          (λ old. ⊎_elim (λ s. inl s) (λ (r, y, e). inr (r, or_left (left r) (g.with p r) y, e)) (f.came q old))
          (λ (v, h, y, e). inr (at v, or_right (left (at v)) (g.with p (at v)) y, e))
          (visited-back q visited)

      -- a move keeps the facts of a run
      pub moved-fact : g.here p ≡ true → RunFact after (leaving left p)
      moved-fact h = record {
        stands = stands_after;
        off = off-after;
        distinct = distinct-after;
        goes_on = goes-on-after h;
        came = came-after;
        whole = λ q r y e. ⊎_elim
            (λ a. or_left (left r) (g.with p r) (f.whole q r y a))
            (λ a. or_right (left r) (g.with p r) (l.with_trans p q r a y))
            (or_cases (left q) (g.with p q) e);
        begun = λ w y. visited-on (g.start w) (f.begun w y);
      }

      -- the tokens stay on their ways
      pub comes-after : (v : ℕ) → v < g.wires → Comes v (at v) → Comes v (after v)
      comes-after v h (k, free, e) = ⊎_elim
          (λ y.
          let here : (j : ℕ) → j ≡ k → g.end (way v j) ≡ false
          = λ j s. subst⁻¹ (λ (x : P). g.end x ≡ false) (ap (way v) s ∙ e) (l.with_end p (at v) y) in
          (suc k, (λ j b. ⊎_elim (free j) (here j) (below_suc j k b)), ap g.next e ∙ sym (moved v h y)))
          (λ y. (k, free, e ∙ sym (stays v h y)))
          (cases_Bool (g.with p (at v)))

    -- a visited place is a place
    pub visited-here : (at : ℕ → P) (left : P → Bool) → RunFact at left → (p : P) → Visited at left p → g.here p ≡ true
    visited-here at left f p (inl y) = (f.goes_on p y).0
    visited-here at left f p (inr (w, h, e)) = subst (λ (x : P). g.here x ≡ true) e (f.stands w h)

    -- what holds where no wire can move, if the places follow from the starts
    module _ (at : ℕ → P) (left : P → Bool) (f : RunFact at left) (all : Closes) (stuck : (w : ℕ) → w < g.wires → Enabled at (at w) → ⊥) where
      -- every place has been visited
      pub stuck-visited : (p : P) → g.here p ≡ true → Visited at left p
      stuck-visited = all (Visited at left) f.begun (λ p here e mates. ⊎_elim
          (λ y. (f.goes_on p y).2)
          (λ n.
          let held : (q : P) → g.with p q ≡ true → Held at q
          = λ q y. ⊎_elim (λ z. absurd (both_ways (left p) n (f.whole q p (l.with_sym p q y) z))) (λ h. h) (mates q y) in
          let (w, h, s) = held p (l.with_self p e) in
          absurd (stuck w h (subst⁻¹ (λ (x : P). Enabled at x) s (e, held))))
          (cases_Bool (left p)))

      -- every token is at an end
      pub stuck-home : (w : ℕ) → w < g.wires → g.end (at w) ≡ true
      stuck-home w h = ⊎_elim
          (λ e. e)
          (λ n. absurd (stuck w h (
            n,
            (λ q y. ⊎_elim
                (λ z. absurd (both_ways (left (at w)) (f.off w h) (f.whole q (at w) (l.with_sym (at w) q y) z)))
                (λ x. x)
                (stuck-visited q (l.with_here (at w) q (f.stands w h) y))),
          )))
          (cases_Bool (g.end (at w)))

    -- the first places of a way are places
    way-here : (w k : ℕ) → w < g.wires → ((j : ℕ) → j < k → g.end (way w j) ≡ false) → g.here (way w k) ≡ true
    way-here w zero h free = l.start_here w h
    way-here w (suc k) h free = l.next_here (way w k) (way-here w k h (λ j b. free j (omega arith))) (free k (omega arith))

    -- ways of different wires do not meet
    ways-apart : (w v k j : ℕ) → w < g.wires → v < g.wires
        → ((i : ℕ) → i < k → g.end (way w i) ≡ false) → ((i : ℕ) → i < j → g.end (way v i) ≡ false) → way w k ≡ way v j → w ≡ v
    ways-apart w v zero zero hw hv a b e = l.apart w v hw hv e
    ways-apart w v zero (suc j) hw hv a b e =
        absurd (l.from_start (way v j) w hw (way-here v j hv (λ i s. b i (omega arith))) (b j (omega arith)) (sym e))
    ways-apart w v (suc k) zero hw hv a b e =
        absurd (l.from_start (way w k) v hv (way-here w k hw (λ i s. a i (omega arith))) (a k (omega arith)) e)
    ways-apart w v (suc k) (suc j) hw hv a b e =
        let a' : (i : ℕ) → i < k → g.end (way w i) ≡ false = λ i s. a i (omega arith) in
        let b' : (i : ℕ) → i < j → g.end (way v i) ≡ false = λ i s. b i (omega arith) in
        ways-apart w v k j hw hv a' b'
        (l.one_way (way w k) (way v j) (way-here w k hw a') (way-here v j hv b') (a k (omega arith)) (b j (omega arith)) e)

    -- only one wire comes to a place
    pub comes-once : (w v : ℕ) (p q : P) → w < g.wires → v < g.wires → Comes w p → Comes v q → p ≡ q → w ≡ v
    comes-once w v p q hw hv (k, a, d) (j, b, e) same = ways-apart w v k j hw hv a b (d ∙ same ∙ sym e)

    -- a wire comes to one end
    pub one_end : (w : ℕ) (p q : P) → Comes w p → Comes w q → g.end p ≡ true → g.end q ≡ true → p ≡ q
    one_end w p q (k, a, d) (j, b, e) ends-p ends-q = ⊎_elim
        (λ s. sym d ∙ ap (way w) s ∙ e)
        (λ s. ⊎_elim
        (λ s. absurd (both_ways (g.end p) (subst (λ (x : P). g.end x ≡ false) d (b k s)) ends-p))
        (λ s. absurd (both_ways (g.end q) (subst (λ (x : P). g.end x ≡ false) e (a j s)) ends-q)) s)
        (cases_order k j)
