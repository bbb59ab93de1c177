-- Where a token goes and where it came from undo one another, from place to place, and stop only at the ends and the starts.
use Rattle.std.proofs.Common.{◌≡◌, ℕ, suc, ◌+◌, ◌-◌, ◌<◌, ◌≤◌, Bool, true, false, not, ◌||◌, eqb, ltb, ◌⊎◌, List, [], ◌∷◌, length, Some, None, Option, sym, refl, ap, ◌∙◌, subst, inl, inr, ⊎_elim, arith}
use mathlib.Core.Bool.{not-not}
use Rattle.std.proofs.lemmas.List.{get_or_past}
use Rattle.std.proofs.lemmas.Bool.{and_parts, and_from, both_ways, not-true, not_from_false, cond-true, cond-false, cond_both, cases_Bool, cases_lt, eqb-true, eq-eqb, ne_eqb, ltb-true, ltb-false, lt-ltb, le-ltb}
use Rattle.basics.specs.declared.gate.Gate.{Gate as GateName}
use Rattle.derivation.specs.declared.types.TypeEntry.{TypeEntry}
use Rattle.basics.specs.declared.numbers.RowId.{RowId}
use Rattle.derivation.specs.declared.rows.Rule.{Rule}
use Rattle.derivation.specs.declared.rows.Rule.TheVariants.{Variable, Zero, One, Gate, Lambda, PairLambda, Apply, Pair}
use Rattle.derivation.specs.declared.rows.Row.{Row}
use Rattle.derivation.specs.declared.rows.Part.{Part}
use Rattle.derivation.specs.declared.rows.Part.TheVariants.{Ty, Variable as Var}
use Rattle.derivation.specs.declared.rows.Place.{Place}
use Rattle.basics.specs.Sets.{has}
use Rattle.basics.specs.Gates.{arity}
use Rattle.derivation.specs.Trees.{atoms, positive}
use Rattle.derivation.specs.Rows.{premises, no_row}
use Rattle.derivation.specs.Judgements.{rule_at, env_at}
use Rattle.derivation.specs.Places.{negative, is_bit}
use Rattle.derivation.specs.Accepted.{Accepted}
use Rattle.theory.specs.Ports.{at, held, listed, below, width, owner, across_own, across_premise, upward, downward, next, prev, is_place, last, is_end, is_start}
use Rattle.theory.specs.Tokens.{seats, is_seat}
use Rattle.theory.specs.Laws.{PortLaws}
use Rattle.theory.specs.Steps.{Joins}
use Rattle.theory.proofs.Basics.{listed-first, listed-second}
use Rattle.theory.proofs.Belows.{below_row, below_last, premises_differ}
use Rattle.theory.proofs.Signs.{bit-of, rule_says, arrow-left}
use Rattle.theory.proofs.Ways.{place, part_has, place_at_lem, place-held, place-parts, gate-width, gate-negative}
use Rattle.theory.proofs.Links.{first, second, same, for_one, for_both, Linked, Link, premise-row, rise}
use Rattle.theory.proofs.Links.{lambda-bound, lambda-body, lambda-environment, pair-bound-first, pair-bound-second, pair_body, pair-lambda-environment}
use Rattle.theory.proofs.Links.{apply-result, apply-falls, apply-environment, pair-first, pair-second, pair-environment}

-- q is a place from which a rule leads back to p; its sign is n, or the reverse if the rule is that of its own row
pub data Returns (es : List TypeEntry) (rows : List Row) (p : Place) (n : Bool) (q : Place) : Type 0 where
  up : is_place es rows q ≡ true → upward es rows q ≡ Some p → negative es rows q ≡ not n → Returns es rows p n q
  down : is_place es rows q ≡ true → downward es rows q ≡ Some p → negative es rows q ≡ n → Returns es rows p n q

-- what is known of the mate of p under the rule of its own row, where it may be a gate's, and under that of the row r below
abbrev pub Up : List TypeEntry → List Row → Place → Option Place → Type 0
Up es rows p None = (is_bit (rule_at rows p.row.0) ≡ true) × (negative es rows p ≡ false)
Up es rows p (Some q) = Returns es rows p (negative es rows p) q × (Linked es rows p.row.0 p q ⊎ (is_seat es rows p ≡ negative es rows p))

abbrev pub Down : List TypeEntry → List Row → ℕ → Place → Option Place → Type 0
Down es rows r p None = p.row.0 ≡ last es rows
Down es rows r p (Some q) = Returns es rows p (not (negative es rows p)) q × Linked es rows r p q

-- what is known of an atom of premise q's type, and of one of its variable z, under the rule of row r
abbrev FromType : List TypeEntry → List Row → ℕ → Rule → ℕ → ℕ → Type 0
FromType es rows r k i q = i < width es rows q → Down es rows r (at q i) (across_premise es rows r k q Ty i)

abbrev FromVariable : List TypeEntry → List Row → ℕ → Rule → ℕ → ℕ → ℕ → Type 0
FromVariable es rows r k z i q = has (env_at rows q) z ≡ true → Down es rows r (held q z i) (across_premise es rows r k q (Var (record { 0 = z })) i)

-- each of two joined places is a way back from the other
module _ {es : List TypeEntry} {rows : List Row} {r : ℕ} {p q : Place} (l : Link es rows r p q) where
  link_up : Up es rows p (Some q)
  link_up = (down l.upper_place l.falls (sym l.signs), inl (subst (λ r. Linked es rows r p q) (sym l.own) (inl l.joins)))

  link_down : Down es rows r q (Some p)
  link_down = (up l.lower_place l.rises (l.signs ∙ sym (not-not (negative es rows q))), inr l.joins)

-- next and prev at a negative and at a positive place
module _ (es : List TypeEntry) (rows : List Row) (p : Place) where
  pub next-negative : negative es rows p ≡ true → next es rows p ≡ upward es rows p
  unfolding next
  next-negative n = cond-true _ _ _ n

  pub next-positive : negative es rows p ≡ false → next es rows p ≡ downward es rows p
  unfolding next
  next-positive n = cond-false _ _ _ n

  pub prev_negative : negative es rows p ≡ true → prev es rows p ≡ downward es rows p
  unfolding prev
  prev_negative n = cond-true _ _ _ n

  pub prev_positive : negative es rows p ≡ false → prev es rows p ≡ upward es rows p
  unfolding prev
  prev_positive n = cond-false _ _ _ n

-- a way back from q, by the sign of q
module _ {es : List TypeEntry} {rows : List Row} {p q : Place} where
  prev_from : Returns es rows p true q → (is_place es rows q ≡ true) × (prev es rows q ≡ Some p)
  prev_from (up h u s) = (h, prev_positive es rows q s ∙ u)
  prev_from (down h d s) = (h, prev_negative es rows q s ∙ d)

  next-from : Returns es rows p false q → (is_place es rows q ≡ true) × (next es rows q ≡ Some p)
  next-from (up h u s) = (h, next-negative es rows q s ∙ u)
  next-from (down h d s) = (h, next-positive es rows q s ∙ d)

-- no token rises through the rule of a zero or one row
bit-rises : (es : List TypeEntry) (rows : List Row) (r : ℕ) (k : Rule) (part : Part) (i : ℕ) → is_bit k ≡ true → across_own es rows r k part i ≡ None
bit-rises es rows r k part i b = ⊎_elim (ap (λ k. across_own es rows r k part i)) (ap (λ k. across_own es rows r k part i)) (bit-of k b)

module _ (es : List TypeEntry) (rows : List Row) where
  -- the owner of a variable of the two together is one of them, and has it
  owner_has : (p p' z : ℕ) → (has (env_at rows p) z || has (env_at rows p') z) ≡ true
      → (listed (owner es rows p p' z) (p ∷ p' ∷ []) ≡ true) × (has (env_at rows (owner es rows p p' z)) z ≡ true)
  owner_has p p' z m =
      ⊎_elim
      (λ o. rw o (listed-first p (p' ∷ []), o))
      (λ o. rw o (listed-second p p', ap (λ b. b || has (env_at rows p') z) (sym o) ∙ m))
      (cases_Bool (has (env_at rows p) z))

module _ (es : List TypeEntry) (rows : List Row) (a : Accepted es rows) where
  -- an atom of an argument, and the same of its function
  apply_argument : (r : ℕ) → r < length rows → (f b : RowId) → rule_at rows r ≡ Apply f b → (i : ℕ) → i < width es rows b.0
      → Down es rows r (at f.0 i) (Some (at b.0 i)) × Down es rows r (at b.0 i) (Some (at f.0 i))
  apply_argument r h f b e i l =
      let (t, env, d) = rule_says es rows a r (Apply f b) h e in
      let w = ap atoms t in
      let s = arrow-left _ _ _ i t l in
      let (from-f, from-b) = apply-falls es rows a r h f b e i l in (
        (down (place_at_lem es rows b.0 i (premise-row es rows a r h (Apply f b) e b.0 (listed-second f.0 b.0)) l) from-b (sym (not-not _ ∙ s)), inl (Joins.argument e l)),
        (down (place_at_lem es rows f.0 i (premise-row es rows a r h (Apply f b) e f.0 (listed-first f.0 (b.0 ∷ []))) (omega arith)) from-f (ap not s), inr (Joins.argument e l)),
      )

  -- the type of a variable's row, and the variable
  variable-turns : (r : ℕ) → r < length rows → rule_at rows r ≡ Variable → (i : ℕ) → i < width es rows r
      → Up es rows (at r i) (Some (held r r i)) × Up es rows (held r r i) (Some (at r i))
  variable-turns r h e i l =
      let env = rule_says es rows a r Variable h e in (
        (up (place-held es rows r r i h (env r ∙ eq-eqb r r refl) l) (rise es rows a r h Variable e _ i) (sym (not-not _)), inl (inr (Joins.variable e l))),
        (up (place_at_lem es rows r i h l) (rise es rows a r h Variable e Ty i) refl, inl (inl (Joins.variable e l))),
      )

  -- what a gate is given, and its result
  gate-turns : (r : ℕ) → r < length rows → (g : GateName) → rule_at rows r ≡ Gate g → (i j : ℕ) → j ≡ arity g + i → i < arity g
      → Up es rows (at r i) (Some (at r j)) × Up es rows (at r j) (Some (at r i))
  gate-turns r h g e i j s l =
      let w = gate-width es rows a r g e in
      let k : j - arity g ≡ i = omega arith in
      let low = lt-ltb i (arity g) l in
      let high = le-ltb j (arity g) (omega arith) in
      let below = gate-negative es rows a r g e i ∙ low in
      let above = gate-negative es rows a r g e j ∙ high in (
        (up (place_at_lem es rows r j h (omega arith)) (rise es rows a r h (Gate g) e Ty j ∙ second _ _ _ high ∙ same _ _ (ap (at r) k)) (above ∙ sym (ap not below)), inr (seat i)),
        (up (place_at_lem es rows r i h (omega arith)) (rise es rows a r h (Gate g) e Ty i ∙ first _ _ _ low ∙ same _ _ (ap (at r) (sym s))) (below ∙ sym (ap not above)), inr (seat j)),
      )
    where
      seat : (i : ℕ) → is_seat es rows (at r i) ≡ negative es rows (at r i)
      seat i = ap (λ k. ltb i (seats k)) e ∙ sym (gate-negative es rows a r g e i)

  -- from a row's type through its own rule
  own-type : (r i : ℕ) → r < length rows → i < width es rows r → (k : Rule) → rule_at rows r ≡ k → Up es rows (at r i) (across_own es rows r k Ty i)
  own-type r i h l Variable e = (variable-turns r h e i l).0
  own-type r i h l Zero e = (ap is_bit e, ap (λ t. not (positive t i)) (rule_says es rows a r Zero h e).0)
  own-type r i h l One e = (ap is_bit e, ap (λ t. not (positive t i)) (rule_says es rows a r One h e).0)
  own-type r i h l (Gate g) e =
      let w = gate-width es rows a r g e in
      cond_both (ltb i (arity g)) _ _ (λ q. Up es rows (at r i) (Some q))
      (λ s. (gate-turns r h g e i (arity g + i) refl (ltb-true _ _ s)).0)
      (λ s. let m = ltb-false _ _ s in (gate-turns r h g e (i - arity g) i (omega arith) (omega arith)).1)
  own-type r i h l (Lambda p x) e =
      let w = ap atoms (rule_says es rows a r (Lambda p x) h e).0 in
      cond_both (ltb i (width es rows x.0)) _ _ (λ q. Up es rows (at r i) (Some q))
      (λ s. link_up (lambda-bound es rows a r h p x e i (ltb-true _ _ s)))
      (λ s. let m = ltb-false _ _ s in link_up (lambda-body es rows a r h p x e i _ (omega arith) (omega arith)))
  own-type r i h l (PairLambda p x y) e =
      let w = ap atoms (rule_says es rows a r (PairLambda p x y) h e).0 in
      cond_both (ltb i (width es rows x.0)) _ _ (λ q. Up es rows (at r i) (Some q))
      (λ s. link_up (pair-bound-first es rows a r h p x y e i (ltb-true _ _ s)))
      (λ s. let m = ltb-false _ _ s in
      cond_both (ltb i (width es rows x.0 + width es rows y.0)) _ _ (λ q. Up es rows (at r i) (Some q))
      (λ s. let n = ltb-true _ _ s in link_up (pair-bound-second es rows a r h p x y e i _ (omega arith) (omega arith)))
      (λ s. let n = ltb-false _ _ s in link_up (pair_body es rows a r h p x y e i _ (omega arith) (omega arith))))
  own-type r i h l (Apply f b) e = link_up (apply-result es rows a r h f b e i _ refl l)
  own-type r i h l (Pair p p') e =
      let w = ap atoms (rule_says es rows a r (Pair p p') h e).0 in
      cond_both (ltb i (width es rows p.0)) _ _ (λ q. Up es rows (at r i) (Some q))
      (λ s. link_up (pair-first es rows a r h p p' e i (ltb-true _ _ s)))
      (λ s. let m = ltb-false _ _ s in link_up (pair-second es rows a r h p p' e i _ (omega arith) (omega arith)))

  -- from a variable of a row through the row's own rule
  own-variable : (r z i : ℕ) → r < length rows → has (env_at rows r) z ≡ true → i < width es rows z → (k : Rule) → rule_at rows r ≡ k
      → Up es rows (held r z i) (across_own es rows r k (Var (record { 0 = z })) i)
  own-variable r z i h m l Variable e =
      let q = eqb-true z r (sym (rule_says es rows a r Variable h e z) ∙ m) in
      rw q (variable-turns r h e i (rw q at l)).1
  own-variable r z i h m l Zero e = absurd (both_ways _ ((rule_says es rows a r Zero h e).1 z) m)
  own-variable r z i h m l One e = absurd (both_ways _ ((rule_says es rows a r One h e).1 z) m)
  own-variable r z i h m l (Gate g) e = absurd (both_ways _ ((rule_says es rows a r (Gate g) h e).1 z) m)
  own-variable r z i h m l (Lambda p x) e =
      let (t, mx, env) = rule_says es rows a r (Lambda p x) h e in
      let (mz, d) = and_parts _ _ (sym (env z) ∙ m) in
      link_up (lambda-environment es rows a r h p x e z i mz (not-true _ d) l)
  own-variable r z i h m l (PairLambda p x y) e =
      let (t, mx, my, d, env) = rule_says es rows a r (PairLambda p x y) h e in
      let (rest, dy) = and_parts _ _ (sym (env z) ∙ m) in
      let (mz, dx) = and_parts _ _ rest in
      link_up (pair-lambda-environment es rows a r h p x y e z i mz (not-true _ dx) (not-true _ dy) l)
  own-variable r z i h m l (Apply f b) e =
      let (t, env, d) = rule_says es rows a r (Apply f b) h e in
      let (q, mz) = owner_has es rows f.0 b.0 z (sym (env z) ∙ m) in
      link_up (apply-environment es rows a r h f b e _ z i q mz l)
  own-variable r z i h m l (Pair p p') e =
      let (t, env, d) = rule_says es rows a r (Pair p p') h e in
      let (q, mz) = owner_has es rows p.0 p'.0 z (sym (env z) ∙ m) in
      link_up (pair-environment es rows a r h p p' e _ z i q mz l)

  -- from the type of a premise through the rule of the row below
  premise-type : (r q i : ℕ) → r < length rows → (k : Rule) → rule_at rows r ≡ k → listed q (premises k) ≡ true → FromType es rows r k i q
  premise-type r q i h Variable e m = absurd (both_ways _ refl m)
  premise-type r q i h Zero e m = absurd (both_ways _ refl m)
  premise-type r q i h One e m = absurd (both_ways _ refl m)
  premise-type r q i h (Gate g) e m = absurd (both_ways _ refl m)
  premise-type r q i h (Lambda p x) e m =
      for_one (FromType es rows r (Lambda p x) i) p.0 q m (λ l. link_down (lambda-body es rows a r h p x e _ i refl l))
  premise-type r q i h (PairLambda p x y) e m =
      for_one (FromType es rows r (PairLambda p x y) i) p.0 q m (λ l. link_down (pair_body es rows a r h p x y e _ i refl l))
  premise-type r q i h (Apply f b) e m =
      let w = ap atoms (rule_says es rows a r (Apply f b) h e).0 in
      for_both (FromType es rows r (Apply f b) i) f.0 b.0 q m
      (λ l. rw (eq-eqb f.0 f.0 refl)
      (cond_both (ltb i (width es rows b.0)) _ _ (λ q. Down es rows r (at f.0 i) (Some q))
      (λ s. (apply_argument r h f b e i (ltb-true _ _ s)).0)
      (λ s. let n = ltb-false _ _ s in link_down (apply-result es rows a r h f b e _ i (omega arith) (omega arith)))))
      (λ l. rw (ne_eqb b.0 f.0 (λ s. premises_differ es rows a r f.0 b.0 h (ap premises e) (sym s))) (apply_argument r h f b e i l).1)
  premise-type r q i h (Pair p p') e m =
      for_both (FromType es rows r (Pair p p') i) p.0 p'.0 q m
      (λ l. rw (eq-eqb p.0 p.0 refl) (link_down (pair-first es rows a r h p p' e i l)))
      (λ l. rw (ne_eqb p'.0 p.0 (λ s. premises_differ es rows a r p.0 p'.0 h (ap premises e) (sym s))) (link_down (pair-second es rows a r h p p' e _ i refl l)))

  -- from a variable of a premise through the rule of the row below
  premise-variable : (r q z i : ℕ) → r < length rows → (k : Rule) → rule_at rows r ≡ k → listed q (premises k) ≡ true → i < width es rows z → FromVariable es rows r k z i q
  premise-variable r q z i h Variable e m l = absurd (both_ways _ refl m)
  premise-variable r q z i h Zero e m l = absurd (both_ways _ refl m)
  premise-variable r q z i h One e m l = absurd (both_ways _ refl m)
  premise-variable r q z i h (Gate g) e m l = absurd (both_ways _ refl m)
  premise-variable r q z i h (Lambda p x) e m l =
      for_one (FromVariable es rows r (Lambda p x) z i) p.0 q m
      (λ mz. cond_both (eqb z x.0) _ _ (λ q. Down es rows r (held p.0 z i) (Some q))
      (λ t. let s = eqb-true z x.0 t in rw s (link_down (lambda-bound es rows a r h p x e i (rw s at l))))
      (λ t. link_down (lambda-environment es rows a r h p x e z i mz t l)))
  premise-variable r q z i h (PairLambda p x y) e m l =
      for_one (FromVariable es rows r (PairLambda p x y) z i) p.0 q m
      (λ mz. cond_both (eqb z x.0) _ _ (λ q. Down es rows r (held p.0 z i) (Some q))
      (λ t. let s = eqb-true z x.0 t in rw s (link_down (pair-bound-first es rows a r h p x y e i (rw s at l))))
      (λ tx. cond_both (eqb z y.0) _ _ (λ q. Down es rows r (held p.0 z i) (Some q))
      (λ t. let s = eqb-true z y.0 t in rw s (link_down (pair-bound-second es rows a r h p x y e _ i refl (rw s at l))))
      (λ ty. link_down (pair-lambda-environment es rows a r h p x y e z i mz tx ty l))))
  premise-variable r q z i h (Apply f b) e m l = λ mz. link_down (apply-environment es rows a r h f b e q z i m mz l)
  premise-variable r q z i h (Pair p p') e m l = λ mz. link_down (pair-environment es rows a r h p p' e q z i m mz l)

  -- from a place through the rule of its own row
  rises-from : (r i : ℕ) (part : Part) → is_place es rows (place r part i) ≡ true → Up es rows (place r part i) (upward es rows (place r part i))
  rises-from r i Ty h =
      let (hr, hi) = place-parts es rows (at r i) h in
      own-type r i hr hi (rule_at rows r) refl
  rises-from r i (Var z) h =
      let (hr, hi) = place-parts es rows (place r (Var z) i) h in
      let (m, l) = part_has _ _ i hi in
      own-variable r z.0 i hr m l (rule_at rows r) refl

  -- no row is below the last
  last_falls : (r : ℕ) (part : Part) (i : ℕ) → length rows ≤ suc r → downward es rows (place r part i) ≡ None
  last_falls r part i h =
      ap (λ k. across_premise es rows (below es rows r) k r part i)
      (ap (rule_at rows) (below_last es rows a r h) ∙ ap (λ (row : Row). row.rule) (get_or_past rows (length rows) no_row (omega arith)))

  -- from a place of a row but the last through the rule of the row below
  falls-from : (r i : ℕ) (part : Part) → is_place es rows (place r part i) ≡ true → suc r < length rows → Down es rows (below es rows r) (place r part i) (downward es rows (place r part i))
  falls-from r i Ty h n =
      let (hb, m) = below_row es rows a r n in
      premise-type (below es rows r) r i hb (rule_at rows (below es rows r)) refl m (place-parts es rows (at r i) h).1
  falls-from r i (Var z) h n =
      let (mz, l) = part_has _ _ i (place-parts es rows (place r (Var z) i) h).1 in
      let (hb, m) = below_row es rows a r n in
      premise-variable (below es rows r) r z.0 i hb (rule_at rows (below es rows r)) refl m l mz

  -- from any place, up and down
  goes-up : (p : Place) → is_place es rows p ≡ true → Up es rows p (upward es rows p)
  goes-up p h = rises-from p.row.0 p.atom.0 p.part h

  goes_down : (p : Place) → is_place es rows p ≡ true → Down es rows (below es rows p.row.0) p (downward es rows p)
  goes_down p h =
      let r = p.row.0 in
      let l = (place-parts es rows p h).0 in
      ⊎_elim
      (λ (n : suc r < length rows). falls-from r p.atom.0 p.part h n)
      (λ (n : length rows ≤ suc r). let e : r ≡ last es rows = omega arith in subst (Down es rows (below es rows r) p) (sym (last_falls r p.part p.atom.0 n)) e)
      (cases_lt (suc r) (length rows))

  -- what is known where the way up or the way down is known
  pub known_up : (p : Place) (o : Option Place) → is_place es rows p ≡ true → upward es rows p ≡ o → Up es rows p o
  known_up p o h e = subst (Up es rows p) e (goes-up p h)

  pub known-down : (p : Place) (o : Option Place) → is_place es rows p ≡ true → downward es rows p ≡ o → Down es rows (below es rows p.row.0) p o
  known-down p o h e = subst (Down es rows (below es rows p.row.0) p) e (goes_down p h)

  -- prev undoes next, and next undoes prev
  forth : (p q : Place) → is_place es rows p ≡ true → next es rows p ≡ Some q → (is_place es rows q ≡ true) × (prev es rows q ≡ Some p)
  forth p q h e =
      ⊎_elim
      (λ n. prev_from (subst (λ b. Returns es rows p b q) n (known_up p (Some q) h (sym (next-negative es rows p n) ∙ e)).0))
      (λ n. prev_from (subst (λ b. Returns es rows p (not b) q) n (known-down p (Some q) h (sym (next-positive es rows p n) ∙ e)).0))
      (cases_Bool (negative es rows p))

  back : (p q : Place) → is_place es rows q ≡ true → prev es rows q ≡ Some p → (is_place es rows p ≡ true) × (next es rows p ≡ Some q)
  back p q h e =
      ⊎_elim
      (λ n. next-from (subst (λ b. Returns es rows q (not b) p) n (known-down q (Some p) h (sym (prev_negative es rows q n) ∙ e)).0))
      (λ n. next-from (subst (λ b. Returns es rows q b p) n (known_up q (Some p) h (sym (prev_positive es rows q n) ∙ e)).0))
      (cases_Bool (negative es rows q))

  -- next is undefined only at the ends
  to_end : (p : Place) → is_place es rows p ≡ true → next es rows p ≡ None → is_end es rows p ≡ true
  to_end p h e =
      ⊎_elim
      (λ n. absurd (both_ways _ (known_up p None h (sym (next-negative es rows p n) ∙ e)).1 n))
      (λ n. and_from _ _ (eq-eqb _ _ (known-down p None h (sym (next-positive es rows p n) ∙ e))) (not_from_false _ n))
      (cases_Bool (negative es rows p))

  -- a place of the last row has no row below
  at_last : (p : Place) → eqb p.row.0 (last es rows) ≡ true → downward es rows p ≡ None
  at_last p l = let e = eqb-true _ _ l in last_falls p.row.0 p.part p.atom.0 (omega arith)

  -- next is undefined at the ends
  at_end : (p : Place) → is_end es rows p ≡ true → next es rows p ≡ None
  at_end p h =
      let (l, n) = and_parts _ _ h in
      next-positive es rows p (not-true _ n) ∙ at_last p l

  -- prev is undefined only at the starts
  from_start : (p : Place) → is_place es rows p ≡ true → prev es rows p ≡ None → is_start es rows p ≡ true
  from_start p h e =
      ⊎_elim
      (λ n. cond-true _ _ _ n ∙ eq-eqb _ _ (known-down p None h (sym (prev_negative es rows p n) ∙ e)))
      (λ n. cond-false _ _ _ n ∙ (known_up p None h (sym (prev_positive es rows p n) ∙ e)).0)
      (cases_Bool (negative es rows p))

  -- prev is undefined at the starts
  at_start : (p : Place) → is_start es rows p ≡ true → prev es rows p ≡ None
  at_start p s =
      ⊎_elim
      (λ n. prev_negative es rows p n ∙ at_last p (sym (cond-true _ _ _ n) ∙ s))
      (λ n. prev_positive es rows p n ∙ bit-rises es rows p.row.0 (rule_at rows p.row.0) p.part p.atom.0 (sym (cond-false _ _ _ n) ∙ s))
      (cases_Bool (negative es rows p))

-- the laws of next and prev
pub port_laws : (es : List TypeEntry) (rows : List Row) → Accepted es rows → PortLaws es rows
port_laws es rows a = record {
  forth = forth es rows a;
  back = back es rows a;
  to_end = to_end es rows a;
  at_end = at_end es rows a;
  from_start = from_start es rows a;
  at_start = λ p h. at_start es rows a p;
}
