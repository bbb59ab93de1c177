-- Places: which there are, which are equal, stand in a list, and move together. A gate's seats are places of its row and no ends.
use Rattle.std.proofs.Common.{◌≡◌, ℕ, zero, suc, ◌+◌, ◌-◌, ◌<◌, ◌≤◌, Bool, true, false, cond, not, eqb, ltb, ◌⊎◌, List, [], ◌∷◌, map, length, get_or, Some, sym, refl, ap, ◌∙◌, subst, inl, inr, ⊎_elim, arith}
use Rattle.std.proofs.lemmas.List.{get_or_past}
use Rattle.std.proofs.lemmas.Bool.{both_ways, cases_Bool, cases_lt, cases_eq, and_parts, and_from, and_right, or_cases, or_left, or_right, cond-true, cond-false, cond_both, eqb-true, eq-eqb, ltb-true, lt-ltb}
use Rattle.basics.specs.declared.gate.Gate.{Gate as GateName}
use Rattle.derivation.specs.declared.types.TypeEntry.{TypeEntry}
use Rattle.derivation.specs.declared.rows.Rule.{Rule}
use Rattle.derivation.specs.declared.rows.Rule.TheVariants.{Variable, Zero, One, Gate, Lambda, PairLambda, Apply, Pair}
use Rattle.derivation.specs.declared.rows.Row.{Row}
use Rattle.derivation.specs.declared.rows.Part.{Part}
use Rattle.derivation.specs.declared.rows.Part.TheVariants.{Ty, Variable as Var}
use Rattle.derivation.specs.declared.rows.Place.{Place}
use Rattle.basics.specs.Gates.{arity}
use Rattle.basics.specs.Sets.{has}
use Rattle.derivation.specs.Trees.{arrow, atoms, positive, power}
use Rattle.derivation.specs.Rows.{no_row}
use Rattle.derivation.specs.Judgements.{rule_at, env_at, tree_at}
use Rattle.derivation.specs.Places.{numbers, negative}
use Rattle.derivation.specs.Accepted.{Accepted}
use Rattle.theory.specs.Ports.{at, held, width, part_width, next, is_place, is_end}
use Rattle.theory.specs.Tokens.{same_part, same_place, among, wire_at, seats, seat_in, no_place, is_seat, together, all_stand}
use Rattle.theory.proofs.Signs.{rule_says, power-positive, power-atoms}

-- an atom of a part of row r
abbrev pub place : ℕ → Part → ℕ → Place
place r part i = record { row = record { 0 = r }; part = part; atom = record { 0 = i } }

-- the atoms of a variable, if the environment has it
pub part_has : (b : Bool) (n i : ℕ) → i < cond b n 0 → (b ≡ true) × (i < n)
part_has true n i h = (refl, h)
part_has false n i h = absurd (omega arith)

-- places, in types and in variables
module _ (es : List TypeEntry) (rows : List Row) where
  pub place_at_lem : (r i : ℕ) → r < length rows → i < width es rows r → is_place es rows (at r i) ≡ true
  place_at_lem r i h l = and_from _ _ (lt-ltb _ _ h) (lt-ltb _ _ l)

  pub place-held : (r z i : ℕ) → r < length rows → has (env_at rows r) z ≡ true → i < width es rows z → is_place es rows (held r z i) ≡ true
  place-held r z i h m l = and_from _ _ (lt-ltb _ _ h) (rw m (lt-ltb _ _ l))

  -- the row and the atom of a place
  pub place-parts : (p : Place) → is_place es rows p ≡ true → (p.row.0 < length rows) × (p.atom.0 < part_width es rows p.row.0 p.part)
  place-parts p h = let (r, i) = and_parts (ltb p.row.0 (length rows)) _ h in (ltb-true _ _ r, ltb-true _ _ i)

-- parts that pass the test are equal
pub same_part_lem : (x y : Part) → same_part x y ≡ true → x ≡ y
same_part_lem Ty Ty e = refl
same_part_lem Ty (Var y) e = absurd (both_ways false refl e)
same_part_lem (Var x) Ty e = absurd (both_ways false refl e)
same_part_lem (Var x) (Var y) e = ap (λ n. Var (record { 0 = n })) (eqb-true x.0 y.0 e)

-- equal parts pass it
part_same : (x : Part) → same_part x x ≡ true
part_same Ty = refl
part_same (Var x) = eq-eqb x.0 x.0 refl

-- two places pass the test exactly if they are equal
pub same_place_lem : (p q : Place) → same_place p q ≡ true → p ≡ q
same_place_lem p q e =
    let (rows, rest) = and_parts (eqb p.row.0 q.row.0) _ e in
    let (parts, atoms) = and_parts (same_part p.part q.part) _ rest in
    let r = eqb-true _ _ rows in
    let t = same_part_lem _ _ parts in
    let a = eqb-true _ _ atoms in
    λ i. record { row = record { 0 = r i }; part = t i; atom = record { 0 = a i } }

place_self : (p : Place) → same_place p p ≡ true
place_self p = and_from _ _ (eq-eqb _ _ refl) (and_from _ _ (part_same p.part) (eq-eqb _ _ refl))

pub place_same : (p q : Place) → p ≡ q → same_place p q ≡ true
place_same p q e = subst (λ (x : Place). same_place p x ≡ true) e (place_self p)

-- a place stands in a list exactly if it is one of the list's
pub among-at : (q : Place) (ps : List Place) → among q ps ≡ true → (i : ℕ) × (i < length ps) × (get_or ps i no_place ≡ q)
among-at q [] e = absurd (both_ways false refl e)
among-at q (p ∷ ps) e = ⊎_elim
    (λ s. (0, omega arith, same_place_lem p q s))
    (λ s. let (i, h, f) = among-at q ps s in (suc i, omega arith, f))
    (or_cases (same_place p q) (among q ps) e)

pub among-here : (q : Place) (ps : List Place) (i : ℕ) → i < length ps → get_or ps i no_place ≡ q → among q ps ≡ true
among-here q [] i h e = absurd (omega arith)
among-here q (p ∷ ps) zero h e = or_left (same_place p q) (among q ps) (place_same p q e)
among-here q (p ∷ ps) (suc i) h e = or_right (same_place p q) (among q ps) (among-here q ps i (omega arith) e)

-- the wire of a place where a token stands
pub wire-found : (tokens : List Place) (p : Place) → among p tokens ≡ true → (wire_at tokens p < length tokens) × (get_or tokens (wire_at tokens p) no_place ≡ p)
wire-found [] p h = absurd (both_ways false refl h)
wire-found (t ∷ ts) p h =
    cond_both (same_place t p) 0 (suc (wire_at ts p)) (λ n. (n < suc (length ts)) × (get_or (t ∷ ts) n no_place ≡ p))
    (λ e. (omega arith, same_place_lem t p e))
    (λ e. let f = wire-found ts p (⊎_elim (λ k. absurd (both_ways _ e k)) (λ k. k) (or_cases (same_place t p) _ h)) in (omega (arith, f.0), f.1))

-- tokens stand at all places of a list exactly if they do at each
pub all-stand-from : (tokens ps : List Place) → all_stand tokens ps ≡ true → (q : Place) → among q ps ≡ true → among q tokens ≡ true
all-stand-from tokens [] a q e = absurd (both_ways false refl e)
all-stand-from tokens (p ∷ ps) a q e =
    let (first, rest) = and_parts (among p tokens) (all_stand tokens ps) a in
    ⊎_elim
    (λ s. subst (λ (x : Place). among x tokens ≡ true) (same_place_lem p q s) first)
    (λ s. all-stand-from tokens ps rest q s)
    (or_cases (same_place p q) (among q ps) e)

pub all-stand_to : (tokens ps : List Place) → ((q : Place) → among q ps ≡ true → among q tokens ≡ true) → all_stand tokens ps ≡ true
all-stand_to tokens [] h = refl
all-stand_to tokens (p ∷ ps) h =
    and_from _ _ (h p (or_left (same_place p p) (among p ps) (place_self p)))
    (all-stand_to tokens ps (λ q e. h q (or_right (same_place p q) (among q ps) e)))

-- the places of a row with numbers from k on
pub row-among : (r k n : ℕ) (q : Place) → among q (map (at r) (numbers k n)) ≡ true → (j : ℕ) × (j < k + n) × (at r j ≡ q)
row-among r k zero q e = absurd (both_ways false refl e)
row-among r k (suc n) q e = ⊎_elim
    (λ s. (k, omega arith, same_place_lem (at r k) q s))
    (λ s. let (j, h, f) = row-among r (suc k) n q s in (j, omega arith, f))
    (or_cases (same_place (at r k) q) _ e)

pub among-row : (r k n j : ℕ) → k ≤ j → j < k + n → among (at r j) (map (at r) (numbers k n)) ≡ true
among-row r k zero j h l = absurd (omega arith)
among-row r k (suc n) j h l = ⊎_elim
    (λ s. or_left (same_place (at r k) (at r j)) _ (place_same (at r k) (at r j) (ap (at r) s)))
    (λ s. or_right (same_place (at r k) (at r j)) _ (among-row r (suc k) n j (omega arith) (omega arith)))
    (cases_eq k j)

-- a seat is one of the first atoms of a gate's type
seat_in_lem : (rule : Rule) (part : Part) (i : ℕ) → seat_in rule part i ≡ true → (g : GateName) × (rule ≡ Gate g) × (part ≡ Ty) × (i < arity g)
seat_in_lem Variable Ty i e = absurd (omega (arith, ltb-true i 0 e))
seat_in_lem Zero Ty i e = absurd (omega (arith, ltb-true i 0 e))
seat_in_lem One Ty i e = absurd (omega (arith, ltb-true i 0 e))
seat_in_lem (Gate g) Ty i e = (g, refl, refl, ltb-true i (arity g) e)
seat_in_lem (Lambda p x) Ty i e = absurd (omega (arith, ltb-true i 0 e))
seat_in_lem (PairLambda p x y) Ty i e = absurd (omega (arith, ltb-true i 0 e))
seat_in_lem (Apply f a) Ty i e = absurd (omega (arith, ltb-true i 0 e))
seat_in_lem (Pair l r) Ty i e = absurd (omega (arith, ltb-true i 0 e))
seat_in_lem rule (Var x) i e = absurd (both_ways false refl e)

-- the gate, the atom and the whole of a seat
pub seat_facts : (es : List TypeEntry) (rows : List Row) (p : Place) → is_seat es rows p ≡ true
    → (g : GateName) × (rule_at rows p.row.0 ≡ Gate g) × (p.atom.0 < arity g) × (at p.row.0 p.atom.0 ≡ p)
seat_facts es rows p e =
    let (g, rule, part, h) = seat_in_lem (rule_at rows p.row.0) p.part p.atom.0 e in
    (g, rule, h, λ i. record { row = p.row; part = sym part i; atom = p.atom })

-- two places move together: seats of one row, or a place that is no seat and itself
abbrev pub Mates : List TypeEntry → List Row → Place → Place → Type 0
Mates es rows p q =
    ((is_seat es rows p ≡ true) × (is_seat es rows q ≡ true) × (p.row.0 ≡ q.row.0))
    ⊎ ((is_seat es rows p ≡ false) × (p ≡ q))

module _ (es : List TypeEntry) (rows : List Row) where
  pub mates-from : (p q : Place) → among q (together es rows p) ≡ true → Mates es rows p q
  mates-from p q e = ⊎_elim
      (λ s.
      let r = p.row.0 in
      let (j, h, f) = row-among r 0 (seats (rule_at rows r)) q (ap (among q) (sym (cond-true (is_seat es rows p) _ _ s)) ∙ e) in
      inl (s, subst (λ (x : Place). is_seat es rows x ≡ true) f (lt-ltb j (seats (rule_at rows r)) (omega arith)), ap (λ (x : Place). x.row.0) f))
      (λ s. inr (s, only_one (ap (among q) (sym (cond-false (is_seat es rows p) _ _ s)) ∙ e)))
      (cases_Bool (is_seat es rows p))
    where
      only_one : among q (p ∷ []) ≡ true → p ≡ q
      only_one f = ⊎_elim (λ s. same_place_lem p q s) (λ s. absurd (both_ways false refl s)) (or_cases (same_place p q) false f)

  pub mates_to : (p q : Place) → Mates es rows p q → among q (together es rows p) ≡ true
  mates_to p q (inl (s, t, e)) =
      let (g, rule, h, f) = seat_facts es rows q t in
      ap (among q) (cond-true (is_seat es rows p) _ _ s)
      ∙ subst (λ (r : ℕ). among q (map (at r) (numbers 0 (seats (rule_at rows r)))) ≡ true) (sym e)
      (subst (λ (x : Place). among x (map (at q.row.0) (numbers 0 (seats (rule_at rows q.row.0)))) ≡ true) f
      (among-row q.row.0 0 (seats (rule_at rows q.row.0)) q.atom.0 (omega arith) (let n = ap seats rule in omega arith)))
  mates_to p q (inr (s, e)) = ap (among q) (cond-false (is_seat es rows p) _ _ s) ∙ or_left (same_place p q) false (place_same p q e)

  -- moving together is an equivalence
  pub mates_self : (p : Place) → Mates es rows p p
  mates_self p = ⊎_elim (λ s. inl (s, s, refl)) (λ s. inr (s, refl)) (cases_Bool (is_seat es rows p))

  pub mates_sym : (p q : Place) → Mates es rows p q → Mates es rows q p
  mates_sym p q (inl (s, t, e)) = inl (t, s, sym e)
  mates_sym p q (inr (s, e)) = inr (subst (λ (x : Place). is_seat es rows x ≡ false) e s, sym e)

  pub mates_trans : (p q r : Place) → Mates es rows p q → Mates es rows q r → Mates es rows p r
  mates_trans p q r (inl (s, t, e)) (inl (t', u, f)) = inl (s, u, e ∙ f)
  mates_trans p q r (inl (s, t, e)) (inr (t', f)) = absurd (both_ways (is_seat es rows q) t' t)
  mates_trans p q r (inr (s, e)) (inl (t, u, f)) = absurd (both_ways (is_seat es rows p) s (subst (λ (x : Place). is_seat es rows x ≡ true) (sym e) t))
  mates_trans p q r (inr (s, e)) (inr (t, f)) = inr (s, e ∙ f)

-- a row with a gate is a row of the derivation
gate-row : (rows : List Row) (r : ℕ) (g : GateName) → rule_at rows r ≡ Gate g → r < length rows
gate-row rows r g e = ⊎_elim (λ h. h)
    (λ h. let past = ap (λ (row : Row). row.rule) (get_or_past rows r no_row h) in let z : ◌≡◌ {A = ℕ} 0 1 = cc in absurd (omega arith))
    (cases_lt r (length rows))

-- the tree of a gate's row
pub gate-tree : (es : List TypeEntry) (rows : List Row) → Accepted es rows → (r : ℕ) (g : GateName) → rule_at rows r ≡ Gate g
    → tree_at es rows r ≡ arrow (power (arity g)) (power (arity g))
gate-tree es rows a r g e = (rule_says es rows a r (Gate g) (gate-row rows r g e) e).0

-- a gate's first atoms are seats, and move together
module _ (es : List TypeEntry) (rows : List Row) (r : ℕ) (g : GateName) (e : rule_at rows r ≡ Gate g) (i : ℕ) (l : i < arity g) where
  pub seat_is : is_seat es rows (at r i) ≡ true
  seat_is = ap (λ k. ltb i (seats k)) e ∙ lt-ltb i (arity g) l

  pub together_seat : together es rows (at r i) ≡ map (at r) (numbers 0 (arity g))
  together_seat = cond-true _ _ _ seat_is ∙ ap (λ k. map (at r) (numbers 0 (seats k))) e

module _ (es : List TypeEntry) (rows : List Row) (a : Accepted es rows) where
  module _ (r : ℕ) (g : GateName) (e : rule_at rows r ≡ Gate g) where
    -- a gate row's type has two atoms for each seat
    pub gate-width : width es rows r ≡ arity g + arity g
    gate-width = omega (arith, ap atoms (gate-tree es rows a r g e), power-atoms g)

    -- an atom of it is negative exactly if it is a seat
    pub gate-negative : (i : ℕ) → negative es rows (at r i) ≡ ltb i (arity g)
    gate-negative i =
        ap (λ t. not (positive t i)) (gate-tree es rows a r g e)
        ∙ rw (power-atoms g, power-positive (arity g) i, power-positive (arity g) (i - arity g)) (flipped (ltb i (arity g)))
      where
        flipped : (b : Bool) → not (cond b false true) ≡ b
        flipped true = refl
        flipped false = refl

    -- the place after a seat is the result of the same seat
    pub next-seat : (i : ℕ) → i < arity g → next es rows (at r i) ≡ Some (at r (arity g + i))
    unfolding next
    next-seat i l = rw (gate-negative i, e, lt-ltb i (arity g) l) refl

  -- a seat is a place
  pub seat_place : (p : Place) → is_seat es rows p ≡ true → is_place es rows p ≡ true
  seat_place p s =
      let (g, rule, h, e) = seat_facts es rows p s in
      let w = gate-width p.row.0 g rule in
      subst (λ (x : Place). is_place es rows x ≡ true) e (place_at_lem es rows p.row.0 p.atom.0 (gate-row rows p.row.0 g rule) (omega arith))

  -- tokens climb at a seat
  pub seat_negative : (p : Place) → is_seat es rows p ≡ true → negative es rows p ≡ true
  seat_negative p s =
      let (g, rule, h, e) = seat_facts es rows p s in
      subst (λ (x : Place). negative es rows x ≡ true) e (gate-negative p.row.0 g rule p.atom.0 ∙ lt-ltb _ _ h)

  -- a seat is no end
  pub seat_no_end : (p : Place) → is_seat es rows p ≡ true → is_end es rows p ≡ false
  seat_no_end p s = and_right _ _ (ap not (seat_negative p s))
