-- The places that each rule joins, those of its row with those of its premises: the ways up and down between them, and their signs.
use Rattle.std.proofs.Common.{◌≡◌, ℕ, ◌+◌, ◌-◌, ◌<◌, Bool, true, false, cond, not, ◌||◌, eqb, ◌⊎◌, List, [], ◌∷◌, length, Some, Option, sym, refl, ap, ◌∙◌, subst, ⊎_elim, arith}
use mathlib.Core.Bool.{not-not}
use Rattle.std.proofs.lemmas.Bool.{and_from, or_left, or_right, not_from_false, cond-true, cond-false, eq-eqb, ne_eqb, lt-ltb, le-ltb}
use Rattle.derivation.specs.declared.types.TypeEntry.{TypeEntry}
use Rattle.basics.specs.declared.numbers.RowId.{RowId}
use Rattle.derivation.specs.declared.rows.Rule.{Rule}
use Rattle.derivation.specs.declared.rows.Rule.TheVariants.{Lambda, PairLambda, Apply, Pair}
use Rattle.derivation.specs.declared.rows.Row.{Row}
use Rattle.derivation.specs.declared.rows.Part.{Part}
use Rattle.derivation.specs.declared.rows.Part.TheVariants.{Ty, Variable as Var}
use Rattle.derivation.specs.declared.rows.Place.{Place}
use Rattle.basics.specs.Sets.{has}
use Rattle.derivation.specs.Trees.{atoms, positive}
use Rattle.derivation.specs.Rows.{premises, binders}
use Rattle.derivation.specs.Judgements.{Apart, rule_at, env_at, tree_at}
use Rattle.derivation.specs.Places.{negative}
use Rattle.derivation.specs.Accepted.{Accepted}
use Rattle.derivation.proofs.TreeLaws.{not_so}
use Rattle.theory.specs.Ports.{at, held, listed, below, width, owner, across_own, across_premise, upward, downward, is_place}
use Rattle.theory.specs.Steps.{Joins}
use Rattle.theory.proofs.Basics.{listed-first, listed-second, listed-one, listed_two, unlisted-one, unlisted_two}
use Rattle.theory.proofs.Belows.{premise-lower, below_premise, premises_differ}
use Rattle.theory.proofs.Signs.{rule_says, arrow-left, arrow-right, pair_left, pair-right}
use Rattle.theory.proofs.Ways.{place_at_lem, place-held}

-- the place that a test chooses, and equal places
pub first : (b : Bool) (p q : Place) → b ≡ true → ◌≡◌ {A = Option Place} (Some (cond b p q)) (Some p)
first b p q e = ap {B = Option Place} Some (cond-true b p q e)

pub second : (b : Bool) (p q : Place) → b ≡ false → ◌≡◌ {A = Option Place} (Some (cond b p q)) (Some q)
second b p q e = ap {B = Option Place} Some (cond-false b p q e)

pub same : (p q : Place) → p ≡ q → ◌≡◌ {A = Option Place} (Some p) (Some q)
same p q e = ap {B = Option Place} Some e

-- what holds of a row's premise, or of both, holds of each row that is listed
pub for_one : (P : ℕ → Type 0) (p q : ℕ) → listed q (p ∷ []) ≡ true → P p → P q
for_one P p q l h = subst P (listed-one q p l) h

pub for_both : (P : ℕ → Type 0) (p p' q : ℕ) → listed q (p ∷ p' ∷ []) ≡ true → P p → P p' → P q
for_both P p p' q l h h' = ⊎_elim (λ e. subst P e h) (λ e. subst P e h') (listed_two q p p' l)

-- the rule of row r joins two places, either way round
abbrev pub Linked : List TypeEntry → List Row → ℕ → Place → Place → Type 0
Linked es rows r p q = Joins es rows r p q ⊎ Joins es rows r q p

-- a place p of row r and a place q of a premise that the rule of r joins: p leads up to q, q leads down to p, and their signs agree
pub record Link (es : List TypeEntry) (rows : List Row) (r : ℕ) (p q : Place) : Type 0 where
  pub joins : Joins es rows r p q
  pub own : p.row.0 ≡ r
  pub premise : listed q.row.0 (premises (rule_at rows r)) ≡ true
  pub lower_place : is_place es rows p ≡ true
  pub upper_place : is_place es rows q ≡ true
  pub rises : upward es rows p ≡ Some q
  pub falls : downward es rows q ≡ Some p
  pub signs : negative es rows p ≡ negative es rows q

module _ (es : List TypeEntry) (rows : List Row) where
  -- a variable of one of two premises is one of the two together, and that premise is its owner
  owned : (p p' q z : ℕ) → Apart (env_at rows p) (env_at rows p') → listed q (p ∷ p' ∷ []) ≡ true → has (env_at rows q) z ≡ true
      → ((has (env_at rows p) z || has (env_at rows p') z) ≡ true) × (owner es rows p p' z ≡ q)
  owned p p' q z d l =
      for_both (λ q. has (env_at rows q) z ≡ true → ((has (env_at rows p) z || has (env_at rows p') z) ≡ true) × (owner es rows p p' z ≡ q)) p p' q l
      (λ m. (or_left _ _ m, cond-true _ _ _ m))
      (λ m. (or_right _ _ m, cond-false _ _ _ (not_so _ (λ o. d z o m))))

module _ (es : List TypeEntry) (rows : List Row) (a : Accepted es rows) where
  module _ (r : ℕ) (h : r < length rows) (k : Rule) (e : rule_at rows r ≡ k) where
    -- a premise of its rule is one of row r
    pub premise-listed : (q : ℕ) → listed q (premises k) ≡ true → listed q (premises (rule_at rows r)) ≡ true
    premise-listed q l = ap (λ k. listed q (premises k)) e ∙ l

    -- and it is a row
    pub premise-row : (q : ℕ) → listed q (premises k) ≡ true → q < length rows
    premise-row q l = let low = premise-lower es rows a r q h (premise-listed q l) in omega arith

    -- through the rule of row r, from its own part and from a part of premise q
    pub rise : (part : Part) (i : ℕ) → across_own es rows r (rule_at rows r) part i ≡ across_own es rows r k part i
    rise part i = ap (λ k. across_own es rows r k part i) e

    fall : (q : ℕ) (part : Part) (i : ℕ) → listed q (premises k) ≡ true
        → across_premise es rows (below es rows q) (rule_at rows (below es rows q)) q part i ≡ across_premise es rows r k q part i
    fall q part i l =
        rw (below_premise es rows a r q h (premise-listed q l)) (ap (λ k. across_premise es rows r k q part i) e)

    -- a variable of row r and of its premise q
    environment : (q z i : ℕ) → listed q (premises k) ≡ true → listed z (binders k) ≡ false → has (env_at rows r) z ≡ true → has (env_at rows q) z ≡ true → i < width es rows z
        → across_own es rows r k (Var (record { 0 = z })) i ≡ Some (held q z i)
        → across_premise es rows r k q (Var (record { 0 = z })) i ≡ Some (held r z i)
        → Link es rows r (held r z i) (held q z i)
    environment q z i l b mr mq w o p = record {
      joins = Joins.environment (premise-listed q l) mq (ap (λ k. listed z (binders k)) e ∙ b) w;
      own = refl;
      premise = premise-listed q l;
      lower_place = place-held es rows r z i h mr w;
      upper_place = place-held es rows q z i (premise-row q l) mq w;
      rises = rise _ i ∙ o;
      falls = fall q _ i l ∙ p;
      signs = refl;
    }

    -- an atom of row r's type and one of the type of its premise q
    types : (q i j : ℕ) → listed q (premises k) ≡ true → Joins es rows r (at r i) (at q j) → i < width es rows r → j < width es rows q
        → across_own es rows r k Ty i ≡ Some (at q j)
        → across_premise es rows r k q Ty j ≡ Some (at r i)
        → positive (tree_at es rows r) i ≡ positive (tree_at es rows q) j
        → Link es rows r (at r i) (at q j)
    types q i j l k wr wq o p s = record {
      joins = k;
      own = refl;
      premise = premise-listed q l;
      lower_place = place_at_lem es rows r i h wr;
      upper_place = place_at_lem es rows q j (premise-row q l) wq;
      rises = rise _ i ∙ o;
      falls = fall q _ j l ∙ p;
      signs = ap not s;
    }

    -- an atom of row r's type and one of a variable of its premise q
    binder : (q x i j : ℕ) → listed q (premises k) ≡ true → Joins es rows r (at r i) (held q x j) → i < width es rows r → has (env_at rows q) x ≡ true → j < width es rows x
        → across_own es rows r k Ty i ≡ Some (held q x j)
        → across_premise es rows r k q (Var (record { 0 = x })) j ≡ Some (at r i)
        → positive (tree_at es rows r) i ≡ not (positive (tree_at es rows x) j)
        → Link es rows r (at r i) (held q x j)
    binder q x i j l k wr m w o p s = record {
      joins = k;
      own = refl;
      premise = premise-listed q l;
      lower_place = place_at_lem es rows r i h wr;
      upper_place = place-held es rows q x j (premise-row q l) m w;
      rises = rise _ i ∙ o;
      falls = fall q _ j l ∙ p;
      signs = ap not s ∙ not-not _;
    }

  module _ (r : ℕ) (h : r < length rows) (p x : RowId) (e : rule_at rows r ≡ Lambda p x) where
    -- the first atoms of a lambda's type, and its bound variable
    pub lambda-bound : (i : ℕ) → i < width es rows x.0 → Link es rows r (at r i) (held p.0 x.0 i)
    lambda-bound i l =
        let (t, m, env) = rule_says es rows a r (Lambda p x) h e in
        let w = ap atoms t in
        binder r h (Lambda p x) e p.0 x.0 i i (listed-first p.0 []) (Joins.bound e l) (omega arith) m l
        (first _ _ _ (lt-ltb _ _ l))
        (first _ _ _ (eq-eqb x.0 x.0 refl))
        (arrow-left _ _ _ i t l)

    -- the rest, and the body
    pub lambda-body : (i j : ℕ) → i ≡ width es rows x.0 + j → j < width es rows p.0 → Link es rows r (at r i) (at p.0 j)
    lambda-body i j s l =
        let (t, m, env) = rule_says es rows a r (Lambda p x) h e in
        let w = ap atoms t in
        let d : i - width es rows x.0 ≡ j = omega arith in
        types r h (Lambda p x) e p.0 i j (listed-first p.0 []) (subst (λ n. Joins es rows r (at r n) (at p.0 j)) (sym s) (Joins.body e l)) (omega arith) l
        (second _ _ _ (le-ltb i (width es rows x.0) (omega arith)) ∙ same _ _ (ap (at p.0) d))
        (same _ _ (ap (at r) (sym s)))
        (arrow-right _ _ _ i t j s)

    -- the other variables of the body
    pub lambda-environment : (z i : ℕ) → has (env_at rows p.0) z ≡ true → eqb z x.0 ≡ false → i < width es rows z → Link es rows r (held r z i) (held p.0 z i)
    lambda-environment z i m d l =
        let (t, mx, env) = rule_says es rows a r (Lambda p x) h e in
        environment r h (Lambda p x) e p.0 z i (listed-first p.0 []) (unlisted-one z x.0 d) (env z ∙ and_from _ _ m (not_from_false _ d)) m l refl
        (second _ _ _ d)

  module _ (r : ℕ) (h : r < length rows) (p x y : RowId) (e : rule_at rows r ≡ PairLambda p x y) where
    -- the first atoms of a pair lambda's type, and its first bound variable
    pub pair-bound-first : (i : ℕ) → i < width es rows x.0 → Link es rows r (at r i) (held p.0 x.0 i)
    pair-bound-first i l =
        let (t, mx, my, d, env) = rule_says es rows a r (PairLambda p x y) h e in
        let w = ap atoms t in
        binder r h (PairLambda p x y) e p.0 x.0 i i (listed-first p.0 []) (Joins.bound_first e l) (omega arith) mx l
        (first _ _ _ (lt-ltb _ _ l))
        (first _ _ _ (eq-eqb x.0 x.0 refl))
        (arrow-left _ _ _ i t (omega arith) ∙ ap not (pair_left _ _ _ i refl l))

    -- the next, and its second bound variable
    pub pair-bound-second : (i j : ℕ) → i ≡ width es rows x.0 + j → j < width es rows y.0 → Link es rows r (at r i) (held p.0 y.0 j)
    pair-bound-second i j s l =
        let (t, mx, my, d, env) = rule_says es rows a r (PairLambda p x y) h e in
        let w = ap atoms t in
        let n : i - width es rows x.0 ≡ j = omega arith in
        binder r h (PairLambda p x y) e p.0 y.0 i j (listed-first p.0 []) (subst (λ n. Joins es rows r (at r n) (held p.0 y.0 j)) (sym s) (Joins.bound_second e l)) (omega arith) my l
        (second _ _ _ (le-ltb i (width es rows x.0) (omega arith)) ∙ first _ _ _ (lt-ltb i (width es rows x.0 + width es rows y.0) (omega arith)) ∙ same _ _ (ap (held p.0 y.0) n))
        (second _ _ _ (ne_eqb y.0 x.0 (λ q. d (sym q))) ∙ first _ _ _ (eq-eqb y.0 y.0 refl) ∙ same _ _ (ap (at r) (sym s)))
        (arrow-left _ _ _ i t (omega arith) ∙ ap not (pair-right _ _ _ i refl j s))

    -- the rest, and the body
    pub pair_body : (i j : ℕ) → i ≡ width es rows x.0 + width es rows y.0 + j → j < width es rows p.0 → Link es rows r (at r i) (at p.0 j)
    pair_body i j s l =
        let (t, mx, my, d, env) = rule_says es rows a r (PairLambda p x y) h e in
        let w = ap atoms t in
        let n : i - (width es rows x.0 + width es rows y.0) ≡ j = omega arith in
        types r h (PairLambda p x y) e p.0 i j (listed-first p.0 []) (subst (λ n. Joins es rows r (at r n) (at p.0 j)) (sym s) (Joins.pair_body e l)) (omega arith) l
        (second _ _ _ (le-ltb i (width es rows x.0) (omega arith)) ∙ second _ _ _ (le-ltb i (width es rows x.0 + width es rows y.0) (omega arith)) ∙ same _ _ (ap (at p.0) n))
        (same _ _ (ap (at r) (sym s)))
        (arrow-right _ _ _ i t j s)

    -- the other variables of the body
    pub pair-lambda-environment : (z i : ℕ) → has (env_at rows p.0) z ≡ true → eqb z x.0 ≡ false → eqb z y.0 ≡ false → i < width es rows z
        → Link es rows r (held r z i) (held p.0 z i)
    pair-lambda-environment z i m dx dy l =
        let (t, mx, my, d, env) = rule_says es rows a r (PairLambda p x y) h e in
        environment r h (PairLambda p x y) e p.0 z i (listed-first p.0 []) (unlisted_two z x.0 y.0 dx dy)
        (env z ∙ and_from _ _ (and_from _ _ m (not_from_false _ dx)) (not_from_false _ dy)) m l refl
        (second _ _ _ dx ∙ second _ _ _ dy)

  module _ (r : ℕ) (h : r < length rows) (f b : RowId) (e : rule_at rows r ≡ Apply f b) where
    -- an atom of an application's type, and one of the function's
    pub apply-result : (i j : ℕ) → j ≡ width es rows b.0 + i → i < width es rows r → Link es rows r (at r i) (at f.0 j)
    apply-result i j s l =
        let (t, env, d) = rule_says es rows a r (Apply f b) h e in
        let w = ap atoms t in
        let n : j - width es rows b.0 ≡ i = omega arith in
        types r h (Apply f b) e f.0 i j (listed-first f.0 (b.0 ∷ [])) (subst (λ n. Joins es rows r (at r i) (at f.0 n)) (sym s) (Joins.result e l)) l (omega arith)
        (same _ _ (ap (at f.0) (sym s)))
        (first _ _ _ (eq-eqb f.0 f.0 refl) ∙ second _ _ _ (le-ltb j (width es rows b.0) (omega arith)) ∙ same _ _ (ap (at r) n))
        (sym (arrow-right _ _ _ j t i s))

    -- an atom of the argument leads to the same of the function, and back
    pub apply-falls : (i : ℕ) → i < width es rows b.0 → (downward es rows (at f.0 i) ≡ Some (at b.0 i)) × (downward es rows (at b.0 i) ≡ Some (at f.0 i))
    apply-falls i l =
        let differ = premises_differ es rows a r f.0 b.0 h (ap premises e) in (
          fall r h (Apply f b) e f.0 Ty i (listed-first f.0 (b.0 ∷ [])) ∙ first _ _ _ (eq-eqb f.0 f.0 refl) ∙ first _ _ _ (lt-ltb _ _ l),
          fall r h (Apply f b) e b.0 Ty i (listed-second f.0 b.0) ∙ second _ _ _ (ne_eqb b.0 f.0 (λ q. differ (sym q))),
        )

    -- the variables of function and argument
    pub apply-environment : (q z i : ℕ) → listed q (f.0 ∷ b.0 ∷ []) ≡ true → has (env_at rows q) z ≡ true → i < width es rows z → Link es rows r (held r z i) (held q z i)
    apply-environment q z i l m w =
        let (t, env, d) = rule_says es rows a r (Apply f b) h e in
        let (some, own) = owned es rows f.0 b.0 q z d l m in
        environment r h (Apply f b) e q z i l refl (env z ∙ some) m w (same _ _ (ap (λ q. held q z i) own)) refl

  module _ (r : ℕ) (h : r < length rows) (p p' : RowId) (e : rule_at rows r ≡ Pair p p') where
    -- the first atoms of a pair's type, and its left part
    pub pair-first : (i : ℕ) → i < width es rows p.0 → Link es rows r (at r i) (at p.0 i)
    pair-first i l =
        let (t, env, d) = rule_says es rows a r (Pair p p') h e in
        let w = ap atoms t in
        types r h (Pair p p') e p.0 i i (listed-first p.0 (p'.0 ∷ [])) (Joins.left_part e l) (omega arith) l
        (first _ _ _ (lt-ltb _ _ l))
        (first _ _ _ (eq-eqb p.0 p.0 refl))
        (pair_left _ _ _ i t l)

    -- the rest, and its right part
    pub pair-second : (i j : ℕ) → i ≡ width es rows p.0 + j → j < width es rows p'.0 → Link es rows r (at r i) (at p'.0 j)
    pair-second i j s l =
        let (t, env, d) = rule_says es rows a r (Pair p p') h e in
        let w = ap atoms t in
        let n : i - width es rows p.0 ≡ j = omega arith in
        let differ = premises_differ es rows a r p.0 p'.0 h (ap premises e) in
        types r h (Pair p p') e p'.0 i j (listed-second p.0 p'.0) (subst (λ n. Joins es rows r (at r n) (at p'.0 j)) (sym s) (Joins.right_part e l)) (omega arith) l
        (second _ _ _ (le-ltb i (width es rows p.0) (omega arith)) ∙ same _ _ (ap (at p'.0) n))
        (second _ _ _ (ne_eqb p'.0 p.0 (λ q. differ (sym q))) ∙ same _ _ (ap (at r) (sym s)))
        (pair-right _ _ _ i t j s)

    -- the variables of both parts
    pub pair-environment : (q z i : ℕ) → listed q (p.0 ∷ p'.0 ∷ []) ≡ true → has (env_at rows q) z ≡ true → i < width es rows z → Link es rows r (held r z i) (held q z i)
    pair-environment q z i l m w =
        let (t, env, d) = rule_says es rows a r (Pair p p') h e in
        let (some, own) = owned es rows p.0 p'.0 q z d l m in
        environment r h (Pair p p') e q z i l refl (env z ∙ some) m w (same _ _ (ap (λ q. held q z i) own)) refl
