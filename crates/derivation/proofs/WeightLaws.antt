-- Laws of sums over a set.
use Rattle.std.proofs.Common.{◌≡◌, ℕ, zero, suc, ◌+◌, ◌*◌, ◌<◌, ◌≤◌, Bool, true, false, cond, ◌||◌, List, [], ◌∷◌, map, sum_by, sym, refl, ap, ◌∙◌, ⊎_elim, suc-mul, arith}
use Rattle.std.proofs.Math.Bool.{and-true}
use Rattle.std.proofs.lemmas.List.Sums.{sum_by-cons}
use Rattle.std.proofs.lemmas.Bool.{cases_lt, eq-eqb, ne_eqb, and_parts, ltb-true}
use Rattle.derivation.specs.declared.types.TypeEntry.{TypeEntry}
use Rattle.derivation.specs.declared.rows.Row.{Row}
use Rattle.derivation.specs.declared.rows.Rule.{Rule}
use Rattle.basics.specs.Sets.{has, only, union, without}
use Rattle.derivation.specs.Trees.{Tree, qubit, arrow, pair, atoms}
use Rattle.derivation.specs.Rows.{premises, binders, introduced, all_below}
use Rattle.derivation.specs.Judgements.{Judgement, Apart, rule_at, env_at, judged, Follows}
use Rattle.derivation.specs.Judgements.{Infers, variable, zero_bit, one_bit, gate, abstraction, pair_abstraction, application, pairing}
use Rattle.derivation.specs.Weights.{weight, positives}
use Rattle.basics.proofs.SetLaws.{has_none, has-only, has-union, has-without}

-- the sum depends only on f at the members below n
pub weight-same : (m n : ℕ) (f g : ℕ → ℕ) → ((x : ℕ) → x < n → has m x ≡ true → f x ≡ g x) → weight m f n ≡ weight m g n
weight-same m zero f g h = refl
weight-same m (suc n) f g h = go (has m n) refl (weight-same m n f g (λ x l. h x (omega arith)))
  where
    go : (b : Bool) → has m n ≡ b → weight m f n ≡ weight m g n → weight m f n + cond b (f n) 0 ≡ weight m g n + cond b (g n) 0
    go true e ih = let k = h n (omega arith) e in omega arith
    go false e ih = omega arith

-- sets with the same members below n have the same sum
pub weight_alike : (a b n : ℕ) (f : ℕ → ℕ) → ((x : ℕ) → x < n → has a x ≡ has b x) → weight a f n ≡ weight b f n
weight_alike a b zero f h = refl
weight_alike a b (suc n) f h =
    let ih = weight_alike a b n f (λ x l. h x (omega arith)) in
    rw (h n (omega arith), ih) refl

-- nothing is in the empty set
pub weight_none : (f : ℕ → ℕ) (n : ℕ) → weight 0 f n ≡ 0
weight_none f zero = refl
weight_none f (suc n) = rw (weight_none f n, has_none n) refl

-- one more member x adds f x
pub weight-more : (a b x n : ℕ) (f : ℕ → ℕ) → has a x ≡ false → has b x ≡ true → ((z : ℕ) → (z ≡ x → ⊥) → has a z ≡ has b z) → x < n
    → weight a f n + f x ≡ weight b f n
weight-more a b x zero f u v h l = absurd (omega arith)
weight-more a b x (suc n) f u v h l =
    ⊎_elim
    (λ (k : x < n).
    let ih = weight-more a b x n f u v h k in
    let e = h n (λ (q : n ≡ x). omega arith) in
    rw e (omega arith))
    (λ (k : n ≤ x).
    let e : x ≡ n = omega arith in
    let u' = rw e at u in
    let v' = rw e at v in
    let same = weight_alike a b n f (λ z q. h z (λ (p : z ≡ x). omega arith)) in
    rw (u', v', e) (omega arith))
    (cases_lt x n)

-- the set of x alone
pub weight-only : (x n : ℕ) (f : ℕ → ℕ) → x < n → weight (only x) f n ≡ f x
weight-only x n f l =
    let here = has-only x x ∙ eq-eqb x x refl in
    let others = λ (z : ℕ) (ne : z ≡ x → ⊥). has_none z ∙ sym (has-only x z ∙ ne_eqb z x ne) in
    let none = weight_none f n in
    let more = weight-more 0 (only x) x n f (has_none x) here others l in
    omega arith

-- one member less
pub weight-without : (m x n : ℕ) (f : ℕ → ℕ) → has m x ≡ true → x < n → weight (without m x) f n + f x ≡ weight m f n
weight-without m x n f h l =
    weight-more (without m x) m x n f (rw (has-without m x x, h, eq-eqb x x refl) refl) h
    (λ z ne. rw (has-without m x z, ne_eqb z x ne) (and-true (has m z))) l

-- two different members less
pub weight-without-both : (m x y n : ℕ) (f : ℕ → ℕ) → has m x ≡ true → has m y ≡ true → (x ≡ y → ⊥) → x < n → y < n
    → weight (without (without m x) y) f n + f x + f y ≡ weight m f n
weight-without-both m x y n f hx hy ne lx ly =
    let still : has (without m x) y ≡ true = rw (has-without m x y, hy, ne_eqb y x (λ e. ne (sym e))) refl in
    let e = weight-without (without m x) y n f still ly in
    let d = weight-without m x n f hx lx in
    omega arith

-- two sets with no common member
pub weight-union : (a b n : ℕ) (f : ℕ → ℕ) → Apart a b → weight (union a b) f n ≡ weight a f n + weight b f n
weight-union a b zero f h = refl
weight-union a b (suc n) f h = rw (has-union a b n, weight-union a b n f h) (go (has a n) (has b n) refl refl)
  where
    go : (s t : Bool) → has a n ≡ s → has b n ≡ t
        → weight a f n + weight b f n + cond (s || t) (f n) 0 ≡ weight a f n + cond s (f n) 0 + (weight b f n + cond t (f n) 0)
    go true true p q = absurd (h n p q)
    go true false p q = omega arith
    go false true p q = omega arith
    go false false p q = omega arith

-- the step of a row: what it has and binds is what it introduces and what its premises have
pub weight_infers : {of : ℕ → Tree} {k : ℕ} {rule : Rule} {js : List Judgement} {j : Judgement} → Infers of k rule js j
    → (f : ℕ → ℕ) (n : ℕ) → all_below n (binders rule) ≡ true
    → weight j.env f n + sum_by f (binders rule) ≡ weight (introduced k rule) f n + sum_by (λ p. weight p.env f n) js
weight_infers variable f n l = refl
weight_infers zero_bit f n l = refl
weight_infers one_bit f n l = refl
weight_infers gate f n l = refl
weight_infers (abstraction {x = x} {m = m} h) f n l =
    let below = ltb-true x.0 n (and_parts _ _ l).0 in
    omega (arith, weight_none f n, weight-without m x.0 n f h below)
weight_infers (pair_abstraction {x = x} {y = y} {m = m} hx hy ne) f n l =
    let parts = and_parts _ _ l in
    let below-x = ltb-true x.0 n parts.0 in
    let below-y = ltb-true y.0 n (and_parts _ _ parts.1).0 in
    omega (arith, weight_none f n, weight-without-both m x.0 y.0 n f hx hy ne below-x below-y)
weight_infers (application {m = m} {n = o} h) f n l = omega (arith, weight_none f n, weight-union m o n f h)
weight_infers (pairing {m = m} {n = o} h) f n l = omega (arith, weight_none f n, weight-union m o n f h)

-- the sum over a mapped list
sum_by-map : {X Y : Type 0} (f : Y → ℕ) (g : X → Y) (xs : List X) → sum_by f (map g xs) ≡ sum_by (λ x. f (g x)) xs
sum_by-map f g [] = refl
sum_by-map f g (x ∷ xs) =
    sum_by-cons f (g x) (map g xs)
    ∙ ap (λ n. f (g x) + n) (sum_by-map f g xs)
    ∙ sym (sum_by-cons (λ y. f (g y)) x xs)

-- the same of row r, by the rows that are its premises
pub weight-follows : (es : List TypeEntry) (rows : List Row) (r : ℕ) → Follows es rows r → (f : ℕ → ℕ) (n : ℕ) → all_below n (binders (rule_at rows r)) ≡ true
    → weight (env_at rows r) f n + sum_by f (binders (rule_at rows r))
    ≡ weight (introduced r (rule_at rows r)) f n + sum_by (λ p. weight (env_at rows p) f n) (premises (rule_at rows r))
weight-follows es rows r h f n l =
    weight_infers h f n l
    ∙ ap (λ w. weight (introduced r (rule_at rows r)) f n + w) (sum_by-map (λ p. weight p.env f n) (judged es rows) (premises (rule_at rows r)))

cond_le : (t : Bool) (x b : ℕ) → x ≤ b → cond t x 0 ≤ b
cond_le true x b h = h
cond_le false x b h = omega arith

-- n numbers, each of which counts at most b
pub weight-bound : (m n b : ℕ) (f : ℕ → ℕ) → ((x : ℕ) → x < n → f x ≤ b) → weight m f n ≤ n * b
weight-bound m zero b f h = omega arith
weight-bound m (suc n) b f h =
    let ih = weight-bound m n b f (λ x l. h x (omega arith)) in
    omega (arith, suc-mul n b, cond_le (has m n) (f n) b (h n (omega arith)))

-- each tree has an atom
pub atoms_pos : (t : Tree) → 1 ≤ atoms t
atoms_pos qubit = omega arith
atoms_pos (arrow a c) = omega (arith, atoms_pos a)
atoms_pos (pair a c) = omega (arith, atoms_pos a)

-- no more positive atoms than atoms
pub positives_le : (t : Tree) → positives t ≤ atoms t
positives_le qubit = omega arith
positives_le (arrow a c) = omega (arith, positives_le c)
positives_le (pair a c) = omega (arith, positives_le a, positives_le c)
