-- Laws of rows: how often a row is a premise, which rows are taken, and what environments have.
use Rattle.std.proofs.Common.{◌≡◌, ℕ, zero, suc, ◌+◌, ◌-◌, ◌<◌, ◌≤◌, Bool, true, false, cond, not, ◌||◌, eqb, ltb, ◌⊎◌, List, [], ◌∷◌, ◌++◌, length, get_or, take, drop, Some, None, Option, sym, refl, ap, ◌∙◌, subst, inl, inr, ⊎_elim, append-nil, zero-add, arith, take-append-drop, take-suc}
use Rattle.std.specs.List.{flat_map}
use Rattle.std.proofs.lemmas.List.{length-take-le, take_all}
use Rattle.std.proofs.lemmas.Bool.{and_parts, and_from, or_cases, not-true, not_from_false, both_ways, cond-true, cases_lt, cases_eq, eqb-true, eq-eqb, ne_eqb, ltb-true, lt-ltb}
use Rattle.derivation.specs.declared.rows.Rule.{Rule}
use Rattle.derivation.specs.declared.rows.Rule.TheVariants.{Variable, Zero, One, Gate, Lambda, PairLambda, Apply, Pair}
use Rattle.derivation.specs.declared.rows.Row.{Row}
use Rattle.basics.specs.Sets.{has, only, union, without}
use Rattle.derivation.specs.Rows.{premises, binders, introduced, gathered, less, environment, environments, including, taken_from, taken}
use Rattle.derivation.specs.Rows.{all_below, none_in, all_in, no_row, lowest_missing, unused_fault}
use Rattle.derivation.specs.Judgements.{Apart, rule_at, env_at}
use Rattle.derivation.specs.Accepted.{occurrences, uses}
use Rattle.basics.proofs.SetLaws.{eqb_swap, has_none, has-only, has-union, has-without}
use Rattle.derivation.proofs.GrowthLaws.{length-grown, get_or-grown, get_or-grown-take}
use Rattle.derivation.proofs.TreeLaws.{not_so}

-- the rows on which row r stands
abbrev pub premises_at : List Row → ℕ → List ℕ
premises_at rows r = premises (rule_at rows r)

-- each number is below k
abbrev pub Below : ℕ → List ℕ → Type 0
Below k ps = (i : ℕ) → i < length ps → get_or ps i 0 < k

-- the premises of each row are lower
abbrev pub Low : List Row → Type 0
Low rows = (k : ℕ) → k < length rows → Below k (premises_at rows k)

-- the premises of each row are different, and no premises of a row before
abbrev pub Free : List Row → Type 0
Free rows = (k : ℕ) → k < length rows → none_in (taken (take k rows)) (premises_at rows k) ≡ true

-- every row but the last is a premise once
abbrev pub Once : List Row → Type 0
Once rows = (q : ℕ) → suc q < length rows → uses rows q ≡ 1

pub below_from_lem : (k : ℕ) (ps : List ℕ) → all_below k ps ≡ true → Below k ps
below_from_lem k [] h i l = absurd (omega arith)
below_from_lem k (p ∷ ps) h zero l = ltb-true p k (and_parts (ltb p k) _ h).0
below_from_lem k (p ∷ ps) h (suc i) l = below_from_lem k ps (and_parts (ltb p k) _ h).1 i (omega arith)

pub below_to : (k : ℕ) (ps : List ℕ) → Below k ps → all_below k ps ≡ true
below_to k [] h = refl
below_to k (p ∷ ps) h = and_from (ltb p k) _ (lt-ltb p k (h 0 (omega arith))) (below_to k ps (λ i l. h (suc i) (omega arith)))

-- tests

or_false : (b : Bool) → b ≡ (b || false)
or_false true = refl
or_false false = refl

or_assoc : (a b c : Bool) → (a || b || c) ≡ (a || (b || c))
or_assoc true b c = refl
or_assoc false b c = refl

-- a test as a number
abbrev count : Bool → ℕ
count b = cond b 1 0

count_small : (b : Bool) → count b ≤ 1
count_small true = omega arith
count_small false = omega arith

count-or : (b c : Bool) → count (b || c) ≤ count b + count c
count-or true c = omega arith
count-or false c = omega arith

-- of two tests that do not both pass one is counted
count-apart : (b c : Bool) → (c ≡ true → b ≡ false) → count b + count c ≤ count (b || c)
count-apart true true h = absurd (both_ways true (h refl) refl)
count-apart true false h = omega arith
count-apart false c h = omega arith

-- a number has something exactly if it counts as one
some-count : (b : Bool) → ltb 0 (count b) ≡ b
some-count true = refl
some-count false = refl

count-some : (n : ℕ) → count (ltb 0 n) ≤ n
count-some zero = omega arith
count-some (suc n) = rw (lt-ltb 0 (suc n) (omega arith)) (omega arith)

some-counted : (n : ℕ) → n ≤ 1 → n ≤ count (ltb 0 n)
some-counted zero h = omega arith
some-counted (suc n) h = rw (lt-ltb 0 (suc n) (omega arith)) h

-- a sum has something if its first number or its second has
some-sum : (m n : ℕ) → ltb 0 (m + n) ≡ (ltb 0 m || ltb 0 n)
some-sum zero n = ap (ltb 0) (zero-add n)
some-sum (suc m) n = lt-ltb _ _ (omega arith) ∙ sym (ap (λ b. b || ltb 0 n) (lt-ltb 0 (suc m) (omega arith)))

-- occurrences

occurrences-append : (q : ℕ) (ps qs : List ℕ) → occurrences q (ps ++ qs) ≡ occurrences q ps + occurrences q qs
occurrences-append q [] qs = sym (zero-add _)
occurrences-append q (p ∷ ps) qs = let e = occurrences-append q ps qs in omega arith

-- a number that is not below k is none of those that are
occurrences_high : (k q : ℕ) (ps : List ℕ) → Below k ps → k ≤ q → occurrences q ps ≡ 0
occurrences_high k q [] h l = refl
occurrences_high k q (p ∷ ps) h l =
    let e = ne_eqb p q (λ e. omega (arith, h 0 (omega arith))) in
    rw e (zero-add _ ∙ occurrences_high k q ps (λ i n. h (suc i) (omega arith)) l)

-- each number of a list stands in it
occurrences-at : (ps : List ℕ) (i : ℕ) → i < length ps → 0 < occurrences (get_or ps i 0) ps
occurrences-at [] i h = absurd (omega arith)
occurrences-at (p ∷ ps) zero h = omega (arith, ap count (eq-eqb p p refl))
occurrences-at (p ∷ ps) (suc i) h = omega (arith, occurrences-at ps i (omega arith))

uses-append : (rows more : List Row) (q : ℕ) → uses (rows ++ more) q ≡ uses rows q + uses more q
uses-append [] more q = sym (zero-add _)
uses-append (row ∷ rows) more q =
    let e = uses-append rows more q in
    let f = occurrences-append q (premises row.rule) in
    omega (arith, f (flat_map (λ r. premises r.rule) rows), f (flat_map (λ r. premises r.rule) (rows ++ more)))

-- taken rows

-- what a set has with one more number
has_added : (m p z : ℕ) → has (union m (only p)) z ≡ (has m z || eqb p z)
has_added m p z = has-union m (only p) z ∙ ap (λ b. has m z || b) (has-only p z ∙ eqb_swap z p)

-- what a set has with some further numbers
has-including : (m : ℕ) (ps : List ℕ) (z : ℕ) → has (including m ps) z ≡ (has m z || ltb 0 (occurrences z ps))
has-including m [] z = or_false (has m z)
has-including m (p ∷ ps) z =
    let some = ltb 0 (occurrences z ps) in
    has-including (union m (only p)) ps z
    ∙ ap (λ b. b || some) (has_added m p z ∙ ap (λ b. has m z || b) (sym (some-count (eqb p z))))
    ∙ or_assoc (has m z) _ some
    ∙ ap (λ b. has m z || b) (sym (some-sum (count (eqb p z)) (occurrences z ps)))

has-taken-from : (m : ℕ) (rows : List Row) (q : ℕ) → has (taken_from m rows) q ≡ (has m q || ltb 0 (uses rows q))
has-taken-from m [] q = or_false (has m q)
has-taken-from m (row ∷ rows) q =
    let some = ltb 0 (uses rows q) in
    has-taken-from (including m (premises row.rule)) rows q
    ∙ ap (λ b. b || some) (has-including m (premises row.rule) q)
    ∙ or_assoc (has m q) _ some
    ∙ ap (λ b. has m q || b) (sym (some-sum (occurrences q (premises row.rule)) (uses rows q)))
    ∙ ap (λ n. has m q || ltb 0 n) (sym (occurrences-append q (premises row.rule) _))

-- the taken rows are those that are used
pub has-taken : (rows : List Row) (q : ℕ) → has (taken rows) q ≡ ltb 0 (uses rows q)
unfolding taken
has-taken rows q = has-taken-from 0 rows q ∙ ap (λ b. b || ltb 0 (uses rows q)) (has_none q)

-- numbers are not in a set and differ exactly if each number is counted at most once
none_in_from : (m : ℕ) (ps : List ℕ) → none_in m ps ≡ true → (z : ℕ) → count (has m z) + occurrences z ps ≤ 1
none_in_from m [] h z = omega (arith, count_small (has m z))
none_in_from m (p ∷ ps) h z =
    let (new, rest) = and_parts (not (has m p)) _ h in
    let e = ap count (has_added m p z) in
    let apart = count-apart (has m z) (eqb p z) (λ q. ap (has m) (sym (eqb-true p z q)) ∙ not-true _ new) in
    omega (arith, none_in_from (union m (only p)) ps rest z)

none_in_to : (m : ℕ) (ps : List ℕ) → ((z : ℕ) → count (has m z) + occurrences z ps ≤ 1) → none_in m ps ≡ true
none_in_to m [] h = refl
none_in_to m (p ∷ ps) h =
    and_from (not (has m p)) _
    (not_from_false _ (not_so _ (λ e. omega (arith, h p, ap count e, ap count (eq-eqb p p refl)))))
    (none_in_to (union m (only p)) ps (λ z. omega (arith, h z, ap count (has_added m p z), count-or (has m z) (eqb p z))))

-- no row is missing exactly if each is in the set
present : {R : Type 0} (b : Bool) (o : Option R) (r : R) → cond b o (Some r) ≡ None → (b ≡ true) × (o ≡ None)
present true o r e = (refl, e)
present false o r e = let z : ◌≡◌ {A = ℕ} 0 1 = cc in absurd (omega arith)

missing_from : (m q n : ℕ) → lowest_missing m q n ≡ None → (i : ℕ) → q ≤ i → i < q + n → has m i ≡ true
missing_from m q zero e i l h = absurd (omega arith)
missing_from m q (suc n) e i l h =
    let (here, rest) = present (has m q) _ _ e in
    ⊎_elim (λ (same : i ≡ q). ap (has m) same ∙ here) (λ other. missing_from m (suc q) n rest i (omega arith) (omega arith)) (cases_eq i q)

missing_to : (m q n : ℕ) → ((i : ℕ) → q ≤ i → i < q + n → has m i ≡ true) → lowest_missing m q n ≡ None
missing_to m q zero h = refl
missing_to m q (suc n) h = cond-true _ _ _ (h q (omega arith) (omega arith)) ∙ missing_to m (suc q) n (λ i l b. h i (omega arith) (omega arith))

module _ (rows : List Row) where
  -- the front of the rows with one more row
  uses-more : (k q : ℕ) → k < length rows → uses (take (suc k) rows) q ≡ uses (take k rows) q + occurrences q (premises_at rows k)
  uses-more k q h =
      ap (λ l. uses l q) (take-suc rows k no_row h)
      ∙ uses-append (take k rows) _ q
      ∙ ap (λ l. uses (take k rows) q + occurrences q l) (append-nil (premises_at rows k))

  -- if premises are free, no row of the front is used twice
  uses-once : Free rows → (k q : ℕ) → k ≤ length rows → uses (take k rows) q ≤ 1
  uses-once free zero q h = omega arith
  uses-once free (suc k) q h =
      let e = uses-more k q h in
      let once = none_in_from _ _ (free k h) q in
      let n = some-counted (uses (take k rows) q) (uses-once free k q (omega arith)) in
      omega (arith, ap count (has-taken (take k rows) q))

  -- a premise of a row is not used before
  premise_free : Free rows → (k i : ℕ) → k < length rows → i < length (premises_at rows k) → uses (take k rows) (get_or (premises_at rows k) i 0) ≡ 0
  premise_free free k i h l =
      let q = get_or (premises_at rows k) i 0 in
      let once = none_in_from _ _ (free k h) q in
      let n = some-counted (uses (take k rows) q) (uses-once free k q (omega arith)) in
      omega (arith, ap count (has-taken (take k rows) q), occurrences-at (premises_at rows k) i l)

  -- a row is used in the front no more than in all rows
  uses_front : (k q : ℕ) → uses (take k rows) q ≤ uses rows q
  uses_front k q = omega (arith, uses-append (take k rows) (drop k rows) q, ap (λ l. uses l q) (take-append-drop k rows))

  -- the last row of the front is not used in the front
  uses_last : Low rows → (k q : ℕ) → k ≤ length rows → k ≤ suc q → uses (take k rows) q ≡ 0
  uses_last low zero q h l = refl
  uses_last low (suc k) q h l =
      omega (arith, uses-more k q h, uses_last low k q (omega arith) (omega arith), occurrences_high k q (premises_at rows k) (low k h) (omega arith))

  front_all : take (length rows) rows ≡ rows
  front_all = take_all (length rows) rows (omega arith)

  -- every row but the last is a premise once exactly if premises are free and no row is unused
  pub once-from : Free rows → unused_fault rows ≡ None → Once rows
  once-from free e q h =
      let most = subst (λ l. uses l q ≤ 1) front_all (uses-once free (length rows) q (omega arith)) in
      let least = ltb-true 0 (uses rows q) (sym (has-taken rows q) ∙ missing_from (taken rows) 0 (length rows - 1) e q (omega arith) (omega arith)) in
      omega arith

  pub unused_none : Once rows → unused_fault rows ≡ None
  unused_none once =
      missing_to (taken rows) 0 (length rows - 1) (λ q l h. has-taken rows q ∙ lt-ltb 0 (uses rows q) (omega (arith, once q (omega arith))))

  most_once : Low rows → Once rows → (q : ℕ) → uses rows q ≤ 1
  most_once low once q =
      ⊎_elim
      (λ (h : suc q < length rows). omega (arith, once q h))
      (λ (h : length rows ≤ suc q). omega (arith, subst (λ l. uses l q ≡ 0) front_all (uses_last low (length rows) q (omega arith) h)))
      (cases_lt (suc q) (length rows))

  pub once_free : Low rows → Once rows → Free rows
  once_free low once k h =
      none_in_to _ _ (λ q. omega (arith, uses-more k q h, uses_front (suc k) q, most_once low once q, ap count (has-taken (take k rows) q), count-some (uses (take k rows) q)))

-- environments

-- a variable of less than a set is one of the set
has-less : (m : ℕ) (xs : List ℕ) (z : ℕ) → has (less m xs) z ≡ true → has m z ≡ true
has-less m [] z h = h
has-less m (x ∷ xs) z h = (and_parts (has m z) _ (sym (has-without m x z) ∙ has-less (without m x) xs z h)).0

all_in-from : (m : ℕ) (xs : List ℕ) → all_in m xs ≡ true → (i : ℕ) → i < length xs → has m (get_or xs i 0) ≡ true
all_in-from m [] e i h = absurd (omega arith)
all_in-from m (x ∷ xs) e zero h = (and_parts (has m x) _ e).0
all_in-from m (x ∷ xs) e (suc i) h = has-less m (x ∷ []) _ (all_in-from (without m x) xs (and_parts (has m x) _ e).1 i (omega arith))

-- z is a variable of one of these rows
abbrev SomeHas : List ℕ → List ℕ → ℕ → Type 0
SomeHas envs ps z = (i : ℕ) × (i < length ps) × (has (get_or envs (get_or ps i 0) 0) z ≡ true)

-- a variable of what rows have together is that of some row
has-gathered : (m : ℕ) (envs ps : List ℕ) (z : ℕ) → has (gathered m envs ps) z ≡ true → (has m z ≡ true) ⊎ SomeHas envs ps z
has-gathered m envs [] z h = inl h
has-gathered m envs (p ∷ ps) z h =
    ⊎_elim
    (λ e. ⊎_elim (λ q. inl q) (λ q. inr (0, omega arith, q)) (or_cases (has m z) (has (get_or envs p 0) z) (sym (has-union m (get_or envs p 0) z) ∙ e)))
    (λ s. inr (suc s.0, omega arith, s.2))
    (has-gathered (union m (get_or envs p 0)) envs ps z h)

-- a row introduces no variable but its own
has-introduced : (k : ℕ) (rule : Rule) (z : ℕ) → has (introduced k rule) z ≡ true → z ≡ k
has-introduced k Variable z h = eqb-true z k (sym (has-only k z) ∙ h)
has-introduced k Zero z h = absurd (both_ways _ (has_none z) h)
has-introduced k One z h = absurd (both_ways _ (has_none z) h)
has-introduced k (Gate g) z h = absurd (both_ways _ (has_none z) h)
has-introduced k (Lambda p x) z h = absurd (both_ways _ (has_none z) h)
has-introduced k (PairLambda p x y) z h = absurd (both_ways _ (has_none z) h)
has-introduced k (Apply f a) z h = absurd (both_ways _ (has_none z) h)
has-introduced k (Pair l r) z h = absurd (both_ways _ (has_none z) h)

module _ (rows : List Row) where
  -- the environments of the front
  pub env-take : (k p : ℕ) → k ≤ length rows → p < k → get_or (environments (take k rows)) p 0 ≡ env_at rows p
  unfolding environments
  env-take k p h l = get_or-grown-take environment [] rows k p 0 h (omega arith)

  pub length-environments : (k : ℕ) → k ≤ length rows → length (environments (take k rows)) ≡ k
  unfolding environments
  length-environments k h = length-grown environment [] (take k rows) ∙ zero-add _ ∙ length-take-le k rows h

  -- what some rows of the front have together
  pub gathered-take : (k m : ℕ) (ps : List ℕ) → k ≤ length rows → Below k ps → gathered m (environments (take k rows)) ps ≡ gathered m (environments rows) ps
  gathered-take k m [] h low = refl
  gathered-take k m (p ∷ ps) h low =
      ap (λ n. gathered (union m n) (environments (take k rows)) ps) (env-take k p h (low 0 (omega arith)))
      ∙ gathered-take k (union m (env_at rows p)) ps h (λ i l. low (suc i) (omega arith))

  -- the environment of a row, by those of the rows before it
  pub env-made : (r : ℕ) → r < length rows → env_at rows r ≡ environment (environments (take r rows)) (get_or rows r no_row)
  unfolding environments
  env-made r h = ap (env_at rows) (sym (zero-add r)) ∙ get_or-grown environment [] rows r 0 no_row h

  -- the same among the environments of all rows
  pub env-row : (r : ℕ) → r < length rows → Below r (premises_at rows r)
      → env_at rows r ≡ less (gathered (introduced r (rule_at rows r)) (environments rows) (premises_at rows r)) (binders (rule_at rows r))
  env-row r h low =
      let rule = rule_at rows r in
      env-made r h
      ∙ ap (λ k. less (gathered (introduced k rule) (environments (take r rows)) (premises rule)) (binders rule)) (length-environments r (omega arith))
      ∙ ap (λ m. less m (binders rule)) (gathered-take r (introduced r rule) (premises rule) (omega arith) low)

module _ (rows : List Row) (low : Low rows) where
  -- a variable of a row is its own or one of a premise
  env-from : (r z : ℕ) → r < length rows → has (env_at rows r) z ≡ true → (z ≡ r) ⊎ SomeHas (environments rows) (premises_at rows r) z
  env-from r z h e =
      ⊎_elim (λ q. inl (has-introduced r (rule_at rows r) z q)) (λ q. inr q)
      (has-gathered (introduced r (rule_at rows r)) (environments rows) (premises_at rows r) z
      (has-less _ (binders (rule_at rows r)) z (ap (λ m. has m z) (sym (env-row rows r h (low r h))) ∙ e)))

  -- the variables of a row are not above it
  env-low_below : (n r z : ℕ) → r < n → r < length rows → has (env_at rows r) z ≡ true → z ≤ r
  env-low_below zero r z l h e = absurd (omega arith)
  env-low_below (suc n) r z l h e =
      ⊎_elim (λ (q : z ≡ r). omega arith)
      (λ q. let b = low r h q.0 q.1 in omega (arith, env-low_below n (get_or (premises_at rows r) q.0 0) z (omega arith) (omega arith) q.2))
      (env-from r z h e)

  pub env-low : (r z : ℕ) → r < length rows → has (env_at rows r) z ≡ true → z ≤ r
  env-low r z h e = env-low_below (suc r) r z (omega arith) h e

  -- what a row binds is below it
  pub binders-low : (k : ℕ) (xs : List ℕ) → k < length rows → all_in (gathered 0 (environments rows) (premises_at rows k)) xs ≡ true → Below k xs
  binders-low k xs h e i l =
      let x = get_or xs i 0 in
      ⊎_elim (λ q. absurd (both_ways _ (has_none x) q))
      (λ q. let b = low k h q.0 q.1 in omega (arith, env-low (get_or (premises_at rows k) q.0 0) x (omega arith) q.2))
      (has-gathered 0 (environments rows) (premises_at rows k) x (all_in-from _ xs e i l))

-- two rows of the front that are not used there have no variable in common
abbrev ApartFront : List Row → ℕ → Type 0
ApartFront rows k = (p q : ℕ) → p < k → q < k → (p ≡ q → ⊥) → uses (take k rows) p ≡ 0 → uses (take k rows) q ≡ 0 → Apart (env_at rows p) (env_at rows q)

module _ (rows : List Row) (low : Low rows) (free : Free rows) where
  -- the same of the last row of the front and of a row before it
  apart_last : (k : ℕ) → k < length rows → ApartFront rows k → (q : ℕ) → q < k → uses (take (suc k) rows) q ≡ 0 → Apart (env_at rows k) (env_at rows q)
  apart_last k h before q l u z hk hq =
      let e = uses-more rows k q h in
      ⊎_elim (λ (c : z ≡ k). omega (arith, env-low rows low q z (omega arith) hq))
      (λ c. before (get_or (premises_at rows k) c.0 0) q (low k h c.0 c.1) l
      (λ same. omega (arith, occurrences-at (premises_at rows k) c.0 c.1, ap (λ p. occurrences p (premises_at rows k)) same))
      (premise_free rows free k c.0 h c.1) (omega arith) z c.2 hq)
      (env-from rows low k z h hk)

  apart_front : (k : ℕ) → k ≤ length rows → ApartFront rows k
  apart_front zero h p q hp hq d up uq z zp zq = absurd (omega arith)
  apart_front (suc k) h p q hp hq d up uq z zp zq =
      let before = apart_front k (omega arith) in
      let ep = uses-more rows k p h in
      let eq = uses-more rows k q h in
      ⊎_elim
      (λ (lp : p < k). ⊎_elim
      (λ (lq : q < k). before p q lp lq d (omega arith) (omega arith) z zp zq)
      (λ (lq : k ≤ q). let same : k ≡ q = omega arith in apart_last k h before p lp up z (ap (λ r. has (env_at rows r) z) same ∙ zq) zp)
      (cases_lt q k))
      (λ (lp : k ≤ p). let same : k ≡ p = omega arith in apart_last k h before q (omega arith) uq z (ap (λ r. has (env_at rows r) z) same ∙ zp) zq)
      (cases_lt p k)

  -- two premises of a row have no variable in common
  pub apart-premises : (k p q : ℕ) → k < length rows → premises_at rows k ≡ p ∷ q ∷ [] → Apart (env_at rows p) (env_at rows q)
  apart-premises k p q h e =
      let below = subst (Below k) e (low k h) in
      let unused = subst (λ ps. (i : ℕ) → i < length ps → uses (take k rows) (get_or ps i 0) ≡ 0) e (λ i. premise_free rows free k i h) in
      let once = subst (λ ps. count (has (taken (take k rows)) p) + occurrences p ps ≤ 1) e (none_in_from _ _ (free k h) p) in
      apart_front k (omega arith) p q (below 0 (omega arith)) (below 1 (omega arith))
      (λ same. omega (arith, once, ap count (eq-eqb p p refl), ap count (eq-eqb q p (sym same))))
      (unused 0 (omega arith)) (unused 1 (omega arith))
