-- What the code learns while it gathers the facts of types and rows.
use Rattle.std.proofs.Common.{◌≡◌, ℕ, zero, suc, ◌+◌, ◌^◌, ◌<◌, ◌≤◌, Bool, true, false, cond, ◌||◌, eqb, List, [], ◌∷◌, ◌++◌, map, length, get_or, take, drop, set, replicate, Option, Some, None, sym, refl, ap, ◌∙◌, subst, ap₂, ⊎_elim, add-zero, add-suc, suc-add, zero-add, add-one, arith}
use mathlib.Core.Path.{subst⁻¹}
use Rattle.std.proofs.lemmas.List.{get_or-map, length-map, map_push, take_more, drop_more, drop_all, length-set, length-take-le, get_or-set_same, get_or-set_other, get_or-replicate, length_push, same_from_push, get_or_read}
use Rattle.std.proofs.lemmas.Slice.Zip.{length-zip, get_or-zip}
use Rattle.std.specs.List.{zip}
use Rattle.std.proofs.lemmas.Bool.{cases_eq, eq-eqb, ne_eqb, lt-ltb, le-ltb}
use Rattle.basics.specs.declared.numbers.RowId.{RowId}
use Rattle.derivation.specs.declared.types.TypeKind.{TypeKind}
use Rattle.derivation.specs.declared.types.TypeKind.TheVariants.{Arrow, Pair}
use Rattle.derivation.specs.declared.types.TypeEntry.{TypeEntry}
use Rattle.derivation.specs.declared.rows.Row.{Row}
use Rattle.derivation.specs.Trees.{Tree, qubit, node, atoms, trees, unfolded, no_entry}
use Rattle.derivation.specs.Rows.{no_row, premises, type_at, all_below}
use Rattle.derivation.specs.Judgements.{rule_at, tree_at, env_at}
use Rattle.derivation.specs.Places.{numbers}
use Rattle.derivation.specs.Accepted.{Table, Accepted}
use Rattle.derivation.proofs.TypeChecks.{length-trees, trees-push}
use Rattle.derivation.proofs.TreeLaws.{tree-unfolded}
use Rattle.derivation.proofs.RowLaws.{below_to}
use Rattle.derivation.proofs.WeightLaws.{atoms_pos}
use Rattle.machine.specs.declared.tables.TypeFacts.{TypeFacts}
use Rattle.machine.specs.Facts.{facts_of, facts_at, joined_facts, marked, row_of}
use Rattle.theory.specs.Ports.{listed, below_from}
use Rattle.machine.proofs.SignLaws.{signs_lt}

-- the facts of a table's types
pub length-facts : (ds : List TypeEntry) (facts : List TypeFacts) → facts ≡ map facts_of (trees ds) → length facts ≡ suc (length ds)
length-facts ds facts e = ap length e ∙ length-map (trees ds) facts_of ∙ length-trees ds

pub fact_at : (ds : List TypeEntry) (facts : List TypeFacts) → facts ≡ map facts_of (trees ds) → (t : ℕ) (d : TypeFacts) → t < suc (length ds) → get_or facts t d ≡ facts_of (get_or (trees ds) t qubit)
fact_at ds facts e t d h = ap (λ l. get_or l t d) e ∙ get_or-map facts_of (trees ds) t qubit d (subst (λ n. t < n) (sym (length-trees ds)) h)

facts-node : (kind : TypeKind) (a c : Tree) → facts_of (node kind a c) ≡ joined_facts kind (facts_of a) (facts_of c)
facts-node Arrow a c = refl
facts-node Pair a c = refl

atoms-node : (kind : TypeKind) (a c : Tree) → atoms (node kind a c) ≡ atoms a + atoms c
atoms-node Arrow a c = refl
atoms-node Pair a c = refl

-- entry i of a table, by the facts of the entries before it
module _ (es : List TypeEntry) (table : Table es) (i : ℕ) (h : i < length es) (facts : List TypeFacts) (known : facts ≡ map facts_of (trees (take i es))) where
  abbrev entry : TypeEntry
  entry = get_or es i no_entry

  before : length (take i es) ≡ i
  before = length-take-le i es (omega arith)

  pub left_known : entry.left.0 < length facts
  left_known = omega (arith, length-facts (take i es) facts known, before, (table.lower i h no_entry).0)

  pub right_known : entry.right.0 < length facts
  right_known = omega (arith, length-facts (take i es) facts known, before, (table.lower i h no_entry).1)

  abbrev left_tree : Tree
  left_tree = get_or (trees (take i es)) entry.left.0 qubit

  abbrev right_tree : Tree
  right_tree = get_or (trees (take i es)) entry.right.0 qubit

  few : atoms left_tree + atoms right_tree ≤ 16
  few = subst (λ n. n ≤ 16) (ap atoms (tree-unfolded es i no_entry h) ∙ atoms-node entry.kind left_tree right_tree) (table.small (suc i) (omega arith))

  module _ (l r : TypeFacts) (is-left : l ≡ get_or facts entry.left.0 l) (is_right : r ≡ get_or facts entry.right.0 r) where
    left_is : l ≡ facts_of left_tree
    left_is = is-left ∙ fact_at (take i es) facts known entry.left.0 l (omega (arith, length-facts (take i es) facts known, left_known))

    right_is : r ≡ facts_of right_tree
    right_is = is_right ∙ fact_at (take i es) facts known entry.right.0 r (omega (arith, length-facts (take i es) facts known, right_known))

    pub some_right : 0 < r.width
    some_right = subst⁻¹ (λ (f : TypeFacts). 0 < f.width) right_is (atoms_pos right_tree)

    pub few-both : l.width + r.width ≤ 16
    few-both = subst⁻¹ (λ n. n ≤ 16) (ap₂ (λ (a c : TypeFacts). a.width + c.width) left_is right_is) few

    pub within-right : r.signs < 2 ^ r.width
    within-right = subst⁻¹ (λ (f : TypeFacts). f.signs < 2 ^ f.width) right_is (signs_lt right_tree)

    -- one more entry
    pub facts-more : facts ++ (joined_facts entry.kind l r ∷ []) ≡ map facts_of (trees (take (i + 1) es))
    facts-more =
        ap₂ (λ (fs : List TypeFacts) (f : TypeFacts). fs ++ (f ∷ [])) known
        (ap₂ (λ (a c : TypeFacts). joined_facts entry.kind a c) left_is right_is ∙ sym (facts-node entry.kind left_tree right_tree))
        ∙ sym (ap (λ l. map facts_of (trees l)) (take_more es i no_entry h) ∙ ap (map facts_of) (trees-push (take i es) entry) ∙ map_push facts_of (trees (take i es)) (unfolded (trees (take i es)) entry))

-- what stands in a marked list
pub length_marked : {A : Type 0} (xs : List A) (ps : List ℕ) (x : A) → length (marked xs ps x) ≡ length xs
length_marked xs [] x = refl
length_marked xs (p ∷ ps) x = length_marked (set xs p x) ps x ∙ length-set xs p x

cond-or : {A : Type 0} (a b : Bool) (x y : A) → cond b x (cond a x y) ≡ cond (a || b) x y
cond-or true true x y = refl
cond-or true false x y = refl
cond-or false true x y = refl
cond-or false false x y = refl

set_at : {A : Type 0} (xs : List A) (p q : ℕ) (x d : A) → q < length xs → get_or (set xs p x) q d ≡ cond (eqb p q) x (get_or xs q d)
set_at xs p q x d h =
    ⊎_elim (λ (e : p ≡ q). rw (eq-eqb p q e, e, get_or-set_same xs q x d h) refl)
    (λ (ne : p ≡ q → ⊥). rw (ne_eqb p q ne, get_or-set_other xs p q x d (λ e. ne (sym e))) refl) (cases_eq p q)

pub marked-at : {A : Type 0} (xs : List A) (ps : List ℕ) (x d : A) (q : ℕ) → q < length xs → get_or (marked xs ps x) q d ≡ cond (listed q ps) x (get_or xs q d)
marked-at xs [] x d q h = refl
marked-at xs (p ∷ ps) x d q h =
    marked-at (set xs p x) ps x d q (rw length-set h)
    ∙ ap (cond (listed q ps) x) (set_at xs p q x d h)
    ∙ cond-or (eqb p q) (listed q ps) x (get_or xs q d)

-- no row is below another behind the last
pub below_none : (rows : List Row) (n q : ℕ) → q < n → get_or {A = Option RowId} (replicate n None) q None ≡ row_of (length rows) (below_from (length rows) (drop (length rows) rows) q)
below_none rows n q h =
    get_or-replicate n q None None h
    ∙ sym (ap (λ l. row_of (length rows) (below_from (length rows) l q)) (drop_all (length rows) rows (omega arith)) ∙ ap (λ b. cond b (Some (record { 0 = length rows })) None) (le-ltb (length rows) (length rows) (omega arith)))

row_of-cond : (l : Bool) (n r b : ℕ) → r < n → cond l (Some (record { 0 = r })) (row_of n b) ≡ row_of n (cond l r b)
row_of-cond true n r b h = rw (lt-ltb r n h) refl
row_of-cond false n r b h = refl

-- one more row, counted down
pub below_more : (rows : List Row) (xs : List (Option RowId)) (r n q : ℕ) → n ≡ r + 1 → r < length rows → q < length xs → get_or xs q None ≡ row_of (length rows) (below_from n (drop n rows) q)
    → get_or (marked xs (premises (rule_at rows r)) (Some (record { 0 = r }))) q None ≡ row_of (length rows) (below_from r (drop r rows) q)
below_more rows xs r n q next h l e =
    let then : n ≡ suc r = omega arith in
    marked-at xs (premises (rule_at rows r)) (Some (record { 0 = r })) None q l
    ∙ ap (cond (listed q (premises (rule_at rows r))) (Some (record { 0 = r }))) (e ∙ ap₂ (λ m k. row_of (length rows) (below_from m (drop k rows) q)) then next)
    ∙ row_of-cond (listed q (premises (rule_at rows r))) (length rows) r (below_from (suc r) (drop (r + 1) rows) q) h
    ∙ sym (ap (λ s. row_of (length rows) (below_from r s q)) (drop_more rows r no_row h))

-- the last of the rows that are left, from the first one on
module _ (rows rest others : List Row) (row : Row) (left : rest ≡ take (length rest) rows) (few : length rest ≤ length rows) (last : rest ≡ others ++ (row ∷ [])) where
  pub left_count : length rest ≡ length others + 1
  left_count = ap length last ∙ length_push others row

  pub left_more : (others ≡ take (length others) rows) × (row ≡ get_or rows (length others) no_row)
  left_more = same_from_push _ _ _ _ (sym last ∙ left ∙ ap (λ n. take n rows) left_count ∙ take_more rows (length others) no_row (omega (arith, left_count)))

-- the premises of accepted rows are lower
pub rows-lower : (es : List TypeEntry) (rows : List Row) → Accepted es rows → (r : ℕ) → r < length rows → all_below r (premises (rule_at rows r)) ≡ true
rows-lower es rows ok r h = below_to r (premises (rule_at rows r)) (ok.lower r h)

-- so each is one of 128
pub rows-few : (es : List TypeEntry) (rows : List Row) → Accepted es rows → (r : ℕ) → r < length rows → all_below 128 (premises (rule_at rows r)) ≡ true
rows-few es rows ok r h = below_to 128 (premises (rule_at rows r)) (λ i l. omega (arith, ok.lower r h i l, ok.few))

-- one more number
pub numbers_more : (k n : ℕ) → numbers k (n + 1) ≡ numbers k n ++ ((k + n) ∷ [])
numbers_more k n = ap (numbers k) (add-one n) ∙ push k n
  where
    push : (k n : ℕ) → numbers k (suc n) ≡ numbers k n ++ ((k + n) ∷ [])
    push k zero = rw add-zero refl
    push k (suc n) = ap (λ l. k ∷ l) (push (suc k) n ∙ rw (suc-add, add-suc) refl)

pub map-numbers : {A : Type 0} (f : ℕ → A) (n : ℕ) → map f (numbers 0 (n + 1)) ≡ map f (numbers 0 n) ++ (f n ∷ [])
map-numbers f n = ap (map f) (numbers_more 0 n ∙ rw zero-add refl) ∙ map_push f (numbers 0 n) n

-- the facts of row r, from the tables
module _ (es : List TypeEntry) (rows : List Row) (r : ℕ) (facts : List TypeFacts) (f : TypeFacts) (m : ℕ) (o : Option RowId) where
  pub row_fact : type_at rows r ≤ length es → facts ≡ map facts_of (trees es) → f ≡ get_or facts (type_at rows r) f → m ≡ env_at rows r → o ≡ row_of (length rows) (below_from 0 rows r)
      → record { ty = f; env = m; below = o } ≡ facts_at es rows r
  row_fact h known is env-is below-is =
      let e = is ∙ fact_at es facts known (type_at rows r) f (omega arith) in
      ap₂ (λ (g : TypeFacts) (k : Option RowId). record { ty = g; env = m; below = k }) e below-is
      ∙ ap (λ k. record { ty = facts_of (tree_at es rows r); env = k; below = row_of (length rows) (below_from 0 rows r) }) env-is

-- the rows with what is kept beside them, as one list
module _ (rows : List Row) (envs : List ℕ) (below : List (Option RowId)) (as_many : length envs ≡ length rows) (enough : length rows ≤ length below) where
  abbrev pub joined_rows : List (Row × (ℕ × Option RowId))
  joined_rows = zip rows (zip envs below)

  pub length-joined_rows : length joined_rows ≡ length rows
  length-joined_rows = omega (arith, length-zip rows (zip envs below), length-zip envs below)

  -- what stands at place i of it
  pub row_turn : (i : ℕ) (p : Row × (ℕ × Option RowId)) → i < length joined_rows → p ≡ get_or joined_rows i p → p ≡ (get_or rows i no_row, (get_or envs i 0, get_or below i None))
  row_turn i p h e =
      let l : i < length rows = omega (arith, length-joined_rows) in
      let inner : i < length (zip envs below) = omega (arith, length-zip envs below) in
      get_or_read joined_rows i p h e (no_row, (0, None))
      ∙ get_or-zip rows (zip envs below) i (no_row, (0, None)) l inner
      ∙ ap (λ (q : ℕ × Option RowId). (get_or rows i no_row, q)) (get_or-zip envs below i (0, None) (omega arith) (omega arith))
