-- How many places and given wires a derivation has, as sums.
use Rattle.std.proofs.Common.{◌≡◌, ℕ, zero, suc, ◌+◌, ◌-◌, ◌<◌, Bool, true, false, cond, not, ltb, List, [], ◌∷◌, ◌++◌, map, length, sym, refl, ap, ◌∙◌, ap₂, add-zero, add-suc, suc-add, zero-add, arith}
use native.Mathlib.Nat.{add-sub_cancel_left}
use Rattle.std.specs.List.{flat_map}
use Rattle.std.proofs.lemmas.List.{length-append, length-map, flat_map_more}
use Rattle.std.proofs.lemmas.List.Concat.{flat_map_single}
use Rattle.std.proofs.lemmas.List.Elements.{filter-append}
use Rattle.std.proofs.lemmas.Bool.{lt-ltb, le-ltb}
use Rattle.derivation.specs.declared.types.TypeEntry.{TypeEntry}
use Rattle.derivation.specs.declared.rows.Row.{Row}
use Rattle.derivation.specs.declared.rows.Part.{Part}
use Rattle.derivation.specs.declared.rows.Part.TheVariants.{Ty, Variable as Var}
use Rattle.derivation.specs.declared.rows.Place.{Place}
use Rattle.basics.specs.Sets.{has}
use Rattle.derivation.specs.Trees.{Tree, qubit, arrow, pair, atoms, positive}
use Rattle.derivation.specs.Judgements.{tree_at, env_at}
use Rattle.derivation.specs.Places.{numbers, keep, places_in, places_at, places, negative, given}
use Rattle.derivation.specs.Weights.{weight, sum_to, positives}
use Rattle.derivation.proofs.WeightLaws.{weight-same}

-- functions that agree below n have the same sum
pub sum_to-same : (f g : ℕ → ℕ) (n : ℕ) → ((x : ℕ) → x < n → f x ≡ g x) → sum_to f n ≡ sum_to g n
sum_to-same f g zero h = refl
sum_to-same f g (suc n) h =
    let ih = sum_to-same f g n (λ x l. h x (omega arith)) in
    let e = h n (omega arith) in
    omega arith

-- the first m, and then n more
pub sum_to-append : (f : ℕ → ℕ) (m n : ℕ) → sum_to f (m + n) ≡ sum_to f m + sum_to (λ i. f (m + i)) n
sum_to-append f m zero = ap (sum_to f) (add-zero m) ∙ sym (add-zero (sum_to f m))
sum_to-append f m (suc n) = let ih = sum_to-append f m n in ap (sum_to f) (add-suc m n) ∙ omega arith

-- a set's sum, over all numbers
pub weight-sum : (m : ℕ) (f : ℕ → ℕ) (n : ℕ) → weight m f n ≡ sum_to (λ x. cond (has m x) (f x) 0) n
weight-sum m f zero = refl
weight-sum m f (suc n) = rw (weight-sum m f n) refl

pub length-numbers : (k n : ℕ) → length (numbers k n) ≡ n
length-numbers k zero = refl
length-numbers k (suc n) = ap suc (length-numbers (suc k) n)

-- one more number at the end
numbers-push : (k n : ℕ) → numbers k (suc n) ≡ numbers k n ++ ((k + n) ∷ [])
numbers-push k zero = rw add-zero refl
numbers-push k (suc n) = ap (λ l. k ∷ l) (numbers-push (suc k) n ∙ rw (suc-add, add-suc) refl)

numbers_last : (n : ℕ) → numbers 0 (suc n) ≡ numbers 0 n ++ (n ∷ [])
numbers_last n = numbers-push 0 n ∙ rw zero-add refl

-- what adds up over lists adds up over the numbers that make a list
module _ {A : Type 0} (size : List A → ℕ) (none : size [] ≡ 0) (both : (xs ys : List A) → size (xs ++ ys) ≡ size xs + size ys) where
  pub size_joined : (F : ℕ → List A) (n : ℕ) → size (flat_map F (numbers 0 n)) ≡ sum_to (λ x. size (F x)) n
  size_joined F zero = none
  size_joined F (suc n) =
      ap (λ l. size (flat_map F l)) (numbers_last n)
      ∙ ap size (sym (flat_map_more F [] (numbers 0 n) n))
      ∙ both (flat_map F (numbers 0 n)) (F n)
      ∙ ap (λ k. k + size (F n)) (size_joined F n)

  pub size-map : (g : ℕ → A) (n : ℕ) → size (map g (numbers 0 n)) ≡ sum_to (λ x. size (g x ∷ [])) n
  size-map g n = ap size (sym (flat_map_single g (numbers 0 n))) ∙ size_joined (λ x. g x ∷ []) n

  -- the lists of the members of a set
  pub size_members : (m : ℕ) (F : ℕ → List A) (n : ℕ) → size (flat_map (λ x. cond (has m x) (F x) []) (numbers 0 n)) ≡ weight m (λ x. size (F x)) n
  size_members m F n =
      size_joined (λ x. cond (has m x) (F x) []) n
      ∙ sum_to-same _ _ n (λ x l. size-cond (has m x) (F x))
      ∙ sym (weight-sum m (λ x. size (F x)) n)
    where
      size-cond : (b : Bool) (xs : List A) → size (cond b xs []) ≡ cond b (size xs) 0
      size-cond true xs = refl
      size-cond false xs = none

-- how many numbers below n pass a test
abbrev pub count : (ℕ → Bool) → ℕ → ℕ
count p n = sum_to (λ i. cond (p i) 1 0) n

-- what passes a test, and what does not
pub count-not : (p : ℕ → Bool) (n : ℕ) → count (λ i. not (p i)) n + count p n ≡ n
count-not p zero = refl
count-not p (suc n) = go (p n) (count-not p n)
  where
    go : (b : Bool) → count (λ i. not (p i)) n + count p n ≡ n
        → count (λ i. not (p i)) n + cond (not b) 1 0 + (count p n + cond b 1 0) ≡ suc n
    go true ih = omega arith
    go false ih = omega arith

-- a test p of the first m, and a test q of the n after them
pub count-parts : (p q : ℕ → Bool) (m n : ℕ) → count (λ i. cond (ltb i m) (p i) (q (i - m))) (m + n) ≡ count p m + count q n
count-parts p q m n =
    sum_to-append _ m n
    ∙ ap₂ ◌+◌
    (sum_to-same _ _ m (λ i l. rw (lt-ltb i m l) refl))
    (sum_to-same _ _ n (λ i l. rw (le-ltb (m + i) m (omega arith), add-sub_cancel_left m i) refl))

-- those that fail are the rest
pub count-rest : (p : ℕ → Bool) (n k : ℕ) → count p n ≡ k → count (λ i. not (p i)) n ≡ n - k
count-rest p n k e = let all = count-not p n in omega arith

-- the positive atoms of a tree, one by one
pub count-positive : (t : Tree) → count (positive t) (atoms t) ≡ positives t
count-positive qubit = refl
count-positive (arrow a c) =
    count-parts (λ i. not (positive a i)) (positive c) (atoms a) (atoms c)
    ∙ ap₂ ◌+◌ (count-rest (positive a) (atoms a) (positives a) (count-positive a)) (count-positive c)
count-positive (pair a c) =
    count-parts (positive a) (positive c) (atoms a) (atoms c)
    ∙ ap₂ ◌+◌ (count-positive a) (count-positive c)

-- the places in one part are its atoms
pub length-places_in : (r : ℕ) (part : Part) (t : Tree) → length (places_in r part t) ≡ atoms t
length-places_in r part t = length-map (numbers 0 (atoms t)) _ ∙ length-numbers 0 (atoms t)

-- what adds up over lists, over the places of a row: f for each variable, and k for the type
pub size-places-at : (size : List Place → ℕ) → size [] ≡ 0 → ((xs ys : List Place) → size (xs ++ ys) ≡ size xs + size ys)
    → (es : List TypeEntry) (rows : List Row) (r : ℕ) (f : ℕ → ℕ) (k : ℕ)
    → ((x : ℕ) → size (places_in r (Var (record { 0 = x })) (tree_at es rows x)) ≡ f x) → size (places_in r Ty (tree_at es rows r)) ≡ k
    → size (places_at es rows r) ≡ weight (env_at rows r) f (length rows) + k
size-places-at size none both es rows r f k variables type =
    both _ (places_in r Ty (tree_at es rows r))
    ∙ ap₂ ◌+◌
    (size_members size none both (env_at rows r) (λ x. places_in r (Var (record { 0 = x })) (tree_at es rows x)) (length rows)
    ∙ weight-same (env_at rows r) (length rows) _ f (λ x l h. variables x))
    type

-- the places of a row
pub length-places-at : (es : List TypeEntry) (rows : List Row) (r : ℕ)
    → length (places_at es rows r) ≡ weight (env_at rows r) (λ x. atoms (tree_at es rows x)) (length rows) + atoms (tree_at es rows r)
length-places-at es rows r =
    size-places-at length refl length-append es rows r (λ x. atoms (tree_at es rows x)) (atoms (tree_at es rows r))
    (λ x. length-places_in r _ (tree_at es rows x)) (length-places_in r Ty (tree_at es rows r))

-- the places of all rows
pub length-places : (es : List TypeEntry) (rows : List Row)
    → length (places es rows) ≡ sum_to (λ r. weight (env_at rows r) (λ x. atoms (tree_at es rows x)) (length rows) + atoms (tree_at es rows r)) (length rows)
unfolding places
length-places es rows =
    size_joined length refl length-append (places_at es rows) (length rows)
    ∙ sum_to-same _ _ (length rows) (λ r l. length-places-at es rows r)

-- what two lists keep
pub length-keep-append : {A : Type 0} (t : A → Bool) (xs ys : List A) → length (keep t (xs ++ ys)) ≡ length (keep t xs) + length (keep t ys)
length-keep-append t xs ys = ap length (filter-append t xs ys) ∙ length-append (keep t xs) (keep t ys)

-- the kept elements of a list that is made of numbers
pub length-keep-map : {A : Type 0} (t : A → Bool) (g : ℕ → A) (n : ℕ) → length (keep t (map g (numbers 0 n))) ≡ count (λ i. t (g i)) n
length-keep-map {A} t g n =
    size-map (λ xs. length (keep t xs)) refl (length-keep-append t) g n
    ∙ sum_to-same _ _ n (λ i l. one (t (g i)) (g i))
  where
    one : (b : Bool) (x : A) → length (cond b (x ∷ []) []) ≡ cond b 1 0
    one true x = refl
    one false x = refl

-- the given wires: the positive atoms of the last row's variables, and the negative atoms of its type
pub length-given : (es : List TypeEntry) (rows : List Row)
    → length (given es rows)
    ≡ weight (env_at rows (length rows - 1)) (λ x. positives (tree_at es rows x)) (length rows)
    + (atoms (tree_at es rows (length rows - 1)) - positives (tree_at es rows (length rows - 1)))
unfolding given
length-given es rows =
    let last = length rows - 1 in
    let t = tree_at es rows last in
    size-places-at (λ ps. length (keep (negative es rows) ps)) refl (length-keep-append (negative es rows)) es rows last
    (λ x. positives (tree_at es rows x)) (atoms t - positives t)
    (λ x. length-keep-map (negative es rows) _ (atoms (tree_at es rows x)) ∙ count-positive (tree_at es rows x))
    (length-keep-map (negative es rows) _ (atoms t) ∙ count-rest (positive t) (atoms t) (positives t) (count-positive t))
