-- What the code learns while it lists the places of the last row.
use Rattle.std.proofs.Common.{◌≡◌, ℕ, zero, suc, ◌+◌, ◌-◌, ◌<◌, ◌≤◌, Bool, true, false, cond, not, List, [], ◌∷◌, ◌++◌, map, length, get_or, drop, sym, refl, ap, ◌∙◌, subst, ap₂, add-zero, add-suc, suc-add, zero-add, add-one, arith}
use Rattle.std.specs.List.{flat_map}
use Rattle.std.proofs.lemmas.List.{append-nil, append_assoc, flat_map_more, drop_more, drop_all, length-map, length-append, get_or-map}
use Rattle.derivation.specs.declared.types.TypeEntry.{TypeEntry}
use Rattle.derivation.specs.declared.rows.Row.{Row}
use Rattle.derivation.specs.declared.rows.Part.{Part}
use Rattle.derivation.specs.declared.rows.Part.TheVariants.{Ty, Variable as Var}
use Rattle.derivation.specs.declared.rows.Place.{Place}
use Rattle.basics.specs.Sets.{has}
use Rattle.derivation.specs.Places.{numbers, keep, is_bit, places_in, places_at, negative, given, bits}
use Rattle.derivation.specs.Accepted.{valid}
use Rattle.derivation.proofs.AcceptedLaws.{accepted_from_valid}
use Rattle.derivation.specs.Trees.{positive}
use Rattle.derivation.specs.Rows.{no_row}
use Rattle.derivation.specs.Judgements.{rule_at, tree_at, env_at}
use Rattle.derivation.proofs.PlaceLaws.{length-numbers}
use Rattle.machine.specs.declared.tables.RowFacts.{RowFacts}
use Rattle.machine.specs.Facts.{agrees, places_to, signed, signs_of, no_facts, facts_at, signed_held, signed_at, starts_by}
use Rattle.theory.specs.Ports.{at, bit_places, width, starts, ends}
use Rattle.machine.proofs.SignLaws.{signs-has}
use Rattle.machine.proofs.FactLaws.{numbers_more, map-numbers}

pub keep_append : {A : Type 0} (t : A → Bool) (xs ys : List A) → keep t (xs ++ ys) ≡ keep t xs ++ keep t ys
keep_append t [] ys = refl
keep_append {A} t (x ∷ xs) ys = go (t x) (keep_append t xs ys)
  where
    go : (b : Bool) → keep t (xs ++ ys) ≡ keep t xs ++ keep t ys → cond b (x ∷ keep t (xs ++ ys)) (keep t (xs ++ ys)) ≡ cond b (x ∷ keep t xs) (keep t xs) ++ keep t ys
    go true ih = ap (λ l. x ∷ l) ih
    go false ih = ih

-- the places of one more atom
module _ (w : Bool) (s r : ℕ) (part : Part) (i : ℕ) where
  abbrev place : Place
  place = record { row = record { 0 = r }; part = part; atom = record { 0 = i } }

  more : signed w s r part (i + 1) ≡ signed w s r part i ++ keep (λ (p : Place). agrees w (has s p.atom.0)) (place ∷ [])
  more =
      ap (keep (λ (p : Place). agrees w (has s p.atom.0))) (map-numbers (λ j. record { row = record { 0 = r }; part = part; atom = record { 0 = j } }) i)
      ∙ keep_append (λ (p : Place). agrees w (has s p.atom.0)) (places_to r part i) (place ∷ [])

  -- by the answer of the code's test
  add : (b : Bool) → b ≡ agrees w (has s i) → signed w s r part (i + 1) ≡ signed w s r part i ++ cond b (place ∷ []) []
  add b e = more ∙ ap (λ d. signed w s r part i ++ cond d (place ∷ []) []) (sym e)

  pub signed_in : (ps qs : List Place) → qs ≡ ps ++ signed w s r part i → true ≡ agrees w (has s i) → qs ++ (place ∷ []) ≡ ps ++ signed w s r part (i + 1)
  signed_in ps qs e t =
      ap (λ l. l ++ (place ∷ [])) e ∙ append_assoc ps (signed w s r part i) (place ∷ []) ∙ ap (λ l. ps ++ l) (sym (add true t))

  pub signed_out : (ps qs : List Place) → qs ≡ ps ++ signed w s r part i → false ≡ agrees w (has s i) → qs ≡ ps ++ signed w s r part (i + 1)
  signed_out ps qs e t = e ∙ ap (λ l. ps ++ l) (sym (append-nil (signed w s r part i)) ∙ sym (add false t))

-- the list of one more number
pub joined_numbers : {A : Type 0} (f : ℕ → List A) (n : ℕ) → flat_map f (numbers 0 (n + 1)) ≡ flat_map f (numbers 0 n) ++ f n
joined_numbers f n = ap (flat_map f) (numbers_more 0 n ∙ rw zero-add refl) ∙ sym (flat_map_more f [] (numbers 0 n) n)

-- one more variable
module _ (facts : List RowFacts) (w : Bool) (r x : ℕ) (ps : List Place) (e : ps ≡ signed_held facts w r x) where
  abbrev within : List Place
  within = signed w (get_or facts x no_facts).ty.signs r (Var (record { 0 = x })) (get_or facts x no_facts).ty.width

  held_more : (b : Bool) → b ≡ has (get_or facts r no_facts).env x → ps ++ cond b within [] ≡ signed_held facts w r (x + 1)
  held_more b h =
      ap₂ (λ (l : List Place) (c : Bool). l ++ cond c within []) e h
      ∙ sym (joined_numbers (λ y. cond (has (get_or facts r no_facts).env y) (signed w (get_or facts y no_facts).ty.signs r (Var (record { 0 = y })) (get_or facts y no_facts).ty.width) []) x)

  pub held_in : true ≡ has (get_or facts r no_facts).env x → ps ++ within ≡ signed_held facts w r (x + 1)
  held_in h = held_more true h

  pub held_out : false ≡ has (get_or facts r no_facts).env x → ps ≡ signed_held facts w r (x + 1)
  held_out h = sym (append-nil ps) ∙ held_more false h

-- one more row that is a bit or is none
module _ (rows : List Row) (r : ℕ) (h : r < length rows) (ps : List Place) where
  bits-more : (b : Bool) → b ≡ is_bit (rule_at rows r)
      → ps ++ bit_places [] rows r (drop r rows) ≡ ps ++ cond b (at r 0 ∷ bit_places [] rows (r + 1) (drop (r + 1) rows)) (bit_places [] rows (r + 1) (drop (r + 1) rows))
  bits-more b e =
      ap (λ l. ps ++ bit_places [] rows r l) (drop_more rows r no_row h)
      ∙ ap₂ (λ (c : Bool) (k : ℕ). ps ++ cond c (at r 0 ∷ bit_places [] rows k (drop (r + 1) rows)) (bit_places [] rows k (drop (r + 1) rows))) (sym e) (sym (add-one r))

  pub bits_in : true ≡ is_bit (rule_at rows r) → (ps ++ (at r 0 ∷ [])) ++ bit_places [] rows (r + 1) (drop (r + 1) rows) ≡ ps ++ bit_places [] rows r (drop r rows)
  bits_in e = append_assoc ps (at r 0 ∷ []) (bit_places [] rows (r + 1) (drop (r + 1) rows)) ∙ sym (bits-more true e)

  pub bits_out : false ≡ is_bit (rule_at rows r) → ps ++ bit_places [] rows (r + 1) (drop (r + 1) rows) ≡ ps ++ bit_places [] rows r (drop r rows)
  bits_out e = sym (bits-more false e)

pub bits-all : (rows : List Row) (r : ℕ) → length rows ≤ r → (ps : List Place) → ps ≡ ps ++ bit_places [] rows r (drop r rows)
bits-all rows r h ps = sym (append-nil ps) ∙ ap (λ l. ps ++ bit_places [] rows r l) (sym (drop_all r rows h))

-- the numbers of a list
get_or-numbers : (k n i d : ℕ) → i < n → get_or (numbers k n) i d ≡ k + i
get_or-numbers k zero i d h = absurd (omega arith)
get_or-numbers k (suc n) zero d h = sym (add-zero k)
get_or-numbers k (suc n) (suc i) d h = get_or-numbers (suc k) n i d (omega arith) ∙ suc-add k i ∙ sym (add-suc k i)

-- tests that agree keep the same
keep_same : {A : Type 0} (t u : A → Bool) (g : ℕ → A) (k n : ℕ) → ((i : ℕ) → k ≤ i → i < k + n → t (g i) ≡ u (g i)) → keep t (map g (numbers k n)) ≡ keep u (map g (numbers k n))
keep_same t u g k zero h = refl
keep_same t u g k (suc n) h =
    rw (h k (omega arith) (omega arith), keep_same t u g (suc k) n (λ i l m. h i (omega arith) (omega arith))) refl

keep_joined : {A : Type 0} (t : A → Bool) (F : ℕ → List A) (xs : List ℕ) → keep t (flat_map F xs) ≡ flat_map (λ x. keep t (F x)) xs
keep_joined t F [] = refl
keep_joined t F (x ∷ xs) = keep_append t (F x) (flat_map F xs) ∙ ap (λ l. keep t (F x) ++ l) (keep_joined t F xs)

joined_same : {A : Type 0} (F G : ℕ → List A) (k n : ℕ) → ((x : ℕ) → k ≤ x → x < k + n → F x ≡ G x) → flat_map F (numbers k n) ≡ flat_map G (numbers k n)
joined_same F G k zero h = refl
joined_same F G k (suc n) h = ap₂ ◌++◌ (h k (omega arith) (omega arith)) (joined_same F G (suc k) n (λ x l m. h x (omega arith) (omega arith)))

agrees-not : (w b : Bool) → agrees w (not b) ≡ agrees (not w) b
agrees-not true b = refl
agrees-not false true = refl
agrees-not false false = refl

keep-cond : {A : Type 0} (t : A → Bool) (b : Bool) (xs : List A) → keep t (cond b xs []) ≡ cond b (keep t xs) []
keep-cond t true xs = refl
keep-cond t false xs = refl

-- the facts of the rows of a derivation
module _ (es : List TypeEntry) (rows : List Row) (facts : List RowFacts) (known : facts ≡ map (facts_at es rows) (numbers 0 (length rows))) where
  pub length-row-facts : length facts ≡ length rows
  length-row-facts = ap length known ∙ length-map (numbers 0 (length rows)) (facts_at es rows) ∙ length-numbers 0 (length rows)

  pub row_fact-at : (r : ℕ) (d : RowFacts) → r < length rows → get_or facts r d ≡ facts_at es rows r
  row_fact-at r d h =
      ap (λ l. get_or l r d) known
      ∙ get_or-map (facts_at es rows) (numbers 0 (length rows)) r 0 d (rw length-numbers h)
      ∙ ap (facts_at es rows) (get_or-numbers 0 (length rows) r 0 h ∙ zero-add r)

  module _ (w : Bool) (r : ℕ) where
    abbrev wanted : Place → Bool
    wanted p = agrees w (negative es rows p)

    in-variable : (x : ℕ) → keep wanted (places_in r (Var (record { 0 = x })) (tree_at es rows x)) ≡ signed w (signs_of (tree_at es rows x)) r (Var (record { 0 = x })) (width es rows x)
    in-variable x = keep_same wanted _ _ 0 (width es rows x) (λ i l m. ap (agrees w) (sym (signs-has (tree_at es rows x) i (subst (λ n. i < n) (zero-add (width es rows x)) m))))

    in-type : keep wanted (places_in r Ty (tree_at es rows r)) ≡ signed (not w) (signs_of (tree_at es rows r)) r Ty (width es rows r)
    in-type =
        keep_same wanted _ _ 0 (width es rows r)
        (λ i l m. agrees-not w (positive (tree_at es rows r) i) ∙ ap (agrees (not w)) (sym (signs-has (tree_at es rows r) i (subst (λ n. i < n) (zero-add (width es rows r)) m))))

    pub signed-at : r < length rows → signed_at facts w r ≡ keep wanted (places_at es rows r)
    signed-at h =
        let here = row_fact-at r no_facts h in
        ap₂ ◌++◌
        (ap (signed_held facts w r) length-row-facts
        ∙ joined_same _ _ 0 (length rows)
        (λ x l m.
        let at_x = row_fact-at x no_facts (subst (λ n. x < n) (zero-add (length rows)) m) in
        ap₂ (λ (f g : RowFacts). cond (has f.env x) (signed w g.ty.signs r (Var (record { 0 = x })) g.ty.width) []) here at_x
        ∙ ap (λ ps. cond (has (env_at rows r) x) ps []) (sym (in-variable x))
        ∙ sym (keep-cond wanted (has (env_at rows r) x) (places_in r (Var (record { 0 = x })) (tree_at es rows x))))
        ∙ sym (keep_joined wanted _ (numbers 0 (length rows))))
        (ap (λ (f : RowFacts). signed (not w) f.ty.signs r Ty f.ty.width) here ∙ sym in-type)
        ∙ sym (keep_append wanted _ (places_in r Ty (tree_at es rows r)))

  pub starts_are : 0 < length rows → starts_by facts rows ≡ starts es rows
  unfolding starts given
  starts_are h =
      ap (λ ps. ps ++ bit_places [] rows 0 rows)
      (ap (λ n. signed_at facts true (n - 1)) length-row-facts ∙ signed-at true (length rows - 1) (omega arith))

  pub ends_are : 0 < length rows → signed_at facts false (length facts - 1) ≡ ends es rows
  unfolding ends
  ends_are h = ap (λ n. signed_at facts false (n - 1)) length-row-facts ∙ signed-at false (length rows - 1) (omega arith)

-- as many places as bits
length-bits : (es : List TypeEntry) (rows : List Row) (k : ℕ) (rest : List Row) → length (bit_places es rows k rest) ≡ length (bits rest)
length-bits es rows k [] = refl
length-bits es rows k (row ∷ rest) = go (is_bit row.rule) (length-bits es rows (suc k) rest)
  where
    go : (b : Bool) → length (bit_places es rows (suc k) rest) ≡ length (bits rest) → length (cond b (at k 0 ∷ bit_places es rows (suc k) rest) (bit_places es rows (suc k) rest)) ≡ length (cond b (row ∷ bits rest) (bits rest))
    go true ih = ap suc ih
    go false ih = ih

pub starts-few : (es : List TypeEntry) (rows : List Row) → valid es rows ≡ true → length (starts es rows) ≤ 32
unfolding starts
starts-few es rows ok =
    omega (arith, length-append (given es rows) (bit_places es rows 0 rows), length-bits es rows 0 rows, (accepted_from_valid es rows ok).wired)
