-- Laws of types as trees and of the type table: a table without a fault keeps its rules, and the tests of an entry say what its tree is.
use Rattle.std.proofs.Common.{◌≡◌, ℕ, zero, suc, ◌+◌, ◌<◌, ◌≤◌, Bool, true, false, eqb, ltb, leb, List, [], ◌∷◌, length, get_or, take, None, sym, refl, ap, ◌∙◌, subst, ⊎_elim, arith}
use Rattle.std.proofs.lemmas.List.{length-take-le, get_or-take, map-id}
use Rattle.std.proofs.lemmas.List.Recursion.{or_from_places}
use Rattle.std.proofs.lemmas.Bool.{and_parts, and_from, or_parts, or_from, both_ways, cond-false, cases_order, eqb-true, eq-eqb, leb-false, lt-leb, ltb-true, ltb-false, lt-ltb, le-ltb}
use Rattle.derivation.specs.declared.types.TypeKind.{TypeKind}
use Rattle.derivation.specs.declared.types.TypeKind.TheVariants.{Arrow, Pair}
use Rattle.derivation.specs.declared.types.TypeEntry.{TypeEntry}
use Rattle.derivation.specs.Trees.{Tree, qubit, atoms, power, node, unfolded, trees, tree, same_kind, same_entry, no_entry, listed, type_fault, types_fault}
use Rattle.derivation.specs.Rows.{is_node, left_part, right_part, is_power}
use Rattle.derivation.specs.Accepted.{Table}
use Rattle.derivation.proofs.GrowthLaws.{get_or-grown_front, get_or-grown, get_or-grown-take}
use Rattle.derivation.proofs.FaultLaws.{cond_none, none_from, none_to}

-- a test that cannot pass fails
pub not_so : (b : Bool) → (b ≡ true → ⊥) → b ≡ false
not_so true h = absurd (h refl)
not_so false h = refl

-- nodes

-- a node is no qubit
node_no-qubit : (k : TypeKind) (a c : Tree) → node k a c ≡ qubit → ⊥
node_no-qubit Arrow a c e = let z : ◌≡◌ {A = ℕ} 0 1 = cc in omega arith
node_no-qubit Pair a c e = let z : ◌≡◌ {A = ℕ} 0 1 = cc in omega arith

-- equal nodes have equal kinds and equal parts
node-parts : (j k : TypeKind) (a b c d : Tree) → node j a c ≡ node k b d → (j ≡ k) × (a ≡ b) × (c ≡ d)
node-parts Arrow Arrow a b c d e = (refl, cc, cc)
node-parts Arrow Pair a b c d e = (cc, cc, cc)
node-parts Pair Arrow a b c d e = (cc, cc, cc)
node-parts Pair Pair a b c d e = (refl, cc, cc)

-- entries

-- entry t of the further types
abbrev entry : List TypeEntry → ℕ → TypeEntry
entry es t = get_or es t no_entry

-- two kinds pass the test exactly if they are equal
same_kind_lem : (j k : TypeKind) → same_kind j k ≡ true → j ≡ k
same_kind_lem Arrow Arrow e = refl
same_kind_lem Arrow Pair e = cc
same_kind_lem Pair Arrow e = cc
same_kind_lem Pair Pair e = refl

kind_same : (k : TypeKind) → same_kind k k ≡ true
kind_same Arrow = refl
kind_same Pair = refl

-- two entries pass the test exactly if their kinds and parts are equal
same-entry : (d e : TypeEntry) → same_entry d e ≡ true → (d.kind ≡ e.kind) × (d.left.0 ≡ e.left.0) × (d.right.0 ≡ e.right.0)
same-entry d e h =
    let (kinds, rest) = and_parts (same_kind d.kind e.kind) _ h in
    let (lefts, rights) = and_parts (eqb d.left.0 e.left.0) _ rest in
    (same_kind_lem _ _ kinds, eqb-true _ _ lefts, eqb-true _ _ rights)

entry-same : (d e : TypeEntry) → d.kind ≡ e.kind → d.left.0 ≡ e.left.0 → d.right.0 ≡ e.right.0 → same_entry d e ≡ true
entry-same d e k l r = and_from _ _ (rw k (kind_same e.kind)) (and_from _ _ (eq-eqb _ _ l) (eq-eqb _ _ r))

-- an entry is not listed exactly if it is none of the list
none_listed : (ds : List TypeEntry) (e d : TypeEntry) → listed ds e ≡ false → (s : ℕ) → s < length ds → same_entry (get_or ds s d) e ≡ false
none_listed [] e d h s l = absurd (omega arith)
none_listed (c ∷ ds) e d h zero l = (or_parts (same_entry c e) (listed ds e) h).0
none_listed (c ∷ ds) e d h (suc s) l = none_listed ds e d (or_parts (same_entry c e) (listed ds e) h).1 s (omega arith)

-- the parts of each entry are lower
abbrev pub Lower : List TypeEntry → Type 0
Lower es = (t : ℕ) → t < length es → (d : TypeEntry) → ((get_or es t d).left.0 ≤ t) × ((get_or es t d).right.0 ≤ t)

-- no entry stands in a table twice
abbrev Fresh : List TypeEntry → Type 0
Fresh es = (s t : ℕ) → s < t → t < length es → same_entry (entry es s) (entry es t) ≡ true → ⊥

-- no two entries have one tree
abbrev Distinct : List TypeEntry → Type 0
Distinct es = (s t : ℕ) → s ≤ length es → t ≤ length es → tree es s ≡ tree es t → s ≡ t

module _ (es : List TypeEntry) where
  -- trees

  -- the tree of entry 0
  pub tree_zero : tree es 0 ≡ qubit
  unfolding trees
  tree_zero = get_or-grown_front unfolded (qubit ∷ []) es 0 qubit (omega arith)

  -- the front of a table has the same trees
  pub tree-take : (k t : ℕ) → k ≤ length es → t ≤ k → tree (take k es) t ≡ tree es t
  unfolding trees
  tree-take k t h l = get_or-grown-take unfolded (qubit ∷ []) es k t qubit h (omega arith)

  -- the tree of a further type, by the trees of the types before it
  pub tree-unfolded : (t : ℕ) (d : TypeEntry) → t < length es → tree es (suc t) ≡ unfolded (trees (take t es)) (get_or es t d)
  unfolding trees
  tree-unfolded t d h =
      let e : suc t ≡ 1 + t = omega arith in
      ap (tree es) e ∙ get_or-grown unfolded (qubit ∷ []) es t qubit d h

  -- equal kinds and parts make equal trees
  tree-same : (j k : TypeKind) (a b c d : ℕ) → j ≡ k → a ≡ b → c ≡ d → node j (tree es a) (tree es c) ≡ node k (tree es b) (tree es d)
  tree-same j k a b c d p q r i = node (p i) (tree es (q i)) (tree es (r i))

  -- the tree of a further type, by the trees of its parts
  pub tree_suc : Lower es → (t : ℕ) (d : TypeEntry) → t < length es
      → tree es (suc t) ≡ node (get_or es t d).kind (tree es (get_or es t d).left.0) (tree es (get_or es t d).right.0)
  tree_suc low t d h =
      let (l, r) = low t h d in
      let n : t ≤ length es = omega arith in
      let k = (get_or es t d).kind in
      tree-unfolded t d h
      ∙ ap (λ a. node k a (tree (take t es) (get_or es t d).right.0)) (tree-take t _ n l)
      ∙ ap (λ c. node k (tree es (get_or es t d).left.0) c) (tree-take t _ n r)

  -- an entry is new exactly if none before it is the same
  fresh-from : ((t : ℕ) → t < length es → listed (take t es) (entry es t) ≡ false) → Fresh es
  fresh-from f s t l h e =
      let n = length-take-le t es (omega arith) in
      let other = none_listed (take t es) (entry es t) no_entry (f t h) s (omega arith) in
      both_ways _ (ap (λ d. same_entry d (entry es t)) (sym (get_or-take t es s no_entry l)) ∙ other) e

  fresh_to : Fresh es → (t : ℕ) → t < length es → listed (take t es) (entry es t) ≡ false
  fresh_to f t h =
      let n = length-take-le t es (omega arith) in
      or_from_places (λ ds. listed ds (entry es t)) (λ d. same_entry d (entry es t)) refl (λ _ _. refl) (take t es) no_entry
      (λ s l. ap (λ d. same_entry d (entry es t)) (get_or-take t es s no_entry (omega arith)) ∙ not_so _ (f s t (omega arith) h))

  -- no entry stands in a table twice exactly if no two have one tree
  distinct_below : Lower es → Fresh es → (n s t : ℕ) → s < n → t < n → s ≤ length es → t ≤ length es → tree es s ≡ tree es t → s ≡ t
  distinct_below low fresh zero s t hs ht ls lt e = absurd (omega arith)
  distinct_below low fresh (suc n) zero zero hs ht ls lt e = refl
  distinct_below low fresh (suc n) zero (suc t) hs ht ls lt e = absurd (node_no-qubit _ _ _ (sym (tree_suc low t no_entry lt) ∙ sym e ∙ tree_zero))
  distinct_below low fresh (suc n) (suc s) zero hs ht ls lt e = absurd (node_no-qubit _ _ _ (sym (tree_suc low s no_entry ls) ∙ e ∙ tree_zero))
  distinct_below low fresh (suc n) (suc s) (suc t) hs ht ls lt e =
      let (k, l, r) = node-parts _ _ _ _ _ _ (sym (tree_suc low s no_entry ls) ∙ e ∙ tree_suc low t no_entry lt) in
      let (sl, sr) = low s ls no_entry in
      let (tl, tr) = low t lt no_entry in
      let el = distinct_below low fresh n (entry es s).left.0 (entry es t).left.0 (omega arith) (omega arith) (omega arith) (omega arith) l in
      let er = distinct_below low fresh n (entry es s).right.0 (entry es t).right.0 (omega arith) (omega arith) (omega arith) (omega arith) r in
      ⊎_elim (λ (q : s ≡ t). ap suc q)
      (⊎_elim
      (λ (q : s < t). absurd (fresh s t q lt (entry-same _ _ k el er)))
      (λ (q : t < s). absurd (fresh t s q ls (entry-same _ _ (sym k) (sym el) (sym er)))))
      (cases_order s t)

  distinct_from : Lower es → Fresh es → Distinct es
  distinct_from low fresh s t ls lt e = distinct_below low fresh (suc (length es)) s t (omega arith) (omega arith) ls lt e

  distinct_to : Lower es → Distinct es → Fresh es
  distinct_to low distinct s t h lt e =
      let (k, l, r) = same-entry (entry es s) (entry es t) e in
      let ls : s < length es = omega arith in
      let q : suc s ≡ suc t = distinct (suc s) (suc t) ls lt (tree_suc low s no_entry ls ∙ tree-same _ _ _ _ _ _ k l r ∙ sym (tree_suc low t no_entry lt)) in
      omega arith

-- entry t with no fault, behind the entries before it
record Sound (es : List TypeEntry) (t : ℕ) (e : TypeEntry) : Type 0 where
  left_low : e.left.0 ≤ t
  right_low : e.right.0 ≤ t
  new : listed (take t es) e ≡ false
  light : atoms (unfolded (trees (take t es)) e) ≤ 16

module _ (es : List TypeEntry) where
  sound-from : (t : ℕ) (e : TypeEntry) → t ≤ length es → type_fault (take t es) e ≡ None → Sound es t e
  sound-from t e h f =
      let n = length-take-le t es h in
      let (high, f1) = cond_none _ _ _ f in
      let (new, f2) = cond_none _ _ _ f1 in
      let (left, right) = or_parts (leb (suc (length (take t es))) e.left.0) _ high in
      record {
        left_low = omega (arith, leb-false _ _ left);
        right_low = omega (arith, leb-false _ _ right);
        new = new;
        light = ltb-false _ _ (cond_none _ _ _ f2).0;
      }

  sound_to : (t : ℕ) (e : TypeEntry) → t ≤ length es → Sound es t e → type_fault (take t es) e ≡ None
  sound_to t e h s =
      let n = length-take-le t es h in
      let l : e.left.0 < suc (length (take t es)) = omega (arith, s.left_low) in
      let r : e.right.0 < suc (length (take t es)) = omega (arith, s.right_low) in
      cond-false _ _ _ (or_from _ _ (lt-leb _ _ l) (lt-leb _ _ r))
      ∙ cond-false _ _ _ s.new
      ∙ cond-false _ _ _ (le-ltb _ _ s.light)

  -- a table has no fault exactly if none of its entries has one
  sounds_from : types_fault es ≡ None → (t : ℕ) (d : TypeEntry) → t < length es → Sound es t (get_or es t d)
  sounds_from f t d h =
      let e = get_or es t d in
      sound-from t e (omega arith) (ap (λ ds. type_fault ds e) (sym (map-id (take t es))) ∙ none_from type_fault (λ c. c) [] es d f t h)

  sounds_to : ((t : ℕ) → t < length es → Sound es t (entry es t)) → types_fault es ≡ None
  sounds_to s =
      none_to type_fault (λ c. c) [] es no_entry
      (λ t h. ap (λ ds. type_fault ds (entry es t)) (map-id (take t es)) ∙ sound_to t (entry es t) (omega arith) (s t h))

  -- a table keeps its rules exactly if it has no fault
  pub table-from : length es ≤ 64 → types_fault es ≡ None → Table es
  table-from few f =
      let low : Lower es = λ t h d. ((sounds_from f t d h).left_low, (sounds_from f t d h).right_low) in
      record {
        few = few;
        lower = low;
        distinct = distinct_from es low (fresh-from es (λ t h. (sounds_from f t no_entry h).new));
        small = small;
      }
    where
      small : (t : ℕ) → t ≤ length es → atoms (tree es t) ≤ 16
      small zero h = rw (tree_zero es) (omega arith)
      small (suc t) h = rw (tree-unfolded es t no_entry h) (sounds_from f t no_entry h).light

  pub table_to : Table es → types_fault es ≡ None
  table_to table = sounds_to (λ t h. record {
    left_low = (table.lower t h no_entry).0;
    right_low = (table.lower t h no_entry).1;
    new = fresh_to es (distinct_to es table.lower table.distinct) t h;
    light = subst (λ a. atoms a ≤ 16) (tree-unfolded es t no_entry h) (table.small (suc t) h);
  })

-- an entry that passes a test has the tree that the test is for
module _ (es : List TypeEntry) (low : Lower es) where
  pub tree-node : (kind : TypeKind) (t l r : ℕ) → is_node es kind t l r ≡ true → tree es t ≡ node kind (tree es l) (tree es r)
  tree-node kind zero l r e = absurd (both_ways _ refl e)
  tree-node kind (suc t) l r e =
      let (known, same) = and_parts (ltb t (length es)) _ e in
      let (k, x, y) = same-entry (entry es t) (record { kind = kind; left = record { 0 = l }; right = record { 0 = r } }) same in
      tree_suc es low t no_entry (ltb-true _ _ known) ∙ tree-same es _ _ _ _ _ _ k x y

  pub tree-power : (n t : ℕ) → is_power es n t ≡ true → tree es t ≡ power n
  tree-power zero t e = absurd (both_ways _ refl e)
  tree-power (suc zero) t e = ap (tree es) (eqb-true t 0 e) ∙ tree_zero es
  tree-power (suc (suc n)) t e =
      let (front, rest) = and_parts (is_node es Pair t 0 (right_part es t)) _ e in
      tree-node Pair t 0 (right_part es t) front ∙ cc (tree_zero es, tree-power (suc n) (right_part es t) rest)

-- entry t is a node of this kind, whose parts have these trees
pub record Parts (es : List TypeEntry) (kind : TypeKind) (t : ℕ) (a c : Tree) : Type 0 where
  pub test : is_node es kind t (left_part es t) (right_part es t) ≡ true
  pub left_known : left_part es t ≤ length es
  pub right_known : right_part es t ≤ length es
  pub left_tree : tree es (left_part es t) ≡ a
  pub right_tree : tree es (right_part es t) ≡ c

-- an entry with the tree that a test is for passes the test
module _ (es : List TypeEntry) (table : Table es) where
  pub parts : (kind : TypeKind) (t : ℕ) (a c : Tree) → t ≤ length es → tree es t ≡ node kind a c → Parts es kind t a c
  parts kind zero a c h e = absurd (node_no-qubit _ _ _ (sym e ∙ tree_zero es))
  parts kind (suc t) a c h e =
      let (l, r) = table.lower t h no_entry in
      let (k, p, q) = node-parts _ _ _ _ _ _ (sym (tree_suc es table.lower t no_entry h) ∙ e) in
      record {
        test = and_from (ltb t (length es)) _ (lt-ltb t (length es) h) (entry-same (entry es t) _ k refl refl);
        left_known = omega arith;
        right_known = omega arith;
        left_tree = p;
        right_tree = q;
      }

  pub node-tree : (kind : TypeKind) (t l r : ℕ) → t ≤ length es → l ≤ length es → r ≤ length es
      → tree es t ≡ node kind (tree es l) (tree es r) → is_node es kind t l r ≡ true
  node-tree kind t l r h hl hr e =
      let p = parts kind t (tree es l) (tree es r) h e in
      let el = table.distinct _ l p.left_known hl p.left_tree in
      let er = table.distinct _ r p.right_known hr p.right_tree in
      subst (λ i. is_node es kind t l i ≡ true) er (subst (λ i. is_node es kind t i (right_part es t) ≡ true) el p.test)

  pub power-tree : (n t : ℕ) → 0 < n → t ≤ length es → tree es t ≡ power n → is_power es n t ≡ true
  power-tree zero t h l e = absurd (omega arith)
  power-tree (suc zero) t h l e = eq-eqb t 0 (table.distinct t 0 l (omega arith) (e ∙ sym (tree_zero es)))
  power-tree (suc (suc n)) t h l e =
      let p = parts Pair t qubit (power (suc n)) l e in
      let el = table.distinct _ 0 p.left_known (omega arith) (p.left_tree ∙ sym (tree_zero es)) in
      and_from (is_node es Pair t 0 (right_part es t)) _
      (subst (λ i. is_node es Pair t i (right_part es t) ≡ true) el p.test)
      (power-tree (suc n) (right_part es t) (omega arith) p.right_known p.right_tree)
