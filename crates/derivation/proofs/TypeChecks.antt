-- What the code learns of a type table while it checks one entry.
use Rattle.std.proofs.Common.{◌≡◌, ℕ, suc, ◌+◌, ◌<◌, ◌≤◌, Bool, true, false, cond, ◌&&◌, ◌||◌, eqb, ltb, List, [], ◌∷◌, ◌++◌, map, length, get_or, take, Some, None, Option, sym, refl, ap, ◌∙◌, subst, ap₂, arith}
use mathlib.Core.Path.{subst⁻¹}
use Rattle.std.proofs.lemmas.List.{get_or-map, length-map, map_push, take_more}
use Rattle.std.specs.List.{list_any}
use Rattle.std.specs.Option.{ok_or}
use Rattle.std.specs.Result.{MatchResult}
use Rattle.std.proofs.lemmas.Bool.{lt-leb, le-ltb, lt-ltb, ltb-true, ltb-false}
use Rattle.derivation.specs.declared.types.TypeKind.{TypeKind}
use Rattle.derivation.specs.declared.types.TypeKind.TheVariants.{Arrow, Pair}
use Rattle.derivation.specs.declared.types.TypeEntry.{TypeEntry}
use Rattle.derivation.specs.declared.types.Size.{Size}
use Rattle.basics.specs.declared.refusal.Refusal.TheVariants.{RepeatedType, TooManyAtoms}
use denote.Enum.Bare.{sameb}
use Rattle.derivation.specs.contracts.types.TypeKind.{the_type as the_kinds}
use Rattle.derivation.specs.Trees.{Tree, qubit, node, atoms, trees, unfolded, same_kind, same_entry, listed, type_fault}
use Rattle.derivation.specs.Weights.{size_of, joined_size}
use Rattle.derivation.proofs.GrowthLaws.{length-grown, grown-push}
use Rattle.derivation.proofs.WeightLaws.{positives_le}

-- equal by the derived `==` is the same by the definition
pub kind-eq : (j k : TypeKind) → sameb the_kinds j k ≡ same_kind j k
kind-eq Arrow Arrow = refl
kind-eq Arrow Pair = refl
kind-eq Pair Arrow = refl
kind-eq Pair Pair = refl

pub entry-eq : (d e : TypeEntry) → (sameb the_kinds d.kind e.kind && (eqb d.left.0 e.left.0 && eqb d.right.0 e.right.0)) ≡ same_entry d e
entry-eq d e = ap (λ b. b && (eqb d.left.0 e.left.0 && eqb d.right.0 e.right.0)) (kind-eq d.kind e.kind)

-- what `contains` computes
pub listed-any : (ds : List TypeEntry) (e : TypeEntry) → list_any (λ d. sameb the_kinds d.kind e.kind && (eqb d.left.0 e.left.0 && eqb d.right.0 e.right.0)) ds ≡ listed ds e
listed-any [] e = refl
listed-any (d ∷ ds) e = ap₂ ◌||◌ (entry-eq d e) (listed-any ds e)

pub length-trees : (ds : List TypeEntry) → length (trees ds) ≡ suc (length ds)
unfolding trees
length-trees ds = length-grown unfolded (qubit ∷ []) ds ∙ omega arith

pub length_sizes : (ds : List TypeEntry) (sizes : List Size) → sizes ≡ map size_of (trees ds) → length sizes ≡ suc (length ds)
length_sizes ds sizes e = ap length e ∙ length-map (trees ds) size_of ∙ length-trees ds

-- the size at t is that of tree t
pub size-at : (ds : List TypeEntry) (sizes : List Size) → sizes ≡ map size_of (trees ds) → (t : ℕ) (d : Size) → t < suc (length ds) → get_or sizes t d ≡ size_of (get_or (trees ds) t qubit)
size-at ds sizes e t d h = ap (λ l. get_or l t d) e ∙ get_or-map size_of (trees ds) t qubit d (subst (λ n. t < n) (sym (length-trees ds)) h)

pub size-node : (kind : TypeKind) (a c : Tree) → size_of (node kind a c) ≡ joined_size kind (size_of a) (size_of c)
size-node Arrow a c = refl
size-node Pair a c = refl

atoms-node : (kind : TypeKind) (a c : Tree) → atoms (node kind a c) ≡ atoms a + atoms c
atoms-node Arrow a c = refl
atoms-node Pair a c = refl

-- entry e behind ds, which is entry k and whose parts are lower
module _ (ds : List TypeEntry) (e : TypeEntry) (k : ℕ) (number : k ≡ suc (length ds)) (left : e.left.0 < k) (right : e.right.0 < k) where
  pub repeated : listed ds e ≡ true → type_fault ds e ≡ Some (RepeatedType (record { 0 = k }))
  repeated l = rw (← number, lt-leb k e.left.0 left, lt-leb k e.right.0 right, l) refl

  pub wide : listed ds e ≡ false → 16 < atoms (get_or (trees ds) e.left.0 qubit) + atoms (get_or (trees ds) e.right.0 qubit) → type_fault ds e ≡ Some (TooManyAtoms (record { 0 = k }))
  wide l w = rw (← number, lt-leb k e.left.0 left, lt-leb k e.right.0 right, l, atoms-node e.kind, lt-ltb 16 _ w) refl

  pub fine : listed ds e ≡ false → atoms (get_or (trees ds) e.left.0 qubit) + atoms (get_or (trees ds) e.right.0 qubit) ≤ 16 → type_fault ds e ≡ None
  fine l w = rw (← number, lt-leb k e.left.0 left, lt-leb k e.right.0 right, l, atoms-node e.kind, le-ltb 16 _ w) refl

-- the two answers of a test
some_below : {A : Type 0} (b : Bool) (s x : A) → Some s ≡ cond b None (Some x) → (b ≡ false) × (s ≡ x)
some_below true s x e = (cc, cc)
some_below false s x e = (refl, cc)

none_above : {A : Type 0} (b : Bool) (x : A) → None ≡ cond b None (Some x) → b ≡ true
none_above true x e = refl
none_above false x e = cc

-- the same by the sizes of the entries before e
module _ (ds : List TypeEntry) (e : TypeEntry) (k : ℕ) (number : k ≡ suc (length ds)) (left : e.left.0 < k) (right : e.right.0 < k) (sizes : List Size) (d : Size) (sized : sizes ≡ map size_of (trees ds)) where
  left-size : get_or sizes e.left.0 d ≡ size_of (get_or (trees ds) e.left.0 qubit)
  left-size = size-at ds sizes sized e.left.0 d (omega arith)

  right-size : get_or sizes e.right.0 d ≡ size_of (get_or (trees ds) e.right.0 qubit)
  right-size = size-at ds sizes sized e.right.0 d (omega arith)

  pub parts_fit : ((get_or sizes e.left.0 d).positive ≤ (get_or sizes e.left.0 d).atoms) × ((get_or sizes e.right.0 d).positive ≤ (get_or sizes e.right.0 d).atoms)
  parts_fit = (
    subst⁻¹ (λ (s : Size). s.positive ≤ s.atoms) left-size (positives_le (get_or (trees ds) e.left.0 qubit)),
    subst⁻¹ (λ (s : Size). s.positive ≤ s.atoms) right-size (positives_le (get_or (trees ds) e.right.0 qubit)),
  )

  sum_is : (get_or sizes e.left.0 d).atoms + (get_or sizes e.right.0 d).atoms ≡ atoms (get_or (trees ds) e.left.0 qubit) + atoms (get_or (trees ds) e.right.0 qubit)
  sum_is = ap₂ (λ (a c : Size). a.atoms + c.atoms) left-size right-size

  -- the size of the entry, where its parts are joined, or that it has too many atoms
  pub entry-sized : (o : Option Size) → listed ds e ≡ false
      → o ≡ cond (ltb 16 ((get_or sizes e.left.0 d).atoms + (get_or sizes e.right.0 d).atoms)) None (Some (joined_size e.kind (get_or sizes e.left.0 d) (get_or sizes e.right.0 d)))
      → MatchResult (ok_or o (TooManyAtoms (record { 0 = k }))) (λ s. (type_fault ds e ≡ None) × (s ≡ size_of (unfolded (trees ds) e))) (λ r. type_fault ds e ≡ Some r)
  entry-sized (Some s) l j =
      let h = some_below _ s _ j in (
        fine ds e k number left right l (subst (λ n. n ≤ 16) sum_is (ltb-false 16 _ h.0)),
        h.1 ∙ ap₂ (λ (a c : Size). joined_size e.kind a c) left-size right-size ∙ sym (size-node e.kind (get_or (trees ds) e.left.0 qubit) (get_or (trees ds) e.right.0 qubit)),
      )
  entry-sized None l j = wide ds e k number left right l (subst (λ n. 16 < n) sum_is (ltb-true 16 _ (none_above _ _ j)))

pub trees-push : (ds : List TypeEntry) (e : TypeEntry) → trees (ds ++ e ∷ []) ≡ trees ds ++ (unfolded (trees ds) e ∷ [])
unfolding trees
trees-push ds e = grown-push unfolded (qubit ∷ []) ds e

-- one size more
pub sizes_more : (es : List TypeEntry) (i : ℕ) (d : TypeEntry) → i < length es → map size_of (trees (take (i + 1) es)) ≡ map size_of (trees (take i es)) ++ (size_of (unfolded (trees (take i es)) (get_or es i d)) ∷ [])
sizes_more es i d h =
    ap (λ l. map size_of (trees l)) (take_more es i d h) ∙ ap (map size_of) (trees-push (take i es) (get_or es i d)) ∙ map_push size_of (trees (take i es)) (unfolded (trees (take i es)) (get_or es i d))
