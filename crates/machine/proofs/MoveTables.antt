-- What the code learns of the rows and places of an accepted derivation.
use Rattle.std.proofs.Common.{◌≡◌, ℕ, ◌<◌, ◌≤◌, Bool, true, false, cond, not, ltb, List, [], ◌∷◌, map, length, get_or, unwrap_or, Some, None, Option, sym, refl, ap, ◌∙◌, subst, ap₂, ⊎_elim, arith}
use mathlib.Core.Path.{subst⁻¹}
use Rattle.std.specs.Option.{option_map}
use Rattle.std.proofs.lemmas.List.{get_or_past}
use Rattle.std.proofs.lemmas.Option.{none-some}
use Rattle.basics.proofs.SetLaws.{has_none}
use Rattle.std.proofs.lemmas.Bool.{and_parts, ltb-true, lt-ltb, le-ltb, cases_lt}
use Rattle.derivation.specs.declared.types.TypeEntry.{TypeEntry}
use Rattle.derivation.specs.declared.rows.Row.{Row}
use Rattle.basics.specs.declared.numbers.RowId.{RowId}
use Rattle.derivation.specs.declared.rows.Rule.{Rule}
use Rattle.derivation.specs.declared.rows.Rule.TheVariants.{Variable}
use Rattle.derivation.specs.declared.rows.Part.{Part}
use Rattle.derivation.specs.declared.rows.Part.TheVariants.{Ty, Variable as Var}
use Rattle.derivation.specs.declared.rows.Place.{Place}
use Rattle.basics.specs.Sets.{has}
use Rattle.derivation.specs.Trees.{Tree, qubit, atoms, positive}
use Rattle.derivation.specs.Rows.{no_row, environments}
use Rattle.derivation.specs.Judgements.{rule_at, tree_at, env_at}
use Rattle.derivation.specs.Places.{numbers, negative}
use Rattle.derivation.specs.Accepted.{valid}
use Rattle.derivation.proofs.AcceptedLaws.{accepted_from_valid}
use Rattle.derivation.proofs.HeldLaws.{width_le}
use Rattle.derivation.proofs.RowChecks.{length-environments}
use Rattle.derivation.proofs.TreeLaws.{tree_zero}
use Rattle.machine.specs.declared.tables.Polarity.{Polarity}
use Rattle.machine.specs.declared.tables.Polarity.TheVariants.{Negative, Positive}
use Rattle.machine.specs.declared.tables.TypeFacts.{TypeFacts}
use Rattle.machine.specs.declared.tables.RowFacts.{RowFacts}
use Rattle.machine.specs.Facts.{atom_polarity, facts_at, facts_found, facts_of, is_positive, no_facts, place_polarity, polarity_of}
use Rattle.theory.specs.Ports.{across_own, downward, is_place, next, part_width, upward, width}
use Rattle.machine.proofs.SignLaws.{signs-has}
use Rattle.machine.proofs.StartTables.{length-row-facts, row_fact-at}

-- a row that there is not
pub rule_past : (rows : List Row) (r : ℕ) → length rows ≤ r → Variable ≡ rule_at rows r
rule_past rows r h = ap (λ (row : Row). row.rule) (sym (get_or_past rows r no_row h))

tree_past : (es : List TypeEntry) (rows : List Row) (r : ℕ) → length rows ≤ r → tree_at es rows r ≡ qubit
tree_past es rows r h = ap (λ (row : Row). tree_at es (row ∷ []) 0) (get_or_past rows r no_row h) ∙ tree_zero es

env_past : (rows : List Row) (r : ℕ) → length rows ≤ r → env_at rows r ≡ 0
env_past rows r h = get_or_past (environments rows) r 0 (rw length-environments h)

module _ (es : List TypeEntry) (rows : List Row) (ok : valid es rows ≡ true) where
  pub width_small : (x : ℕ) → width es rows x ≤ 16
  width_small x =
      ⊎_elim (λ (h : x < length rows). width_le es rows (accepted_from_valid es rows ok) x h)
      (λ (h : length rows ≤ x). subst⁻¹ (λ n. n ≤ 16) (ap atoms (tree_past es rows x h)) (omega arith)) (cases_lt x (length rows))

-- what a table of facts has at row r
pub facts_found-at : (es : List TypeEntry) (rows : List Row) (facts : List RowFacts) → facts ≡ map (facts_at es rows) (numbers 0 (length rows)) → (r : ℕ) → cond (ltb r (length facts)) (Some (get_or facts r no_facts)) None ≡ facts_found es rows r
facts_found-at es rows facts known r =
    ap (λ n. cond (ltb r n) (Some (get_or facts r no_facts)) None) (length-row-facts es rows facts known)
    ∙ ⊎_elim (λ (h : r < length rows). rw (lt-ltb r (length rows) h) (ap Some (row_fact-at es rows facts known r no_facts h)))
    (λ (h : length rows ≤ r). rw (le-ltb r (length rows) h) refl) (cases_lt r (length rows))

module _ (es : List TypeEntry) (rows : List Row) (r : ℕ) where
  facts_in : r < length rows → facts_found es rows r ≡ Some (facts_at es rows r)
  facts_in h = ap (λ b. cond b (Some (facts_at es rows r)) None) (lt-ltb r (length rows) h)

  facts_past : length rows ≤ r → facts_found es rows r ≡ None
  facts_past h = ap (λ b. cond b (Some (facts_at es rows r)) None) (le-ltb r (length rows) h)

  -- the type and the environment of a row, by what was found of it
  pub type_found : unwrap_or (option_map (λ (f : RowFacts). f.ty) (facts_found es rows r)) (record { width = 1; signs = 1 }) ≡ facts_of (tree_at es rows r)
  type_found =
      ⊎_elim (λ (h : r < length rows). rw (facts_in h) refl)
      (λ (h : length rows ≤ r). rw (facts_past h) (ap facts_of (sym (tree_past es rows r h)))) (cases_lt r (length rows))

  pub env_found : (z : ℕ) → unwrap_or (option_map (λ (f : RowFacts). has f.env z) (facts_found es rows r)) false ≡ has (env_at rows r) z
  env_found z =
      ⊎_elim (λ (h : r < length rows). rw (facts_in h) refl)
      (λ (h : length rows ≤ r). rw (facts_past h) (sym (ap (λ e. has e z) (env_past rows r h) ∙ has_none z))) (cases_lt r (length rows))

-- a test that found something
found_lt : {A : Type 0} (i n : ℕ) (x y : A) → Some x ≡ cond (ltb i n) (Some y) None → i < n
found_lt i n x y e =
    ⊎_elim (λ (h : i < n). h) (λ (h : n ≤ i). absurd (none-some x (sym (e ∙ ap (λ b. cond b (Some y) None) (le-ltb i n h))))) (cases_lt i n)

atom_polarity-of : (t : Tree) (i : ℕ) → atom_polarity (facts_of t) i ≡ cond (ltb i (atoms t)) (Some (polarity_of (not (positive t i)))) None
atom_polarity-of t i =
    ⊎_elim (λ (h : i < atoms t). rw (lt-ltb i (atoms t) h, signs-has t i h) refl) (λ (h : atoms t ≤ i). rw (le-ltb i (atoms t) h) refl) (cases_lt i (atoms t))

reversed : (b c : Bool) → option_map (λ (f : Polarity). polarity_of (is_positive f)) (cond c (Some (polarity_of (not b))) None) ≡ cond c (Some (polarity_of b)) None
reversed true true = refl
reversed false true = refl
reversed true false = refl
reversed false false = refl

-- the polarity of a place by that of its atom
module _ (es : List TypeEntry) (rows : List Row) (p : Place) where
  pub polarity-in_type : p.part ≡ Ty → (t : TypeFacts) → t ≡ facts_of (tree_at es rows p.row.0) → atom_polarity t p.atom.0 ≡ place_polarity es rows p
  polarity-in_type e t is =
      ap (λ (f : TypeFacts). atom_polarity f p.atom.0) is ∙ atom_polarity-of (tree_at es rows p.row.0) p.atom.0
      ∙ ap (λ (part : Part). place_polarity es rows (record { row = p.row; part = part; atom = p.atom })) (sym e)

  pub polarity-in_variable : (x : RowId) → p.part ≡ Var x → true ≡ has (env_at rows p.row.0) x.0 → (t : TypeFacts) → t ≡ facts_of (tree_at es rows x.0)
      → (f : Polarity) → Some f ≡ atom_polarity t p.atom.0 → Some (polarity_of (is_positive f)) ≡ place_polarity es rows p
  polarity-in_variable x e holds t is f found =
      ap (option_map (λ (g : Polarity). polarity_of (is_positive g))) (found ∙ ap (λ (g : TypeFacts). atom_polarity g p.atom.0) is ∙ atom_polarity-of (tree_at es rows x.0) p.atom.0)
      ∙ reversed (positive (tree_at es rows x.0) p.atom.0) (ltb p.atom.0 (atoms (tree_at es rows x.0)))
      ∙ ap (λ b. cond (ltb p.atom.0 (cond b (atoms (tree_at es rows x.0)) 0)) (Some (polarity_of (positive (tree_at es rows x.0) p.atom.0))) None) holds
      ∙ ap (λ (part : Part). place_polarity es rows (record { row = p.row; part = part; atom = p.atom })) (sym e)

  -- an atom of a place is one of its part's type
  pub atom_small : valid es rows ≡ true → (f : Polarity) → Some f ≡ place_polarity es rows p → p.atom.0 ≤ 16
  atom_small ok f found = omega (arith, part_small p.part, found_lt p.atom.0 (part_width es rows p.row.0 p.part) f (polarity_of (negative es rows p)) found)
    where
      cond_le : (b : Bool) (n : ℕ) → n ≤ 16 → cond b n 0 ≤ 16
      cond_le true n h = h
      cond_le false n h = omega arith

      part_small : (part : Part) → part_width es rows p.row.0 part ≤ 16
      part_small Ty = width_small es rows ok p.row.0
      part_small (Var x) = cond_le (has (env_at rows p.row.0) x.0) (width es rows x.0) (width_small es rows ok x.0)

cond_pos : (b : Bool) (i n : ℕ) → i < cond b n 0 → i < n
cond_pos true i n h = h
cond_pos false i n h = absurd (omega arith)

-- a place's row is there, and its atom is one of its part's type
module _ (es : List TypeEntry) (rows : List Row) (p : Place) (is : is_place es rows p ≡ true) where
  pub place-row : p.row.0 < length rows
  place-row = ltb-true p.row.0 (length rows) (and_parts _ _ is).0

  pub place_atom : p.atom.0 < part_width es rows p.row.0 p.part
  place_atom = ltb-true p.atom.0 _ (and_parts (ltb p.row.0 (length rows)) _ is).1

  pub atom_in_type : p.part ≡ Ty → p.atom.0 < width es rows p.row.0
  atom_in_type e = subst (λ (part : Part). p.atom.0 < part_width es rows p.row.0 part) e place_atom

  pub atom_in_variable : (x : RowId) → p.part ≡ Var x → p.atom.0 < width es rows x.0
  atom_in_variable x e = cond_pos (has (env_at rows p.row.0) x.0) _ _ (subst (λ (part : Part). p.atom.0 < part_width es rows p.row.0 part) e place_atom)

-- a token's next place, by the polarity of its own
module _ (es : List TypeEntry) (rows : List Row) (p q : Place) (same : q ≡ p) (there : true ≡ is_place es rows p) where
  is_next : (b : Bool) (o : Option Place) → b ≡ negative es rows p → o ≡ cond b (upward es rows p) (downward es rows p) → o ≡ cond (is_place es rows p) (next es rows p) None
  unfolding next
  is_next b o n e = e ∙ ap (λ c. cond c (upward es rows p) (downward es rows p)) n ∙ ap (λ c. cond c (next es rows p) None) there

  pub next_up : (rule : Rule) (o : Option Place) → rule ≡ rule_at rows p.row.0 → Negative ≡ polarity_of (negative es rows p) → o ≡ across_own es rows q.row.0 rule q.part q.atom.0 → o ≡ cond (is_place es rows p) (next es rows p) None
  next_up rule o ruled signed e = is_next true o (go (negative es rows p) signed) (e ∙ ap₂ (λ (t : Place) (r : Rule). across_own es rows t.row.0 r t.part t.atom.0) same ruled)
    where
      go : (b : Bool) → Negative ≡ polarity_of b → true ≡ b
      go true h = refl
      go false h = cc

  pub next_down : (o : Option Place) → Positive ≡ polarity_of (negative es rows p) → o ≡ downward es rows q → o ≡ cond (is_place es rows p) (next es rows p) None
  next_down o signed e = is_next false o (go (negative es rows p) signed) (e ∙ ap (downward es rows) same)
    where
      go : (b : Bool) → Positive ≡ polarity_of b → false ≡ b
      go true h = cc
      go false h = refl
