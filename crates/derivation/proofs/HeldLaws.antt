-- How many atoms the rows of an accepted derivation hold in their environments, by their rules.
use Rattle.std.proofs.Common.{◌≡◌, ℕ, ◌+◌, ◌<◌, ◌≤◌, true, ◌⊎◌, List, length, get_or, set, sum_by, sym, refl, ap, ◌∙◌, subst, inl, inr, add-one, arith}
use mathlib.Core.Path.{subst⁻¹}
use Rattle.std.proofs.lemmas.List.Edits.{fill_by_more}
use Rattle.std.proofs.lemmas.Bool.{and_parts, ltb-true}
use Rattle.basics.specs.declared.gate.Gate.{Gate as GateName}
use Rattle.derivation.specs.declared.types.TypeEntry.{TypeEntry}
use Rattle.derivation.specs.declared.rows.Row.{Row}
use Rattle.basics.specs.declared.numbers.RowId.{RowId}
use Rattle.derivation.specs.declared.rows.Rule.{Rule}
use Rattle.derivation.specs.declared.rows.Rule.TheVariants.{Variable, Zero, One, Gate, Lambda, PairLambda, Apply, Pair}
use Rattle.derivation.specs.Trees.{atoms}
use Rattle.derivation.specs.Rows.{premises, binders, introduced, all_below, type_at}
use Rattle.derivation.specs.Judgements.{rule_at, tree_at, env_at}
use Rattle.derivation.specs.declared.types.Size.{Size}
use Rattle.derivation.specs.Weights.{size_of, sum_to, weight}
use Rattle.derivation.specs.Places.{places}
use Rattle.derivation.specs.Accepted.{Accepted}
use Rattle.derivation.specs.Held.{held_at}
use Rattle.derivation.proofs.WeightLaws.{weight_none, weight-only, weight-bound, weight-follows}
use Rattle.derivation.proofs.PlaceLaws.{length-places}
use Rattle.derivation.proofs.EnvLaws.{binders_below}

-- one more row's atoms are written
pub held_more : (es : List TypeEntry) (rows : List Row) (held : List ℕ) (r n : ℕ) → r < length held → n ≡ held_at es rows r
    → ((p : ℕ) → p < r → get_or held p 0 ≡ held_at es rows p) → (p : ℕ) → p < r + 1 → get_or (set held r n) p 0 ≡ held_at es rows p
held_more es rows held r n h e before =
    subst⁻¹ (λ (v : ℕ). (p : ℕ) → p < r + 1 → get_or (set held r v) p 0 ≡ held_at es rows p) e (fill_by_more (held_at es rows) held r 0 h before)

-- row r holds what premise p does, less the variable x
pub record Bound (es : List TypeEntry) (rows : List Row) (held : List ℕ) (r : ℕ) (p x : RowId) : Type 0 where
  pub premise : p.0 < r
  pub within : x.0 < length rows
  pub total : held_at es rows r + atoms (tree_at es rows x.0) ≡ get_or held p.0 0

-- less the variables x and y
pub record BothBound (es : List TypeEntry) (rows : List Row) (held : List ℕ) (r : ℕ) (p x y : RowId) : Type 0 where
  pub premise : p.0 < r
  pub within_x : x.0 < length rows
  pub within_y : y.0 < length rows
  pub total : held_at es rows r + atoms (tree_at es rows x.0) + atoms (tree_at es rows y.0) ≡ get_or held p.0 0

-- row r holds what premises p and q do
pub record Joined (es : List TypeEntry) (rows : List Row) (held : List ℕ) (r : ℕ) (p q : RowId) : Type 0 where
  pub left : p.0 < r
  pub right : q.0 < r
  pub total : held_at es rows r ≡ get_or held p.0 0 + get_or held q.0 0

-- the places of the first n rows
unfoldable pub places_to : List TypeEntry → List Row → ℕ → ℕ
places_to es rows n = sum_to (λ r. held_at es rows r + atoms (tree_at es rows r)) n

pub places_none : (es : List TypeEntry) (rows : List Row) → 0 ≡ places_to es rows 0
unfolding places_to
places_none es rows = refl

pub places-more : (es : List TypeEntry) (rows : List Row) (n : ℕ) → places_to es rows (n + 1) ≡ places_to es rows n + (held_at es rows n + atoms (tree_at es rows n))
unfolding places_to
places-more es rows n = ap (places_to es rows) (add-one n)

pub places-all : (es : List TypeEntry) (rows : List Row) (n : ℕ) → n ≡ length rows → places_to es rows n ≡ length (places es rows)
unfolding places_to held_at
places-all es rows n e = ap (places_to es rows) e ∙ sym (length-places es rows)

module _ (es : List TypeEntry) (rows : List Row) (ok : Accepted es rows) where
  -- the atoms of a row's type
  abbrev width : ℕ → ℕ
  width x = atoms (tree_at es rows x)

  pub width_le : (x : ℕ) → x < length rows → width x ≤ 16
  width_le x h = ok.table.small (type_at rows x) (ok.known x h)

  pub held_le : (r : ℕ) → held_at es rows r ≤ 2048
  unfolding held_at
  held_le r = omega (arith, ok.few, weight-bound (env_at rows r) (length rows) 16 width width_le)

  -- a row has at most 128 variables, and at most 16 atoms in each and in its type
  pub row_adds : (r : ℕ) → r < length rows → (n : ℕ) → n ≡ held_at es rows r → (s : Size) → s ≡ size_of (tree_at es rows r)
      → (places_to es rows r + (n + s.atoms) ≡ places_to es rows (r + 1)) × (n + s.atoms ≤ 2064)
  row_adds r h n e s f =
      let atoms-is = ap (λ (z : Size). z.atoms) f in
      (omega (arith, places-more es rows r), omega (arith, held_le r, width_le r h))

  module _ (r : ℕ) (h : r < length rows) where
    -- what a row holds and binds is what it introduces and what its premises hold
    held-rule : (rule : Rule) → rule_at rows r ≡ rule
        → held_at es rows r + sum_by width (binders rule) ≡ weight (introduced r rule) width (length rows) + sum_by (held_at es rows) (premises rule)
    unfolding held_at
    held-rule rule e =
        subst (λ (z : Rule). held_at es rows r + sum_by width (binders z) ≡ weight (introduced r z) width (length rows) + sum_by (held_at es rows) (premises z)) e
        (weight-follows es rows r (ok.follows r h) width (length rows) (binders_below es rows ok.lower r (length rows) h (omega arith) (ok.follows r h)))

    premise-lower : (rule : Rule) → rule_at rows r ≡ rule → (i : ℕ) → i < length (premises rule) → get_or (premises rule) i 0 < r
    premise-lower rule e = subst (λ (z : Rule). (i : ℕ) → i < length (premises z) → get_or (premises z) i 0 < r) e (ok.lower r h)

    bound-lower : (rule : Rule) → rule_at rows r ≡ rule → all_below r (binders rule) ≡ true
    bound-lower rule e = subst (λ (z : Rule). all_below r (binders z) ≡ true) e (binders_below es rows ok.lower r r h (omega arith) (ok.follows r h))

    -- a variable holds its own atoms
    pub held-variable : rule_at rows r ≡ Variable → held_at es rows r ≡ width r
    held-variable e = omega (arith, held-rule Variable e, weight-only r (length rows) width h)

    -- zero, one and gates hold none
    pub held_none : (rule_at rows r ≡ Zero) ⊎ ((rule_at rows r ≡ One) ⊎ ((g : GateName) × (rule_at rows r ≡ Gate g))) → 0 ≡ held_at es rows r
    held_none (inl e) = omega (arith, held-rule Zero e, weight_none width (length rows))
    held_none (inr (inl e)) = omega (arith, held-rule One e, weight_none width (length rows))
    held_none (inr (inr e)) = omega (arith, held-rule (Gate e.0) e.1, weight_none width (length rows))

    -- by the written atoms of the rows before
    module _ (held : List ℕ) (before : (p : ℕ) → p < r → get_or held p 0 ≡ held_at es rows p) where
      pub held-lambda : (p x : RowId) → rule_at rows r ≡ Lambda p x → Bound es rows held r p x
      held-lambda p x e =
          let lower = premise-lower (Lambda p x) e 0 (omega arith) in
          let below = ltb-true x.0 r (and_parts _ _ (bound-lower (Lambda p x) e)).0 in
          record {
            premise = lower;
            within = omega arith;
            total = omega (arith, before p.0 lower, held-rule (Lambda p x) e, weight_none width (length rows));
          }

      pub held-pair-lambda : (p x y : RowId) → rule_at rows r ≡ PairLambda p x y → BothBound es rows held r p x y
      held-pair-lambda p x y e =
          let lower = premise-lower (PairLambda p x y) e 0 (omega arith) in
          let both = and_parts _ _ (bound-lower (PairLambda p x y) e) in
          let below-x = ltb-true x.0 r both.0 in
          let below-y = ltb-true y.0 r (and_parts _ _ both.1).0 in
          record {
            premise = lower;
            within_x = omega arith;
            within_y = omega arith;
            total = omega (arith, before p.0 lower, held-rule (PairLambda p x y) e, weight_none width (length rows));
          }

      joined : (p q : RowId) → p.0 < r → q.0 < r → held_at es rows r ≡ held_at es rows p.0 + held_at es rows q.0 → Joined es rows held r p q
      joined p q l m e = record { left = l; right = m; total = omega (arith, before p.0 l, before q.0 m) }

      pub held_both : (p q : RowId) → (rule_at rows r ≡ Apply p q) ⊎ (rule_at rows r ≡ Pair p q) → Joined es rows held r p q
      held_both p q (inl e) =
          joined p q (premise-lower (Apply p q) e 0 (omega arith)) (premise-lower (Apply p q) e 1 (omega arith))
          (omega (arith, held-rule (Apply p q) e, weight_none width (length rows)))
      held_both p q (inr e) =
          joined p q (premise-lower (Pair p q) e 0 (omega arith)) (premise-lower (Pair p q) e 1 (omega arith))
          (omega (arith, held-rule (Pair p q) e, weight_none width (length rows)))
