-- What an opening that is not refused says: the target has room for all gates of the derivation, and takes each.
use Rattle.std.proofs.Common.{◌≡◌, ℕ, zero, suc, ◌<◌, ◌≤◌, Bool, true, false, cond, ltb, List, [], ◌∷◌, length, Some, None, Option, sym, refl, ap, ◌∙◌, arith}
use Rattle.std.specs.Option.{option_map}
use Rattle.std.proofs.lemmas.Bool.{ltb-false}
use Rattle.basics.specs.declared.gate.Gate.{Gate as GateName}
use Rattle.basics.specs.declared.refusal.Refusal.TheVariants.{TooSmall, GateNotTaken}
use Rattle.derivation.specs.declared.types.TypeEntry.{TypeEntry}
use Rattle.derivation.specs.declared.rows.Rule.TheVariants.{Gate}
use Rattle.derivation.specs.declared.rows.Row.{Row}
use Rattle.derivation.specs.Judgements.{rule_at}
use Rattle.derivation.specs.Places.{wires, gate_rows}
use Rattle.derivation.proofs.FaultLaws.{cond_none}
use Rattle.theory.proofs.Basics.{none_some}
use Rattle.target.specs.Interface.{View}
use Rattle.run.specs.Opening.{walkable, not_taken, open_fault, unfit}

-- where a refusal that is looked for is none, none was found
first_none : {A B : Type 0} (o : Option A) (x : A → B) (p : Option B) → ◌≡◌ {A = Option B} (elim o [ Some r ↦ Some (x r) | None ↦ p ]) None → o ≡ None
first_none (Some r) x p e = absurd (none_some (sym e))
first_none None x p e = refl

mapped_none : {A B : Type 0} (o : Option A) (f : A → B) → option_map f o ≡ None → o ≡ None
mapped_none (Some r) f e = absurd (none_some (sym e))
mapped_none None f e = refl

-- and of one behind a test that should pass
passed_none : {A : Type 0} (b : Bool) (x : A) (o : Option A) → cond b o (Some x) ≡ None → (b ≡ true) × (o ≡ None)
passed_none true x o e = (refl, e)
passed_none false x o e = absurd (none_some (sym e))

-- if no row's gate is found that is not taken, each is taken
walked : (takes : GateName → Bool) (k : ℕ) (rows : List Row) → not_taken takes k rows ≡ None → (r : ℕ) → r < length rows → walkable takes (rule_at rows r) ≡ true
walked takes k [] e r h = absurd (omega arith)
walked takes k (row ∷ rows) e zero h = (passed_none (walkable takes row.rule) k _ e).0
walked takes k (row ∷ rows) e (suc r) h = walked takes (suc k) rows (passed_none (walkable takes row.rule) k _ e).1 r (omega arith)

module _ {S : Type 0} (takes : GateName → Bool) (begun : ℕ → ℕ → ℕ → S → S) (es : List TypeEntry) (rows : List Row) (v : View S)
    (fine : open_fault es rows takes v ≡ None) where
  -- the target can take the run
  pub can_take : unfit es rows takes v ≡ None
  can_take = first_none (unfit es rows takes v) (λ e. e) _ fine

  -- what is left once the width is enough
  narrow_none : cond (ltb v.capacity (gate_rows rows)) (Some (TooSmall (gate_rows rows))) (option_map (λ r. GateNotTaken (record { 0 = r })) (not_taken takes 0 rows)) ≡ None
  narrow_none = (cond_none (ltb v.width (wires es rows)) _ _ can_take).1

  -- the target has room for a gate of each gate row
  pub roomy : gate_rows rows ≤ v.capacity
  roomy = ltb-false v.capacity (gate_rows rows) (cond_none (ltb v.capacity (gate_rows rows)) _ _ narrow_none).0

  -- the target takes the gate of each gate row
  pub taken : (r : ℕ) (g : GateName) → r < length rows → rule_at rows r ≡ Gate g → takes g ≡ true
  taken r g h e =
      let all = mapped_none (not_taken takes 0 rows) _ (cond_none (ltb v.capacity (gate_rows rows)) _ _ narrow_none).1 in
      ap (walkable takes) (sym e) ∙ walked takes 0 rows all r h
