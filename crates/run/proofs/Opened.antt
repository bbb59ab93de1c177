-- What open makes of a target and of a run that has just been made, and when it is not refused.
use Rattle.std.proofs.Common.{◌≡◌, ℕ, ◌≤◌, Bool, true, List, map, length, replicate, Some, None, Option, sym, ap, ◌∙◌, arith}
use lib.Lanes.{mask_l}
use lib.ListN.{length-replicate}
use Rattle.std.proofs.lemmas.List.{length-append}
use Rattle.basics.specs.declared.gate.Gate.{Gate}
use Rattle.derivation.specs.declared.types.TypeEntry.{TypeEntry}
use Rattle.derivation.specs.declared.rows.Row.{Row}
use Rattle.derivation.specs.declared.rows.Start.{Start}
use Rattle.derivation.specs.declared.rows.Start.TheVariants.{Given}
use Rattle.derivation.specs.Accepted.{valid}
use Rattle.derivation.specs.Places.{given, wires}
use Rattle.derivation.specs.Starts.{bit_starts, starts as how_started}
use Rattle.derivation.proofs.AcceptedLaws.{accepted_from_valid}
use Rattle.derivation.proofs.StartLaws.{length-bit-starts}
use Rattle.target.specs.Interface.{View, begin_fault}
use Rattle.run.specs.Opening.{first_wires, given_set, is_given, is_one, ones_set, open_fault, unfit, used_set}

-- no fault, and then none either
both_none : {A : Type 0} (o p : Option A) → o ≡ None → p ≡ None → ◌≡◌ {A = Option A} (elim o [ Some e ↦ Some e | None ↦ p ]) None
both_none (Some e) p first second = first
both_none None p first second = second

module _ (es : List TypeEntry) (rows : List Row) where
  -- a valid derivation has at most 32 wires
  pub few-wires : valid es rows ≡ true → (n : ℕ) → n ≡ wires es rows → n ≤ 32
  few-wires v n e = omega (arith, (accepted_from_valid es rows v).wired)

  -- the set of all wires
  pub used-known : (used n : ℕ) → used ≡ first_wires n → n ≡ wires es rows → used ≡ used_set es rows
  used-known used n e of-wires = e ∙ ap first_wires of-wires

  -- how they start, as code lists it
  module _ (list slice : List Start) (of-slice : slice ≡ list) (of-list : list ≡ how_started es rows) where
    pub few-starts : valid es rows ≡ true → length slice ≤ 32
    few-starts v =
        let long = ap (λ (l : List Start). length l) (of-slice ∙ of-list) in
        omega (arith, (accepted_from_valid es rows v).wired, length-append (replicate (length (given es rows)) Given) (bit_starts rows), length-replicate (length (given es rows)) Given, length-bit-starts rows)

    -- the sets of the given wires and of those that start as ones
    pub sets-known : (sets : ℕ × ℕ) → sets ≡ (mask_l (map is_given slice), mask_l (map is_one slice)) → (sets.0 ≡ given_set es rows) × (sets.1 ≡ ones_set es rows)
    sets-known sets e =
        let listed = of-slice ∙ of-list in (
          ap (λ (p : ℕ × ℕ). p.0) e ∙ ap (λ (l : List Start). mask_l (map is_given l)) listed,
          ap (λ (p : ℕ × ℕ). p.1) e ∙ ap (λ (l : List Start). mask_l (map is_one l)) listed,
        )

-- a target that is asked for its width and its capacity, and then begins with the sets of a derivation
module _ {S D : Type 0} (view : D → View S) (takes : Gate → Bool) (begun : ℕ → ℕ → ℕ → S → S) (es : List TypeEntry) (rows : List Row) (before asked : D)
    (same : asked ≡ before) (used gs os : ℕ) (of-used : used ≡ used_set es rows) (of-given : gs ≡ given_set es rows) (of_ones : os ≡ ones_set es rows) where
  -- begin does not refuse
  begins : begin_fault (view asked) used gs os ≡ None → begin_fault (view before) (used_set es rows) (given_set es rows) (ones_set es rows) ≡ None
  begins e = (λ i. begin_fault (view (sym same i)) (sym of-used i) (sym of-given i) (sym of_ones i)) ∙ e

  -- so open does not, if the target can take the run
  pub not_refused : None ≡ unfit es rows takes (view before) → begin_fault (view asked) used gs os ≡ None → open_fault es rows takes (view before) ≡ None
  not_refused fits e = both_none (unfit es rows takes (view before)) _ (sym fits) (begins e)
