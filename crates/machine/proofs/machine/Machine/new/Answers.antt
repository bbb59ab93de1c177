-- The machine has the holder's derivation, and its tables are those of that derivation.
use Rattle.std.proofs.Common.{◌≡◌, ◌-◌, ◌<◌, false, List, map, length, vec_items, sym, ap, ◌∙◌, ap₂, subst₂, arith}
use Rattle.derivation.specs.declared.types.TypeEntry.{TypeEntry}
use Rattle.derivation.specs.declared.rows.Row.{Row}
use Rattle.derivation.specs.Accepted.{Accepted, valid}
use Rattle.derivation.specs.Places.{numbers}
use Rattle.derivation.specs.Rows.{environments}
use Rattle.derivation.proofs.AcceptedLaws.{accepted_from_valid}
use Rattle.machine.specs.declared.tables.RowFacts.{RowFacts}
use Rattle.machine.specs.Facts.{facts_at, signed_at, starts_by}
use Rattle.machine.proofs.StartTables.{length-row-facts, starts_are, ends_are}
use Rattle.theory.proofs.Assembled.{theory}
use Rattle.machine.proofs.machine.Machine.new.Goals as goal
use Rattle.machine.proofs.machine.Machine.new.Goals.{After-environments}

types_are : (c : After-environments) → c.as_slice.result.now ≡ vec_items c.args.holder.now.types
types_are c = c.as_slice.ensures.value ∙ c.in_ok-types.ensures.items ∙ c.types.ensures

rows_are : (c : After-environments) → c.as_slice-2.result.now ≡ vec_items c.args.holder.now.rows
rows_are c = c.as_slice-2.ensures.value ∙ c.in_ok-rows.ensures.items ∙ c.rows.ensures

accepts : (c : After-environments) → Accepted c.as_slice.result.now c.as_slice-2.result.now
accepts c =
    subst₂ (λ (es : List TypeEntry) (rows : List Row). Accepted es rows) (sym (types_are c)) (sym (rows_are c))
    (accepted_from_valid (vec_items c.args.holder.now.types) (vec_items c.args.holder.now.rows) c.args.holder.now.accepted)

pub row_facts-requires : goal.row_facts-requires
row_facts-requires c = record { accepted = accepts c; surrounded = c.environments.ensures ∙ ap environments (sym (rows_are c)) }

-- as many facts as rows, and these neither none nor too many
pub invariant_of-known : goal.invariant_of-known
invariant_of-known c =
    let ok = accepts (goal.at.invariant_of-known c).After-environments in
    let n = length-row-facts c.as_slice.result.now c.as_slice-2.result.now (vec_items c.in_ok-facts.facts) c.in_ok-facts.ensures in
    record { alike = omega (arith, c.as_slice-2.ensures, c.as_slice-3.ensures, c.as_slice-4.ensures); some = omega (arith, ok.some); few = omega (arith, ok.few) }

pub invariant_of-result : goal.invariant_of-result
invariant_of-result c =
    let e = (goal.at.invariant_of-result c).After-environments in
    let es = vec_items c.in_ok-types.types in
    let rows = vec_items c.in_ok-rows.rows in
    let facts = vec_items c.in_ok-facts.facts in
    let held_types = c.in_ok-types.ensures.items ∙ c.types.ensures in
    let held_rows = c.in_ok-rows.ensures.items ∙ c.rows.ensures in
    let known : facts ≡ map (facts_at es rows) (numbers 0 (length rows)) =
    c.in_ok-facts.ensures
    ∙ ap₂ (λ (l : List TypeEntry) (r : List Row). map (facts_at l r) (numbers 0 (length r))) c.as_slice.ensures.value c.as_slice-2.ensures.value in
    let some : 0 < length rows = omega (arith, (accepts e).some, ap length c.as_slice-2.ensures.value) in
    record {
      accepted = ap₂ valid held_types held_rows ∙ c.args.holder.now.accepted;
      known = known;
      begun = c.in_ok-starts.ensures ∙ ap₂ starts_by c.as_slice-4.ensures.value c.as_slice-3.ensures.value ∙ starts_are es rows facts known some;
      ended = c.in_ok-ends.ensures ∙ ap (λ (l : List RowFacts). signed_at l false (length l - 1)) c.as_slice-4.ensures.value ∙ ends_are es rows facts known some;
    }

pub returns : goal.returns
returns c =
    let held_types = c.in_ok-types.ensures.items ∙ c.types.ensures in
    let held_rows = c.in_ok-rows.ensures.items ∙ c.rows.ensures in
    record {
      copied = (held_types, held_rows);
      theory = theory (vec_items c.in_ok-types.types) (vec_items c.in_ok-rows.rows)
          (accepted_from_valid _ _ (ap₂ valid held_types held_rows ∙ c.args.holder.now.accepted));
    }
