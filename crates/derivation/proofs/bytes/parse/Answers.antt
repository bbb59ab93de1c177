-- Each step of the reader is that of the definition.
use Rattle.std.proofs.Common.{◌≡◌, Ok, vec_items, inl, inr, ⊎_elim, rules, ◌∙◌}
use Rattle.std.proofs.lemmas.Result.{err_from_is_err_and}
use Rattle.derivation.specs.Format.{parse as parsed}
use Rattle.derivation.proofs.FormatLaws.{parse-counts}
use Rattle.derivation.proofs.ParseSteps.{parse-header, parse-types, parse-rows, parse-trailing, parse-done}
use Rattle.derivation.proofs.bytes.parse.Goals as goal
use Rattle.derivation.proofs.bytes.parse.Goals.{Else-not-is_empty}

pub returns-in_err-type_count : goal.returns-in_err-type_count
returns-in_err-type_count c =
    let p = err_from_is_err_and c.from_residual.result c.from_residual.ensures.1 in
    rw (p.1, p.2) (inl (parse-header c.args.bytes.now c.in_err-type_count.ensures))

pub returns-in_err-types : goal.returns-in_err-types
returns-in_err-types c =
    let p = err_from_is_err_and c.from_residual-in_err-types.result c.from_residual-in_err-types.ensures.1 in
    rw (p.1, p.2) (⊎_elim (λ e. inl (parse-types c.args.bytes.now c.in_ok-type_count.ensures e)) inr c.in_err-types.ensures.read)

pub returns-in_err-records : goal.returns-in_err-records
returns-in_err-records c =
    let p = err_from_is_err_and c.from_residual-in_err-records.result c.from_residual-in_err-records.ensures.1 in
    let rows = rw c.in_ok-types.ensures.same at c.in_err-records.ensures.read in
    rw (p.1, p.2) (⊎_elim (λ e. inl (parse-rows c.args.bytes.now c.in_ok-type_count.ensures c.in_ok-types.ensures.read e)) inr rows)

pub returns-then-not-is_empty : goal.returns-then-not-is_empty
returns-then-not-is_empty c =
    let rows = rw c.in_ok-types.ensures.same at c.in_ok-records.ensures.read in
    let total = c.in_ok-records.ensures.same ∙ c.in_ok-types.ensures.same in
    let at = rw total at c.at.ensures in
    rw at (inl (parse-trailing c.args.bytes.now c.in_ok-type_count.ensures c.in_ok-types.ensures.read rows (search rules)))

-- what was read is what the definition gives
done : (c : Else-not-is_empty) → parsed c.args.bytes.now ≡ Ok (record { types = vec_items c.in_ok-types.types; records = vec_items c.in_ok-records.records })
done c =
    let rows = rw c.in_ok-types.ensures.same at c.in_ok-records.ensures.read in
    parse-done c.args.bytes.now c.in_ok-type_count.ensures c.in_ok-types.ensures.read rows (search rules)

pub invariant_of-result : goal.invariant_of-result
invariant_of-result c =
    let n = parse-counts c.args.bytes.now _ (done c) in
    record { few_types = n.0; some_rows = n.1; few_rows = n.2 }

pub returns : goal.returns
returns c = done (goal.at.returns c).Else-not-is_empty
