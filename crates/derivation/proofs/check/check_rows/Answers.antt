-- The loop over the records: each adds a row, and the first fault ends it.
use Rattle.std.proofs.Common.{◌+◌, ◌∷◌, [], ◌++◌, map, get_or, drop, vec_items, sym, ap, ◌∙◌, inl, inr, ⊎_elim}
use Rattle.std.proofs.lemmas.List.{map_more, take_all}
use Rattle.std.proofs.lemmas.Result.{err_from_is_err_and}
use Rattle.derivation.specs.Faults.{first_fault}
use Rattle.derivation.specs.Rows.{row_fault, row_of}
use Rattle.derivation.proofs.FaultLaws.{first-at, first-after, first-end}
use Rattle.derivation.proofs.RowChecks.{no_record}
use Rattle.derivation.proofs.check.check_rows.Goals as goal

pub returns-in_err-checked : goal.returns-in_err-checked
returns-in_err-checked c =
    let p = err_from_is_err_and c.from_residual.result c.from_residual.ensures.1 in
    let l = c.loop-read in
    rw (p.1, p.2)
    (⊎_elim
    (λ e. inl (l.invariant.1 ∙ first-at (row_fault c.args.types.now) row_of c.args.records.now l.read-index no_record (vec_items l.checked.rows) c.in_err-checked.field-0.0 c.loop-read-test.true e))
    (λ m. inr m) c.in_err-checked.ensures)

pub loop-read-preserved : goal.loop-read-preserved
loop-read-preserved c =
    let records = c.args.records.now in
    let l = c.loop-read in
    let (none, more) = c.in_ok-checked.ensures in (
      more ∙ ap (λ rows. rows ++ row_of (get_or records l.read-index no_record) ∷ []) l.invariant.0 ∙ sym (map_more row_of records l.read-index no_record c.loop-read-test.true),
      l.invariant.1 ∙ first-after (row_fault c.args.types.now) row_of records l.read-index no_record (vec_items l.checked.rows) c.loop-read-test.true none
          ∙ ap (λ rows. first_fault (row_fault c.args.types.now) row_of rows (drop (l.read-index + 1) records)) (sym more),
    )

pub returns : goal.returns
returns c =
    let l = c.loop-read in (
      l.invariant.1 ∙ first-end (row_fault c.args.types.now) row_of c.args.records.now l.read-index (vec_items l.checked.rows) c.loop-read-test.false,
      l.invariant.0 ∙ ap (map row_of) (take_all l.read-index c.args.records.now c.loop-read-test.false),
    )
