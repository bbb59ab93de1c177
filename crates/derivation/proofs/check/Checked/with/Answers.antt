-- A row whose rule does not stand is refused, and the others stay as they were.
use Rattle.std.proofs.Common.{length-append, ◌++◌, ◌∷◌, [], ℕ, List, length, vec_items, sym, refl, ap, ap₂, inl, ◌∙◌, arith}
use Rattle.std.proofs.lemmas.Result.{err_from_is_err_and}
use Rattle.derivation.specs.declared.rows.Row.{Row}
use Rattle.derivation.specs.Rows.{environments, taken}
use Rattle.derivation.proofs.RowChecks.{row-fault, env-step, environments-push, taken-push}
use Rattle.derivation.proofs.check.Checked.with.Goals as goal

pub returns-in_err-taken : goal.returns-in_err-taken
returns-in_err-taken c =
    let p = err_from_is_err_and c.from_residual-in_err-taken.result c.from_residual-in_err-taken.ensures.1 in
    let fault = row-fault c.args.types.now (vec_items c.args.self.rows) c.args.read c.in_ok-rule.rule c.if-read-types.false c.in_ok-rule.ensures.ok_part in
    rw (p.1, p.2) (inl (rw (fault, ← c.in_err-taken.ensures) refl))

pub invariant_of-result : goal.invariant_of-result
invariant_of-result c =
    let rows = vec_items c.args.self.rows in
    let row : Row = record { ty = c.args.read.ty; rule = c.in_ok-rule.rule } in
    let pushed = c.in_ok-push.ensures.items in
    let s = env-step rows row c.in_ok-taken.field-0 c.in_ok-taken.ensures in
    record {
      few = omega (arith, ap length pushed, length-append {A = Row});
      surrounded = c.in_ok-push-2.ensures.items ∙ ap₂ (λ (l : List ℕ) (e : ℕ). l ++ e ∷ []) c.args.self.surrounded s.1 ∙ sym (ap environments pushed ∙ environments-push rows row);
      used = s.0 ∙ sym (ap taken pushed ∙ taken-push rows row);
    }
