use Rattle.std.proofs.Common.{◌-◌, length, sym, ap, ◌∙◌}
use Rattle.std.specs.Option.{option_map}
use Rattle.basics.specs.declared.refusal.Refusal.TheVariants.{UnusedRow}
use Rattle.derivation.specs.Rows.{taken}
use Rattle.derivation.proofs.RowChecks.{missing-found}
use Rattle.derivation.proofs.check.Checked.all_used.Goals as goal

pub returns-in-Some : goal.returns-in-Some
returns-in-Some c =
    let rows = c.args.self.now.rows.items in
    sym (missing-found (taken rows) 0 (length rows - 1) ∙ ap (option_map (λ q. UnusedRow (record { 0 = q }))) (sym c.in-Some.ensures))

pub returns-in-None : goal.returns-in-None
returns-in-None c =
    let rows = c.args.self.now.rows.items in
    sym (missing-found (taken rows) 0 (length rows - 1) ∙ ap (option_map (λ q. UnusedRow (record { 0 = q }))) (sym c.in-None.ensures))
