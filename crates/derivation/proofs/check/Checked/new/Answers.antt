use Rattle.std.proofs.Common.{sym, ap, ◌∙◌}
use Rattle.derivation.specs.Rows.{environments, taken}
use Rattle.derivation.proofs.RowChecks.{environments_none, taken_none}
use Rattle.derivation.proofs.check.Checked.new.Goals as goal

pub invariant_of-result-clause-surrounded : goal.invariant_of-result-clause-surrounded
invariant_of-result-clause-surrounded c = c.new-2.ensures.items ∙ sym (ap environments c.new.ensures.items ∙ environments_none)

pub invariant_of-result-clause-used : goal.invariant_of-result-clause-used
invariant_of-result-clause-used c = sym (ap taken c.new.ensures.items ∙ taken_none)
