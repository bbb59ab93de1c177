-- A variable is its own environment.
use Rattle.std.proofs.Common.{◌∙◌, [], ap, arith}
use Rattle.basics.specs.Sets.{only}
use Rattle.basics.proofs.SetLaws.{union_none}
use Rattle.derivation.specs.Rows.{step}
use Rattle.derivation.proofs.check.Checked.rule_step.Goals as goal

pub returns-in-Variable : goal.returns-in-Variable
returns-in-Variable c =
    rw c.in-Variable.is (c.step.ensures ∙ ap (λ m. step c.args.self.now.rows.items m [] []) (c.with.ensures.within (omega (arith, c.requires, c.next.ensures)) ∙ union_none (only c.next.result.0) ∙ ap only c.next.ensures))
