-- A gate that is refused has the fault that it is refused for.
use Rattle.std.proofs.Common.{rules}
use Rattle.target.specs.Interface.{numbers_of}
use Rattle.target.proofs.FaultLaws.{fault_of}
use Rattle.register.specs.Register.{takes_all_but_h}
use Rattle.register.proofs.RegisterTarget.apply.Goals as goal

pub returns-in_err-usage-clause-obeys : goal.returns-in_err-usage-clause-obeys
returns-in_err-usage-clause-obeys c =
    let h = fault_of (takes_all_but_h c.args.gate) 65535 c.args.self.now.usage c.args.gate (numbers_of c.args.wires.now) c.in_err-usage.field-0.0 (rw c.takes.ensures at c.in_err-usage.ensures.answer) in
    search rules
