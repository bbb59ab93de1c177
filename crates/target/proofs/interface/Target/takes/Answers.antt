-- The bit of the code is read, and the law of the kind says what it means.
use Rattle.std.proofs.Common.{◌∙◌, ap₂}
use Rattle.basics.specs.Sets.{has}
use Rattle.target.proofs.interface.Target.takes.Goals as goal

pub returns : goal.returns
returns g c = c.has.ensures ∙ ap₂ has (c.from.ensures ∙ c.CODES.ensures) c.code.ensures ∙ g.met.Self.Target.coded c.args.gate
