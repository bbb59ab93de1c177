use Rattle.std.proofs.Common.{refl}
use Rattle.theory.proofs.Assembled.{acts_alike}
use Rattle.theory.proofs.laws.actions_agree.Goals as goal

pub returns : goal.returns
returns g c = (refl, acts_alike _)
