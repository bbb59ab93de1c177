use Rattle.std.proofs.Common.{refl}
use Rattle.worked.proofs.Walks.{programs}
use Rattle.worked.proofs.programs_stand.Goals as goal

pub returns : goal.returns
returns c = (refl, programs)
