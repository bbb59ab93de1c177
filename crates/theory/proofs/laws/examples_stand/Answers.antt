use Rattle.std.proofs.Common.{refl}
use Rattle.theory.proofs.Worked.{examples}
use Rattle.theory.proofs.laws.examples_stand.Goals as goal

pub returns : goal.returns
returns c = (refl, examples)
