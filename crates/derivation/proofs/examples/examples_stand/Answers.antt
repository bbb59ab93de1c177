use Rattle.std.proofs.Common.{refl}
use Rattle.derivation.proofs.Worked.{examples}
use Rattle.derivation.proofs.examples.examples_stand.Goals as goal

pub returns : goal.returns
returns c = (refl, examples)
