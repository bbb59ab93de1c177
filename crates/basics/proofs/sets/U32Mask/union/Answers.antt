use Rattle.std.proofs.Common.{refl}
use Rattle.basics.specs.Sets.{union}
use Rattle.basics.proofs.sets.U32Mask.union.Goals as goal

pub returns : goal.returns
unfolding union
returns c = refl
