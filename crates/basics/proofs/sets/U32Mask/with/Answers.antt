use Rattle.std.proofs.Common.{ap}
use lib.Bits.{bit_or}
use Rattle.std.proofs.lemmas.Nat.{one_shl}
use Rattle.basics.specs.Sets.{only, union}
use Rattle.basics.proofs.sets.U32Mask.with.Goals as goal

pub returns-then-x-lt32-clause-within : goal.returns-then-x-lt32-clause-within
unfolding only union
returns-then-x-lt32-clause-within c below = ap (bit_or c.args.self) (one_shl c.args.x 32 c.if-x-lt32.true)
