use Rattle.std.proofs.Common.{sym, ap}
use lib.Bits.{bit_and, bit_xor}
use Rattle.std.proofs.lemmas.Nat.{one_shl}
use Rattle.basics.specs.Sets.{without}
use Rattle.basics.proofs.SetLaws.{without_past}
use Rattle.basics.proofs.sets.U32Mask.without.Goals as goal

pub returns-then-x-lt32 : goal.returns-then-x-lt32
unfolding without
returns-then-x-lt32 c = ap (λ n. bit_xor c.args.self (bit_and c.args.self n)) (one_shl c.args.x 32 c.if-x-lt32.true)

pub returns-else-x-lt32 : goal.returns-else-x-lt32
returns-else-x-lt32 c = sym (without_past 32 c.args.self c.args.x c.ranges.self.fits c.if-x-lt32.false)
