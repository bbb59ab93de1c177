use Rattle.std.proofs.Common.{sym, ◌∙◌}
use Rattle.std.proofs.lemmas.Bool.{le-ltb}
use Rattle.basics.proofs.SetLaws.{has_bit, has_past}
use Rattle.basics.proofs.sets.U32Mask.has.Goals as goal

pub returns-then-x-lt32 : goal.returns-then-x-lt32
returns-then-x-lt32 c = has_bit _ c.args.x

pub returns-else-x-lt32 : goal.returns-else-x-lt32
returns-else-x-lt32 c = le-ltb c.args.x 32 c.if-x-lt32.false ∙ sym (has_past 32 c.args.self c.args.x c.ranges.self.fits c.if-x-lt32.false)
