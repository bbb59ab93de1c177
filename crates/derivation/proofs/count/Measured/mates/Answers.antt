use Rattle.std.proofs.Common.{rules}
use Rattle.derivation.proofs.CountLaws.{mates-sum}
use Rattle.derivation.proofs.count.Measured.mates.Goals as goal

pub returns : goal.returns
returns c = rw (mates-sum c.args.self.now.rows.now) (search rules)
