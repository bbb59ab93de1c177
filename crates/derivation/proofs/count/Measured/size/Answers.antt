-- The sizes go by type number.
use Rattle.std.proofs.Common.{arith}
use Rattle.derivation.proofs.TypeChecks.{length_sizes, size-at}
use Rattle.derivation.proofs.count.Measured.size.Goals as goal

pub bounds-self-t : goal.bounds-self-t
bounds-self-t c = let m = c.args.self.now in omega (arith, length_sizes m.types.now m.sizes.now m.sized, c.requires)

pub returns : goal.returns
returns c = let m = c.args.self.now in size-at m.types.now m.sizes.now m.sized c.args.t.0 _ (omega (arith, c.requires))
