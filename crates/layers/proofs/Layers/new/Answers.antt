use Rattle.std.proofs.Common.{arith}
use Rattle.layers.specs.LayersLaws.{zeros_shallow}
use Rattle.layers.proofs.Layers.new.Goals as goal

pub invariant_of-result : goal.invariant_of-result
invariant_of-result c = record { few = omega arith; shallow = zeros_shallow 32 0 }
