use Rattle.std.proofs.Common.{refl}
use Rattle.layers.specs.LayersLaws.{layers_each, greatest_bounds, bell_layers}
use Rattle.layers.proofs.laws.laws_stand.Goals as goal

pub returns : goal.returns
returns c = (refl, record { layers_each = layers_each; greatest_bounds = greatest_bounds; bell_layers = bell_layers })
