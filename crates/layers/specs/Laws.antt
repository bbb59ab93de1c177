-- What layers come to, wire by wire, and a worked example.
use Rattle.std.specs.Prelude.{◌≡◌, ℕ, List, [], ◌∷◌, slice_index}
use Rattle.basics.specs.declared.gate.Gate.TheVariants.{H, Cx}
use Rattle.layers.specs.Layers.{LayersEach, GreatestBounds, fresh, layered}

-- Bell's gates, h on wire 0 and cx on 0 and 1, have layers 2 and 2
abbrev pub BellLayers : Type 0
BellLayers =
    (s : List ℕ) →
    let after = layered Cx (0 ∷ 1 ∷ []) (layered H (0 ∷ []) (fresh 3 0 0 s)) in
    (slice_index after 0 ≡ 2) × (slice_index after 1 ≡ 2)

pub record Laws : Type 0 where
  pub layers_each : LayersEach
  pub greatest_bounds : GreatestBounds
  pub bell_layers : BellLayers
