pub mod Laws
pub mod Layers
pub mod LayersLaws
