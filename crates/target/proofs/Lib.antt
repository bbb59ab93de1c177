pub mod CodeLaws
pub mod FaultLaws
pub mod MaskLaws
pub mod WireLaws
