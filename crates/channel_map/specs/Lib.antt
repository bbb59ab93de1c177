pub mod Channels
pub mod Laws
pub mod ChannelMapLaws
pub mod ChannelLaws
