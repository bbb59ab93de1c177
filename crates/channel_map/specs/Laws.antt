-- What channels come to, wire by wire.
use Rattle.channel_map.specs.Channels.{OwnChannels, RenamesDown, RenamesUp, GreatestWidth}

pub record Laws : Type 0 where
  pub own_channels : OwnChannels
  pub renames_down : RenamesDown
  pub renames_up : RenamesUp
  pub greatest_width : GreatestWidth
