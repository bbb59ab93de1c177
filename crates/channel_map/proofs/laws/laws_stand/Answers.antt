use Rattle.std.proofs.Common.{refl}
use Rattle.channel_map.specs.ChannelLaws.{channel_apart, has_channels, has-wires, greatest_width}
use Rattle.channel_map.proofs.laws.laws_stand.Goals as goal

pub returns : goal.returns
returns c = (refl, record { own_channels = channel_apart; renames_down = has_channels; renames_up = has-wires; greatest_width = greatest_width })
