use Rattle.std.proofs.Common.{◌≡◌, drop}
use Rattle.basics.specs.Sets.{union}
use Rattle.channel_map.specs.Channels.{channels_from, channels_of}
use Rattle.channel_map.proofs.channels.Channels.channel_set.Given as goal

-- the channels so far, with those of the wires to come, are all
abbrev pub invariant-loop-w : goal.invariant-loop-w
invariant-loop-w l = union l.channels (channels_from l.w (drop l.w l.self.table) l.wires) ≡ channels_of l.self.table l.wires
