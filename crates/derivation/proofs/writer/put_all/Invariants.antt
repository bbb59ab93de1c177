use Rattle.std.proofs.Common.{◌≡◌, length, take}
use Rattle.std.specs.List.{flat_map}
use Rattle.derivation.specs.Written.{put_front}
use Rattle.derivation.proofs.writer.put_all.Given as goal

-- the records of the items so far stand at the front of the buffer
abbrev pub invariant-loop-item : goal.invariant-loop-item
invariant-loop-item g l =
    (l.at ≡ length (flat_map g.T.ToBytes.bytes_of (take l.item-index l.items)))
    × (l.buffer ≡ put_front l.initial.buffer (flat_map g.T.ToBytes.bytes_of (take l.item-index l.items)))
