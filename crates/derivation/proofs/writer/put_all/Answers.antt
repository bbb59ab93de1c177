-- The loop over the items: each record goes behind those before it.
use Rattle.std.proofs.Common.{take, arith}
use Rattle.std.specs.List.{flat_map}
use Rattle.derivation.proofs.WriterLaws.{behind-room, joined_room, stands-more}
use Rattle.derivation.proofs.writer.put_all.Goals as goal

pub put-at-requires : goal.put-at-requires
put-at-requires g c =
    let f = g.T.ToBytes.bytes_of in
    let items = c.args.items.now in
    behind-room c.args.buffer.now (flat_map f (take c.loop-item.item-index items)) (f c.item-item.result) c.loop-item.buffer c.loop-item.at
    c.loop-item.invariant.1 c.loop-item.invariant.0
    (omega (arith, joined_room f items c.loop-item.item-index c.item-item.result c.loop-item-test.true c.item-item.is))

pub loop-item-preserved : goal.loop-item-preserved
loop-item-preserved g c =
    stands-more g.T.ToBytes.bytes_of c.args.items.now c.loop-item.item-index c.item-item.result c.loop-item-test.true c.item-item.is
    c.args.buffer.now c.loop-item.buffer c.put-at.new.buffer c.loop-item.at c.put-at.result
    c.loop-item.invariant c.put-at.ensures.len c.put-at.ensures.after
