-- What the target beneath answers of the channels is the answer of the wires.
use Rattle.target.specs.Interface.{numbers_of}
use Rattle.channel_map.specs.ChannelLaws.{table_of}
use Rattle.channel_map.specs.ChannelMapLaws.{apply-by, misused}
use Rattle.channel_map.proofs.ChannelMapTarget.apply.Goals as goal

pub returns-in-Some-clause-obeys : goal.returns-in-Some-clause-obeys
returns-in-Some-clause-obeys g c =
    let m = c.args.self.now in
    let e = c.in-Some.ensures in
    apply-by (table_of m.channels) g.T.Target.taken g.T.Target.applied c.args.gate (numbers_of c.args.wires.now) _ (g.T.Target.view m.beneath) (g.T.Target.view c.apply.new.self) c.apply.result e.0
    e.2 c.apply.ensures.obeys

pub returns-then-takes-clause-obeys : goal.returns-then-takes-clause-obeys
returns-then-takes-clause-obeys g c =
    let m = c.args.self.now in
    misused (table_of m.channels) g.T.Target.taken (g.T.Target.view m.beneath) c.args.gate (numbers_of c.args.wires.now) c.if-takes.ensures c.in-None.ensures
