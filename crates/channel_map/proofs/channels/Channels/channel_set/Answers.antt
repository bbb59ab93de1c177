-- The loop over a table: each wire in the set adds its channel.
use Rattle.std.proofs.Common.{sym, ◌∙◌, arith}
use Rattle.channel_map.specs.ChannelLaws.{table-low, table_of}
use Rattle.channel_map.proofs.ChannelSteps.{channels_end, channels_skip, channels_start, channels_with}
use Rattle.channel_map.proofs.channels.Channels.channel_set.Goals as goal
use Rattle.channel_map.proofs.channels.Channels.channel_set.Goals.{then-has, else-has}

pub loop-w-init : goal.loop-w-init
loop-w-init c = channels_start c.args.self.now.table c.args.wires

pub loop-w-preserved : goal.loop-w-preserved
loop-w-preserved c =
    let t = c.args.self.now in
    let w = c.loop-w.w in
    let low = table-low (table_of t) w c.loop-w-test.true in
    elim c.if-has.branch [
      | then-has x ↦ channels_with t.table c.args.wires w c.loop-w.channels c.if-has.channels (omega (arith, t.whole)) (sym x.if-has.ensures) (x.channels-is ∙ x.with-channels.ensures.within low) ∙ c.loop-w.invariant
      | else-has x ↦ channels_skip t.table c.args.wires w c.loop-w.channels c.if-has.channels (omega (arith, t.whole)) (sym x.if-has.ensures) x.channels-is ∙ c.loop-w.invariant
    ]

pub returns : goal.returns
returns c =
    sym (channels_end c.args.self.now.table c.args.wires c.loop-w.w c.loop-w.channels (omega (arith, c.args.self.now.whole))) ∙ c.loop-w.invariant
