-- Each channel below 32 has a wire, so a channel without one is over 31.
use Rattle.std.proofs.Common.{sym, ◌∙◌, eqb, rules, tests}
use Rattle.std.proofs.lemmas.Iterator.{YieldsList-from_slice}
use Rattle.std.proofs.lemmas.Iterator.Search.{position_from_yields_List}
use Rattle.channel_map.specs.ChannelLaws.{table_of}
use Rattle.channel_map.proofs.ChannelSteps.{wire_missing}
use Rattle.channel_map.proofs.channels.Channels.wire.Goals as goal

pub returns-in_err-w : goal.returns-in_err-w
returns-in_err-w c =
    let t = c.args.self.now in
    let sought = position_from_yields_List (λ n. eqb n c.args.c.0) _ _ c.position.result c.position.ensures.ran (YieldsList-from_slice t.table cc) (λ x b q k. search (rules, tests)) in
    rw c.from_residual.ensures (wire_missing (table_of t) c.args.c.0 (sym sought ∙ c.in_err-w.was))
