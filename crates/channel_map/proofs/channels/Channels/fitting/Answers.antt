use Rattle.std.proofs.Common.{nat_le, unwrap_or, ap, ◌∙◌, rules, tests}
use Rattle.std.proofs.lemmas.Iterator.{YieldsList-from_slice}
use Rattle.std.proofs.lemmas.Iterator.Search.{position_from_yields_List}
use Rattle.channel_map.proofs.ChannelSteps.{fitting_found}
use Rattle.channel_map.proofs.channels.Channels.fitting.Goals as goal

pub returns : goal.returns
returns c =
    let t = c.args.self.now in
    c.unwrap_or.ensures
    ∙ ap (λ o. unwrap_or o 32) (position_from_yields_List (λ n. nat_le c.args.width n) _ _ c.position.result c.position.ensures.ran (YieldsList-from_slice t.table cc) (λ x b q k. search (rules, tests)))
    ∙ fitting_found c.args.width t.table t.whole
