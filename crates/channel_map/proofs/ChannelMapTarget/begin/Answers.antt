-- Sets that fit the map have channels that fit the target beneath, so it begins.
use Rattle.std.proofs.Common.{sym, ap, ◌∙◌, subst}
use Rattle.target.specs.Interface.{Obeys, begin_fault, begun_view}
use Rattle.channel_map.specs.declared.ChannelMap.{ChannelMap}
use Rattle.channel_map.specs.Channels.{fitting, mapped_begun, mapped_view}
use Rattle.channel_map.specs.ChannelLaws.{table_of}
use Rattle.channel_map.specs.ChannelMapLaws.{begin_by}
use Rattle.channel_map.proofs.ChannelMapTarget.begin.Goals as goal

-- the width leaves the map as it was
pub returns-clause-obeys : goal.returns-clause-obeys
returns-clause-obeys g c =
    let m = c.width.new.self in
    let same = c.width.ensures.same in
    let T = g.T.Target in
    let last = c.begin.new.self in
    subst
    (λ (x : ChannelMap g.row.T.Denot).
    Obeys (begin_fault (mapped_view (table_of x.channels) (T.view x.beneath)) c.args.used c.args.given c.args.ones)
    (begun_view (mapped_begun T.begun) (mapped_view (table_of x.channels) (T.view x.beneath)) c.args.used c.args.given c.args.ones) c.begin.result
    (mapped_view (table_of m.channels) (T.view last)))
    same
    (begin_by (table_of m.channels) T.begun c.args.used c.args.given c.args.ones c.width.result (T.view m.beneath) (T.view last) c.begin.result
    c.ranges.used.fits (c.width.ensures.value ∙ ap (λ (x : ChannelMap g.row.T.Denot). fitting (T.view x.beneath).width x.channels.table) (sym same)) c.in_ok-check_begin.ensures
    c.channel_set-used.ensures c.channel_set-given.ensures c.channel_set-ones.ensures c.begin.ensures.obeys)
