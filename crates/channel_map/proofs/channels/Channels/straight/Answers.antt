-- The entries are those of the table, whose check computes.
use Rattle.std.proofs.Common.{◌≡◌, ℕ, ◌<◌, is_some, slice_index, ap, ◌∙◌, rules}
use Rattle.channel_map.specs.Channels.{table_fault}
use Rattle.channel_map.specs.ChannelLaws.{straight_faultless, straight_filled}
use Rattle.channel_map.proofs.channels.Channels.straight.Goals as goal

pub returns : goal.returns
returns c =
    let made = c.from_fn.ensures.items in
    let at : (k : ℕ) → k < 32 → slice_index c.from_fn.result k ≡ k = λ k h. let called = made.at k 0 h in search rules in
    straight_filled c.from_fn.result made.long at

pub invariant_of-result : goal.invariant_of-result
invariant_of-result c =
    let made = c.from_fn.ensures.items in
    let at : (k : ℕ) → k < 32 → slice_index c.from_fn.result k ≡ k = λ k h. let called = made.at k 0 h in search rules in
    record { whole = made.long; faultless = ap (λ t. is_some (table_fault t)) (straight_filled c.from_fn.result made.long at) ∙ straight_faultless }
