-- One zero row is a derivation.
use Rattle.std.proofs.Common.{vec_items, ◌∙◌}
use Rattle.derivation.proofs.Worked.{new-facts}
use Rattle.derivation.proofs.holder.Holder.new.Goals as goal

pub invariant_of-result : goal.invariant_of-result
invariant_of-result c =
    let f = new-facts (vec_items c.new.result) (vec_items c.in_ok-rows.rows) c.new.ensures.items c.in_ok-rows.ensures.items in
    record { accepted = f.0; surrounded = c.in_ok-envs.ensures.items ∙ f.4; wired = f.1; gated = f.2; moved = f.3 }
