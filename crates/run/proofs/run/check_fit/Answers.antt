-- A valid derivation has at most 128 rows.
use Rattle.std.proofs.Common.{◌≤◌, List, length, vec_items, sym, subst}
use Rattle.derivation.specs.declared.rows.Row.{Row}
use Rattle.derivation.proofs.AcceptedLaws.{accepted_from_valid}
use Rattle.run.proofs.run.check_fit.Goals as goal

pub gate_not_taken-requires : goal.gate_not_taken-requires
gate_not_taken-requires g c =
    let h = c.args.holder.now in
    let few = (accepted_from_valid (vec_items h.types) (vec_items h.rows) h.accepted).few in
    subst (λ (rows : List Row). length rows ≤ 128) (sym c.rows.ensures) few
