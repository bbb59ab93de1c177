-- A holder's derivation has few types and rows.
use Rattle.std.proofs.Common.{length, vec_items, ap, arith}
use Rattle.derivation.proofs.FormatLaws.{valid-parts}
use Rattle.derivation.proofs.holder.Holder.write.Goals as goal

pub invariant_of-encoding : goal.invariant_of-encoding
invariant_of-encoding c =
    let v = valid-parts (vec_items c.args.self.now.types) (vec_items c.args.self.now.rows) c.args.self.now.accepted in
    record { few_types = omega (arith, ap length c.as_slice.ensures.value); few_rows = omega (arith, ap length c.as_slice-2.ensures.value) }
