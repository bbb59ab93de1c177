-- The holder knows the number of its wires, and the bits among them are counted.
use Rattle.std.proofs.Common.{length, vec_items, ap, ◌∙◌, arith}
use Rattle.derivation.specs.Starts.{bit_starts}
use Rattle.derivation.proofs.StartLaws.{bit-starts_le, starts-given}
use Rattle.derivation.proofs.holder.Holder.starts.Goals as goal

pub wire_starts-requires : goal.wire_starts-requires
wire_starts-requires c =
    let h = c.args.self.now in
    omega (arith, ap (λ l. length (bit_starts l)) c.as_slice.ensures.value, bit-starts_le (vec_items h.types) (vec_items h.rows), h.wired)

pub returns : goal.returns
returns c =
    let h = c.args.self.now in
    c.in_ok-starts.ensures ∙ starts-given (vec_items h.types) c.as_slice.ensures.value h.wired
