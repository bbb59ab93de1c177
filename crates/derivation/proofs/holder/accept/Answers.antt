-- What passed its own checks is counted, and is then a derivation.
use Rattle.std.proofs.Common.{length, vec_items, sym, refl, ap, ◌∙◌, arith}
use Rattle.derivation.specs.Accepted.{Sound, valid}
use Rattle.derivation.specs.Places.{wires, moves}
use Rattle.derivation.proofs.HolderLaws.{sound-from, sound-same, sound-valid}
use Rattle.derivation.proofs.holder.accept.Goals as goal
use Rattle.derivation.proofs.holder.accept.Goals.{In_ok-checked}

sound : (c : In_ok-checked) → Sound c.as_slice-table.result.now (vec_items c.in_ok-sizes.sizes) (vec_items c.in_ok-checked.checked.rows)
sound c =
    let s = c.in_ok-sizes.ensures in
    let k = c.in_ok-checked.ensures in
    let h = ap length c.as_slice-table.ensures.value in
    let n = ap length c.as_slice.ensures.value in
    sound-from c.as_slice-table.result.now c.as_slice.result.now (vec_items c.in_ok-sizes.sizes) (vec_items c.in_ok-checked.checked.rows)
    (omega (arith, c.args.parsed.few_types)) (omega (arith, c.args.parsed.some_rows)) (omega (arith, c.args.parsed.few_rows)) s.0 k.0 s.1 k.1

pub counted-requires : goal.counted-requires
counted-requires c = sound-same (sound (goal.at.counted-requires c).In_ok-checked) c.as_slice-2.ensures.value refl

pub invariant_of-result : goal.invariant_of-result
invariant_of-result c =
    let n = c.in_ok-counts.ensures in
    let t = c.as_slice-table.ensures.value in
    record {
      accepted = ap (λ l. valid l (vec_items c.in_ok-checked.checked.rows)) (sym t) ∙ sound-valid (sound (goal.at.invariant_of-result c).In_ok-checked) n.0;
      surrounded = c.in_ok-checked.checked.surrounded;
      wired = n.1 ∙ ap (λ l. wires l (vec_items c.in_ok-checked.checked.rows)) t;
      gated = n.2;
      moved = n.3 ∙ ap (λ l. moves l (vec_items c.in_ok-checked.checked.rows)) t;
    }
