-- What passed so far is what the counts need.
use Rattle.std.proofs.Common.{◌≤◌, sym, refl, subst, ap, ◌∙◌}
use Rattle.derivation.specs.Rows.{unused_fault}
use Rattle.derivation.proofs.HolderLaws.{sound-same, sound-known, sound-small, sound_accepted, whole_none}
use Rattle.derivation.proofs.holder.counted.Goals as goal

pub invariant_of-measured : goal.invariant_of-measured
invariant_of-measured c =
    let s = sound-same c.requires refl c.as_slice-rows.ensures.value in record {
      sized = s.sized;
      small = sound-small s;
      known = sound-known s;
      some = s.some_rows;
      few = s.few_rows;
    }

pub places-places-requires : goal.places-places-requires
places-places-requires c =
    sound_accepted (sound-same c.requires refl c.as_slice-rows.ensures.value)
    (whole_none c.args.types.now c.as_slice-rows.result.now
    (ap unused_fault c.as_slice-rows.ensures.value ∙ sym c.in_ok-all_used.ensures)
    (subst (λ n. n ≤ 32) c.wires-wires.ensures c.if-wires-gt32.false))
