use Rattle.std.proofs.Common.{◌≡◌, ◌≤◌, map, length, take, drop, vec_items}
use Rattle.derivation.specs.Faults.{first_fault}
use Rattle.derivation.specs.Trees.{trees, type_fault, types_fault}
use Rattle.derivation.specs.Weights.{size_of}
use Rattle.derivation.proofs.types.type_sizes.Given as goal

-- the sizes of the entries so far, of which none has a fault
abbrev pub invariant-loop-i : goal.invariant-loop-i
invariant-loop-i l = record {
  within : l.i ≤ length l.types;
  sized : vec_items l.sizes ≡ map size_of (trees (take l.i l.types));
  faultless : types_fault l.types ≡ first_fault type_fault (λ e. e) (take l.i l.types) (drop l.i l.types);
}
