use Rattle.std.proofs.Common.{◌≡◌, vec_items}
use Rattle.derivation.proofs.CutSteps.{Cutting}
use Rattle.derivation.proofs.bytes.Reader.items.Given as goal

-- the items so far, and what is left
abbrev pub invariant-loop : goal.invariant-loop
invariant-loop g l = record {
  same : l.self.total ≡ l.initial.self.total;
  cutting : Cutting g.T.FromBytes.length_of g.T.FromBytes.front_of l.initial.self.total l.count l.initial.self.left.now (vec_items l.items) l.counter l.self.left.now;
}
