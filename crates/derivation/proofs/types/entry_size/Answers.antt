-- One entry of a type table: its parts are lower, so their sizes are known.
use Rattle.std.proofs.Common.{◌≡◌, false, sym, ◌∙◌, add-one, arith}
use Rattle.derivation.specs.Trees.{listed}
use Rattle.derivation.proofs.TypeChecks.{listed-any, length_sizes, parts_fit, repeated, entry-sized}
use Rattle.derivation.proofs.types.entry_size.Goals as goal

pub returns-then-contains : goal.returns-then-contains
returns-then-contains c =
    repeated c.args.before.now c.args.entry _ (add-one _) (omega arith) (omega arith)
    (sym (listed-any c.args.before.now c.args.entry) ∙ sym c.if-contains.ensures.value)

pub bounds-sizes-entry : goal.bounds-sizes-entry
bounds-sizes-entry c = omega (arith, length_sizes c.args.before.now c.args.sizes.now c.requires.sized)

pub bounds-sizes-entry-2 : goal.bounds-sizes-entry-2
bounds-sizes-entry-2 c = omega (arith, length_sizes c.args.before.now c.args.sizes.now c.requires.sized)

pub joined-requires : goal.joined-requires
joined-requires c = parts_fit c.args.before.now c.args.entry _ (add-one _) (omega arith) (omega arith) c.args.sizes.now _ c.requires.sized

pub returns : goal.returns
returns c =
    let new : listed c.args.before.now c.args.entry ≡ false = sym (listed-any c.args.before.now c.args.entry) ∙ sym c.if-contains.ensures.value in
    rw c.ok_or.ensures.value
    (entry-sized c.args.before.now c.args.entry _ (add-one _) (omega arith) (omega arith) c.args.sizes.now _ c.requires.sized c.joined.result new c.joined.ensures)
