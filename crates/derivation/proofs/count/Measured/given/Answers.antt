-- Each variable of the last row adds the positive atoms of its type to the negative ones of that row's type.
use Rattle.std.proofs.Common.{◌∙◌, arith}
use Rattle.derivation.proofs.CountLaws.{size_fits, size_small, given_none, given_adds, given_stays, given-all}
use Rattle.derivation.proofs.count.Measured.given.Goals as goal
use Rattle.derivation.proofs.count.Measured.given.Goals.{then-has, else-has}

pub overflow_sub-count : goal.overflow_sub-count
overflow_sub-count c = size_fits _ _ c.size-last.ensures

pub loop-x-init : goal.loop-x-init
loop-x-init c =
    let m = c.args.self.now in
    let small = size_small _ _ c.size-last.ensures (m.small _ (m.known _ (omega (arith, m.some)))) in
    record { counted = given_none m.types.now m.rows.now c.args.env _ c.size-last.ensures; small = omega (arith, small.0) }

pub loop-x-preserved : goal.loop-x-preserved
loop-x-preserved c =
    let m = c.args.self.now in
    elim c.if-has.branch [
      | then-has w ↦
          let adds = given_adds m.types.now m.rows.now c.args.env c.loop-x.x w.if-has.ensures _ w.size.ensures (m.small _ (m.known c.loop-x.x c.loop-x-test.true)) in
          record { counted = omega (arith, w.count-is, adds.0); small = omega (arith, w.count-is, adds.1) }
      | else-has w ↦
          let stays = given_stays m.types.now m.rows.now c.args.env c.loop-x.x w.if-has.ensures in
          record { counted = omega (arith, w.count-is); small = omega (arith, w.count-is) }
    ]

pub returns-clause-counted : goal.returns-clause-counted
returns-clause-counted c =
    let m = c.args.self.now in
    c.loop-x.invariant.counted ∙ given-all m.types.now m.rows.now c.args.env c.loop-x.x c.requires (omega arith)
