use Rattle.std.proofs.Common.{◌<◌, ◌^◌, sym, subst}
use Rattle.basics.proofs.SetLaws.{without_bit, without_past}
use Rattle.basics.proofs.sets.Mask.without.Goals as goal

pub returns-then-x-WIDTH : goal.returns-then-x-WIDTH
returns-then-x-WIDTH g c =
    let fits = rw c.wide-set.ensures.value at c.wide-set.ensures.fits in
    let below = rw c.WIDTH.ensures at c.if-x-WIDTH.true in
    rw (c.narrow.ensures, c.wide-set.ensures.value) (without_bit _ _ c.args.x fits below c.wide-set.ensures.at_most)

pub returns-else-x-WIDTH : goal.returns-else-x-WIDTH
returns-else-x-WIDTH g c =
    let fits = subst (λ w. g.Self.Mask.number c.args.self < 2 ^ w) (sym c.WIDTH.ensures) (rw c.wide-set.ensures.value at c.wide-set.ensures.fits) in
    sym (without_past _ _ c.args.x fits c.if-x-WIDTH.false)
