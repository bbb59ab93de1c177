use Rattle.std.proofs.Common.{◌<◌, ◌^◌, sym, ◌∙◌, subst}
use Rattle.std.proofs.lemmas.Bool.{le-ltb}
use Rattle.basics.proofs.SetLaws.{has_bit, has_past}
use Rattle.basics.proofs.sets.Mask.has.Goals as goal

pub returns-then-x-WIDTH : goal.returns-then-x-WIDTH
returns-then-x-WIDTH g c = rw c.wide-set.ensures.value (has_bit _ c.args.x)

pub returns-else-x-WIDTH : goal.returns-else-x-WIDTH
returns-else-x-WIDTH g c =
    let fits = subst (λ w. g.Self.Mask.number c.args.self < 2 ^ w) (sym c.WIDTH.ensures) (rw c.wide-set.ensures.value at c.wide-set.ensures.fits) in
    le-ltb c.args.x _ c.if-x-WIDTH.false ∙ sym (has_past _ _ c.args.x fits c.if-x-WIDTH.false)
