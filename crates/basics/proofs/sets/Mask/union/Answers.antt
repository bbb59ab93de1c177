use Rattle.basics.proofs.SetLaws.{union_fits}
use Rattle.basics.proofs.sets.Mask.union.Goals as goal

pub returns : goal.returns
returns g c =
    let a = rw c.wide.ensures.value at c.wide.ensures.fits in
    let b = rw c.wide-2.ensures.value at c.wide-2.ensures.fits in
    rw (c.narrow.ensures, c.wide.ensures.value, c.wide-2.ensures.value) (union_fits _ _ _ a b)
