use Rattle.basics.proofs.SetLaws.{with_bit}
use Rattle.basics.proofs.sets.Mask.with.Goals as goal

pub returns-then-x-WIDTH-clause-within : goal.returns-then-x-WIDTH-clause-within
returns-then-x-WIDTH-clause-within g c below =
    let fits = rw c.wide.ensures.value at c.wide.ensures.fits in
    rw (c.narrow.ensures, c.wide.ensures.value) (with_bit _ _ c.args.x fits below c.wide.ensures.at_most)
