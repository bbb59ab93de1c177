-- A width from 32 on holds any set; below, nothing may be left after a shift by the width.
use Rattle.std.proofs.Common.{sym, ◌∙◌}
use Rattle.std.proofs.lemmas.Bool.{le-leb}
use Rattle.target.proofs.MaskLaws.{fits_past, shift_fits}
use Rattle.target.proofs.checks.below.Goals as goal

pub returns-then-width-ge32 : goal.returns-then-width-ge32
returns-then-width-ge32 c =
    le-leb 32 c.args.width c.if-width-ge32.true ∙ sym (fits_past 32 c.args.set c.args.width c.ranges.set.fits c.if-width-ge32.true)

pub returns-else-width-ge32 : goal.returns-else-width-ge32
returns-else-width-ge32 c = sym (shift_fits c.args.set c.args.width)
