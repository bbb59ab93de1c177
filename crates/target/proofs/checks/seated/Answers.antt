-- A set of 32 bits has no number from 32 on.
use Rattle.std.proofs.Common.{sym, ◌∙◌}
use Rattle.target.specs.Interface.{numbers_of}
use Rattle.target.proofs.MaskLaws.{all_below_lem, has_below}
use Rattle.target.proofs.checks.seated.Goals as goal

pub returns-then-wires-arity-clause-low : goal.returns-then-wires-arity-clause-low
returns-then-wires-arity-clause-low c h =
    let used = c.args.used in
    all_below_lem 32 used (numbers_of c.args.wires.now) (λ z. has_below 32 used z c.ranges.used.fits) (sym c.all_in.ensures ∙ h)
