-- The loop over the starts: each wire joins the set of its start.
use Rattle.std.proofs.Common.{ap}
use Rattle.derivation.specs.declared.rows.Start.TheVariants.{Given}
use Rattle.run.specs.Opening.{is_given, is_one}
use Rattle.run.proofs.OpenSteps.{mask_skip, mask_with}
use Rattle.run.proofs.run.start_sets.Goals as goal
use Rattle.run.proofs.run.start_sets.Goals.{in-Given, in-Zero, in-One}

pub loop-w-preserved : goal.loop-w-preserved
loop-w-preserved c =
    let xs = c.args.starts.now in
    let w = c.loop-w.w in
    let h = c.loop-w-test.true in
    let (given, ones) = c.loop-w.invariant in
    elim c.match-start.branch [
      | in-Given x ↦ (
        mask_with is_given xs w Given h c.requires c.loop-w.given c.match-start.given given (ap is_given x.in-Given.is) x.given-is,
        mask_skip is_one xs w Given h c.requires c.loop-w.ones c.match-start.ones ones (ap is_one x.in-Given.is) x.ones-is,
      )
      | in-Zero x ↦ (
        mask_skip is_given xs w Given h c.requires c.loop-w.given c.match-start.given given (ap is_given x.in-Zero.is) x.given-is,
        mask_skip is_one xs w Given h c.requires c.loop-w.ones c.match-start.ones ones (ap is_one x.in-Zero.is) x.ones-is,
      )
      | in-One x ↦ (
        mask_skip is_given xs w Given h c.requires c.loop-w.given c.match-start.given given (ap is_given x.in-One.is) x.given-is,
        mask_with is_one xs w Given h c.requires c.loop-w.ones c.match-start.ones ones (ap is_one x.in-One.is) x.ones-is,
      )
    ]
