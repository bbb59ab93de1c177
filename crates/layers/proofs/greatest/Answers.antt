use Rattle.target.proofs.MaskLaws.{below_at}
use Rattle.layers.proofs.greatest.Goals as goal

pub bounds-depth-w : goal.bounds-depth-w
bounds-depth-w c = below_at 32 c.args.wires.now c.loop-w.w-index (record { 0 = 0 }) c.requires c.loop-w-test.true
