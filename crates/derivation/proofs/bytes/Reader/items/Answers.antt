-- The loop over the records: each adds one item, and the first fault ends it.
use Rattle.std.proofs.Common.{inl, ◌∙◌}
use Rattle.std.proofs.lemmas.Result.{err_from_is_err_and}
use Rattle.derivation.proofs.CutSteps.{cutting_more, cutting_fault, cutting_all}
use Rattle.derivation.proofs.bytes.Reader.items.Goals as goal

pub returns-in_err-next-clause-read : goal.returns-in_err-next-clause-read
returns-in_err-next-clause-read g c =
    let p = err_from_is_err_and c.from_residual.result c.from_residual.ensures.1 in
    let e = rw c.loop.invariant.same at c.in_err-next.ensures.read in
    rw (p.1, p.2) (inl (cutting_fault c.loop.invariant.cutting c.loop-test.true e))

pub loop-preserved : goal.loop-preserved
loop-preserved g c =
    let e = rw c.loop.invariant.same at c.in_ok-next.ensures.read in
    record {
      same = c.in_ok-next.ensures.same ∙ c.loop.invariant.same;
      cutting = cutting_more c.loop.invariant.cutting c.loop-test.true e c.in_ok-push.ensures.items;
    }

pub returns-clause-read : goal.returns-clause-read
returns-clause-read g c = cutting_all c.loop.invariant.cutting c.loop-test.false
