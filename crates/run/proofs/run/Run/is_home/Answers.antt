-- Nothing is left that can move exactly if all tokens are home.
use Rattle.std.proofs.Common.{eqb, vec_items, ap, ◌∙◌}
use mathlib.Core.Bool.{Bool-set}
use mathlib.Core.Logic.{∥∥₁_elim}
use Rattle.derivation.proofs.AcceptedLaws.{accepted_from_valid}
use Rattle.theory.proofs.Assembled.{theory}
use Rattle.run.proofs.Lowest.{home-ready}
use Rattle.run.proofs.run.Run.is_home.Goals as goal

pub returns : goal.returns
returns c =
    let run = c.args.self.now in
    let es = vec_items run.machine.types in
    let rows = vec_items run.machine.rows in
    ∥∥₁_elim run.kept (Bool-set _ _)
    (λ right. ∥∥₁_elim run.reached (Bool-set _ _)
    (λ (fired, reached). ap (λ n. eqb n 0) right.ready ∙ home-ready es rows (theory es rows (accepted_from_valid es rows run.machine.accepted)) _ _ fired reached right.fit.2))
