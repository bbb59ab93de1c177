use Rattle.std.proofs.Common.{◌≡◌, ◌-◌}
use Rattle.run.specs.Answers.{sweep_in}
use Rattle.run.proofs.SweepSteps.{behind}
use Rattle.run.proofs.run.Run.sweep.Given as goal

-- the sweep is the moves made so far and a sweep with what is left of the budget
abbrev pub invariant-loop-made : goal.invariant-loop-made
invariant-loop-made g l =
    let T = g.T.Target in
    (l.self.machine ≡ l.initial.self.machine)
    × (sweep_in T.taken T.applied l.initial.self (T.view l.initial.target) l.budget
    ≡ behind l.made (sweep_in T.taken T.applied l.self (T.view l.target) (l.budget - l.made)))
