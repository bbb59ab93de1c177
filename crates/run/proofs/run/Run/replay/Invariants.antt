use Rattle.std.proofs.Common.{◌≡◌, drop}
use Rattle.run.specs.Answers.{after_calls_in}
use Rattle.run.proofs.run.Run.replay.Given as goal

-- the calls that are left lead where all of them did
abbrev pub invariant-loop-call : goal.invariant-loop-call
invariant-loop-call g l =
    let T = g.T.Target in
    (l.self.machine ≡ l.initial.self.machine)
    × (after_calls_in T.taken T.applied l.initial.self (T.view l.initial.target) l.calls
    ≡ after_calls_in T.taken T.applied l.self (T.view l.target) (drop l.call-index l.calls))
