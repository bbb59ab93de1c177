-- A seat is empty, the target refuses the gate, or all tokens at its seats pass.
use Rattle.std.proofs.Common.{sym, ap, ◌∙◌, arith}
use Rattle.std.proofs.lemmas.Result.{err_from_is_err_and}
use Rattle.run.specs.Books.{books_of}
use Rattle.run.proofs.FireAnswered.{fire-answer, fire-counted, fire-kept, fire-under, fit_now, full-so, refuse-answer, sits, wait-answer}
use Rattle.run.proofs.run.Run.fire.Goals as goal

pub returns-then-waiting-seat-clause-answer : goal.returns-then-waiting-seat-clause-answer
returns-then-waiting-seat-clause-answer g c =
    let T = g.T.Target in
    wait-answer c.args.self.now c.args.w.0 c.requires.wire c.args.seat c.requires.seat c.index.result.now c.index.ensures T.taken T.applied (T.view c.args.target.now) c.if-waiting-seat.true

pub returns-in_err-apply-clause-answer : goal.returns-in_err-apply-clause-answer
returns-in_err-apply-clause-answer g c =
    let T = g.T.Target in
    let p = err_from_is_err_and c.from_residual.result c.from_residual.ensures.1 in
    rw (p.1, p.2) (refuse-answer c.args.self.now c.args.w.0 c.requires.wire c.args.seat c.requires.seat c.index.result.now c.index.ensures T.taken T.applied (T.view c.args.target.now)
    c.if-waiting-seat.false c.unwrap-gate.result (sym c.gate.ensures ∙ c.unwrap-gate.ensures) c.in_err-apply.field-0.0
    c.in_err-apply.ensures.obeys (T.view c.apply.new.self) (ap T.view c.in_err-apply.ensures.kept))

pub pass-requires-clause-wires : goal.pass-requires-clause-wires
pass-requires-clause-wires g c =
    let run = c.args.self.now in
    let w = c.args.w.0 in
    (sits run w c.requires.wire c.args.seat c.requires.seat).below (full-so run w c.requires.wire c.args.seat c.requires.seat c.index.result.now c.index.ensures c.if-waiting-seat.false)

pub pass-requires-clause-fit : goal.pass-requires-clause-fit
pass-requires-clause-fit g c = fit_now c.args.self.now c.args.w.0 c.requires.wire c.args.seat c.requires.seat

-- the counter does not run over
pub overflow_add-self : goal.overflow_add-self
overflow_add-self g c =
    let few = fire-counted c.args.self.now c.args.w.0 c.requires.wire c.args.seat c.requires.seat c.index.result.now c.index.ensures
    c.if-waiting-seat.false c.unwrap-gate.result (sym c.gate.ensures ∙ c.unwrap-gate.ensures) (books_of c.pass.new.self) c.pass.ensures in
    omega arith

pub invariant_of-self-clause-reached : goal.invariant_of-self-clause-reached
invariant_of-self-clause-reached g c =
    fire-under c.args.self.now c.args.w.0 c.requires.wire c.args.seat c.requires.seat c.index.result.now c.index.ensures
    c.if-waiting-seat.false c.unwrap-gate.result (sym c.gate.ensures ∙ c.unwrap-gate.ensures) (books_of c.pass.new.self) c.pass.ensures

pub invariant_of-self-clause-kept : goal.invariant_of-self-clause-kept
invariant_of-self-clause-kept g c =
    fire-kept c.args.self.now c.args.w.0 c.requires.wire c.args.seat c.requires.seat c.index.result.now c.index.ensures
    c.if-waiting-seat.false c.unwrap-gate.result (sym c.gate.ensures ∙ c.unwrap-gate.ensures) (books_of c.pass.new.self) c.pass.ensures

pub returns-clause-answer : goal.returns-clause-answer
returns-clause-answer g c =
    let T = g.T.Target in
    fire-answer c.args.self.now c.args.w.0 c.requires.wire c.args.seat c.requires.seat c.index.result.now c.index.ensures T.taken T.applied (T.view c.args.target.now)
    c.if-waiting-seat.false c.unwrap-gate.result (sym c.gate.ensures ∙ c.unwrap-gate.ensures) (books_of c.pass.new.self) c.pass.ensures
    c.in_ok-apply.ensures.obeys.0 (T.view c.apply.new.self) c.in_ok-apply.ensures.obeys.1
