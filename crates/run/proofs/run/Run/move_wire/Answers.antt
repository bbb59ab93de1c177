-- No such wire, a wire that is home, one that waits at a seat, or one that goes on alone.
use Rattle.std.proofs.Common.{true, Err, vec_items, ap, ◌∙◌, arith}
use Rattle.std.proofs.lemmas.Result.{err_from_is_err_and}
use Rattle.basics.specs.declared.refusal.Refusal.{Refusal}
use Rattle.run.specs.Books.{books_of}
use Rattle.run.proofs.MoveCases.{moved-home, moved_past}
use Rattle.run.proofs.MoveAnswered.{fit_now, refused_so, step-answer, step-counted, step_kept, step-under, told_end, told_none}
use Rattle.run.proofs.run.Run.move_wire.Goals as goal

pub returns-in_err-place-clause-answer : goal.returns-in_err-place-clause-answer
returns-in_err-place-clause-answer g c =
    let T = g.T.Target in
    let run = c.args.self.now in
    let p = err_from_is_err_and c.from_residual.result c.from_residual.ensures.1 in
    let (past, is) = told_none (vec_items run.books.places) c.args.w.0 c.in_err-place.field-0.0 c.in_err-place.ensures in
    rw (p.1, p.2) (refused_so _ _ _ (moved_past T.taken T.applied (vec_items run.machine.types) (vec_items run.machine.rows) _ c.args.w.0 past ∙ ap (λ (e : Refusal). Err e) is))

pub returns-then-is_end-clause-answer : goal.returns-then-is_end-clause-answer
returns-then-is_end-clause-answer g c =
    let T = g.T.Target in
    let run = c.args.self.now in
    let w = c.args.w.0 in
    let (l, home) = told_end run w c.in_ok-place.place c.in_ok-place.ensures true c.if-is_end.ensures in
    refused_so _ _ _ (moved-home T.taken T.applied (vec_items run.machine.types) (vec_items run.machine.rows) _ w l home)

pub step-requires-clause-fit : goal.step-requires-clause-fit
step-requires-clause-fit g c = fit_now c.args.self.now c.args.w.0

-- the counter does not run over
pub overflow_add-self : goal.overflow_add-self
overflow_add-self g c =
    let few = step-counted c.args.self.now c.args.w.0 c.in_ok-place.place c.in_ok-place.ensures c.if-is_end.ensures c.in_default.ensures (books_of c.step.new.self) c.step.ensures in
    omega arith

pub invariant_of-self-clause-reached : goal.invariant_of-self-clause-reached
invariant_of-self-clause-reached g c =
    step-under c.args.self.now c.args.w.0 c.in_ok-place.place c.in_ok-place.ensures c.if-is_end.ensures c.in_default.ensures (books_of c.step.new.self) c.step.ensures

pub invariant_of-self-clause-kept : goal.invariant_of-self-clause-kept
invariant_of-self-clause-kept g c =
    step_kept c.args.self.now c.args.w.0 c.in_ok-place.place c.in_ok-place.ensures c.if-is_end.ensures c.in_default.ensures (books_of c.step.new.self) c.step.ensures

pub returns-clause-answer : goal.returns-clause-answer
returns-clause-answer g c =
    let T = g.T.Target in
    step-answer c.args.self.now c.args.w.0 c.in_ok-place.place c.in_ok-place.ensures c.if-is_end.ensures c.in_default.ensures (books_of c.step.new.self) c.step.ensures T.taken T.applied (T.view c.args.target.now)
