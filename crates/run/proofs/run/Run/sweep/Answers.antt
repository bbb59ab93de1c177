-- The loop makes the moves of a sweep, one by one.
use Rattle.std.proofs.Common.{◌+◌, ◌-◌, Bool, Ok, vec_items, sym, ap, ◌∙◌, ap₂, arith}
use Rattle.std.proofs.lemmas.Result.{err_from_is_err_and}
use Rattle.machine.specs.declared.machine.Machine.{Machine}
use Rattle.run.specs.Calls.{Swept, sweep_of}
use Rattle.run.specs.Answers.{stage_of}
use Rattle.run.proofs.SweepSteps.{behind, made_as, none_told, refused_as, some_told, sweep-further, sweep-over, sweep-refused}
use Rattle.run.proofs.run.Run.sweep.Goals as goal

pub loop-made-preserved : goal.loop-made-preserved
loop-made-preserved g c =
    let T = g.T.Target in
    let m = c.loop-made.self.machine in
    let (same, so_far) = c.loop-made.invariant in
    let answer = c.in_ok-move_wire.ensures.answer in
    let kept = c.in_ok-move_wire.ensures.derivation in
    let after = stage_of c.move_wire.new.self (T.view c.move_wire.new.target) in
    let further = sweep-further T.taken T.applied (vec_items m.types) (vec_items m.rows) c.args.budget c.loop-made.made _ _ (some_told _ _ c.in-Some.ensures) c.loop-made-test.true _ (made_as _ _ _ _ answer) in
    let rest = λ (n : Machine). behind (c.loop-made.made + 1) (sweep_of T.taken T.applied (vec_items n.types) (vec_items n.rows) (c.args.budget - (c.loop-made.made + 1)) after) in
    (kept ∙ same, so_far ∙ further ∙ sym (ap rest kept))

pub returns-in_err-move_wire : goal.returns-in_err-move_wire
returns-in_err-move_wire g c =
    let T = g.T.Target in
    let m = c.loop-made.self.machine in
    let (same, so_far) = c.loop-made.invariant in
    let p = err_from_is_err_and c.from_residual.result c.from_residual.ensures.1 in
    let (refused, as_before) = refused_as _ _ _ _ c.in_err-move_wire.ensures.answer in
    let all = so_far ∙ sweep-refused T.taken T.applied (vec_items m.types) (vec_items m.rows) c.args.budget c.loop-made.made _ _ (some_told _ _ c.in-Some.ensures) c.loop-made-test.true _ refused in
    rw (p.1, p.2) (record {
      answer = sym (ap (λ (r : Swept T.State). r.answer) all);
      after = as_before ∙ sym (ap (λ (r : Swept T.State). r.after) all);
      derivation = c.in_err-move_wire.ensures.derivation ∙ same;
    })

-- nobody can move
pub returns-in_default : goal.returns-in_default
returns-in_default g c =
    let T = g.T.Target in
    let m = c.loop-made.self.machine in
    let (same, so_far) = c.loop-made.invariant in
    let all = so_far ∙ sweep-over T.taken T.applied (vec_items m.types) (vec_items m.rows) c.args.budget c.loop-made.made _ (λ h. none_told _ c.in_default.ensures) in
    record {
      answer = ap (λ (b : Bool). Ok (c.loop-made.made, b)) c.is_home.ensures ∙ sym (ap (λ (r : Swept T.State). r.answer) all);
      after = sym (ap (λ (r : Swept T.State). r.after) all);
      derivation = same;
    }

-- no budget is left
pub returns : goal.returns
returns g c =
    let T = g.T.Target in
    let m = c.loop-made.self.machine in
    let (same, so_far) = c.loop-made.invariant in
    let all = so_far ∙ sweep-over T.taken T.applied (vec_items m.types) (vec_items m.rows) c.args.budget c.loop-made.made _ (λ h. absurd (omega arith)) in
    record {
      answer = ap₂ (λ k b. Ok (k, b)) (omega arith) c.is_home-2.ensures ∙ sym (ap (λ (r : Swept T.State). r.answer) all);
      after = sym (ap (λ (r : Swept T.State). r.after) all);
      derivation = same;
    }
