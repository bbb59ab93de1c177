-- Each turn goes one step, and where next ends nothing is left to follow.
use Rattle.std.proofs.Common.{◌≡◌, ℕ, ◌-◌, Some, None, vec_items, sym, ap, ◌∙◌, arith}
use native.Mathlib.Nat.{sub-zero}
use Rattle.derivation.proofs.AcceptedLaws.{accepted_from_valid}
use Rattle.theory.specs.Finals.{followed}
use Rattle.theory.proofs.Foresight.{followed_end}
use Rattle.theory.proofs.PortLaws.{port_laws}
use Rattle.text.proofs.ForecastLaws.{called, follow_more}
use Rattle.text.proofs.forecast.follow.Goals as goal

pub loop-init : goal.loop-init
loop-init c =
    (c.requires, ap (λ (k : ℕ). followed (vec_items c.args.machine.now.types) (vec_items c.args.machine.now.rows) k c.args.place) (sym (sub-zero c.args.times)))

pub returns-in_default : goal.returns-in_default
returns-in_default c =
    let es = vec_items c.args.machine.now.types in
    let rows = vec_items c.args.machine.now.rows in
    sym (c.loop.invariant.1 ∙ followed_end es rows (c.args.times - c.loop.counter) c.loop.p (called es rows c.loop.p None c.loop.invariant.0 c.in_default.ensures))

pub loop-preserved : goal.loop-preserved
loop-preserved c =
    let es = vec_items c.args.machine.now.types in
    let rows = vec_items c.args.machine.now.rows in
    let on = called es rows c.loop.p (Some c.in-Some.q) c.loop.invariant.0 c.in-Some.ensures in
    let ports = port_laws es rows (accepted_from_valid es rows c.args.machine.now.accepted) in (
      (ports.forth c.loop.p c.in-Some.q c.loop.invariant.0 on).0,
      c.loop.invariant.1 ∙ follow_more es rows c.loop.p c.in-Some.q c.args.times c.loop.counter c.loop-test.true on,
    )

pub returns : goal.returns
returns c =
    let none : c.args.times - c.loop.counter ≡ 0 = omega arith in
    sym (c.loop.invariant.1 ∙ ap (λ (k : ℕ). followed (vec_items c.args.machine.now.types) (vec_items c.args.machine.now.rows) k c.loop.p) none)
