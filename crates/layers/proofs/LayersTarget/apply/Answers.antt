-- The wires are in use, so they are below 32; the numbers are at most the count, which is below the capacity.
use Rattle.std.proofs.Common.{◌≡◌, suc, true, rules, ap, ◌∙◌, add-one, arith}
use Rattle.target.specs.Interface.{numbers_of}
use Rattle.target.proofs.FaultLaws.{clear, fault_of}
use Rattle.layers.specs.Layers.{set_all, layered}
use Rattle.layers.specs.LayersLaws.{greatest_shallow, layered_shallow}
use Rattle.layers.proofs.LayersTarget.apply.Goals as goal

pub overflow_add-layer : goal.overflow_add-layer
overflow_add-layer c =
    let t = c.args.self.now in
    let few = t.few in
    let low = greatest_shallow t.depth t.usage.count t.shallow (numbers_of c.args.wires.now) in
    record { fits = omega arith }

pub invariant_of-self : goal.invariant_of-self
invariant_of-self c =
    let t = c.args.self.now in
    let ws = numbers_of c.args.wires.now in
    let ok = clear c.takes.result 65535 t.usage c.in_ok-usage.usage c.args.gate ws c.in_ok-usage.ensures.answer in
    let after : c.set_all.new.depth ≡ layered c.args.gate ws t.depth =
    c.set_all.ensures ∙ ap (set_all t.depth ws) (add-one c.greatest-layer.result ∙ ap suc c.greatest-layer.ensures) in
    let low = layered_shallow c.args.gate t.depth ws t.usage.count t.shallow in
    record { few = rw ok.counted (omega (arith, ok.room)); shallow = λ i. rw (after, ok.counted) (omega (arith, low i)) }

pub returns-in_err-usage-clause-obeys : goal.returns-in_err-usage-clause-obeys
returns-in_err-usage-clause-obeys c =
    let h = fault_of true 65535 c.args.self.now.usage c.args.gate (numbers_of c.args.wires.now) c.in_err-usage.field-0.0 (rw c.takes.ensures at c.in_err-usage.ensures.answer) in
    search rules
