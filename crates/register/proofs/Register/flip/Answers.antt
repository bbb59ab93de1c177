-- The last wire is flipped where its controls are 1.
use Rattle.std.proofs.Common.{true, false, ap, ◌∙◌}
use lib.Bits.{bit_xor}
use Rattle.register.specs.Register.{holding}
use Rattle.register.specs.RegisterLaws.{only_shifted, split_below, split_flips}
use Rattle.register.proofs.Register.flip.Goals as goal

pub overflow_shl-self : goal.overflow_shl-self
overflow_shl-self c = split_below c.args.self.now.bits c.in-Some.controls.now c.in-Some.last.now c.in-Some.ensures.cases.0 c.requires

pub returns-then-all_one : goal.returns-then-all_one
returns-then-all_one c =
    let r = c.args.self.now in
    let last = c.in-Some.last.now in
    let e = c.in-Some.ensures.cases.0 in
    let below = split_below r.bits c.in-Some.controls.now last e c.requires in
    ap (λ b. holding b r.phase r.preset)
    (ap (bit_xor r.bits) (only_shifted last.0 below) ∙ split_flips r.bits c.in-Some.controls.now last e {b = true} c.if-all_one.ensures)

pub returns-else-all_one : goal.returns-else-all_one
returns-else-all_one c =
    let r = c.args.self.now in
    ap (λ b. holding b r.phase r.preset) (split_flips r.bits c.in-Some.controls.now c.in-Some.last.now c.in-Some.ensures.cases.0 {b = false} c.if-all_one.ensures)
