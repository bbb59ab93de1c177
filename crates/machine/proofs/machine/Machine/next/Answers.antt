use Rattle.std.proofs.Common.{vec_items, sym, ◌∙◌}
use Rattle.machine.proofs.MoveTables.{next_down, next_up}
use Rattle.machine.proofs.machine.Machine.next.Goals as goal

pub returns-in-Negative : goal.returns-in-Negative
returns-in-Negative c =
    let m = c.args.self.now in
    let s = c.in_ok-spot.spot in
    let h = c.in_ok-spot.ensures in
    next_up (vec_items m.types) (vec_items m.rows) c.args.p s.place h.same h.there s.rule c.upward.result h.ruled (sym c.in-Negative.is ∙ h.signed) c.upward.ensures

pub returns-in-Positive : goal.returns-in-Positive
returns-in-Positive c =
    let m = c.args.self.now in
    let h = c.in_ok-spot.ensures in
    next_down (vec_items m.types) (vec_items m.rows) c.args.p c.in_ok-spot.spot.place h.same h.there c.downward.result (sym c.in-Positive.is ∙ h.signed) c.downward.ensures
