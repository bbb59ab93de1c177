use Rattle.std.proofs.Common.{Some, vec_items, sym, ap, ◌∙◌}
use Rattle.machine.proofs.MoveTables.{polarity-in_type, polarity-in_variable}
use Rattle.machine.proofs.machine.Machine.polarity.Goals as goal

pub returns-in-Ty : goal.returns-in-Ty
returns-in-Ty c =
    let m = c.args.self.now in
    c.polarity.ensures ∙ polarity-in_type (vec_items m.types) (vec_items m.rows) c.args.p c.in-Ty.is c.ty.result c.ty.ensures.value

pub returns-in_ok-polarity-in-Variable : goal.returns-in_ok-polarity-in-Variable
returns-in_ok-polarity-in-Variable c =
    let m = c.args.self.now in
    ap Some c.reversed.ensures
    ∙ polarity-in_variable (vec_items m.types) (vec_items m.rows) c.args.p c.in-Variable.x c.in-Variable.is c.if-not-holds.ensures c.ty-in-Variable.result c.ty-in-Variable.ensures.value c.in_ok-polarity-in-Variable.field-0
    (sym c.in_ok-polarity-in-Variable.was ∙ c.polarity-in-Variable.ensures)
