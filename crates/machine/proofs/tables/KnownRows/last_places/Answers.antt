-- Each variable of the last row's environment adds its places.
use Rattle.std.proofs.Common.{◌-◌, ◌++◌, not, length, get_or, vec_items, sym, ap, ◌∙◌}
use Rattle.derivation.specs.declared.rows.Part.TheVariants.{Variable as Var}
use Rattle.machine.specs.Facts.{is_positive, no_facts, signed}
use Rattle.machine.proofs.PlaceTests.{reversed-positive}
use Rattle.machine.proofs.StartTables.{held_in, held_out}
use Rattle.machine.proofs.tables.KnownRows.last_places.Goals as goal
use Rattle.machine.proofs.tables.KnownRows.last_places.Goals.{then-has+in_ok-push_places, else-has}

pub loop-x-preserved : goal.loop-x-preserved
loop-x-preserved c =
    let facts = c.args.self.now.facts.now in
    let last = length facts - 1 in
    let x = c.loop-x.x in
    let f = get_or facts x no_facts in
    let ps = vec_items c.loop-x.places in
    let climbs = not (is_positive c.args.polarity) in
    elim c.if-has.branch [
      | then-has+in_ok-push_places w ↦
          ap vec_items w.places-is ∙ w.in_ok-push_places.ensures
          ∙ ap (λ b. ps ++ signed b f.ty.signs last (Var (record { 0 = x })) f.ty.width) (ap is_positive w.reversed.ensures ∙ reversed-positive c.args.polarity)
          ∙ held_in facts climbs last x ps c.loop-x.invariant (sym w.if-has.true ∙ c.has.ensures)
      | else-has w ↦ ap vec_items w.places-is ∙ held_out facts climbs last x ps c.loop-x.invariant (sym w.if-has.false ∙ c.has.ensures)
    ]
