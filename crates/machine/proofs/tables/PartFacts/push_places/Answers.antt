use Rattle.std.proofs.Common.{Some, vec_items, sym, ap, ◌∙◌}
use Rattle.std.specs.Option.{option_eq}
use Rattle.machine.specs.contracts.tables.PolarityPartialEq.TheImpl.{ghosts as polarity_equality}
use Rattle.machine.specs.Facts.{is_positive}
use Rattle.machine.proofs.PlaceTests.{atom_polarity-eq}
use Rattle.machine.proofs.StartTables.{signed_in, signed_out}
use Rattle.machine.proofs.tables.PartFacts.push_places.Goals as goal
use Rattle.machine.proofs.tables.PartFacts.push_places.Goals.{then-eq+in_ok-push, else-eq}

pub loop-i-preserved : goal.loop-i-preserved
loop-i-preserved c =
    let me = c.args.self in
    let w = is_positive c.args.polarity in
    let before = vec_items c.args.places.now in
    let now = vec_items c.loop-i.places in
    let test = c.eq.ensures ∙ ap (λ o. option_eq polarity_equality.eq o (Some c.args.polarity)) c.polarity.ensures ∙ atom_polarity-eq me.ty c.loop-i.i c.args.polarity c.loop-i-test.true in
    elim c.if-eq.branch [
      | then-eq+in_ok-push b ↦ ap vec_items b.places-is ∙ b.in_ok-push.ensures.items ∙ signed_in w me.ty.signs me.row.0 me.part c.loop-i.i before now c.loop-i.invariant (sym b.if-eq.true ∙ test)
      | else-eq b ↦ ap vec_items b.places-is ∙ signed_out w me.ty.signs me.row.0 me.part c.loop-i.i before now c.loop-i.invariant (sym b.if-eq.false ∙ test)
    ]
