-- The row's entry is changed in place, and who can move follows from how many wait there.
use Rattle.std.proofs.Common.{◌≡◌, cond, eqb, vec_items, sym, ◌∙◌}
use lib.Count.{ones}
use Rattle.std.proofs.lemmas.Bool.{cond-true, cond-false, eq-eqb, ne_eqb}
use Rattle.basics.specs.Sets.{union, without}
use Rattle.run.proofs.BookSteps.{sat-at}
use Rattle.run.proofs.books.Books.sit.Goals as goal
use Rattle.run.proofs.books.Books.sit.Goals.{then-all-seat, else-all-seat}

pub returns : goal.returns
returns c =
    let b = c.args.self.now in
    let all = c.with-here.result in
    let after : c.if-all-seat.self ≡ cond (eqb (ones all) c.args.seat.arity) (union b.ready all) (without b.ready c.args.w.0) = elim c.if-all-seat.branch [
      | then-all-seat w ↦ w.self-is ∙ w.union-self.ensures ∙ sym (cond-true _ _ _ (eq-eqb _ _ w.if-all-seat.true))
      | else-all-seat w ↦ w.self-is ∙ w.without-self.ensures ∙ sym (cond-false _ _ _ (ne_eqb _ _ w.if-all-seat.false))
    ] in
    sat-at (vec_items b.places) (vec_items b.waiting) b.ready c.args.seat.row.0 c.args.seat.number c.args.seat.arity c.args.w c.index_mut-here.result.now all c.if-all-seat.self c.requires.row c.index_mut-here.ensures.value (c.with-here.ensures.within c.requires.wire) after
