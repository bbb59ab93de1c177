-- One step: the next wire goes on, and the rest are left to go on.
use Rattle.std.proofs.Common.{◌+◌, List, length, get_or, take, drop, vec_items, sym, ap, ◌∙◌, subst, arith}
use Rattle.std.proofs.lemmas.List.{at_drop_more, at_drop_all}
use Rattle.basics.specs.declared.numbers.Wire.{Wire}
use Rattle.target.specs.Interface.{numbers_of}
use Rattle.run.specs.Books.{Fit, Kept, books_of, stepped_all}
use Rattle.run.proofs.BookSteps.{passed_by, stepped_count, stepped_fit, wire_below}
use Rattle.run.proofs.books.Books.pass.Goals as goal

pub step-requires-clause-wire : goal.step-requires-clause-wire
step-requires-clause-wire c =
    let b = c.args.self.now in
    let low = wire_below (vec_items b.waiting) c.args.seat.row.0 c.args.seat.arity (length (vec_items b.places)) c.loop-w.w-index c.index_mut-here.result.now (omega (arith, c.requires.fit.0)) c.index_mut-here.ensures.value c.requires.wires c.loop-w-test.true in
    omega (arith, low, c.loop-w.invariant.none_lost)

pub loop-w-preserved : goal.loop-w-preserved
loop-w-preserved c =
    let es = vec_items c.args.machine.now.types in
    let rows = vec_items c.args.machine.now.rows in
    let b = books_of c.loop-w.self in
    let ws = take c.args.seat.arity c.index_mut-here.result.now.seats in
    let i = c.loop-w.w-index in
    let w = (get_or ws i (record { 0 = 0 })).0 in
    record {
      so_far =
          ap (λ (k : Kept). stepped_all es rows k (numbers_of (drop (i + 1) ws))) c.step.ensures
          ∙ sym (at_drop_more (λ (l : List Wire). stepped_all es rows b (numbers_of l)) ws i (record { 0 = 0 }) c.loop-w-test.true)
          ∙ c.loop-w.invariant.so_far;
      fit = subst (λ (k : Kept). Fit es rows k) (sym c.step.ensures) (stepped_fit es rows b w c.loop-w.invariant.fit);
      none_lost = ap (λ (k : Kept). length k.tokens) c.step.ensures ∙ stepped_count es rows b w ∙ c.loop-w.invariant.none_lost;
    }

pub returns : goal.returns
returns c =
    let es = vec_items c.args.machine.now.types in
    let rows = vec_items c.args.machine.now.rows in
    let b = c.args.self.now in
    let ws = take c.args.seat.arity c.index_mut-here.result.now.seats in
    sym (at_drop_all (λ (l : List Wire). stepped_all es rows (books_of c.loop-w.self) (numbers_of l)) ws c.loop-w.w-index c.loop-w-test.false)
    ∙ c.loop-w.invariant.so_far
    ∙ passed_by es rows (books_of b) c.args.seat.row.0 c.args.seat.arity c.index_mut-here.result.now (omega (arith, c.requires.fit.0)) c.index_mut-here.ensures.value
