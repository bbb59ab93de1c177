-- There is a next place, or the token stays.
use Rattle.std.proofs.Common.{Some, None, vec_items, ◌∙◌}
use Rattle.run.specs.Books.{books_of}
use Rattle.run.proofs.BookSteps.{stepped_by}
use Rattle.run.proofs.books.Books.step.Goals as goal

pub returns-in-Some : goal.returns-in-Some
returns-in-Some c =
    let m = c.args.machine.now in
    c.settle.ensures
    ∙ stepped_by (vec_items m.types) (vec_items m.rows) (books_of c.args.self.now) c.args.w.0 c.index.result.now (Some c.in-Some.q) c.requires.wire c.index.ensures c.in-Some.ensures

pub returns-in_default : goal.returns-in_default
returns-in_default c =
    let m = c.args.machine.now in
    stepped_by (vec_items m.types) (vec_items m.rows) (books_of c.args.self.now) c.args.w.0 c.index.result.now None c.requires.wire c.index.ensures c.in_default.ensures
