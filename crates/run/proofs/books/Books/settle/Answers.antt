-- A seat, an end, or neither: the three cases of what settles.
use Rattle.std.proofs.Common.{ℕ, vec_items, ap, ◌∙◌}
use Rattle.run.specs.Books.{books_of}
use Rattle.run.proofs.BookSteps.{settled_seat, settled_home, settled_on}
use Rattle.run.proofs.books.Books.settle.Goals as goal

pub returns-in-Some : goal.returns-in-Some
returns-in-Some c =
    let m = c.args.machine.now in
    c.sit.ensures ∙ settled_seat (vec_items m.types) (vec_items m.rows) (books_of c.args.self.now) c.args.w.0 c.args.p c.in-Some.seat c.in-Some.ensures

pub returns-then-is_end : goal.returns-then-is_end
returns-then-is_end c =
    let m = c.args.machine.now in
    let b = c.args.self.now in
    ap (λ (n : ℕ). record { tokens = vec_items b.places; waiting = vec_items b.waiting; ready = n }) c.without-self.ensures
    ∙ settled_home (vec_items m.types) (vec_items m.rows) (books_of b) c.args.w.0 c.args.p c.in_default.ensures c.if-is_end.ensures

pub returns-else-is_end : goal.returns-else-is_end
returns-else-is_end c =
    let m = c.args.machine.now in
    let b = c.args.self.now in
    ap (λ (n : ℕ). record { tokens = vec_items b.places; waiting = vec_items b.waiting; ready = n }) (c.with-self.ensures.within c.requires.wire)
    ∙ settled_on (vec_items m.types) (vec_items m.rows) (books_of b) c.args.w.0 c.args.p c.in_default.ensures c.if-is_end.ensures
