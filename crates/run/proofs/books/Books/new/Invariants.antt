-- Settling the wires that are left settles all, and the books stay fit.
use Rattle.std.proofs.Common.{◌≡◌, drop, vec_items}
use Rattle.run.specs.Books.{Fit, books_of, settled_from}
use Rattle.run.proofs.books.Books.new.Given as goal

abbrev pub invariant-loop-w : goal.invariant-loop-w
invariant-loop-w l =
    (settled_from (vec_items l.machine.types) (vec_items l.machine.rows) (books_of l.books) l.w (drop l.w l.starts) ≡ settled_from (vec_items l.machine.types) (vec_items l.machine.rows) (books_of l.initial.books) 0 l.starts)
    × Fit (vec_items l.machine.types) (vec_items l.machine.rows) (books_of l.books)
