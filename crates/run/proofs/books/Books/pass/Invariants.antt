-- Steps of the wires that are left are steps of all. No step loses a token, and the books stay fit.
use Rattle.std.proofs.Common.{◌≡◌, length, drop, vec_items}
use Rattle.target.specs.Interface.{numbers_of}
use Rattle.run.specs.Books.{FitFor, books_of, stepped_all}
use Rattle.run.proofs.books.Books.pass.Given as goal

abbrev pub invariant-loop-w : goal.invariant-loop-w
invariant-loop-w l = record {
  so_far : stepped_all (vec_items l.machine.types) (vec_items l.machine.rows) (books_of l.self) (numbers_of (drop l.w-index l.w-items)) ≡ stepped_all (vec_items l.machine.types) (vec_items l.machine.rows) (books_of l.initial.self) (numbers_of l.w-items);
  fit : FitFor l.machine l.self;
  none_lost : length (vec_items l.self.places) ≡ length (vec_items l.initial.self.places);
}
