-- A run over the copy of a holder's derivation, with its tokens at their starts.
use Rattle.std.proofs.Common.{vec_items, sym, refl, ◌∙◌, ap₂}
use Rattle.derivation.specs.Starts.{starts as how_started}
use Rattle.theory.specs.Ports.{starts}
use Rattle.run.specs.Books.{books_of}
use Rattle.run.proofs.Fresh.{fresh-reached, fresh-right, fresh-tokens, still_ok}
use Rattle.run.proofs.run.Run.over.Goals as goal

pub invariant_of-result : goal.invariant_of-result
invariant_of-result c =
    let m = c.in_ok-machine.machine in
    let es = vec_items m.types in
    let rows = vec_items m.rows in
    let b = books_of c.in_ok-books.books in
    let (types, same_rows) = still_ok _ _ _ c.new.result c.new.ensures.copied c.map_err.ensures.cases c.map_err.ensures.variant c.in_ok-machine.was in
    let begun = still_ok _ _ _ c.new-2.result c.new-2.ensures c.map_err-2.ensures.cases c.map_err-2.ensures.variant c.in_ok-books.was in
    let listed = still_ok _ _ _ c.starts.result c.starts.ensures c.map_err-3.ensures.cases c.map_err-3.ensures.variant c.in_ok-starts.was in
    record {
      started = listed ∙ sym (ap₂ how_started types same_rows);
      reached = fresh-reached es rows m.accepted b begun;
      kept = fresh-right es rows m.accepted b begun;
    }

pub returns : goal.returns
returns c =
    let m = c.in_ok-machine.machine in
    let (types, rows) = still_ok _ _ _ c.new.result c.new.ensures.copied c.map_err.ensures.cases c.map_err.ensures.variant c.in_ok-machine.was in
    let begun = still_ok _ _ _ c.new-2.result c.new-2.ensures c.map_err-2.ensures.cases c.map_err-2.ensures.variant c.in_ok-books.was in
    (types, rows, fresh-tokens (vec_items m.types) (vec_items m.rows) m.accepted (books_of c.in_ok-books.books) begun ∙ ap₂ starts types rows, refl)
