-- What is kept of the wires that can move says which is the lowest.
use Rattle.std.proofs.Common.{ℕ, vec_items, sym, ap}
use Rattle.std.specs.Option.{option_map}
use Rattle.run.specs.Books.{books_of}
use Rattle.run.proofs.SweepSteps.{ready-first, ready_none}
use Rattle.run.proofs.run.Run.lowest.Goals as goal

pub returns-then-ready-eq0 : goal.returns-then-ready-eq0
returns-then-ready-eq0 c =
    let run = c.args.self.now in
    ap (option_map (λ (n : ℕ). record { 0 = n })) (sym (ready_none (vec_items run.machine.types) (vec_items run.machine.rows) (books_of run.books) run.kept c.if-ready-eq0.true))

pub returns : goal.returns
returns c =
    let run = c.args.self.now in
    ap (option_map (λ (n : ℕ). record { 0 = n })) (sym (ready-first (vec_items run.machine.types) (vec_items run.machine.rows) (books_of run.books) run.kept c.if-ready-eq0.false))
