-- A run over the copy of a holder's derivation, and a target that begins with its wires.
use Rattle.std.proofs.Common.{vec_items, sym, ◌∙◌, ap₂}
use Rattle.derivation.specs.Starts.{starts as how_started}
use Rattle.derivation.proofs.AcceptedLaws.{accepted_from_valid}
use Rattle.theory.proofs.Assembled.{theory}
use Rattle.run.proofs.Guaranteed.{guarantee}
use Rattle.run.proofs.Opened.{few-starts, few-wires, not_refused, sets-known, used-known}
use Rattle.run.proofs.run.Run.open.Goals as goal

pub start_sets-given-requires : goal.start_sets-given-requires
start_sets-given-requires g c =
    let h = c.args.holder.now in
    let run = c.in_ok-run.run' in
    let (types, of-rows, tokens, moves) = c.in_ok-run.ensures in
    few-starts (vec_items h.types) (vec_items h.rows) (vec_items run.starts) c.deref.result.now c.deref.ensures.value (run.started ∙ ap₂ how_started types of-rows) h.accepted

pub first_wires-requires : goal.first_wires-requires
first_wires-requires g c =
    let h = c.args.holder.now in
    few-wires (vec_items h.types) (vec_items h.rows) h.accepted c.wires.result c.wires.ensures

pub returns-clause-guarantee : goal.returns-clause-guarantee
returns-clause-guarantee g c =
    let h = c.args.holder.now in
    let es = vec_items h.types in
    let rows = vec_items h.rows in
    let T = g.T.Target in
    let run = c.in_ok-run.run' in
    let before = c.args.target.now in
    let used = c.first_wires.result in
    let sets = c.start_sets-given.result in
    let of-used = used-known es rows used c.wires.result c.first_wires.ensures c.wires.ensures in
    let (types, of-rows, tokens, moves) = c.in_ok-run.ensures in
    let (of-given, of_ones) = sets-known es rows (vec_items run.starts) c.deref.result.now c.deref.ensures.value (run.started ∙ ap₂ how_started types of-rows) sets c.start_sets-given.ensures in
    let fine = not_refused T.view T.taken T.begun es rows before c.check_fit.new.target c.check_fit.ensures.same used sets.0 sets.1 of-used of-given of_ones (sym c.in_ok-check_fit.ensures.value) c.in_ok-begin.ensures.obeys.0 in
    guarantee T.taken T.begun T.applied g.met.T.Target.commutes es rows (theory es rows (accepted_from_valid es rows h.accepted)) (T.view before) fine
