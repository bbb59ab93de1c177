-- Each row adds what the tables have of it.
use Rattle.std.proofs.Common.{◌≡◌, ◌<◌, ◌≤◌, ℕ, List, [], ◌∷◌, ◌++◌, length, get_or, map, Bor, Option, vec_items, sym, ap, ◌∙◌, ap₂, arith}
use Rattle.std.proofs.lemmas.List.{length_push}
use Rattle.std.specs.List.{zip}
use Rattle.std.proofs.iter.Yields.{fronts}
use Rattle.std.proofs.lemmas.Iterator.{YieldsList, zips, YieldsList-from_slice, YieldsList-from_zip}
use Rattle.std.proofs.lemmas.Iterator.Consumers.{YieldsList-turn, YieldsList-end}
use Rattle.basics.specs.declared.numbers.RowId.{RowId}
use Rattle.derivation.specs.declared.rows.Row.{Row}
use Rattle.derivation.specs.Places.{numbers}
use Rattle.derivation.proofs.RowChecks.{length-environments}
use Rattle.machine.specs.declared.tables.RowFacts.{RowFacts}
use Rattle.machine.specs.Facts.{facts_at}
use Rattle.machine.proofs.FactLaws.{length-facts, rows-few, map-numbers, row_fact, row_turn, length-joined_rows}
use Rattle.machine.proofs.tables.row_facts.Goals as goal
use Rattle.machine.proofs.tables.row_facts.Goals.{After-into_iter-row-iterator}

pub below_rows-below-requires-clause-lower : goal.below_rows-below-requires-clause-lower
below_rows-below-requires-clause-lower c = rows-few c.args.types.now c.args.rows.now c.requires.accepted

-- as many environments as rows, and as many rows below as rows or more
as_many : (c : After-into_iter-row-iterator) → length c.args.envs.now ≡ length c.args.rows.now
as_many c = ap length c.requires.surrounded ∙ length-environments c.args.rows.now

enough : (c : After-into_iter-row-iterator) → length c.args.rows.now ≤ length c.below_rows-below.result
enough c = omega (arith, c.requires.accepted.few, c.below_rows-below.ensures.size)

-- what the loop goes over
chain : (c : After-into_iter-row-iterator)
    → YieldsList (zips fronts (zips fronts fronts)) (λ (p : Bor Row × (Bor ℕ × Bor (Option RowId))). (p.0.now, (p.1.0.now, p.1.1.now))) c.into_iter-row-iterator.result
    (zip c.args.rows.now (zip c.args.envs.now c.below_rows-below.result))
chain c = YieldsList-from_zip (YieldsList-from_slice c.args.rows.now cc) (YieldsList-from_zip (YieldsList-from_slice c.args.envs.now cc) (YieldsList-from_slice c.below_rows-below.result cc))

pub index-requires : goal.index-requires
index-requires c =
    let rows = c.args.rows.now in
    let envs = c.args.envs.now in
    let below = c.below_rows-below.result in
    let before = (goal.at.index-requires c).After-into_iter-row-iterator in
    let i = length c.loop-row.yielded in
    let turn = YieldsList-turn (chain before) c.loop-row.yielded _ c.loop-row.yielded_by c.next.result c.next.new.self (c.in-Some.row, (c.in-Some.env, c.in-Some.below)) c.in-Some.is c.next.ensures.steps in
    let here = row_turn rows envs below (as_many before) (enough before) i (c.in-Some.row.now, (c.in-Some.env.now, c.in-Some.below.now)) turn.0 turn.1 in
    let h : i < length rows = omega (arith, turn.0, length-joined_rows rows envs below (as_many before) (enough before)) in
    omega (arith, c.in_ok-table.table.ok.0, length-facts c.args.types.now (vec_items c.in_ok-table.table) c.in_ok-table.ensures, c.requires.accepted.known i h, ap (λ (p : Row × (ℕ × Option RowId)). p.0.ty.0) here)

pub loop-row-preserved : goal.loop-row-preserved
loop-row-preserved c =
    let es = c.args.types.now in
    let rows = c.args.rows.now in
    let envs = c.args.envs.now in
    let below = c.below_rows-below.result in
    let before = (goal.at.loop-row-preserved c).After-into_iter-row-iterator in
    let i = length c.loop-row.yielded in
    let turn = YieldsList-turn (chain before) c.loop-row.yielded _ c.loop-row.yielded_by c.next.result c.next.new.self (c.in-Some.row, (c.in-Some.env, c.in-Some.below)) c.in-Some.is c.next.ensures.steps in
    let here = row_turn rows envs below (as_many before) (enough before) i (c.in-Some.row.now, (c.in-Some.env.now, c.in-Some.below.now)) turn.0 turn.1 in
    let h : i < length rows = omega (arith, turn.0, length-joined_rows rows envs below (as_many before) (enough before)) in
    let ty = c.index.result.now in
    let table = vec_items c.in_ok-table.table in
    c.in_ok-push.ensures.items
    ∙ ap₂ (λ (fs : List RowFacts) (f : RowFacts). fs ++ (f ∷ [])) c.loop-row.invariant
    (row_fact es rows i table ty c.in-Some.env.now c.in-Some.below.now (c.requires.accepted.known i h) c.in_ok-table.ensures
    (c.index.ensures ∙ ap (λ (p : Row × (ℕ × Option RowId)). get_or table p.0.ty.0 ty) here)
    (ap (λ (p : Row × (ℕ × Option RowId)). p.1.0) here ∙ ap (λ (l : List ℕ). get_or l i 0) c.requires.surrounded)
    (ap (λ (p : Row × (ℕ × Option RowId)). p.1.1) here ∙ c.below_rows-below.ensures.under i (omega (arith, c.requires.accepted.few))))
    ∙ sym (map-numbers (facts_at es rows) i)
    ∙ ap (λ n. map (facts_at es rows) (numbers 0 n)) (sym (length_push c.loop-row.yielded (c.in-Some.row, (c.in-Some.env, c.in-Some.below))))

pub returns : goal.returns
returns c =
    let rows = c.args.rows.now in
    let envs = c.args.envs.now in
    let below = c.below_rows-below.result in
    let before = (goal.at.returns c).After-into_iter-row-iterator in
    let end = YieldsList-end (chain before) c.loop-row.yielded _ c.loop-row.yielded_by c.next.result c.next.new.self c.in-None.is c.next.ensures.steps in
    c.loop-row.invariant ∙ ap (λ n. map (facts_at c.args.types.now rows) (numbers 0 n)) (end.1 ∙ length-joined_rows rows envs below (as_many before) (enough before))
