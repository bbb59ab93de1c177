-- What the search over the rows finds.
use Rattle.std.proofs.Common.{◌≡◌, Bool, not, sym, ap, ◌∙◌, rules, tests}
use Rattle.std.specs.Option.{option_map}
use Rattle.std.proofs.lemmas.Iterator.{YieldsList-from_slice}
use Rattle.std.proofs.lemmas.Iterator.Adapters.{position_from-zero}
use Rattle.std.proofs.lemmas.Iterator.Search.{position_from_yields_List}
use Rattle.derivation.specs.declared.rows.Row.{Row}
use Rattle.run.specs.Opening.{not_taken, walkable}
use Rattle.run.proofs.OpenSteps.{not_taken-found}
use Rattle.run.proofs.run.gate_not_taken.Given.{Over}
use Rattle.run.proofs.run.gate_not_taken.Goals as goal
use Rattle.run.proofs.run.gate_not_taken.Goals.{After-position}

found : (g : Over) (c : After-position g) → c.position.result ≡ not_taken g.T.Target.taken 0 c.args.rows.now
found g c =
    let test : Row → Bool = λ row. not (walkable g.T.Target.taken row.rule) in
    let at : c.position.result ≡ _ = position_from_yields_List (λ row. not (walkable g.T.Target.taken row.rule)) _ _ c.position.result c.position.ensures.ran (YieldsList-from_slice c.args.rows.now cc) (λ x b q k. search (rules, tests)) in
    at ∙ position_from-zero test c.args.rows.now ∙ not_taken-found g.T.Target.taken 0 c.args.rows.now

pub returns-in_err-r : goal.returns-in_err-r
returns-in_err-r g c = c.from_residual.ensures ∙ ap (option_map (λ n. record { 0 = n })) (sym c.in_err-r.was ∙ found g (goal.at.returns-in_err-r g c).After-position)

pub returns : goal.returns
returns g c = ap (option_map (λ n. record { 0 = n })) (sym c.in_ok-r.was ∙ found g (goal.at.returns g c).After-position)
