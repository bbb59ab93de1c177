-- The search answers the number of the first end that passes the test; a byte holds it if it is less than 256.
use Rattle.std.proofs.Common.{◌≡◌, cond, ltb, length, Some, None, vec_items, sym, ap, ◌∙◌, rules}
use Rattle.std.proofs.lemmas.Iterator.{YieldsList-from_slice}
use Rattle.std.proofs.lemmas.Iterator.Search.{position_from_yields_List}
use Rattle.derivation.specs.contracts.rows.PlacePartialEq.TheImpl.{ghosts as equality}
use Rattle.theory.specs.Ports.{ends as ends_of}
use Rattle.theory.specs.Tokens.{wire_at}
use Rattle.machine.proofs.PlaceTests.{end_none, end_some, first_place}
use Rattle.machine.proofs.machine.Machine.end_number.Goals as goal
use Rattle.machine.proofs.machine.Machine.end_number.Goals.{After-position}

-- the search's answer, by the number of the first end that is p
counted : (c : After-position) → let ends = ends_of (vec_items c.args.self.now.types) (vec_items c.args.self.now.rows) in
    c.position.result ≡ cond (ltb (wire_at ends c.args.p) (length ends)) (Some (wire_at ends c.args.p)) None
counted c =
    let p = c.args.p in
    let ends = vec_items c.args.self.now.ends in
    position_from_yields_List (λ q. equality.eq q p) _ _ c.position.result c.position.ensures.ran (YieldsList-from_slice ends cc) (λ x b q k. search rules)
    ∙ ap (λ n. cond (ltb n (length ends)) (Some n) None) (first_place ends p)
    ∙ ap (λ ps. cond (ltb (wire_at ps p) (length ps)) (Some (wire_at ps p)) None) c.args.self.now.ended

pub returns-in-Some : goal.returns-in-Some
returns-in-Some c =
    let before = (goal.at.returns-in-Some c).After-position in
    let ends = ends_of (vec_items c.args.self.now.types) (vec_items c.args.self.now.rows) in
    let w = wire_at ends c.args.p in
    let k = c.in-Some.n in
    let made : c.map.result ≡ cond (ltb k 256) (Some (record { 0 = k })) None = search rules in
    made ∙ end_some k w (ltb w (length ends)) (sym c.in-Some.is ∙ counted before)

pub returns-in-None : goal.returns-in-None
returns-in-None c =
    let before = (goal.at.returns-in-None c).After-position in
    let ends = ends_of (vec_items c.args.self.now.types) (vec_items c.args.self.now.rows) in
    let w = wire_at ends c.args.p in
    let none = end_none w (ltb w (length ends)) (ltb w 256) (sym c.in-None.is ∙ counted before) in
    search rules
