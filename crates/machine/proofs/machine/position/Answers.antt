-- The search answers the number of the first place that passes the test.
use Rattle.std.proofs.Common.{ltb, cond, length, Some, None, ap, rules}
use Rattle.std.proofs.lemmas.Iterator.{YieldsList-from_slice}
use Rattle.std.proofs.lemmas.Iterator.Search.{position_from_yields_List}
use Rattle.derivation.specs.contracts.rows.PlacePartialEq.TheImpl.{ghosts as equality}
use Rattle.machine.proofs.PlaceTests.{first_place, found_or_all}
use Rattle.machine.proofs.machine.position.Goals as goal

pub returns : goal.returns
returns c =
    let ps = c.args.places.now in
    let found = position_from_yields_List (λ q. equality.eq q c.args.p) _ _ c.position.result c.position.ensures.ran (YieldsList-from_slice ps cc) (λ x b q k. search rules) in
    let counted = ap (λ n. cond (ltb n (length ps)) (Some n) None) (first_place ps c.args.p) in
    let all = found_or_all ps c.args.p in
    cc
