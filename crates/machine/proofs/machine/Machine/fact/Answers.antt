use Rattle.std.proofs.Common.{◌≡◌, cond, ltb, length, get_or, Some, None, vec_items, ◌∙◌, rules}
use Rattle.machine.specs.Facts.{no_facts}
use Rattle.machine.proofs.MoveTables.{facts_found-at}
use Rattle.machine.proofs.machine.Machine.fact.Goals as goal

pub returns : goal.returns
returns c =
    let m = c.args.self.now in
    let facts = vec_items m.facts in
    let found : c.copied.result ≡ cond (ltb c.args.r.0 (length facts)) (Some (get_or facts c.args.r.0 no_facts)) None = search rules in
    found ∙ facts_found-at (vec_items m.types) (vec_items m.rows) facts m.known c.args.r.0
