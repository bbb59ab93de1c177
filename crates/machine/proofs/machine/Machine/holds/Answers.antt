use Rattle.std.proofs.Common.{◌≡◌, false, unwrap_or, vec_items, ap, ◌∙◌, rules}
use Rattle.std.specs.Option.{option_map}
use Rattle.basics.specs.Sets.{has}
use Rattle.machine.specs.declared.tables.RowFacts.{RowFacts}
use Rattle.machine.proofs.MoveTables.{env_found}
use Rattle.machine.proofs.machine.Machine.holds.Goals as goal

pub returns : goal.returns
returns c =
    let m = c.args.self.now in
    let read : c.is_some_and.result ≡ unwrap_or (option_map (λ (f : RowFacts). has f.env c.args.z.0) c.fact.result) false = search rules in
    read ∙ ap (λ o. unwrap_or (option_map (λ (f : RowFacts). has f.env c.args.z.0) o) false) c.fact.ensures ∙ env_found (vec_items m.types) (vec_items m.rows) c.args.r.0 c.args.z.0
