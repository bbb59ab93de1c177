use Rattle.std.proofs.Common.{◌≡◌, ◌≤◌, unwrap_or, vec_items, ap, ◌∙◌, rules}
use mathlib.Core.Path.{subst⁻¹}
use Rattle.std.specs.Option.{option_map}
use Rattle.machine.specs.declared.tables.RowFacts.{RowFacts}
use Rattle.machine.specs.declared.tables.TypeFacts.{TypeFacts}
use Rattle.machine.proofs.MoveTables.{type_found, width_small}
use Rattle.machine.proofs.machine.Machine.ty.Goals as goal

value : goal.returns-clause-value
value c =
    let m = c.args.self.now in
    let read : c.map_or.result ≡ unwrap_or (option_map (λ (f : RowFacts). f.ty) c.fact.result) (record { width = 1; signs = 1 }) = search rules in
    read ∙ ap (λ o. unwrap_or (option_map (λ (f : RowFacts). f.ty) o) (record { width = 1; signs = 1 })) c.fact.ensures ∙ type_found (vec_items m.types) (vec_items m.rows) c.args.r.0

pub returns-clause-value : goal.returns-clause-value
returns-clause-value c = value c

pub returns-clause-few : goal.returns-clause-few
returns-clause-few c =
    let m = c.args.self.now in
    subst⁻¹ (λ (t : TypeFacts). t.width ≤ 16) (value c) (width_small (vec_items m.types) (vec_items m.rows) m.accepted c.args.r.0)
