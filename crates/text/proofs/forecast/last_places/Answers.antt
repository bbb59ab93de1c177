-- Each turn follows the token of one wire.
use Rattle.std.proofs.Common.{◌≡◌, ℕ, ◌<◌, true, List, length, get_or, vec_items, ap, ◌∙◌, subst}
use mathlib.Core.Path.{subst⁻¹}
use Rattle.derivation.specs.declared.rows.Place.{Place}
use Rattle.derivation.proofs.AcceptedLaws.{accepted_from_valid}
use Rattle.theory.specs.Ports.{is_place}
use Rattle.theory.specs.Tokens.{no_place}
use Rattle.theory.proofs.Starts.{start_laws}
use Rattle.text.proofs.forecast.last_places.Goals as goal

pub follow-requires : goal.follow-requires
follow-requires c =
    let es = vec_items c.args.machine.now.types in
    let rows = vec_items c.args.machine.now.rows in
    let i = c.loop-start.start-index in
    let same = c.starts-start-items.ensures in
    let laws = start_laws es rows (accepted_from_valid es rows c.args.machine.now.accepted) in
    subst⁻¹ (λ (l : List Place). is_place es rows (get_or l i no_place) ≡ true) same
    (laws.each i (subst (λ (n : ℕ). i < n) (ap length same ∙ laws.count) c.loop-start-test.true)).0
