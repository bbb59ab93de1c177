-- The text of the derivation, and then the lines of its ends.
use Rattle.std.proofs.Common.{◌≡◌, ℕ, List, ◌++◌, ◌∙◌, ap₂, vec_items, rules}
use Rattle.text.specs.Forecast.{end_lines}
use Rattle.text.proofs.ForecastLaws.{end-wires}
use Rattle.text.proofs.forecast.held_text.Goals as goal

pub returns : goal.returns
returns c =
    let same : (vec_items c.in_ok-machine.machine.types ≡ vec_items c.args.holder.now.types) × (vec_items c.in_ok-machine.machine.rows ≡ vec_items c.args.holder.now.rows) = search rules in
    c.in_ok-push_end_lines.ensures
    ∙ ap₂ (λ (t ws : List ℕ). t ++ end_lines 0 ws) c.in_ok-text.ensures
    (end-wires same.0 same.1 c.moves.ensures (c.as_slice.ensures.value ∙ c.in_ok-places.ensures) c.ends.ensures)
