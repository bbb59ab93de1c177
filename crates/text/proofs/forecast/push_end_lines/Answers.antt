-- Each turn appends the line of one end.
use Rattle.std.proofs.Common.{◌≡◌, ℕ, ◌<◌, map, get_or, string_bytes, sym, ◌∙◌}
use mathlib.Core.Path.{subst⁻¹}
use Rattle.std.proofs.lemmas.List.{length-map, get_or-map}
use Rattle.theory.specs.Tokens.{no_place, wire_at}
use Rattle.text.specs.Forecast.{end_line}
use Rattle.text.proofs.LineLaws.{numbered-more}
use Rattle.text.proofs.forecast.push_end_lines.Goals as goal

pub loop-end-preserved : goal.loop-end-preserved
loop-end-preserved c =
    let ends = c.args.ends.now in
    let end = c.loop-end.end-counter in
    let wires = map (wire_at c.args.places.now) ends in
    let wire : c.position-wire.result ≡ get_or wires end 0 =
    c.position-wire.ensures ∙ sym (get_or-map (wire_at c.args.places.now) ends end no_place 0 c.loop-end-test.true) in
    rw wire at c.in_ok-write.ensures.bytes
    ∙ numbered-more end_line (string_bytes c.args.text.now) wires end 0 (subst⁻¹ (λ (n : ℕ). end < n) (length-map ends (wire_at c.args.places.now)) c.loop-end-test.true) c.loop-end.invariant
