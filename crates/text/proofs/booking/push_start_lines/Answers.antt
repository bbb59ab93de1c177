-- Each turn appends the line of one wire.
use Rattle.std.proofs.Common.{◌++◌, string_bytes, ap, ◌∙◌}
use Rattle.std.proofs.lemmas.List.{take_all}
use Rattle.derivation.specs.declared.rows.Start.TheVariants.{Given}
use Rattle.text.specs.Booking.{start_line, start_lines}
use Rattle.text.proofs.LineLaws.{numbered-more}
use Rattle.text.proofs.booking.push_start_lines.Goals as goal

pub loop-wire-preserved : goal.loop-wire-preserved
loop-wire-preserved c =
    c.in_ok-write.ensures.bytes
    ∙ numbered-more start_line (string_bytes c.args.text.now) c.args.starts.now c.loop-wire.wire-counter Given c.loop-wire-test.true c.loop-wire.invariant

pub returns : goal.returns
returns c =
    c.loop-wire.invariant
    ∙ ap (λ l. string_bytes c.args.text.now ++ start_lines 0 l) (take_all c.loop-wire.wire-counter c.args.starts.now c.loop-wire-test.false)
