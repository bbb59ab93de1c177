use Rattle.std.proofs.Common.{◌≡◌, ◌++◌, take, string_bytes}
use Rattle.text.specs.Booking.{start_lines}
use Rattle.text.proofs.booking.push_start_lines.Given as goal

-- the lines of the wires so far are appended
abbrev pub invariant-loop-wire : goal.invariant-loop-wire
invariant-loop-wire l = string_bytes l.text ≡ string_bytes l.initial.text ++ start_lines 0 (take l.wire-counter l.starts)
