use Rattle.std.proofs.Common.{◌≡◌, ◌++◌, map, take, string_bytes}
use Rattle.theory.specs.Tokens.{wire_at}
use Rattle.text.specs.Forecast.{end_lines}
use Rattle.text.proofs.forecast.push_end_lines.Given as goal

-- the lines of the ends so far are appended
abbrev pub invariant-loop-end : goal.invariant-loop-end
invariant-loop-end l = string_bytes l.text ≡ string_bytes l.initial.text ++ end_lines 0 (take l.end-counter (map (wire_at l.places) l.ends))
