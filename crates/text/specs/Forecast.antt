-- What is said of a derivation before anything moves, with the wire at each end, as text.
use Rattle.std.specs.Prelude.{ℕ, List, ◌++◌, Ok, Err, codes, decimal, Result}
use Rattle.basics.specs.declared.refusal.Refusal.{Refusal}
use Rattle.derivation.specs.Accepted.{Derivation}
use Rattle.derivation.specs.Format.{derivation_of}
use Rattle.theory.specs.Finals.{end_wires}
use Rattle.text.specs.Booking.{derivation_text, refusal_line}
use Rattle.text.specs.Lines.{numbered}

-- the line of an end: its number and the wire that will stand there
abbrev pub end_line : ℕ → ℕ → List ℕ
end_line k w = codes "end " ++ (decimal k ++ (codes " " ++ (decimal w ++ codes "\n")))

-- a line for each end from k on
abbrev pub end_lines : ℕ → List ℕ → List ℕ
end_lines = numbered end_line

-- what is said of a derivation before anything moves
abbrev pub forecast : Result Derivation Refusal → List ℕ
forecast (Ok d) = derivation_text d.types d.rows ++ end_lines 0 (end_wires d.types d.rows)
forecast (Err e) = refusal_line e

abbrev pub forecast_text : List ℕ → List ℕ
forecast_text bytes = forecast (derivation_of bytes)
