-- What is said of a derivation before anything moves, as text.
use Rattle.std.specs.Prelude.{ℕ, List, ◌++◌, Ok, Err, codes, decimal, Result}
use Rattle.basics.specs.declared.refusal.Refusal.{Refusal}
use Rattle.basics.specs.Refusals.{refusal_words}
use Rattle.derivation.specs.declared.types.TypeEntry.{TypeEntry}
use Rattle.derivation.specs.declared.rows.Row.{Row}
use Rattle.derivation.specs.declared.rows.Start.{Start}
use Rattle.derivation.specs.Accepted.{Derivation}
use Rattle.derivation.specs.Format.{derivation_of}
use Rattle.derivation.specs.Places.{wires, gate_rows, moves}
use Rattle.derivation.specs.Starts.{starts, start_word}
use Rattle.text.specs.Lines.{numbered}

-- the line of a wire: its number and how it starts
abbrev pub start_line : ℕ → Start → List ℕ
start_line k s = decimal k ++ (codes " " ++ (start_word s ++ codes "\n"))

-- a line for each wire from k on
abbrev pub start_lines : ℕ → List Start → List ℕ
start_lines = numbered start_line

abbrev pub counts_line : ℕ → ℕ → ℕ → List ℕ
counts_line w g n = codes "wires " ++ (decimal w ++ (codes " gates " ++ (decimal g ++ (codes " moves " ++ (decimal n ++ codes "\n")))))

abbrev pub refusal_line : Refusal → List ℕ
refusal_line e = refusal_words e ++ codes "\n"

-- the numbers of a derivation, and how each of its wires starts
abbrev pub derivation_text : List TypeEntry → List Row → List ℕ
derivation_text es rows = counts_line (wires es rows) (gate_rows rows) (moves es rows) ++ start_lines 0 (starts es rows)

abbrev pub result_text : Result Derivation Refusal → List ℕ
result_text (Ok d) = derivation_text d.types d.rows
result_text (Err e) = refusal_line e

-- what is said of some bytes
abbrev pub booking_text : List ℕ → List ℕ
booking_text bytes = result_text (derivation_of bytes)
