-- Reading: what a call answers, and when it accepts.
use Rattle.std.specs.Prelude.{◌≡◌, ℕ, ◌⊎◌, ◌↔◌, List, Ok, Err, Result, ◌≢◌}
use Rattle.derivation.specs.declared.types.TypeEntry.{TypeEntry}
use Rattle.derivation.specs.declared.rows.Row.{Row}
use Rattle.basics.specs.declared.refusal.Layer.TheVariants.{Bytes}
use Rattle.basics.specs.declared.refusal.Refusal.{Refusal}
use Rattle.basics.specs.declared.refusal.Refusal.TheVariants.{OutOfMemory}
use Rattle.derivation.specs.Accepted.{Accepted}
use Rattle.derivation.specs.Format.{encode, derivation_of}

-- read answers as the definition does, and then holds its derivation; want of memory is the one other answer
abbrev pub ReadAnswers : List ℕ → Result (Unit {0}) Refusal → List TypeEntry → List Row → Type 0
ReadAnswers bytes (Ok u) es rows = derivation_of bytes ≡ Ok (record { types = es; rows = rows })
ReadAnswers bytes (Err e) es rows = (derivation_of bytes ≡ Err e) ⊎ (e ≡ OutOfMemory Bytes)

-- unless memory is wanting, read accepts with a derivation exactly if the bytes are its encoding
-- and it follows the typing rules row by row within all limits
abbrev pub ReadExact : List ℕ → Result (Unit {0}) Refusal → List TypeEntry → List Row → Type 0
ReadExact bytes r held_types held_rows =
    (r ≢ Err (OutOfMemory Bytes)) → (es : List TypeEntry) (rows : List Row) →
    ((r ≡ Ok tt) × (held_types ≡ es) × (held_rows ≡ rows)) ↔ ((bytes ≡ encode es rows) × Accepted es rows)
