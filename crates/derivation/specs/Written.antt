-- Writing: what a call answers, and what the buffer then holds.
use Rattle.std.specs.Prelude.{ℕ, cond, List, ◌++◌, length, drop, Ok, Err, Result, nat_le}
use Rattle.derivation.specs.declared.types.TypeEntry.{TypeEntry}
use Rattle.derivation.specs.declared.rows.Row.{Row}
use Rattle.basics.specs.declared.refusal.Refusal.{Refusal}
use Rattle.basics.specs.declared.refusal.Refusal.TheVariants.{BufferTooShort}
use Rattle.derivation.specs.Format.{encode}

-- a list in which xs stands at the front, in place of what was there
abbrev pub put_front : List ℕ → List ℕ → List ℕ
put_front s xs = xs ++ drop (length xs) s

-- what write answers for a buffer of n bytes
abbrev pub write_answer : List TypeEntry → List Row → ℕ → Result ℕ Refusal
write_answer es rows n = cond (nat_le (length (encode es rows)) n) (Ok (length (encode es rows))) (Err (BufferTooShort (length (encode es rows))))

-- what the buffer then holds: the bytes at its front, the rest as it was; or, refused, all as it was
abbrev pub write_after : List TypeEntry → List Row → List ℕ → List ℕ
write_after es rows buffer = cond (nat_le (length (encode es rows)) (length buffer)) (put_front buffer (encode es rows)) buffer
