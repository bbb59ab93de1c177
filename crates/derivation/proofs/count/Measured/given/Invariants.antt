use Rattle.std.proofs.Common.{◌≡◌, ◌+◌, ◌*◌, ◌≤◌}
use Rattle.derivation.proofs.CountLaws.{given_to}
use Rattle.derivation.proofs.count.Measured.given.Given as goal

-- the negative places in the last row's type, and those in its variables among the rows so far
abbrev pub invariant-loop-x : goal.invariant-loop-x
invariant-loop-x l = record { counted : l.count ≡ given_to l.self.types.now l.self.rows.now l.env l.x; small : l.count ≤ 16 + 16 * l.x }
