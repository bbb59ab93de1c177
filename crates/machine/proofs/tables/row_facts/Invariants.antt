use Rattle.std.proofs.Common.{◌≡◌, length, map, vec_items}
use Rattle.derivation.specs.Places.{numbers}
use Rattle.machine.specs.Facts.{facts_at}
use Rattle.machine.proofs.tables.row_facts.Given as goal

-- the facts of the rows so far
abbrev pub invariant-loop-row : goal.invariant-loop-row
invariant-loop-row l = vec_items l.facts ≡ map (facts_at l.types l.rows) (numbers 0 (length l.yielded))
