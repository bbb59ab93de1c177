use Rattle.std.proofs.Common.{◌≡◌, map, take, vec_items}
use Rattle.derivation.specs.Trees.{trees}
use Rattle.machine.specs.Facts.{facts_of}
use Rattle.machine.proofs.tables.type_facts.Given as goal

-- the facts of the entries so far
abbrev pub invariant-loop-entry : goal.invariant-loop-entry
invariant-loop-entry l = vec_items l.facts ≡ map facts_of (trees (take l.entry-index l.types))
