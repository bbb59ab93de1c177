use Rattle.std.proofs.Common.{◌≡◌, [], ◌++◌, drop, vec_items}
use Rattle.theory.specs.Ports.{bit_places}
use Rattle.machine.proofs.tables.KnownRows.push_bits.Given as goal

-- the places so far and those of the rows left are all
abbrev pub invariant-loop-r : goal.invariant-loop-r
invariant-loop-r l = vec_items l.places ++ bit_places [] l.self.rows.now l.r (drop l.r l.self.rows.now) ≡ vec_items l.initial.places ++ bit_places [] l.self.rows.now 0 l.self.rows.now
