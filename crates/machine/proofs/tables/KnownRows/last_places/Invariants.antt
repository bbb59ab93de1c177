use Rattle.std.proofs.Common.{◌≡◌, ◌-◌, length, not, vec_items}
use Rattle.machine.specs.Facts.{is_positive, signed_held}
use Rattle.machine.proofs.tables.KnownRows.last_places.Given as goal

-- the places in the variables so far
abbrev pub invariant-loop-x : goal.invariant-loop-x
invariant-loop-x l = vec_items l.places ≡ signed_held l.self.facts.now (not (is_positive l.polarity)) (length l.self.facts.now - 1) l.x
