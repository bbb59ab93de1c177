use Rattle.std.proofs.Common.{◌≡◌, ◌++◌, vec_items}
use Rattle.machine.specs.Facts.{is_positive, signed}
use Rattle.machine.proofs.tables.PartFacts.push_places.Given as goal

-- the places of the atoms so far
abbrev pub invariant-loop-i : goal.invariant-loop-i
invariant-loop-i l = vec_items l.places ≡ vec_items l.initial.places ++ signed (is_positive l.polarity) l.self.ty.signs l.self.row.0 l.self.part l.i
