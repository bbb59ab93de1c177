use Rattle.std.proofs.Common.{◌≡◌, map, take, vec_items}
use Rattle.theory.specs.Finals.{followed}
use Rattle.theory.specs.Ports.{starts}
use Rattle.text.proofs.forecast.last_places.Given as goal

-- the last places of the wires so far
abbrev pub invariant-loop-start : goal.invariant-loop-start
invariant-loop-start l =
    vec_items l.places
    ≡ map (followed (vec_items l.machine.types) (vec_items l.machine.rows) l.times) (take l.start-index (starts (vec_items l.machine.types) (vec_items l.machine.rows)))
