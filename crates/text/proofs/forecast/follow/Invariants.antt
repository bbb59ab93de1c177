use Rattle.std.proofs.Common.{◌≡◌, ◌-◌, true, vec_items}
use Rattle.theory.specs.Finals.{followed}
use Rattle.theory.specs.Ports.{is_place}
use Rattle.text.proofs.forecast.follow.Given as goal

-- what is left to follow leads to the same place
abbrev pub invariant-loop : goal.invariant-loop
invariant-loop l =
    (is_place (vec_items l.machine.types) (vec_items l.machine.rows) l.p ≡ true)
    × (followed (vec_items l.machine.types) (vec_items l.machine.rows) l.times l.initial.p
    ≡ followed (vec_items l.machine.types) (vec_items l.machine.rows) (l.times - l.counter) l.p)
