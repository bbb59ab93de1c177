use Rattle.std.proofs.Common.{◌≡◌, map, take, drop, vec_items}
use Rattle.derivation.specs.Accepted.{rows_fault}
use Rattle.derivation.specs.Faults.{first_fault}
use Rattle.derivation.specs.Rows.{row_fault, row_of}
use Rattle.derivation.proofs.check.check_rows.Given as goal

-- the rows so far, of which none has a fault
abbrev pub invariant-loop-read : goal.invariant-loop-read
invariant-loop-read l =
    (vec_items l.checked.rows ≡ map row_of (take l.read-index l.records))
    × (rows_fault l.types l.records ≡ first_fault (row_fault l.types) row_of (vec_items l.checked.rows) (drop l.read-index l.records))
