use Rattle.std.proofs.Common.{◌≡◌, take, drop}
use Rattle.derivation.specs.Faults.{first_fault}
use Rattle.channel_map.specs.Channels.{entry_fault, table_fault}
use Rattle.channel_map.proofs.channels.check_table.Given as goal

-- no entry so far is at fault
abbrev pub invariant-loop-i : goal.invariant-loop-i
invariant-loop-i l = table_fault l.table ≡ first_fault entry_fault (λ c. c) (take l.i l.table) (drop l.i l.table)
