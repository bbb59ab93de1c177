use Rattle.derivation.proofs.check.+is_power.Given as goal

abbrev pub decreases-is_power : goal.decreases-is_power
decreases-is_power l = l.n
