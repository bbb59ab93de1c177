-- What begins and gates make of the wires in use and the gates since begin.
use Rattle.std.specs.Prelude.{ℕ, ◌+◌, Bool, cond, not, List, Ok, Err, Result, nat_le}
use Rattle.basics.specs.declared.gate.Gate.{Gate}
use Rattle.basics.specs.declared.refusal.Refusal.{Refusal}
use Rattle.basics.specs.declared.refusal.Refusal.TheVariants.{AtCapacity, NotTaken, WireMisuse, WireSets}
use Rattle.target.specs.declared.usage.Usage.{Usage}
use Rattle.target.specs.Interface.{seated, sets_fit}

-- after a begin with sets that fit, no gate was applied
abbrev pub usage_begun : ℕ → ℕ → ℕ → ℕ → Result Usage Refusal
usage_begun width used given ones = cond (sets_fit width used given ones) (Ok (record { used = used; count = 0 })) (Err WireSets)

-- a gate counts if its code is taken, it is seated, and there is room for it
abbrev pub usage_applied : Bool → ℕ → Usage → Gate → List ℕ → Result Usage Refusal
usage_applied taken capacity u g ws =
    cond (not taken) (Err (NotTaken g))
    (cond (not (seated u.used g ws)) (Err (WireMisuse g))
    (cond (nat_le capacity u.count) (Err (AtCapacity g)) (Ok (record { used = u.used; count = u.count + 1 }))))
