-- What the bit register comes to, wire by wire, and a worked example.
use Rattle.std.specs.Prelude.{◌≡◌, true, [], ◌∷◌}
use Rattle.basics.specs.declared.gate.Gate.TheVariants.{Cx}
use Rattle.basics.specs.Sets.{has}
use Rattle.register.specs.Register.{Contents, FlipsOne, PreparesEach, acted, prepared}

-- begin with wire 0 one and wire 1 zero, then cx: both bits are 1, and the phase is 0
abbrev pub CxCopies : Type 0
CxCopies =
    (s : Contents) →
    let after = acted Cx (0 ∷ 1 ∷ []) (prepared 3 0 1 s) in
    (has after.bits 0 ≡ true) × (has after.bits 1 ≡ true) × (after.phase ≡ 0)

pub record Laws : Type 0 where
  pub flips_one : FlipsOne
  pub prepares_each : PreparesEach
  pub cx_copies : CxCopies
