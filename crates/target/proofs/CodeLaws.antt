-- The set of all gate codes.
use Rattle.std.proofs.Common.{refl}
use Rattle.basics.specs.declared.gate.Gate.TheVariants.{H, S, T, X, Z, Cx, Cz, Ccx}
use Rattle.basics.specs.Sets.{has}
use Rattle.target.specs.Interface.{Coded, all_codes}

pub all_coded : Coded 510 all_codes
unfolding has
all_coded H = refl
all_coded S = refl
all_coded T = refl
all_coded X = refl
all_coded Z = refl
all_coded Cx = refl
all_coded Cz = refl
all_coded Ccx = refl
