use Rattle.std.proofs.Common.{refl}
use Rattle.register.specs.RegisterLaws.{flips_one, prepares_each, cx_copies}
use Rattle.register.proofs.laws.laws_stand.Goals as goal

pub returns : goal.returns
returns c = (refl, record { flips_one = flips_one; prepares_each = prepares_each; cx_copies = cx_copies })
