-- Worked derivations on the machine, by computation.
use Rattle.std.proofs.Common.{refl}
use Rattle.derivation.specs.Format.{derivation_of, parse, cut}
use Rattle.basics.specs.Sets.{has, only, union, without}
use Rattle.derivation.specs.Growth.{grown}
use Rattle.derivation.specs.Faults.{first_fault}
use Rattle.derivation.specs.Trees.{trees}
use Rattle.derivation.specs.Rows.{environments, taken}
use Rattle.derivation.specs.Places.{given, places}
use Rattle.theory.specs.Ports.{next, starts, ends}
use Rattle.theory.specs.Tokens.{move}
use Rattle.theory.specs.Examples.{Examples}

pub examples : Examples
unfolding derivation_of parse cut first_fault grown trees environments taken given places has only union without next starts ends move
examples = record {
  bell_counts = refl;
  bell_swept = refl;
  bell_twice = refl;
  bell_waits = refl;
  swap_swept = refl;
  hx_swept = refl;
  cx_swept = refl;
}
