-- Worked programs, by computation.
use Rattle.std.proofs.Common.{refl}
use Rattle.derivation.specs.Format.{derivation_of, parse, cut}
use Rattle.basics.specs.Sets.{has, only, union, without}
use Rattle.derivation.specs.Growth.{grown}
use Rattle.derivation.specs.Faults.{first_fault}
use Rattle.derivation.specs.Trees.{trees}
use Rattle.derivation.specs.Rows.{environments, taken}
use Rattle.derivation.specs.Places.{given, places}
use Rattle.theory.specs.Ports.{next, starts, ends}
use Rattle.theory.specs.Tokens.{move}
use Rattle.run.specs.Calls.{lowest, move_of, sweep_of}
use Rattle.worked.specs.Programs.{Programs}

pub programs : Programs
unfolding derivation_of parse cut first_fault grown trees environments taken given places has only union without next starts ends move lowest move_of sweep_of
programs = record {
  bell_walked = refl;
  new_swept = (refl, refl, refl);
  hx_counted = refl;
  swap_walked = refl;
  cx_walked = (refl, refl);
  empty_refused = refl;
  bell_refused = refl;
  bell_waits = refl;
  bell_unfit = (refl, refl);
}
