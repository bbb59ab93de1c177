-- Places, and lists of them, are sets: any two proofs of an equation between them are equal.
use Rattle.std.proofs.Common.{List, ⊎_elim}
use mathlib.Core.HLevel.{Discrete, hedberg}
use mathlib.Core.List.{is_set}
use Rattle.std.proofs.lemmas.Bool.{both_ways, cases_Bool}
use Rattle.derivation.specs.declared.rows.Place.{Place}
use Rattle.theory.specs.Tokens.{same_place}
use Rattle.theory.proofs.Ways.{same_place_lem, place_same}

place_discrete : Discrete Place
place_discrete p q = ⊎_elim (λ t. yes (same_place_lem p q t)) (λ f. no (λ e. both_ways _ f (place_same p q e))) (cases_Bool (same_place p q))

pub places-set : IsSet (List Place)
places-set = is_set (hedberg place_discrete)
