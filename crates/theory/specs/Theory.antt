-- All that is promised of the machine of an accepted derivation.
use Rattle.std.specs.Prelude.{◌≡◌, ℕ, List, Ok}
use Rattle.derivation.specs.declared.types.TypeEntry.{TypeEntry}
use Rattle.derivation.specs.declared.rows.Row.{Row}
use Rattle.derivation.specs.declared.rows.Place.{Place}
use Rattle.derivation.specs.Format.{derivation_of}
use Rattle.theory.specs.Tokens.{Fired}
use Rattle.theory.specs.Runs.{Reached}
use Rattle.theory.specs.Gates.{Swaps, SwapsAreOrder}
use Rattle.theory.specs.Laws.{Home, PortLaws, StartLaws, MovesAreSteps, Saturated, Progress, Count, Determined, Ordered, Firing}
use Rattle.theory.specs.Visits.{VisitedOnce}
use Rattle.theory.specs.Finals.{Foreseen}

pub record Theory (es : List TypeEntry) (rows : List Row) : Type 0 where
  -- next and prev are inverse, and undefined exactly at ends and starts
  pub ports : PortLaws es rows
  -- the starts are W different places
  pub begins : StartLaws es rows
  -- the machine makes exactly the steps of the relation
  pub steps : MovesAreSteps es rows
  -- a set that holds the starts and is closed under the moves holds all places
  pub saturated : Saturated es rows
  -- some wire can move exactly while some token is not at an end
  pub progress : Progress es rows
  -- all are at ends exactly if the moves number N, and never more are made
  pub count : Count es rows
  -- no place is entered twice, and a complete run stands on each place once
  pub once : VisitedOnce es rows
  -- a wire's end, and the wire that comes to a place, are the same in all runs
  pub determined : Determined es rows
  -- each wire's end is where next leads from its start
  pub foreseen : Foreseen es rows
  -- two complete runs fire the same gates in the same order on each wire
  pub ordered : Ordered es rows
  -- so swaps of neighbours without a common wire turn the gates of one into those of the other
  pub swapped : (s t : List Place) (m n : ℕ) (fs gs : List Fired) → Reached es rows s m fs → Reached es rows t n gs → Home es rows s → Home es rows t → Swaps fs gs
  pub swaps : SwapsAreOrder
  -- a gate that fires is that of a row, with as many different wires as seats, and no more gates fire than there are gate rows
  pub fires : Firing es rows

-- if bytes are a derivation, all of this is promised of its machine
abbrev pub Promised : List ℕ → Type 0
Promised bytes = (es : List TypeEntry) (rows : List Row) → derivation_of bytes ≡ Ok (record { types = es; rows = rows }) → Theory es rows
