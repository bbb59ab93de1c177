-- The laws of the machine together, for every accepted derivation.
use Rattle.std.proofs.Common.{◌≡◌, ℕ, ◌<◌, true, List, length, get_or, subst}
use Rattle.derivation.specs.declared.types.TypeEntry.{TypeEntry}
use Rattle.derivation.specs.declared.rows.Row.{Row}
use Rattle.derivation.specs.declared.rows.Place.{Place}
use Rattle.derivation.specs.Accepted.{Accepted}
use Rattle.derivation.specs.Places.{wires}
use Rattle.theory.specs.Ports.{is_place}
use Rattle.theory.specs.Tokens.{Fired, no_place}
use Rattle.theory.specs.Runs.{Reached}
use Rattle.theory.specs.Laws.{PortLaws, StartLaws, Saturates, MovesAreSteps, Progress, Count, Ordered}
use Rattle.theory.specs.Gates.{ActsAlike}
use Rattle.theory.specs.Theory.{Theory}
use Rattle.theory.proofs.PortLaws.{port_laws}
use Rattle.theory.proofs.Saturation.{saturates}
use Rattle.theory.proofs.Progress.{progress, tokens-here, tokens-distinct, reached-length}
use Rattle.theory.proofs.Determined.{determined}
use Rattle.theory.proofs.Starts.{start_laws}
use Rattle.theory.proofs.Count.{count}
use Rattle.theory.proofs.Visits.{visited-once}
use Rattle.theory.proofs.Foresight.{foreseen}
use Rattle.theory.proofs.Swapping.{same_order-swaps, swaps-same_order, acts_same}
use Rattle.theory.proofs.Order.{ordered, wired}
use Rattle.theory.proofs.Fires.{firing}
use Rattle.theory.proofs.StepLaws.{moves_are-steps}

module _ (es : List TypeEntry) (rows : List Row) (a : Accepted es rows) where
  ports : PortLaws es rows
  ports = port_laws es rows a

  begins : StartLaws es rows
  begins = start_laws es rows a

  closed : Saturates es rows
  closed = saturates es rows a begins

  goes_on : Progress es rows
  goes_on = progress es rows a ports begins closed

  as_many : (tokens : List Place) (n : ℕ) (fired : List Fired) → Reached es rows tokens n fired → length tokens ≡ wires es rows
  as_many tokens n fired r = reached-length es rows begins r

  stand : (tokens : List Place) (n : ℕ) (fired : List Fired) → Reached es rows tokens n fired → (w : ℕ) → w < length tokens → is_place es rows (get_or tokens w no_place) ≡ true
  stand tokens n fired r w h = tokens-here es rows a ports begins r w (subst (λ k. w < k) (as_many tokens n fired r) h)

  apart : (tokens : List Place) (n : ℕ) (fired : List Fired) → Reached es rows tokens n fired → (w v : ℕ) → w < length tokens → v < length tokens → get_or tokens w no_place ≡ get_or tokens v no_place → w ≡ v
  apart tokens n fired r w v h k =
      let same = as_many tokens n fired r in
      tokens-distinct es rows a ports begins r w v (subst (λ j. w < j) same h) (subst (λ j. v < j) same k)

  counts : Count es rows
  counts = count es rows a ports begins closed

  same_order : Ordered es rows
  same_order = ordered es rows a ports begins (determined es rows a ports begins) stand as_many

  as_steps : MovesAreSteps es rows
  as_steps = moves_are-steps es rows a ports apart stand

  pub theory : Theory es rows
  theory = record {
    ports = ports;
    begins = begins;
    steps = as_steps;
    saturated = λ S. closed (λ p. S p ≡ true);
    progress = goes_on;
    count = counts;
    once = visited-once es rows a ports begins closed;
    determined = determined es rows a ports begins;
    foreseen = foreseen es rows a ports begins counts;
    ordered = same_order;
    swapped = λ s t m n fs gs r q s-home t-home. same_order-swaps fs gs (wired es rows r) (wired es rows q) (same_order s t m n fs gs r q s-home t-home);
    swaps = λ fs gs f g. (same_order-swaps fs gs f g, swaps-same_order fs gs);
    fires = firing es rows a ports begins as_steps;
  }

-- any action in which gates without a common wire can be exchanged has one result
pub acts_alike : (S : Type 0) → ActsAlike S
acts_alike S act commute fs gs k s = acts_same act (λ f. Unit {0}) (λ f g x y. commute f g) fs gs k (λ i d h. tt) s
