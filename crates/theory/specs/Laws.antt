-- The laws of the token machine, as statements.
use Rattle.std.specs.Prelude.{◌≡◌, ℕ, ◌-◌, ◌^◌, ◌<◌, ◌≤◌, Bool, true, false, ◌↔◌, List, length, Some, None, slice_index_or}
use Rattle.basics.specs.Gates.{arity}
use Rattle.derivation.specs.declared.types.TypeEntry.{TypeEntry}
use Rattle.derivation.specs.declared.rows.Rule.TheVariants.{Gate}
use Rattle.derivation.specs.declared.rows.Row.{Row}
use Rattle.derivation.specs.declared.rows.Place.{Place}
use Rattle.derivation.specs.Judgements.{rule_at}
use Rattle.derivation.specs.Places.{wires, moves, gate_rows}
use Rattle.derivation.specs.Rows.{all_in}
use Rattle.theory.specs.Ports.{next, prev, is_place, is_end, is_start, starts}
use Rattle.theory.specs.Tokens.{Fired, Moved, no_place, among, together, movable, advance, move}
use Rattle.theory.specs.Runs.{Reached}
use Rattle.theory.specs.Steps.{Step}
use Rattle.theory.specs.Gates.{SameOrder}

-- next and prev are inverse, and lead from places to places; next is undefined exactly at the ends, and prev exactly at the starts
pub record PortLaws (es : List TypeEntry) (rows : List Row) : Type 0 where
  pub forth : (p q : Place) → is_place es rows p ≡ true → next es rows p ≡ Some q → (is_place es rows q ≡ true) × (prev es rows q ≡ Some p)
  pub back : (p q : Place) → is_place es rows q ≡ true → prev es rows q ≡ Some p → (is_place es rows p ≡ true) × (next es rows p ≡ Some q)
  pub to_end : (p : Place) → is_place es rows p ≡ true → next es rows p ≡ None → is_end es rows p ≡ true
  pub at_end : (p : Place) → is_end es rows p ≡ true → next es rows p ≡ None
  pub from_start : (p : Place) → is_place es rows p ≡ true → prev es rows p ≡ None → is_start es rows p ≡ true
  pub at_start : (p : Place) → is_place es rows p ≡ true → is_start es rows p ≡ true → prev es rows p ≡ None

-- the starts are W different places, and all at which a token can start
pub record StartLaws (es : List TypeEntry) (rows : List Row) : Type 0 where
  pub count : length (starts es rows) ≡ wires es rows
  pub each : (w : ℕ) → w < wires es rows → (is_place es rows (slice_index_or (starts es rows) w no_place) ≡ true) × (is_start es rows (slice_index_or (starts es rows) w no_place) ≡ true)
  pub distinct : (w v : ℕ) → w < wires es rows → v < wires es rows → slice_index_or (starts es rows) w no_place ≡ slice_index_or (starts es rows) v no_place → w ≡ v
  pub all : (p : Place) → is_place es rows p ≡ true → is_start es rows p ≡ true → (w : ℕ) × (w < wires es rows) × (slice_index_or (starts es rows) w no_place ≡ p)

-- a set of places that holds the starts and is closed under the moves, a gate's only when all its seats are in it, holds all places
abbrev pub Saturates : List TypeEntry → List Row → Type 1
Saturates es rows =
    (S : Place → Type 0) →
    ((w : ℕ) → w < wires es rows → S (slice_index_or (starts es rows) w no_place)) →
    ((p : Place) → is_place es rows p ≡ true → is_end es rows p ≡ false → ((q : Place) → among q (together es rows p) ≡ true → S q) → S (advance es rows p)) →
    (p : Place) → is_place es rows p ≡ true → S p

-- the same of sets as tests
abbrev pub Saturated : List TypeEntry → List Row → Type 0
Saturated es rows =
    (S : Place → Bool) →
    ((w : ℕ) → w < wires es rows → S (slice_index_or (starts es rows) w no_place) ≡ true) →
    ((p : Place) → is_place es rows p ≡ true → is_end es rows p ≡ false → ((q : Place) → among q (together es rows p) ≡ true → S q ≡ true) → S (advance es rows p) ≡ true) →
    (p : Place) → is_place es rows p ≡ true → S p ≡ true

-- all tokens are at ends
abbrev pub Home : List TypeEntry → List Row → List Place → Type 0
Home es rows tokens = (w : ℕ) → w < wires es rows → is_end es rows (slice_index_or tokens w no_place) ≡ true

-- the machine makes exactly the steps of the relation
abbrev pub MovesAreSteps : List TypeEntry → List Row → Type 0
MovesAreSteps es rows =
    (tokens : List Place) (n : ℕ) (fired : List Fired) → Reached es rows tokens n fired → (w : ℕ) (m : Moved) →
    (move es rows tokens w ≡ Some m) ↔ Step es rows tokens w m.fired m.tokens

-- whatever moves were made, some wire can move exactly while some token is not at an end
abbrev pub Progress : List TypeEntry → List Row → Type 0
Progress es rows =
    (tokens : List Place) (n : ℕ) (fired : List Fired) → Reached es rows tokens n fired →
    ((w : ℕ) × (w < wires es rows) × (movable es rows tokens (slice_index_or tokens w no_place) ≡ true))
    ↔ ((w : ℕ) × (w < wires es rows) × (is_end es rows (slice_index_or tokens w no_place) ≡ false))

-- all are at ends exactly if the moves number N, and never more than N can be made
abbrev pub Count : List TypeEntry → List Row → Type 0
Count es rows =
    (tokens : List Place) (n : ℕ) (fired : List Fired) → Reached es rows tokens n fired →
    (Home es rows tokens ↔ (n ≡ moves es rows)) × (n ≤ moves es rows)

-- a wire's end is the same in all runs, and only one wire ever comes to a place
pub record Determined (es : List TypeEntry) (rows : List Row) : Type 0 where
  pub same_ends : (s t : List Place) (m n : ℕ) (fs gs : List Fired) → Reached es rows s m fs → Reached es rows t n gs → Home es rows s → Home es rows t → s ≡ t
  pub same_wire : (s t : List Place) (m n : ℕ) (fs gs : List Fired) → Reached es rows s m fs → Reached es rows t n gs → (w v : ℕ) → w < wires es rows → v < wires es rows → slice_index_or s w no_place ≡ slice_index_or t v no_place → w ≡ v

-- two complete runs fire the same gates with the same wires, in the same order on each wire
abbrev pub Ordered : List TypeEntry → List Row → Type 0
Ordered es rows =
    (s t : List Place) (m n : ℕ) (fs gs : List Fired) → Reached es rows s m fs → Reached es rows t n gs → Home es rows s → Home es rows t → SameOrder fs gs

-- a gate that fires
pub record Firing (es : List TypeEntry) (rows : List Row) : Type 0 where
  -- it is that of a gate row
  pub of_row : (tokens : List Place) (n : ℕ) (fired : List Fired) → Reached es rows tokens n fired → (w : ℕ) (m : Moved) (f : Fired) → move es rows tokens w ≡ Some m → m.fired ≡ Some f →
      (r : ℕ) × (r < length rows) × (rule_at rows r ≡ Gate f.gate)
  -- it has as many wires as seats, all of them wires of the run, and no two equal
  pub seated : (tokens : List Place) (n : ℕ) (fired : List Fired) → Reached es rows tokens n fired → (w : ℕ) (m : Moved) (f : Fired) → move es rows tokens w ≡ Some m → m.fired ≡ Some f →
      (length f.wires ≡ arity f.gate) × (all_in (2 ^ wires es rows - 1) f.wires ≡ true)
  -- no more gates fire than there are gate rows
  pub few : (tokens : List Place) (n : ℕ) (fired : List Fired) → Reached es rows tokens n fired → length fired ≤ gate_rows rows
