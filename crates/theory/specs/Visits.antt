-- Which wire stands on which place: the log of a run.
use Rattle.std.specs.Prelude.{◌≡◌, ℕ, suc, ◌<◌, ◌≤◌, true, false, List, [], ◌∷◌, ◌++◌, map, length, Some, slice_index_or}
use Rattle.std.specs.Option.{option_to_list}
use Rattle.derivation.specs.declared.types.TypeEntry.{TypeEntry}
use Rattle.derivation.specs.declared.rows.Row.{Row}
use Rattle.derivation.specs.declared.rows.Place.{Place}
use Rattle.derivation.specs.Places.{wires, keep}
use Rattle.theory.specs.Ports.{is_place, starts}
use Rattle.theory.specs.Tokens.{Fired, Moved, no_place, same_place, among, together, advance, move}
use Rattle.theory.specs.Runs.{Reached}
use Rattle.theory.specs.Laws.{Home}

-- a wire stands on a place
pub record Stand : Type 0 where
  pub wire : ℕ
  pub place : Place

-- the wires from w on, each with the place of its token
abbrev pub standing : ℕ → List Place → List Stand
standing w [] = []
standing w (p ∷ ps) = record { wire = w; place = p } ∷ standing (suc w) ps

module _ (es : List TypeEntry) (rows : List Row) where
  -- the same wire at the next place
  abbrev pub onward : Stand → Stand
  onward s = record { wire = s.wire; place = advance es rows s.place }

  -- the wires whose tokens stand at the moving places, by rising number, each with its new place
  abbrev pub entered : List Place → List Place → List Stand
  entered moving tokens = map onward (keep (λ s. among s.place moving) (standing 0 tokens))

-- a run and its log: first each wire with its start, then, at each move, each wire whose token moves with its new place
pub data Logged (es : List TypeEntry) (rows : List Row) : List Place → ℕ → List Fired → List Stand → Type 0 where
  begun : Logged es rows (starts es rows) 0 [] (standing 0 (starts es rows))
  moved : {tokens : List Place} {n : ℕ} {fired : List Fired} {log : List Stand} → Logged es rows tokens n fired log → (w : ℕ) (m : Moved) → move es rows tokens w ≡ Some m →
      Logged es rows m.tokens (suc n) (fired ++ option_to_list m.fired) (log ++ entered es rows (together es rows (slice_index_or tokens w no_place)) tokens)

-- what a log has of place p
abbrev pub stands_on : Place → List Stand → List Stand
stands_on p log = keep (λ s. same_place s.place p) log

-- every run has a log, in no log does a place stand twice, and once all tokens are at ends each place stands in it exactly once, in all runs with the same wire
pub record VisitedOnce (es : List TypeEntry) (rows : List Row) : Type 0 where
  pub logged : (tokens : List Place) (n : ℕ) (fired : List Fired) → Reached es rows tokens n fired → (log : List Stand) × Logged es rows tokens n fired log
  pub reached : (tokens : List Place) (n : ℕ) (fired : List Fired) (log : List Stand) → Logged es rows tokens n fired log → Reached es rows tokens n fired
  pub once : (tokens : List Place) (n : ℕ) (fired : List Fired) (log : List Stand) → Logged es rows tokens n fired log → (p : Place) → length (stands_on p log) ≤ 1
  pub only : (tokens : List Place) (n : ℕ) (fired : List Fired) (log : List Stand) → Logged es rows tokens n fired log → (p : Place) → is_place es rows p ≡ false → stands_on p log ≡ []
  pub all : (tokens : List Place) (n : ℕ) (fired : List Fired) (log : List Stand) → Logged es rows tokens n fired log → Home es rows tokens →
      (p : Place) → is_place es rows p ≡ true → (w : ℕ) × (w < wires es rows) × (stands_on p log ≡ record { wire = w; place = p } ∷ [])
  pub same : (s t : List Place) (m n : ℕ) (fs gs : List Fired) (k l : List Stand) → Logged es rows s m fs k → Logged es rows t n gs l →
      (p : Place) (w v : ℕ) → stands_on p k ≡ record { wire = w; place = p } ∷ [] → stands_on p l ≡ record { wire = v; place = p } ∷ [] → w ≡ v
