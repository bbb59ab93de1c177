-- Where each wire's token comes to rest, known before anything moves.
use Rattle.std.specs.Prelude.{◌≡◌, ℕ, zero, suc, List, map, Some, None}
use Rattle.derivation.specs.declared.types.TypeEntry.{TypeEntry}
use Rattle.derivation.specs.declared.rows.Row.{Row}
use Rattle.derivation.specs.declared.rows.Place.{Place}
use Rattle.derivation.specs.Places.{moves}
use Rattle.theory.specs.Ports.{next, starts, ends}
use Rattle.theory.specs.Tokens.{Fired, wire_at}
use Rattle.theory.specs.Runs.{Reached}
use Rattle.theory.specs.Laws.{Home}

module _ (es : List TypeEntry) (rows : List Row) where
  -- where next leads from p, followed at most n times
  abbrev pub followed : ℕ → Place → Place
  followed zero p = p
  followed (suc n) p = elim (next es rows p) [ Some q ↦ followed n q | None ↦ p ]

  -- the last place of each wire
  unfoldable pub finals : List Place
  finals = map (followed (moves es rows)) (starts es rows)

  -- the wire that will stand at each end
  abbrev pub end_wires : List ℕ
  end_wires = map (wire_at finals) (ends es rows)

  -- in every complete run each token stands at its wire's last place
  abbrev pub Foreseen : Type 0
  Foreseen = (tokens : List Place) (n : ℕ) (fired : List Fired) → Reached es rows tokens n fired → Home es rows tokens → tokens ≡ finals
