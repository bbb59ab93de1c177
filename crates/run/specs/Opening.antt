-- Opening a run: when it is refused, and how run and target stand then.
use Rattle.std.specs.Prelude.{ℕ, suc, ◌-◌, ◌^◌, Bool, true, false, cond, List, [], ◌∷◌, map, Some, None, Option, nat_lt}
use Rattle.std.specs.Simd.Lanes.{mask_l}
use Rattle.std.specs.Option.{option_map}
use Rattle.basics.specs.declared.gate.Gate.{Gate as GateName}
use Rattle.basics.specs.declared.refusal.Refusal.{Refusal}
use Rattle.basics.specs.declared.refusal.Refusal.TheVariants.{TooNarrow, TooSmall, GateNotTaken}
use Rattle.derivation.specs.declared.types.TypeEntry.{TypeEntry}
use Rattle.derivation.specs.declared.rows.Rule.{Rule}
use Rattle.derivation.specs.declared.rows.Rule.TheVariants.{Variable, Zero, One, Gate, Lambda, PairLambda, Apply, Pair}
use Rattle.derivation.specs.declared.rows.Row.{Row}
use Rattle.derivation.specs.declared.rows.Start.{Start}
use Rattle.derivation.specs.declared.rows.Start.TheVariants.{Given as GivenStart, Zero as ZeroStart, One as OneStart}
use Rattle.derivation.specs.Places.{wires, gate_rows}
use Rattle.derivation.specs.Starts.{starts as how_started}
use Rattle.theory.specs.Ports.{starts}
use Rattle.target.specs.Interface.{View, begin_fault, begun_view}
use Rattle.run.specs.Calls.{Stage}

-- the set of wires 0 to n - 1
abbrev pub first_wires : ℕ → ℕ
first_wires n = 2 ^ n - 1

-- how a wire starts
abbrev pub is_given : Start → Bool
is_given GivenStart = true
is_given ZeroStart = false
is_given OneStart = false

abbrev pub is_one : Start → Bool
is_one GivenStart = false
is_one ZeroStart = false
is_one OneStart = true

-- a rule can be walked on a kind of target if it is no gate, or one that the kind takes
abbrev pub walkable : (GateName → Bool) → Rule → Bool
walkable takes Variable = true
walkable takes Zero = true
walkable takes One = true
walkable takes (Gate g) = takes g
walkable takes (Lambda p x) = true
walkable takes (PairLambda p x y) = true
walkable takes (Apply f a) = true
walkable takes (Pair l r) = true

-- the lowest row, from r on, whose gate is not taken
abbrev pub not_taken : (GateName → Bool) → ℕ → List Row → Option ℕ
not_taken takes r [] = None
not_taken takes r (row ∷ rows) = cond (walkable takes row.rule) (not_taken takes (suc r) rows) (Some r)

module _ (es : List TypeEntry) (rows : List Row) where
  -- the sets that a target begins with: all wires, the given ones, and those of the one rows
  abbrev pub used_set : ℕ
  used_set = first_wires (wires es rows)

  abbrev pub given_set : ℕ
  given_set = mask_l (map is_given (how_started es rows))

  abbrev pub ones_set : ℕ
  ones_set = mask_l (map is_one (how_started es rows))

  -- why a target cannot take the run: its width, its capacity, or a code that it does not take
  abbrev pub unfit : {S : Type 0} → (GateName → Bool) → View S → Option Refusal
  unfit takes v =
      cond (nat_lt v.width (wires es rows)) (Some (TooNarrow (wires es rows)))
      (cond (nat_lt v.capacity (gate_rows rows)) (Some (TooSmall (gate_rows rows)))
      (option_map (λ r. GateNotTaken (record { 0 = r })) (not_taken takes 0 rows)))

  -- why open is refused: the target cannot take the run, or refuses to begin
  abbrev pub open_fault : {S : Type 0} → (GateName → Bool) → View S → Option Refusal
  open_fault takes v = elim (unfit takes v) [ Some e ↦ Some e | None ↦ begin_fault v used_set given_set ones_set ]

  -- a run just opened: each token at its start, no move made, and the target begun
  abbrev pub opened : {S : Type 0} → (ℕ → ℕ → ℕ → S → S) → View S → Stage S
  opened begun v = record { tokens = starts es rows; moves = 0; target = begun_view begun v used_set given_set ones_set }
