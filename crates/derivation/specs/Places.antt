-- Places, wires and moves of a derivation. A place is a row, a part of it (its type, or a variable of its environment) and an atom of that part.
use Rattle.std.specs.Prelude.{ℕ, zero, suc, ◌+◌, ◌-◌, Bool, true, false, cond, not, List, [], ◌∷◌, ◌++◌, map, length}
use Rattle.std.specs.List.{filter, flat_map}
use Rattle.derivation.specs.declared.types.TypeEntry.{TypeEntry}
use Rattle.derivation.specs.declared.rows.Rule.{Rule}
use Rattle.derivation.specs.declared.rows.Rule.TheVariants.{Variable, Zero, One, Gate, Lambda, PairLambda, Apply, Pair}
use Rattle.derivation.specs.declared.rows.Row.{Row}
use Rattle.derivation.specs.declared.rows.Part.{Part}
use Rattle.derivation.specs.declared.rows.Part.TheVariants.{Ty, Variable as Var}
use Rattle.derivation.specs.declared.rows.Place.{Place}
use Rattle.basics.specs.Sets.{has}
use Rattle.basics.specs.Gates.{arity}
use Rattle.derivation.specs.Trees.{Tree, atoms, positive}
use Rattle.derivation.specs.Judgements.{tree_at, env_at}

-- n numbers from k on
abbrev pub numbers : ℕ → ℕ → List ℕ
numbers k zero = []
numbers k (suc n) = k ∷ numbers (suc k) n

-- the elements that pass a test
abbrev pub keep : {A : Type 0} → (A → Bool) → List A → List A
keep t xs = filter t xs

-- the places in one part of row r, a part of type t
abbrev pub places_in : ℕ → Part → Tree → List Place
places_in r part t = map (λ i. record { row = record { 0 = r }; part = part; atom = record { 0 = i } }) (numbers 0 (atoms t))

-- the places of row r: in its variables by rising row, then in its type
abbrev pub places_at : List TypeEntry → List Row → ℕ → List Place
places_at es rows r = flat_map (λ x. cond (has (env_at rows r) x) (places_in r (Var (record { 0 = x })) (tree_at es rows x)) []) (numbers 0 (length rows)) ++ places_in r Ty (tree_at es rows r)

-- all places, by rising row
unfoldable pub places : List TypeEntry → List Row → List Place
places es rows = flat_map (places_at es rows) (numbers 0 (length rows))

-- at a negative place a token climbs; a place in a variable has the reverse of its atom's polarity
abbrev pub negative_in : List TypeEntry → List Row → ℕ → Part → ℕ → Bool
negative_in es rows r Ty i = not (positive (tree_at es rows r) i)
negative_in es rows r (Var x) i = positive (tree_at es rows x.0) i

abbrev pub negative : List TypeEntry → List Row → Place → Bool
negative es rows p = negative_in es rows p.row.0 p.part p.atom.0

-- the given wires start at the negative places of the last row
unfoldable pub given : List TypeEntry → List Row → List Place
given es rows = keep (negative es rows) (places_at es rows (length rows - 1))

abbrev pub is_bit : Rule → Bool
is_bit Variable = false
is_bit Zero = true
is_bit One = true
is_bit (Gate g) = false
is_bit (Lambda p x) = false
is_bit (PairLambda p x y) = false
is_bit (Apply f a) = false
is_bit (Pair l r) = false

-- the zero and one rows, each of which starts a wire
abbrev pub bits : List Row → List Row
bits rows = keep (λ row. is_bit row.rule) rows

-- W: the given wires, and the zero and one rows
abbrev pub wires : List TypeEntry → List Row → ℕ
wires es rows = length (given es rows) + length (bits rows)

abbrev pub is_gate : Rule → Bool
is_gate Variable = false
is_gate Zero = false
is_gate One = false
is_gate (Gate g) = true
is_gate (Lambda p x) = false
is_gate (PairLambda p x y) = false
is_gate (Apply f a) = false
is_gate (Pair l r) = false

abbrev pub gate_rows : List Row → ℕ
gate_rows rows = length (keep (λ row. is_gate row.rule) rows)

-- the tokens that a rule moves together, less one
abbrev pub mates : Rule → ℕ
mates Variable = 0
mates Zero = 0
mates One = 0
mates (Gate g) = arity g - 1
mates (Lambda p x) = 0
mates (PairLambda p x y) = 0
mates (Apply f a) = 0
mates (Pair l r) = 0

abbrev pub all_mates : List Row → ℕ
all_mates [] = 0
all_mates (row ∷ rows) = mates row.rule + all_mates rows

-- N: the moves of a complete run. Each place but the starts is entered once, and a gate's tokens move together.
abbrev pub moves : List TypeEntry → List Row → ℕ
moves es rows = length (places es rows) - wires es rows - all_mates rows
