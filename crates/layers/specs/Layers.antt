-- Layers: a number for each wire; a gate sets its wires to one more than their greatest.
use Rattle.std.specs.Prelude.{◌≡◌, ℕ, suc, ◌<◌, ◌≤◌, max, true, cond, List, [], ◌∷◌, length, replicate, Some, None, Option, nat_lt, slice_index, slice_set}
use Rattle.basics.specs.declared.gate.Gate.{Gate}
use Rattle.target.specs.Interface.{shares}

-- the greatest number of some wires
abbrev pub greatest : List ℕ → List ℕ → ℕ
greatest s [] = 0
greatest s (w ∷ ws) = max (slice_index s w) (greatest s ws)

-- some wires set to n
abbrev pub set_all : List ℕ → List ℕ → ℕ → List ℕ
set_all s [] n = s
set_all s (w ∷ ws) n = set_all (slice_set s w n) ws n

abbrev pub layered : Gate → List ℕ → List ℕ → List ℕ
layered g ws s = set_all s ws (suc (greatest s ws))

-- begin sets all to 0
abbrev pub fresh : ℕ → ℕ → ℕ → List ℕ → List ℕ
fresh used given ones s = replicate 32 0

-- the number of a wire, if there is such a wire
abbrev pub number_of : List ℕ → ℕ → Option ℕ
number_of s w = cond (nat_lt w 32) (Some (slice_index s w)) None

-- a gate gives its wires one more than their greatest, and the other wires keep theirs
abbrev pub LayersEach : Type 0
LayersEach =
    (g : Gate) (ws s : List ℕ) (w : ℕ) → w < length s →
    slice_index (layered g ws s) w ≡ cond (shares w ws) (suc (greatest s ws)) (slice_index s w)

-- none of the wires has more than their greatest
abbrev pub GreatestBounds : Type 0
GreatestBounds = (s ws : List ℕ) (w : ℕ) → shares w ws ≡ true → slice_index s w ≤ greatest s ws
