-- Lists of fired gates: their order on each wire, and swaps of neighbours.
use Rattle.std.specs.Prelude.{◌≡◌, ℕ, ◌<◌, Bool, true, not, ◌&&◌, ◌↔◌, List, [], ◌∷◌, ◌++◌, length, slice_index_or}
use Rattle.derivation.specs.Places.{keep}
use Rattle.theory.specs.Ports.{listed}
use Rattle.theory.specs.Tokens.{Fired}

-- the gates that wire v met, in their order
abbrev pub on_wire : ℕ → List Fired → List Fired
on_wire v fs = keep (λ f. listed v f.wires) fs

-- the same order on each wire
abbrev pub SameOrder : List Fired → List Fired → Type 0
SameOrder fs gs = (v : ℕ) → on_wire v fs ≡ on_wire v gs

-- two gates have no common wire
abbrev pub apart_from : List ℕ → List ℕ → Bool
apart_from [] ws = true
apart_from (v ∷ vs) ws = not (listed v ws) && apart_from vs ws

abbrev pub apart : Fired → Fired → Bool
apart f g = apart_from f.wires g.wires

-- one list is turned into the other by swaps of neighbours without a common wire
pub data Swaps : List Fired → List Fired → Type 0 where
  same : {fs : List Fired} → Swaps fs fs
  swap : (front : List Fired) (f g : Fired) (rest : List Fired) {gs : List Fired} → apart f g ≡ true → Swaps (front ++ (g ∷ f ∷ rest)) gs → Swaps (front ++ (f ∷ g ∷ rest)) gs

-- each gate has a wire
abbrev pub Wired : List Fired → Type 0
Wired fs = (i : ℕ) (d : Fired) → i < length fs → 0 < length (slice_index_or fs i d).wires

-- what gates make of a state, one after the other
abbrev pub acted : {S : Type 0} → (Fired → S → S) → S → List Fired → S
acted act s [] = s
acted act s (f ∷ fs) = acted act (act f s) fs

-- two lists of gates have the same order on each wire exactly if swaps turn one into the other
abbrev pub SwapsAreOrder : Type 0
SwapsAreOrder = (fs gs : List Fired) → Wired fs → Wired gs → SameOrder fs gs ↔ Swaps fs gs

-- gates without a common wire can be exchanged
abbrev pub Commute : {S : Type 0} → (Fired → S → S) → Type 0
Commute {S} act = (f g : Fired) → apart f g ≡ true → (s : S) → act f (act g s) ≡ act g (act f s)

-- lists that swaps turn into each other make the same of a state, wherever gates without a common wire can be exchanged
abbrev pub ActsAlike : Type 0 → Type 0
ActsAlike S = (act : Fired → S → S) → Commute act → (fs gs : List Fired) → Swaps fs gs → (s : S) → acted act s fs ≡ acted act s gs
