-- Swaps of neighbours without a common wire do not change what gates make of a state, if a target takes them all and they are seated.
use Rattle.std.proofs.Common.{◌≡◌, ℕ, Bool, true, false, cond, not, ◌||◌, eqb, List, [], ◌∷◌, refl, ap, ◌∙◌}
use Rattle.std.specs.List.{AllByRecursion as All}
use Rattle.std.proofs.lemmas.Bool.{and_parts, and_from}
use Rattle.std.proofs.ByRecursion.{All-get_or}
use Rattle.basics.specs.declared.gate.Gate.{Gate}
use Rattle.basics.proofs.SetLaws.{eqb_swap}
use Rattle.theory.specs.Ports.{listed}
use Rattle.theory.specs.Tokens.{Fired}
use Rattle.theory.specs.Gates.{Swaps, acted, apart_from as none_common}
use Rattle.theory.proofs.Swapping.{acts_same}
use Rattle.target.specs.Interface.{seated, shares, apart_from, Commutes}

-- to share a number is to have it listed
shares-listed : (v : ℕ) (ws : List ℕ) → shares v ws ≡ listed v ws
shares-listed v [] = refl
shares-listed v (w ∷ ws) = ap (λ (t : Bool). cond t true (shares v ws)) (eqb_swap v w) ∙ go (eqb w v) (shares-listed v ws)
  where
    go : (b : Bool) → shares v ws ≡ listed v ws → cond b true (shares v ws) ≡ (b || listed v ws)
    go true e = refl
    go false e = e

-- the machine and its targets agree on which gates have no common wire
apart_alike : (vs ws : List ℕ) → none_common vs ws ≡ true → apart_from vs ws ≡ true
apart_alike [] ws a = refl
apart_alike (v ∷ vs) ws a =
    let (other, rest) = and_parts (not (listed v ws)) (none_common vs ws) a in
    and_from _ _ (ap not (shares-listed v ws) ∙ other) (apart_alike vs ws rest)

-- a gate that a target takes, with its wires in their seats among those in use
abbrev pub Fits : (Gate → Bool) → ℕ → Fired → Type 0
Fits takes used f = (takes f.gate ≡ true) × (seated used f.gate f.wires ≡ true)

-- lists of such gates that swaps turn into each other make the same of a state
pub acts_equal : {S : Type 0} (takes : Gate → Bool) (applied : Gate → List ℕ → S → S) → Commutes takes applied → (used : ℕ) (fs gs : List Fired)
    → All (Fits takes used) fs → Swaps fs gs → (s : S) → acted (λ f. applied f.gate f.wires) s fs ≡ acted (λ f. applied f.gate f.wires) s gs
acts_equal takes applied commutes used fs gs fit swaps s =
    acts_same (λ f. applied f.gate f.wires) (Fits takes used)
    (λ f g (tf, sf) (tg, sg) a t. commutes t used f.gate g.gate f.wires g.wires tf tg sf sg (apart_alike f.wires g.wires a))
    fs gs swaps (λ i d h. All-get_or (Fits takes used) fs i d h fit) s
