-- Laws of layers: how deep they are after a gate, and that gates without a common wire commute.
use Rattle.std.specs.Prelude.{◌≡◌, ℕ, zero, suc, ◌<◌, ◌≤◌, max, true, false, List, [], ◌∷◌, length, replicate, ◌==◌, slice_index, slice_set, refl}
use Rattle.std.proofs.Common.{sym, ◌∙◌, ap, ⊎_elim, arith}
use Rattle.std.proofs.lemmas.List.{get_or-set_same, get_or-set_other, length-set, set_comm}
use Rattle.std.proofs.lemmas.Bool.{eqb-true, eqb-false, both_ways, cases_Bool, cond-true, cond-false}
use Rattle.basics.specs.declared.gate.Gate.{Gate}
use Rattle.target.specs.Interface.{shares, apart_from}
use Rattle.target.proofs.WireLaws.{first-apart, not_shared}
use Rattle.layers.specs.Laws.{BellLayers}
use Rattle.layers.specs.Layers.{greatest, set_all, layered, LayersEach, GreatestBounds}

-- all numbers are at most b
abbrev pub Shallow : List ℕ → ℕ → Type 0
Shallow s b = (i : ℕ) → slice_index s i ≤ b

pub zeros_shallow : (n b : ℕ) → Shallow (replicate n 0) b
zeros_shallow zero b i = omega arith
zeros_shallow (suc n) b zero = omega arith
zeros_shallow (suc n) b (suc i) = zeros_shallow n b i

pub greatest_shallow : (s : List ℕ) (b : ℕ) → Shallow s b → (ws : List ℕ) → greatest s ws ≤ b
greatest_shallow s b low [] = omega arith
greatest_shallow s b low (w ∷ ws) = omega (arith, low w, greatest_shallow s b low ws)

set_shallow : (s : List ℕ) (b n : ℕ) → n ≤ b → Shallow s b → (w : ℕ) → Shallow (slice_set s w n) b
set_shallow [] b n le low w i = low i
set_shallow (x ∷ s) b n le low zero zero = le
set_shallow (x ∷ s) b n le low zero (suc i) = low (suc i)
set_shallow (x ∷ s) b n le low (suc w) zero = low zero
set_shallow (x ∷ s) b n le low (suc w) (suc i) = set_shallow s b n le (λ j. low (suc j)) w i

pub set_all_shallow : (b n : ℕ) → n ≤ b → (s ws : List ℕ) → Shallow s b → Shallow (set_all s ws n) b
set_all_shallow b n le s [] low = low
set_all_shallow b n le s (w ∷ ws) low = set_all_shallow b n le (slice_set s w n) ws (set_shallow s b n le low w)

-- a gate adds at most one
pub layered_shallow : (g : Gate) (s ws : List ℕ) (b : ℕ) → Shallow s b → Shallow (layered g ws s) (suc b)
layered_shallow g s ws b low =
    let top = greatest_shallow s b low ws in
    set_all_shallow (suc b) (suc (greatest s ws)) (omega arith) s ws (λ i. omega (arith, low i))

-- what is not set stays
get_or-set-all : (n v : ℕ) (s ws : List ℕ) → shares v ws ≡ false → slice_index (set_all s ws n) v ≡ slice_index s v
get_or-set-all n v s [] e = refl
get_or-set-all n v s (w ∷ ws) e =
    let apart = not_shared v w ws e in
    get_or-set-all n v (slice_set s w n) ws apart.1 ∙ get_or-set_other s w v n 0 (eqb-false v w apart.0)

-- a number that is in a list is its first or in the rest
in_rest : (v w : ℕ) (ws : List ℕ) → shares v (w ∷ ws) ≡ true → shares v ws ≡ false → v ≡ w
in_rest v w ws e f = ⊎_elim (eqb-true v w)
    (λ n. absurd (both_ways (shares v ws) f (sym (cond-false (v == w) true (shares v ws) n) ∙ e))) (cases_Bool (v == w))

-- what is set has the number
get_d_set_here : (n v : ℕ) (s ws : List ℕ) → v < length s → shares v ws ≡ true → slice_index (set_all s ws n) v ≡ n
get_d_set_here n v s [] h e = absurd (both_ways false refl e)
get_d_set_here n v s (w ∷ ws) h e = ⊎_elim
    (λ t. get_d_set_here n v (slice_set s w n) ws (omega (arith, length-set s w n)) t)
    (λ f. let same = in_rest v w ws e f in
    get_or-set-all n v (slice_set s w n) ws f ∙ ap (λ k. slice_index (slice_set s k n) v) (sym same) ∙ get_or-set_same s v n 0 h)
    (cases_Bool (shares v ws))

pub layers_each : LayersEach
layers_each g ws s w h = ⊎_elim
    (λ t. get_d_set_here (suc (greatest s ws)) w s ws h t ∙ sym (cond-true (shares w ws) (suc (greatest s ws)) (slice_index s w) t))
    (λ f. get_or-set-all (suc (greatest s ws)) w s ws f ∙ sym (cond-false (shares w ws) (suc (greatest s ws)) (slice_index s w) f))
    (cases_Bool (shares w ws))

pub greatest_bounds : GreatestBounds
greatest_bounds s [] w e = absurd (both_ways false refl e)
greatest_bounds s (v ∷ ws) w e = ⊎_elim
    (λ t. omega (arith, greatest_bounds s ws w t))
    (λ f. omega (arith, ap (λ k. slice_index s k) (in_rest w v ws e f)))
    (cases_Bool (shares w ws))

greatest-set-all : (n : ℕ) (s vs ws : List ℕ) → apart_from vs ws ≡ true → greatest (set_all s ws n) vs ≡ greatest s vs
greatest-set-all n s [] ws e = refl
greatest-set-all n s (v ∷ vs) ws e =
    let parts = first-apart v vs ws e in
    ap (λ k. max k (greatest (set_all s ws n) vs)) (get_or-set-all n v s ws parts.0)
    ∙ ap (max (slice_index s v)) (greatest-set-all n s vs ws parts.1)

greatest-set : (n v : ℕ) (s ws : List ℕ) → shares v ws ≡ false → greatest (slice_set s v n) ws ≡ greatest s ws
greatest-set n v s [] e = refl
greatest-set n v s (w ∷ ws) e =
    let apart = not_shared v w ws e in
    ap (λ k. max k (greatest (slice_set s v n) ws)) (get_or-set_other s v w n 0 (λ p. eqb-false v w apart.0 (sym p)))
    ∙ ap (max (slice_index s w)) (greatest-set n v s ws apart.1)

greatest_other : (n : ℕ) (s vs ws : List ℕ) → apart_from vs ws ≡ true → greatest (set_all s vs n) ws ≡ greatest s ws
greatest_other n s [] ws e = refl
greatest_other n s (v ∷ vs) ws e =
    let parts = first-apart v vs ws e in
    greatest_other n (slice_set s v n) vs ws parts.1 ∙ greatest-set n v s ws parts.0

-- wires apart are set in either order
set_set_all : (m n v : ℕ) (s ws : List ℕ) → shares v ws ≡ false → slice_set (set_all s ws n) v m ≡ set_all (slice_set s v m) ws n
set_set_all m n v s [] e = refl
set_set_all m n v s (w ∷ ws) e =
    let apart = not_shared v w ws e in
    set_set_all m n v (slice_set s w n) ws apart.1
    ∙ ap (λ t. set_all t ws n) (set_comm s w v n m (λ p. eqb-false v w apart.0 (sym p)))

set_all_apart : (m n : ℕ) (s vs ws : List ℕ) → apart_from vs ws ≡ true → set_all (set_all s ws n) vs m ≡ set_all (set_all s vs m) ws n
set_all_apart m n s [] ws e = refl
set_all_apart m n s (v ∷ vs) ws e =
    let parts = first-apart v vs ws e in
    ap (λ t. set_all t vs m) (set_set_all m n v s ws parts.0)
    ∙ set_all_apart m n (slice_set s v m) vs ws parts.1

pub layered_commutes : (f g : Gate) (s vs ws : List ℕ) → apart_from vs ws ≡ true → layered f vs (layered g ws s) ≡ layered g ws (layered f vs s)
layered_commutes f g s vs ws e =
    let m : ℕ = suc (greatest s vs) in
    let n : ℕ = suc (greatest s ws) in
    ap (λ k. set_all (set_all s ws n) vs (suc k)) (greatest-set-all n s vs ws e)
    ∙ set_all_apart m n s vs ws e
    ∙ ap (λ k. set_all (set_all s vs m) ws (suc k)) (sym (greatest_other m s vs ws e))

-- Bell's gates, by computation
pub bell_layers : BellLayers
bell_layers s = (refl, refl)
