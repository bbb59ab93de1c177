-- Laws of lists of wires: a gate has at most three, and what follows where two lists have no wire in common.
use Rattle.std.proofs.Common.{◌≡◌, ℕ, ◌≤◌, Bool, true, false, cond, not, ◌&&◌, eqb, List, [], ◌∷◌, sym, refl, ap, ◌∙◌, ap₂, ⊎_elim, arith}
use Rattle.std.proofs.lemmas.Bool.{and_parts, both_ways, cases_Bool, cond-false, eqb-true, not-true, true≢false}
use Rattle.basics.specs.declared.gate.Gate.{Gate}
use Rattle.basics.specs.declared.gate.Gate.TheVariants.{H, S, T, X, Z, Cx, Cz, Ccx}
use Rattle.basics.specs.Gates.{arity}
use Rattle.basics.proofs.SetLaws.{eqb_swap}
use Rattle.target.specs.Interface.{apart_from, shares}

pub arity_few : (g : Gate) → arity g ≤ 3
arity_few H = omega arith
arity_few S = omega arith
arity_few T = omega arith
arity_few X = omega arith
arity_few Z = omega arith
arity_few Cx = omega arith
arity_few Cz = omega arith
arity_few Ccx = omega arith

neither : (a b : Bool) → cond a true b ≡ false → (a ≡ false) × (b ≡ false)
neither true b h = absurd (true≢false h)
neither false b h = (refl, h)

-- a number that is not in a list is none of its numbers
pub not_shared : (v w : ℕ) (ws : List ℕ) → shares v (w ∷ ws) ≡ false → (eqb v w ≡ false) × (shares v ws ≡ false)
not_shared v w ws h = neither (eqb v w) (shares v ws) h

pub first-apart : (v : ℕ) (vs ws : List ℕ) → apart_from (v ∷ vs) ws ≡ true → (shares v ws ≡ false) × (apart_from vs ws ≡ true)
first-apart v vs ws h = let p = and_parts (not (shares v ws)) (apart_from vs ws) h in (not-true (shares v ws) p.0, p.1)

-- lists apart have no number in common
pub apart-wires : (vs ws : List ℕ) (w : ℕ) → apart_from vs ws ≡ true → shares w vs ≡ true → shares w ws ≡ true → ⊥
apart-wires [] ws w h p q = both_ways false refl p
apart-wires (v ∷ vs) ws w h p q =
    let parts = first-apart v vs ws h in
    ⊎_elim
    (λ e. both_ways (shares w ws) (ap (λ n. shares n ws) (eqb-true w v e) ∙ parts.0) q)
    (λ e. apart-wires vs ws w parts.1 (sym (cond-false (eqb w v) true (shares w vs) e) ∙ p) q)
    (cases_Bool (eqb w v))

-- apart in either order

apart_more : (ws : List ℕ) (v : ℕ) (vs : List ℕ) → shares v ws ≡ false → apart_from ws vs ≡ true → apart_from ws (v ∷ vs) ≡ true
apart_more [] v vs h a = refl
apart_more (w ∷ ws) v vs h a =
    let n = not_shared v w ws h in
    let p = first-apart w ws vs a in
    ap₂ (λ b c. not (cond b true c) && apart_from ws (v ∷ vs)) (eqb_swap w v ∙ n.0) p.0 ∙ apart_more ws v vs n.1 p.1

apart_none : (ws : List ℕ) → apart_from ws [] ≡ true
apart_none [] = refl
apart_none (w ∷ ws) = apart_none ws

pub apart-swap : (vs ws : List ℕ) → apart_from vs ws ≡ true → apart_from ws vs ≡ true
apart-swap [] ws h = apart_none ws
apart-swap (v ∷ vs) ws h = let p = first-apart v vs ws h in apart_more ws v vs p.0 (apart-swap vs ws p.1)
