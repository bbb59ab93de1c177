-- Rules by their kind, what each says of the environment and the type of its row, and the signs of atoms in types.
use Rattle.std.proofs.Common.{◌≡◌, ℕ, zero, suc, ◌+◌, ◌-◌, ◌<◌, true, false, not, ◌&&◌, ◌||◌, eqb, ltb, ◌⊎◌, List, map, length, get_or, refl, ap, ◌∙◌, subst, inl, inr, arith}
use native.Mathlib.Nat.{add-sub_cancel_left}
use Rattle.std.proofs.lemmas.Bool.{both_ways, cond-true, cond_both, lt-ltb, le-ltb}
use Rattle.basics.specs.declared.gate.Gate.{Gate as GateName}
use Rattle.basics.specs.declared.gate.Gate.TheVariants.{H, S, T, X, Z, Cx, Cz, Ccx}
use Rattle.derivation.specs.declared.types.TypeEntry.{TypeEntry}
use Rattle.derivation.specs.declared.rows.Rule.{Rule}
use Rattle.derivation.specs.declared.rows.Rule.TheVariants.{Variable, Zero, One, Gate, Lambda, PairLambda, Apply, Pair}
use Rattle.derivation.specs.declared.rows.Row.{Row}
use Rattle.basics.specs.Sets.{has}
use Rattle.basics.specs.Gates.{arity}
use Rattle.derivation.specs.Trees.{Tree, qubit, arrow, pair, atoms, positive, power}
use Rattle.derivation.specs.Rows.{premises}
use Rattle.derivation.specs.Judgements.{Judgement, ◌⊢◌, Apart, rule_at, tree_at, judged, Infers, variable, zero_bit, one_bit, gate, abstraction, pair_abstraction, application, pairing}
use Rattle.derivation.specs.Places.{is_bit, is_gate}
use Rattle.derivation.specs.Accepted.{Accepted}
use Rattle.basics.proofs.SetLaws.{has_none, has-only, has-union, has-without}

-- the rule of a zero or one row, and that of a gate
pub bit-of : (rule : Rule) → is_bit rule ≡ true → (rule ≡ Zero) ⊎ (rule ≡ One)
bit-of Variable e = absurd (both_ways _ refl e)
bit-of Zero e = inl refl
bit-of One e = inr refl
bit-of (Gate g) e = absurd (both_ways _ refl e)
bit-of (Lambda p x) e = absurd (both_ways _ refl e)
bit-of (PairLambda p x y) e = absurd (both_ways _ refl e)
bit-of (Apply f a) e = absurd (both_ways _ refl e)
bit-of (Pair l r) e = absurd (both_ways _ refl e)

pub gate-of : (rule : Rule) → is_gate rule ≡ true → (g : GateName) × (rule ≡ Gate g)
gate-of Variable e = absurd (both_ways _ refl e)
gate-of Zero e = absurd (both_ways _ refl e)
gate-of One e = absurd (both_ways _ refl e)
gate-of (Gate g) e = (g, refl)
gate-of (Lambda p x) e = absurd (both_ways _ refl e)
gate-of (PairLambda p x y) e = absurd (both_ways _ refl e)
gate-of (Apply f a) e = absurd (both_ways _ refl e)
gate-of (Pair l r) e = absurd (both_ways _ refl e)

-- the judgement of premise i
abbrev pub premise : List Judgement → ℕ → Judgement
premise js i = get_or js i (0 ⊢ qubit)

-- an environment has what two have together
abbrev pub Together : ℕ → ℕ → ℕ → Type 0
Together l m n = (z : ℕ) → has l z ≡ (has m z || has n z)

-- an environment has no variable
abbrev pub Closed : ℕ → Type 0
Closed m = (z : ℕ) → has m z ≡ false

-- what an inference says of the judgements that it joins; of gives each variable's type
abbrev pub Says : (ℕ → Tree) → ℕ → Rule → List Judgement → Judgement → Type 0
Says of k Variable js j = (z : ℕ) → has j.env z ≡ eqb z k
Says of k Zero js j = (j.type ≡ qubit) × Closed j.env
Says of k One js j = (j.type ≡ qubit) × Closed j.env
Says of k (Gate g) js j = (j.type ≡ arrow (power (arity g)) (power (arity g))) × Closed j.env
Says of k (Lambda p x) js j =
    (j.type ≡ arrow (of x.0) (premise js 0).type)
    × (has (premise js 0).env x.0 ≡ true)
    × ((z : ℕ) → has j.env z ≡ (has (premise js 0).env z && not (eqb z x.0)))
Says of k (PairLambda p x y) js j =
    (j.type ≡ arrow (pair (of x.0) (of y.0)) (premise js 0).type)
    × (has (premise js 0).env x.0 ≡ true)
    × (has (premise js 0).env y.0 ≡ true)
    × (x.0 ≡ y.0 → ⊥)
    × ((z : ℕ) → has j.env z ≡ (has (premise js 0).env z && not (eqb z x.0) && not (eqb z y.0)))
Says of k (Apply f a) js j =
    ((premise js 0).type ≡ arrow (premise js 1).type j.type)
    × Together j.env (premise js 0).env (premise js 1).env
    × Apart (premise js 0).env (premise js 1).env
Says of k (Pair l r) js j =
    (j.type ≡ pair (premise js 0).type (premise js 1).type)
    × Together j.env (premise js 0).env (premise js 1).env
    × Apart (premise js 0).env (premise js 1).env

-- an inference says this
said : {of : ℕ → Tree} {k : ℕ} {rule : Rule} {js : List Judgement} {j : Judgement} → Infers of k rule js j → Says of k rule js j
said {k = k} variable = has-only k
said zero_bit = (refl, has_none)
said one_bit = (refl, has_none)
said gate = (refl, has_none)
said (abstraction {x = x} {m = m} h) = (refl, h, has-without m x.0)
said (pair_abstraction {x = x} {y = y} {m = m} hx hy d) =
    (refl, hx, hy, d, λ z. has-without _ y.0 z ∙ ap (λ b. b && not (eqb z y.0)) (has-without m x.0 z))
said (application {m = m} {n = n} d) = (refl, has-union m n, d)
said (pairing {m = m} {n = n} d) = (refl, has-union m n, d)

-- what the rule of row r says
pub rule_says : (es : List TypeEntry) (rows : List Row) → Accepted es rows → (r : ℕ) (k : Rule) → r < length rows → rule_at rows r ≡ k
    → Says (tree_at es rows) r k (map (judged es rows) (premises k)) (judged es rows r)
rule_says es rows a r k h e = subst (λ k. Says (tree_at es rows) r k (map (judged es rows) (premises k)) (judged es rows r)) e (said (a.follows r h))

-- an atom of the left part of an arrow or a pair
pub positive-argument : (a c : Tree) (i : ℕ) → i < atoms a → positive (arrow a c) i ≡ not (positive a i)
positive-argument a c i h = cond-true _ _ _ (lt-ltb i (atoms a) h)

pub positive-first : (a c : Tree) (i : ℕ) → i < atoms a → positive (pair a c) i ≡ positive a i
positive-first a c i h = cond-true _ _ _ (lt-ltb i (atoms a) h)

-- an atom of the right part
pub positive-result : (a c : Tree) (i : ℕ) → positive (arrow a c) (atoms a + i) ≡ positive c i
positive-result a c i = rw (le-ltb (atoms a + i) (atoms a) (omega arith), add-sub_cancel_left (atoms a) i)

pub positive-second : (a c : Tree) (i : ℕ) → positive (pair a c) (atoms a + i) ≡ positive c i
positive-second a c i = rw (le-ltb (atoms a + i) (atoms a) (omega arith), add-sub_cancel_left (atoms a) i)

-- the same of a type that is an arrow or a pair
module _ (t s c : Tree) (i : ℕ) where
  pub arrow-left : t ≡ arrow s c → i < atoms s → positive t i ≡ not (positive s i)
  arrow-left e h = ap (λ u. positive u i) e ∙ positive-argument s c i h

  pub pair_left : t ≡ pair s c → i < atoms s → positive t i ≡ positive s i
  pair_left e h = ap (λ u. positive u i) e ∙ positive-first s c i h

  pub arrow-right : t ≡ arrow s c → (j : ℕ) → i ≡ atoms s + j → positive t i ≡ positive c j
  arrow-right e j h = ap (λ u. positive u i) e ∙ ap (positive (arrow s c)) h ∙ positive-result s c j

  pub pair-right : t ≡ pair s c → (j : ℕ) → i ≡ atoms s + j → positive t i ≡ positive c j
  pair-right e j h = ap (λ u. positive u i) e ∙ ap (positive (pair s c)) h ∙ positive-second s c j

-- all of some qubits are positive
pub power-positive : (n i : ℕ) → positive (power n) i ≡ true
power-positive zero i = refl
power-positive (suc zero) i = refl
power-positive (suc (suc n)) i = cond_both (ltb i 1) true _ (λ b. b ≡ true) (λ e. refl) (λ e. power-positive (suc n) (i - 1))

-- the qubits that a gate acts on are as many as its arity
pub power-atoms : (g : GateName) → atoms (power (arity g)) ≡ arity g
power-atoms H = refl
power-atoms S = refl
power-atoms T = refl
power-atoms X = refl
power-atoms Z = refl
power-atoms Cx = refl
power-atoms Cz = refl
power-atoms Ccx = refl
