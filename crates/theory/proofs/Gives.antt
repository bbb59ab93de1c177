-- What a value of a type gives and what its user takes, where v i says that atom i is reached.
use Rattle.std.proofs.Common.{◌≡◌, ℕ, ◌+◌, ◌-◌, ◌<◌, ◌≤◌, Bool, true, false, not, refl, ◌∙◌, subst, ⊎_elim, arith}
use Rattle.std.proofs.lemmas.Bool.{both_ways, not_from_false, not_from_true, cases_lt}
use Rattle.basics.specs.declared.gate.Gate.{Gate}
use Rattle.basics.specs.Gates.{arity}
use Rattle.derivation.specs.Trees.{Tree, qubit, arrow, pair, atoms, positive, power}
use Rattle.theory.proofs.Signs.{positive-argument, positive-result, positive-first, positive-second, power-positive, power-atoms}

-- what holds of the first m numbers and of the n after them holds of all
both-parts : (P : ℕ → Type 0) (m n : ℕ) → ((i : ℕ) → i < m → P i) → ((i : ℕ) → i < n → P (m + i)) → (i : ℕ) → i < m + n → P i
both-parts P m n left right i h =
    ⊎_elim (left i) (λ (l : m ≤ i). let e : m + (i - m) ≡ i = omega arith in subst P e (right (i - m) (omega arith))) (cases_lt i m)

-- what is given and taken

-- the atoms From n on
abbrev pub From : ℕ → (ℕ → Type 0) → ℕ → Type 0
From n v i = v (n + i)

abbrev mutual
  -- v reaches what a value of the type owes
  pub Gives : Tree → (ℕ → Type 0) → Type 0
  Gives qubit v = v 0
  Gives (arrow a c) v = (Gives a v → Gives c (From (atoms a) v)) × (Takes c (From (atoms a) v) → Takes a v)
  Gives (pair a c) v = Gives a v × Gives c (From (atoms a) v)

  -- v reaches what a user of such a value owes
  pub Takes : Tree → (ℕ → Type 0) → Type 0
  Takes qubit v = Unit {0}
  Takes (arrow a c) v = Gives a v × Takes c (From (atoms a) v)
  Takes (pair a c) v = (Gives a v → Takes c (From (atoms a) v)) × (Gives c (From (atoms a) v) → Takes a v)

-- the same at an equal type
pub gives_as : {s t : Tree} (v : ℕ → Type 0) → s ≡ t → Gives s v → Gives t v
gives_as v e g = subst (λ u. Gives u v) e g

pub takes_as : {s t : Tree} (v : ℕ → Type 0) → s ≡ t → Takes s v → Takes t v
takes_as v e k = subst (λ u. Takes u v) e k

-- what is both given and taken is reached at every atom
pub full : (t : Tree) (v : ℕ → Type 0) → Gives t v → Takes t v → (i : ℕ) → i < atoms t → v i
full qubit v g k i h = let e : 0 ≡ i = omega arith in subst v e g
full (arrow a c) v g k i h = both-parts v (atoms a) (atoms c) (full a v k.0 (g.1 k.1)) (full c (From (atoms a) v) (g.0 k.0) k.1) i h
full (pair a c) v g k i h = both-parts v (atoms a) (atoms c) (full a v g.0 (k.1 g.1)) (full c (From (atoms a) v) g.1 (k.0 g.0)) i h

mutual
  -- a value gives if its positive atoms are reached, and its user takes if the negative ones are
  pub gives_all : (t : Tree) {v : ℕ → Type 0} → ((i : ℕ) → i < atoms t → positive t i ≡ true → v i) → Gives t v
  gives_all qubit h = h 0 (omega arith) refl
  gives_all (arrow a c) h = (
    (λ _. gives_all c (λ i l e. h (atoms a + i) (omega arith) (positive-result a c i ∙ e))),
    (λ _. takes_all a (λ i l e. h i (omega arith) (positive-argument a c i l ∙ not_from_false _ e))),
  )
  gives_all (pair a c) h = (
    gives_all a (λ i l e. h i (omega arith) (positive-first a c i l ∙ e)),
    gives_all c (λ i l e. h (atoms a + i) (omega arith) (positive-second a c i ∙ e)),
  )

  pub takes_all : (t : Tree) {v : ℕ → Type 0} → ((i : ℕ) → i < atoms t → positive t i ≡ false → v i) → Takes t v
  takes_all qubit h = tt
  takes_all (arrow a c) h = (
    gives_all a (λ i l e. h i (omega arith) (positive-argument a c i l ∙ not_from_true _ e)),
    takes_all c (λ i l e. h (atoms a + i) (omega arith) (positive-result a c i ∙ e)),
  )
  takes_all (pair a c) h = (
    (λ _. takes_all c (λ i l e. h (atoms a + i) (omega arith) (positive-second a c i ∙ e))),
    (λ _. takes_all a (λ i l e. h i (omega arith) (positive-first a c i l ∙ e))),
  )

-- passages

-- From the one to the other if a test passes, and back if it fails
pub record Sends (b : Bool) (A B : Type 0) : Type 0 where
  pub onward : b ≡ true → A → B
  pub back : b ≡ false → B → A

-- the same with the test reversed
pub turned : (b : Bool) {A B : Type 0} → Sends (not b) A B → Sends b B A
turned b s = record { onward = λ e. s.back (not_from_true b e); back = λ e. s.onward (not_from_false b e) }

-- what is reached in v at a positive atom is reached in w, and back at a negative one
abbrev pub Leads : Tree → (ℕ → Type 0) → (ℕ → Type 0) → Type 0
Leads t v w = (i : ℕ) → i < atoms t → Sends (positive t i) (v i) (w i)

leads_argument : (a c : Tree) {v w : ℕ → Type 0} → Leads (arrow a c) v w → Leads a w v
leads_argument a c {v} {w} l i h = turned (positive a i) (subst (λ b. Sends b (v i) (w i)) (positive-argument a c i h) (l i (omega arith)))

leads_result : (a c : Tree) {v w : ℕ → Type 0} → Leads (arrow a c) v w → Leads c (From (atoms a) v) (From (atoms a) w)
leads_result a c {v} {w} l i h = subst (λ b. Sends b (v (atoms a + i)) (w (atoms a + i))) (positive-result a c i) (l (atoms a + i) (omega arith))

leads_first : (a c : Tree) {v w : ℕ → Type 0} → Leads (pair a c) v w → Leads a v w
leads_first a c {v} {w} l i h = subst (λ b. Sends b (v i) (w i)) (positive-first a c i h) (l i (omega arith))

leads_second : (a c : Tree) {v w : ℕ → Type 0} → Leads (pair a c) v w → Leads c (From (atoms a) v) (From (atoms a) w)
leads_second a c {v} {w} l i h = subst (λ b. Sends b (v (atoms a + i)) (w (atoms a + i))) (positive-second a c i) (l (atoms a + i) (omega arith))

mutual
  -- what is given is passed on, and what is taken is passed back
  pub gives_on : (t : Tree) {v w : ℕ → Type 0} → Leads t v w → Gives t v → Gives t w
  gives_on qubit l g = (l 0 (omega arith)).onward refl g
  gives_on (arrow a c) l g = (
    (λ x. gives_on c (leads_result a c l) (g.0 (gives_on a (leads_argument a c l) x))),
    (λ y. takes_on a (leads_argument a c l) (g.1 (takes_on c (leads_result a c l) y))),
  )
  gives_on (pair a c) l g = (gives_on a (leads_first a c l) g.0, gives_on c (leads_second a c l) g.1)

  pub takes_on : (t : Tree) {v w : ℕ → Type 0} → Leads t v w → Takes t w → Takes t v
  takes_on qubit l k = tt
  takes_on (arrow a c) l k = (gives_on a (leads_argument a c l) k.0, takes_on c (leads_result a c l) k.1)
  takes_on (pair a c) l k = (
    (λ x. takes_on c (leads_second a c l) (k.0 (gives_on a (leads_first a c l) x))),
    (λ y. takes_on a (leads_first a c l) (k.1 (gives_on c (leads_second a c l) y))),
  )

-- qubits give exactly if all of them are reached, and take nothing
pub power-takes : (n : ℕ) (v : ℕ → Type 0) → Takes (power n) v
power-takes n v = takes_all (power n) (λ i l e. absurd (both_ways _ e (power-positive n i)))

pub power_gives : (g : Gate) (v : ℕ → Type 0) → ((i : ℕ) → i < arity g → v i) → Gives (power (arity g)) v
power_gives g v h = let e = power-atoms g in gives_all (power (arity g)) (λ i l p. h i (omega arith))

pub power-given : (g : Gate) (v : ℕ → Type 0) → Gives (power (arity g)) v → (i : ℕ) → i < arity g → v i
power-given g v x i h = let e = power-atoms g in full (power (arity g)) v x (power-takes (arity g) v) i (omega arith)
