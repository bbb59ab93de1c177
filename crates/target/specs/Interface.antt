-- What a target is to its users: a view of it, when it refuses, and what is left then.
use Rattle.std.specs.Prelude.{◌≡◌, ℕ, suc, ◌^◌, Bool, true, false, cond, not, ◌&&◌, List, [], ◌∷◌, map, length, Some, None, Ok, Err, Option, Result, ◌==◌, bit_and, nat_le, nat_lt}
use Rattle.basics.specs.declared.gate.Gate.{Gate}
use Rattle.basics.specs.declared.numbers.Wire.{Wire}
use Rattle.basics.specs.declared.refusal.Refusal.{Refusal}
use Rattle.basics.specs.declared.refusal.Refusal.TheVariants.{WireMisuse, AtCapacity, NotTaken, WireSets}
use Rattle.basics.specs.Gates.{arity, code}
use Rattle.derivation.specs.Rows.{all_in}
use Rattle.basics.specs.Sets.{has}

-- what can be told of a target with states in S: its state, the set of wires in use, the gates applied since begin, its width and its capacity
pub record View (S : Type 0) : Type 0 where
  pub state : S
  pub used : ℕ
  pub count : ℕ
  pub width : ℕ
  pub capacity : ℕ

-- the numbers of wires
abbrev pub numbers_of : List Wire → List ℕ
numbers_of ws = map (λ w. w.0) ws

-- the wires are as many as the gate's seats, in use, and no two are equal
abbrev pub seated : ℕ → Gate → List ℕ → Bool
seated used g ws = length ws == arity g && all_in used ws

-- all of a is in b; a and b have nothing in common
abbrev pub within : ℕ → ℕ → Bool
within a b = bit_and a b == a

abbrev pub disjoint : ℕ → ℕ → Bool
disjoint a b = bit_and a b == 0

-- used wires are below the width; given and ones do not overlap and are within used
abbrev pub sets_fit : ℕ → ℕ → ℕ → ℕ → Bool
sets_fit width used given ones = nat_lt used (2 ^ width) && (disjoint given ones && (within given used && within ones used))

module _ {S : Type 0} where
  abbrev pub begin_fault : View S → ℕ → ℕ → ℕ → Option Refusal
  begin_fault v used given ones = cond (sets_fit v.width used given ones) None (Some WireSets)

  -- codes are looked at first, then wires, then the capacity
  abbrev pub apply_fault : (Gate → Bool) → View S → Gate → List ℕ → Option Refusal
  apply_fault takes v g ws =
      cond (not (takes g)) (Some (NotTaken g))
      (cond (not (seated v.used g ws)) (Some (WireMisuse g))
      (cond (nat_le v.capacity v.count) (Some (AtCapacity g)) None))

  abbrev pub begun_view : (ℕ → ℕ → ℕ → S → S) → View S → ℕ → ℕ → ℕ → View S
  begun_view begun v used given ones = record { state = begun used given ones v.state; used = used; count = 0; width = v.width; capacity = v.capacity }

  abbrev pub applied_view : (Gate → List ℕ → S → S) → View S → Gate → List ℕ → View S
  applied_view applied v g ws = record { state = applied g ws v.state; used = v.used; count = suc v.count; width = v.width; capacity = v.capacity }

  -- a call answers Ok exactly if there is no fault, and then the view is the one given; otherwise it answers the fault
  abbrev pub Obeys : Option Refusal → View S → Result (Unit {0}) Refusal → View S → Type 0
  Obeys o after (Ok u) now = (o ≡ None) × (now ≡ after)
  Obeys o after (Err e) now = o ≡ Some e

-- a refused call leaves the target itself as it was
abbrev pub Kept : {T : Type 0} → Result (Unit {0}) Refusal → T → T → Type 0
Kept (Ok u) before after = Unit {0}
Kept (Err e) before after = after ≡ before

-- no number stands in both lists
abbrev pub shares : ℕ → List ℕ → Bool
shares v [] = false
shares v (w ∷ ws) = cond (v == w) true (shares v ws)

abbrev pub apart_from : List ℕ → List ℕ → Bool
apart_from [] ws = true
apart_from (v ∷ vs) ws = not (shares v ws) && apart_from vs ws

-- two gates without a common wire, accepted in either order, leave the same state
abbrev pub Commutes : {S : Type 0} → (Gate → Bool) → (Gate → List ℕ → S → S) → Type 0
Commutes {S} takes applied =
    (s : S) (used : ℕ) (f g : Gate) (vs ws : List ℕ) →
    takes f ≡ true → takes g ≡ true → seated used f vs ≡ true → seated used g ws ≡ true → apart_from vs ws ≡ true →
    applied f vs (applied g ws s) ≡ applied g ws (applied f vs s)

-- a set of codes has those of the gates that are taken, and of no other gate
abbrev pub Coded : ℕ → (Gate → Bool) → Type 0
Coded codes takes = (g : Gate) → has codes (code g) ≡ takes g

-- a kind that takes every gate
abbrev pub all_codes : Gate → Bool
all_codes g = true
