-- What is known of a gate that counts.
use Rattle.std.proofs.Common.{◌≡◌, ℕ, ◌+◌, ◌^◌, ◌<◌, Bool, true, false, cond, not, eqb, leb, List, length, Ok, Err, Result, Option, Some, None, refl, sym, ◌∙◌}
use Rattle.std.proofs.lemmas.List.{length-map}
use Rattle.std.proofs.lemmas.Bool.{leb-false, lt-leb, and_parts, eqb-true, not-false}
use Rattle.basics.specs.Gates.{arity}
use Rattle.derivation.specs.Rows.{all_in, all_below}
use Rattle.basics.specs.declared.gate.Gate.{Gate}
use Rattle.basics.specs.declared.numbers.Wire.{Wire}
use Rattle.basics.specs.declared.refusal.Refusal.{Refusal}
use Rattle.basics.specs.declared.refusal.Refusal.TheVariants.{AtCapacity, NotTaken, WireMisuse, WireSets}
use Rattle.target.specs.declared.usage.Usage.{Usage}
use Rattle.target.specs.Interface.{numbers_of, seated, sets_fit}
use Rattle.target.specs.Usage.{usage_applied, usage_begun}
use Rattle.target.proofs.MaskLaws.{all_below_lem, has_below}

-- a test that stands before an answer has not refused it
not_refused : {A : Type 0} (b : Bool) (e : Refusal) (r : Result A Refusal) (x : A) → Ok x ≡ cond b (Err e) r → (b ≡ false) × (Ok x ≡ r)
not_refused true e r x p = absurd cc
not_refused false e r x p = (refl, p)

-- a gate that counts is taken, sits on wires in use, and there was room for it
pub record Clear (taken : Bool) (capacity : ℕ) (u after : Usage) (g : Gate) (ws : List ℕ) : Type 0 where
  pub takes : taken ≡ true
  pub seats : seated u.used g ws ≡ true
  pub room : u.count < capacity
  pub counted : after ≡ record { used = u.used; count = u.count + 1 }

pub clear : (taken : Bool) (capacity : ℕ) (u after : Usage) (g : Gate) (ws : List ℕ) → Ok after ≡ usage_applied taken capacity u g ws → Clear taken capacity u after g ws
clear taken capacity u after g ws p =
    let t = not_refused (not taken) (NotTaken g) _ after p in
    let s = not_refused (not (seated u.used g ws)) (WireMisuse g) _ after t.1 in
    let r = not_refused (leb capacity u.count) (AtCapacity g) _ after s.1 in
    record { takes = not-false taken t.0; seats = not-false (seated u.used g ws) s.0; room = leb-false capacity u.count r.0; counted = cc }

-- so there is no fault in it
pub no_fault : {taken : Bool} {capacity : ℕ} {u after : Usage} {g : Gate} {ws : List ℕ} → Clear taken capacity u after g ws →
    cond (not taken) (Some (NotTaken g)) (cond (not (seated u.used g ws)) (Some (WireMisuse g)) (cond (leb capacity u.count) (Some (AtCapacity g)) None)) ≡ None
no_fault {capacity = capacity} {u = u} ok = rw (ok.takes, ok.seats, lt-leb capacity u.count ok.room) refl

-- a gate that does not count has the fault that it is refused for
refused_by : {A : Type 0} (b : Bool) (e x : Refusal) (r : Result A Refusal) (o : Option Refusal) → (Err x ≡ r → o ≡ Some x) → Err x ≡ cond b (Err e) r → cond b (Some e) o ≡ Some x
refused_by true e x r o more p = cc
refused_by false e x r o more p = more p

pub fault_of : (taken : Bool) (capacity : ℕ) (u : Usage) (g : Gate) (ws : List ℕ) (x : Refusal) → Err x ≡ usage_applied taken capacity u g ws →
    cond (not taken) (Some (NotTaken g)) (cond (not (seated u.used g ws)) (Some (WireMisuse g)) (cond (leb capacity u.count) (Some (AtCapacity g)) None)) ≡ Some x
fault_of taken capacity u g ws x p =
    refused_by (not taken) (NotTaken g) x _ _
    (refused_by (not (seated u.used g ws)) (WireMisuse g) x _ _ (refused_by (leb capacity u.count) (AtCapacity g) x (Ok (record { used = u.used; count = u.count + 1 })) None (λ q. absurd cc))) p

-- sets that begin fit the width
begun_from : (fits : Bool) (used : ℕ) (after : Usage) → Ok after ≡ cond fits (Ok (record { used = used; count = 0 })) (Err WireSets) → (fits ≡ true) × (after ≡ record { used = used; count = 0 })
begun_from true used after p = (refl, cc)
begun_from false used after p = absurd cc

pub begun_clear : (width used given ones : ℕ) (after : Usage) → Ok after ≡ usage_begun width used given ones → (sets_fit width used given ones ≡ true) × (after ≡ record { used = used; count = 0 })
begun_clear width used given ones after p = begun_from (sets_fit width used given ones) used after p

-- its wires are in use, so they are below k where k bits tell the wires in use
pub clear_below : (k : ℕ) {taken : Bool} {capacity : ℕ} {u after : Usage} {g : Gate} {ws : List ℕ} → u.used < 2 ^ k → Clear taken capacity u after g ws → all_below k ws ≡ true
clear_below k {u = u} {g = g} {ws = ws} fits ok = all_below_lem k u.used ws (λ z. has_below k u.used z fits) (and_parts (eqb (length ws) (arity g)) (all_in u.used ws) ok.seats).1

-- its wires are as many as the gate has seats
pub clear-count : {taken : Bool} {capacity : ℕ} {u after : Usage} {g : Gate} (ws : List Wire) → Clear taken capacity u after g (numbers_of ws) → length ws ≡ arity g
clear-count {u = u} {g = g} ws ok =
    sym (length-map ws (λ w. w.0)) ∙ eqb-true (length (numbers_of ws)) (arity g) (and_parts (eqb (length (numbers_of ws)) (arity g)) (all_in u.used (numbers_of ws)) ok.seats).0
