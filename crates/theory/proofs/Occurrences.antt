-- How often a place stands in a list, and what that says of the list.
use Rattle.std.proofs.Common.{◌≡◌, ℕ, zero, suc, ◌+◌, ◌<◌, ◌≤◌, Bool, true, false, cond, List, [], ◌∷◌, length, get_or, sym, refl, ap, ◌∙◌, ⊎_elim, arith}
use Rattle.std.proofs.lemmas.Bool.{cases_Bool, both_ways}
use Rattle.derivation.specs.declared.rows.Place.{Place}
use Rattle.derivation.specs.Places.{keep}
use Rattle.theory.specs.Tokens.{same_place, no_place}
use Rattle.theory.proofs.Ways.{same_place_lem, place_same}

-- a test as a number
abbrev pub one : Bool → ℕ
one b = cond b 1 0

pub one-small : (b : Bool) → one b ≤ 1
one-small true = omega arith
one-small false = omega arith

-- nothing either way
pub cond_zero : (b : Bool) → ◌≡◌ {A = ℕ} (cond b 0 0) 0
cond_zero true = refl
cond_zero false = refl

-- the test of two places does not depend on their order
same-swap : (p q : Place) → same_place p q ≡ same_place q p
same-swap p q =
    ⊎_elim
    (λ h. h ∙ sym (place_same q p (sym (same_place_lem p q h))))
    (λ h. ⊎_elim (λ k. absurd (both_ways _ h (place_same p q (sym (same_place_lem q p k))))) (λ k. h ∙ sym k) (cases_Bool (same_place q p)))
    (cases_Bool (same_place p q))

-- how often q stands in a list
abbrev pub occ : Place → List Place → ℕ
occ q ps = length (keep (λ p. same_place p q) ps)

-- what a list keeps, by its first element
pub keep-cons : {A : Type 0} (t : A → Bool) (x : A) (xs : List A) → length (keep t (x ∷ xs)) ≡ one (t x) + length (keep t xs)
keep-cons t x xs = go (t x)
  where
    go : (b : Bool) → length (cond b (x ∷ keep t xs) (keep t xs)) ≡ one b + length (keep t xs)
    go true = omega arith
    go false = omega arith

-- what is kept of a list keeps the occurrences of what passes
pub occ-keep : (t : Place → Bool) (q : Place) (ps : List Place) → occ q (keep t ps) ≡ cond (t q) (occ q ps) 0
occ-keep t q [] = sym (cond_zero (t q))
occ-keep t q (p ∷ ps) = go (same_place p q) refl (t p) refl (occ-keep t q ps)
  where
    go : (b : Bool) → same_place p q ≡ b → (c : Bool) → t p ≡ c → occ q (keep t ps) ≡ cond (t q) (occ q ps) 0
        → occ q (cond c (p ∷ keep t ps) (keep t ps)) ≡ cond (t q) (length (cond b (p ∷ keep (λ x. same_place x q) ps) (keep (λ x. same_place x q) ps))) 0
    go true e true f ih =
        let g : t q ≡ true = sym (ap t (same_place_lem p q e)) ∙ f in
        let h = rw g at ih in
        rw (e, g) (ap suc h)
    go true e false f ih =
        let g : t q ≡ false = sym (ap t (same_place_lem p q e)) ∙ f in
        let h = rw g at ih in
        rw g h
    go false e true f ih = rw e ih
    go false e false f ih = ih

-- what has a number in a list stands in it
pub occ-at : (ps : List Place) (w : ℕ) → w < length ps → 1 ≤ occ (get_or ps w no_place) ps
occ-at [] w h = absurd (omega arith)
occ-at (p ∷ ps) zero h = omega (arith, keep-cons (λ x. same_place x p) p ps, ap one (place_same p p refl))
occ-at (p ∷ ps) (suc w) h = omega (arith, keep-cons (λ x. same_place x (get_or ps w no_place)) p ps, occ-at ps w (omega arith))

-- and what stands in it has a number there
pub occ-some : (q : Place) (ps : List Place) → 1 ≤ occ q ps → (w : ℕ) × (w < length ps) × (get_or ps w no_place ≡ q)
occ-some q [] h = absurd (omega arith)
occ-some q (p ∷ ps) h =
    let c = keep-cons (λ x. same_place x q) p ps in
    ⊎_elim
    (λ e. (0, omega arith, same_place_lem p q e))
    (λ e. let (w, l, f) = occ-some q ps (omega (arith, ap one e)) in (suc w, omega arith, f))
    (cases_Bool (same_place p q))

-- a place that stands first and once more stands there twice
occ_twice : (p : Place) (ps : List Place) → occ p (p ∷ ps) ≤ 1 → (w : ℕ) → w < length ps → p ≡ get_or ps w no_place → ⊥
occ_twice p ps once w h e = omega (arith, keep-cons (λ x. same_place x p) p ps, ap one (place_same p p refl), ap (λ q. occ q ps) e, occ-at ps w h)

-- if no place stands in a list twice, its elements differ
pub occ-distinct : (ps : List Place) → ((q : Place) → occ q ps ≤ 1)
    → (w v : ℕ) → w < length ps → v < length ps → get_or ps w no_place ≡ get_or ps v no_place → w ≡ v
occ-distinct [] once w v hw hv e = absurd (omega arith)
occ-distinct (p ∷ ps) once zero zero hw hv e = refl
occ-distinct (p ∷ ps) once zero (suc v) hw hv e = absurd (occ_twice p ps (once p) v (omega arith) e)
occ-distinct (p ∷ ps) once (suc w) zero hw hv e = absurd (occ_twice p ps (once p) w (omega arith) (sym e))
occ-distinct (p ∷ ps) once (suc w) (suc v) hw hv e =
    ap suc (occ-distinct ps (λ q. omega (arith, once q, keep-cons (λ x. same_place x q) p ps)) w v (omega arith) (omega arith) e)

-- how often the places of one list stand in another, together
abbrev meets : List Place → List Place → ℕ
meets [] qs = 0
meets (p ∷ ps) qs = occ p qs + meets ps qs

-- by the first place of the other list
meets-cons : (ps : List Place) (q : Place) (qs : List Place) → meets ps (q ∷ qs) ≡ occ q ps + meets ps qs
meets-cons [] q qs = refl
meets-cons (p ∷ ps) q qs =
    omega (arith, meets-cons ps q qs, keep-cons (λ x. same_place x p) q qs, keep-cons (λ x. same_place x q) p ps, ap one (same-swap p q))

-- nothing stands in the empty list
meets_none : (ps : List Place) → meets ps [] ≡ 0
meets_none [] = refl
meets_none (p ∷ ps) = omega (arith, meets_none ps)

-- the lists change places
meets-swap : (ps qs : List Place) → meets ps qs ≡ meets qs ps
meets-swap ps [] = meets_none ps
meets-swap ps (q ∷ qs) = omega (arith, meets-cons ps q qs, meets-swap ps qs)

-- each place of the first list stands in the second
meets_least : (ps qs : List Place) → ((q : Place) → 1 ≤ occ q ps → 1 ≤ occ q qs) → length ps ≤ meets ps qs
meets_least [] qs h = omega arith
meets_least (p ∷ ps) qs h =
    omega (arith, h p (occ-at (p ∷ ps) 0 (omega arith)), meets_least ps qs (λ q l. h q (omega (arith, keep-cons (λ x. same_place x q) p ps))))

-- no place stands in the second list twice
meets_most : (ps qs : List Place) → ((q : Place) → occ q qs ≤ 1) → meets ps qs ≤ length ps
meets_most [] qs h = omega arith
meets_most (p ∷ ps) qs h = omega (arith, h p, meets_most ps qs h)

-- a list of different places, all of which stand in another, is no longer than that
fewer : (ps qs : List Place) → ((q : Place) → occ q ps ≤ 1) → ((q : Place) → 1 ≤ occ q ps → 1 ≤ occ q qs) → length ps ≤ length qs
fewer ps qs once h = omega (arith, meets_least ps qs h, meets-swap ps qs, meets_most qs ps once)

-- lists of the same different places are of the same length
pub as_many : (ps qs : List Place) → ((q : Place) → occ q ps ≤ 1) → ((q : Place) → occ q ps ≡ occ q qs) → length ps ≡ length qs
as_many ps qs once same =
    omega (
      arith,
      fewer ps qs once (λ q l. omega (arith, same q)),
      fewer qs ps (λ q. omega (arith, once q, same q)) (λ q l. omega (arith, same q)),
    )
