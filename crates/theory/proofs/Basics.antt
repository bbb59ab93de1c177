-- General facts: tests, options, numbers in a list, and what a list keeps.
use Rattle.std.proofs.Common.{◌≡◌, ℕ, zero, suc, ◌<◌, Bool, true, false, cond, eqb, ◌⊎◌, List, [], ◌∷◌, ◌++◌, length, get_or, Some, None, Option, unwrap_or, sym, refl, ◌∙◌, inl, inr, ⊎_elim, arith}
use mathlib.Core.Path.{subst⁻¹}
use Rattle.std.proofs.lemmas.Bool.{both_ways, cases_Bool, cases_lt, or_cases, or_left, or_right, or_from, eqb-true, eq-eqb}
use Rattle.derivation.specs.Places.{keep}
use Rattle.basics.proofs.SetLaws.{eqb_swap}
use Rattle.derivation.proofs.TreeLaws.{not_so}
use Rattle.theory.specs.Ports.{listed}

-- tests that pass together are equal
pub both_pass : (b c : Bool) → (b ≡ true → c ≡ true) → (c ≡ true → b ≡ true) → b ≡ c
both_pass true c h k = sym (h refl)
both_pass false c h k = sym (not_so c (λ e. both_ways false refl (k e)))

-- a number below the next one is below this one, or is it
pub below_suc : (j k : ℕ) → j < suc k → (j < k) ⊎ (j ≡ k)
below_suc j k h = ⊎_elim (λ s. inl s) (λ s. inr (omega arith)) (cases_lt j k)

-- some number below n passes a test, or none does
pub some_below : (t : ℕ → Bool) (n : ℕ) → ((w : ℕ) × (w < n) × (t w ≡ true)) ⊎ ((w : ℕ) → w < n → t w ≡ false)
some_below t zero = inr (λ w h. absurd (omega arith))
some_below t (suc n) = ⊎_elim
    (λ e. inl (n, omega arith, e))
    (λ e. ⊎_elim
    (λ (w, h, f). inl (w, omega arith, f))
    (λ none. inr (λ w h. ⊎_elim (λ l. none w l) (λ s. subst⁻¹ (λ x. t x ≡ false) s e) (below_suc w n h)))
    (some_below t n))
    (cases_Bool (t n))

-- nothing is not something
pub none_some : {A : Type 0} {x : A} → None ≡ Some x → ⊥
none_some e = let z : ◌≡◌ {A = ℕ} 0 1 = cc in omega arith

-- equal options that are not empty have equal values
pub same_some : {A : Type 0} {x y : A} → ◌≡◌ {A = Option A} (Some x) (Some y) → x ≡ y
same_some e = cc

-- what is found under a test passed it
pub some-under : {A : Type 0} (b : Bool) (o : Option A) (x : A) → cond b o None ≡ Some x → (b ≡ true) × (o ≡ Some x)
some-under true o x e = (refl, e)
some-under false o x e = absurd (none_some e)

-- an option that is not empty has its value
pub value_some : {A : Type 0} (o : Option A) (d : A) → (o ≡ None → ⊥) → o ≡ Some (unwrap_or o d)
value_some (Some x) d h = refl
value_some None d h = absurd (h refl)

-- a listed number stands at some index
pub listed_at : (q : ℕ) (ps : List ℕ) → listed q ps ≡ true → (i : ℕ) × (i < length ps) × (get_or ps i 0 ≡ q)
listed_at q [] h = absurd (both_ways false refl h)
listed_at q (p ∷ ps) h =
    ⊎_elim (λ e. (0, omega arith, eqb-true p q e)) (λ e. let s = listed_at q ps e in (suc s.0, omega arith, s.2)) (or_cases (eqb p q) (listed q ps) h)

-- the first of a list is listed
pub listed-first : (p : ℕ) (ps : List ℕ) → listed p (p ∷ ps) ≡ true
listed-first p ps = or_left _ _ (eq-eqb p p refl)

-- what stands at an index is listed
pub at_listed : (ps : List ℕ) (i : ℕ) → i < length ps → listed (get_or ps i 0) ps ≡ true
at_listed [] i h = absurd (omega arith)
at_listed (p ∷ ps) zero h = listed-first p ps
at_listed (p ∷ ps) (suc i) h = or_right (eqb p (get_or ps i 0)) _ (at_listed ps i (omega arith))

-- the second of two is listed
pub listed-second : (p q : ℕ) → listed q (p ∷ q ∷ []) ≡ true
listed-second p q = or_right _ _ (listed-first q [])

-- what is one of one is that one, and of two, one or the other
pub listed-one : (q p : ℕ) → listed q (p ∷ []) ≡ true → p ≡ q
listed-one q p h = ⊎_elim (eqb-true p q) (λ e. absurd (both_ways false refl e)) (or_cases (eqb p q) false h)

pub listed_two : (z p q : ℕ) → listed z (p ∷ q ∷ []) ≡ true → (p ≡ z) ⊎ (q ≡ z)
listed_two z p q h = ⊎_elim (λ e. inl (eqb-true p z e)) (λ e. inr (listed-one z q e)) (or_cases (eqb p z) _ h)

-- what differs from one is none of it, and the same of two
pub unlisted-one : (z x : ℕ) → eqb z x ≡ false → listed z (x ∷ []) ≡ false
unlisted-one z x h = or_from (eqb x z) false (eqb_swap x z ∙ h) refl

pub unlisted_two : (z x y : ℕ) → eqb z x ≡ false → eqb z y ≡ false → listed z (x ∷ y ∷ []) ≡ false
unlisted_two z x y h k = or_from (eqb x z) _ (eqb_swap x z ∙ h) (unlisted-one z y k)

-- what two lists keep
pub keep_append : {A : Type 0} (t : A → Bool) (xs ys : List A) → keep t (xs ++ ys) ≡ keep t xs ++ keep t ys
keep_append t [] ys = refl
keep_append {A} t (x ∷ xs) ys = rw (keep_append t xs ys) (go (t x))
  where
    go : (b : Bool) → cond b (x ∷ (keep t xs ++ keep t ys)) (keep t xs ++ keep t ys) ≡ cond b (x ∷ keep t xs) (keep t xs) ++ keep t ys
    go true = refl
    go false = refl
