-- Sets of wires as masks: when two are equal, the members of a mask made of tests, and counting members.
use Rattle.std.proofs.Common.{◌≡◌, ℕ, zero, suc, ◌/◌, ◌%◌, ◌^◌, ◌<◌, ◌≤◌, Bool, true, false, cond, not, ◌&&◌, eqb, ◌⊎◌, List, get_or, sym, refl, ap, ◌∙◌, ap₂, inl, inr, ⊎_elim, lt_of_lt_of_le, div-one, one-add, arith, pow_mono}
use native.Mathlib.Nat.{div-eq_of_lt, two-pow-succ}
use lib.Count.{ones, ones_step, ones-le}
use lib.Dec.{eqb-zero-suc, eqb-suc-zero, eqb-suc-suc}
use lib.Lanes.{mask_l}
use Rattle.std.proofs.lemmas.Nat.{shr-shr, mod_below}
use Rattle.std.proofs.lemmas.Simd.{bit_mask_l}
use Rattle.std.proofs.lemmas.Bool.{both_ways, and_parts, and_from, and_right, cases_lt, eqb-true, eqb-false, eq-eqb, ne_eqb, not-true, not_from_false}
use Rattle.std.proofs.lemmas.Nat.Bits.{same_from_bits}
use Rattle.std.proofs.Math.Bool.{and-true}
use Rattle.basics.specs.Sets.{has, without}
use Rattle.basics.proofs.SetLaws.{has_none, has-without}
use Rattle.derivation.proofs.TreeLaws.{not_so}
use Rattle.theory.proofs.Basics.{below_suc, some_below}

two_pow_above : (n : ℕ) → n < 2 ^ n
two_pow_above zero = omega arith
two_pow_above (suc n) = let h : n < 2 ^ n = two_pow_above n in omega (arith, two-pow-succ n)

-- a mask has no number that is not below it
pub has_beyond : (m x : ℕ) → m ≤ x → has m x ≡ false
unfolding has
has_beyond m x h = ap (λ k. eqb (k % 2) 1) (div-eq_of_lt (lt_of_lt_of_le (two_pow_above m) (pow_mono h)))

-- the members of half a mask
has_half : (m z : ℕ) → has (m / 2) z ≡ has m (suc z)
unfolding has
has_half m z = ap (λ k. eqb (k % 2) 1) (shr-shr m 1 z ∙ ap (λ j. m / 2 ^ j) (one-add z))

-- the lowest digit
has-low : (m : ℕ) → has m 0 ≡ eqb (m % 2) 1
unfolding has
has-low m = ap (λ k. eqb (k % 2) 1) (div-one m)

-- two binary digits that are both 1 or both not
same_digit : (u v : ℕ) → u < 2 → v < 2 → eqb u 1 ≡ eqb v 1 → u ≡ v
same_digit zero zero hu hv e = refl
same_digit zero (suc zero) hu hv e = absurd (both_ways true (sym e) refl)
same_digit zero (suc (suc v)) hu hv e = absurd (omega arith)
same_digit (suc zero) zero hu hv e = absurd (both_ways true e refl)
same_digit (suc zero) (suc zero) hu hv e = refl
same_digit (suc zero) (suc (suc v)) hu hv e = absurd (omega arith)
same_digit (suc (suc u)) v hu hv e = absurd (omega arith)

same_low : (a b : ℕ) → has a 0 ≡ has b 0 → a % 2 ≡ b % 2
same_low a b e = same_digit (a % 2) (b % 2) (mod_below a 2 (omega arith)) (mod_below b 2 (omega arith)) (sym (has-low a) ∙ e ∙ has-low b)

-- masks with the same members are the same
pub same_masks : (a b : ℕ) → ((z : ℕ) → has a z ≡ has b z) → a ≡ b
unfolding has
same_masks a b e = same_from_bits a b (λ z. same_digit (a / 2 ^ z % 2) (b / 2 ^ z % 2) (mod_below (a / 2 ^ z) 2 (omega arith)) (mod_below (b / 2 ^ z) 2 (omega arith)) (e z))

one_bit : (b : Bool) → eqb (cond b 1 0) 1 ≡ b
one_bit true = refl
one_bit false = refl

-- the members of the mask of some tests
pub has_mask : (ms : List Bool) (v : ℕ) → has (mask_l ms) v ≡ get_or ms v false
unfolding has
has_mask ms v = ap (λ n. eqb n 1) (bit_mask_l ms v) ∙ one_bit (get_or ms v false)

-- a mask has one member more than without one of its members
pub ones-without : (m v : ℕ) → has m v ≡ true → ones m ≡ suc (ones (without m v))
ones-without m zero h =
    let half : without m 0 / 2 ≡ m / 2 = same_masks (without m 0 / 2) (m / 2)
    (λ z. has_half (without m 0) z ∙ has-without m 0 (suc z) ∙ ap (λ b. has m (suc z) && not b) (eqb-suc-zero z) ∙ and-true (has m (suc z)) ∙ sym (has_half m z)) in
    let odd : m % 2 ≡ 1 = eqb-true _ _ (sym (has-low m) ∙ h) in
    let even : without m 0 % 2 ≡ 0 % 2 = same_low (without m 0) 0 (has-without m 0 0 ∙ and_right (has m 0) false refl ∙ sym (has_none 0)) in
    omega (arith, ones_step m, ones_step (without m 0), ap ones half)
ones-without m (suc v) h =
    let half : without m (suc v) / 2 ≡ without (m / 2) v = same_masks (without m (suc v) / 2) (without (m / 2) v)
    (λ z.
    has_half (without m (suc v)) z ∙ has-without m (suc v) (suc z)
    ∙ ap₂ (λ b c. b && not c) (sym (has_half m z)) (eqb-suc-suc z v) ∙ sym (has-without (m / 2) v z)) in
    let low : without m (suc v) % 2 ≡ m % 2 = same_low (without m (suc v)) m (has-without m (suc v) 0 ∙ ap (λ b. has m 0 && not b) (eqb-zero-suc v) ∙ and-true (has m 0)) in
    omega (arith, ones_step m, ones_step (without m (suc v)), ap ones half, ones-without (m / 2) v (has_half m v ∙ h))

-- the empty set has no members to count
ones_none : ones 0 ≡ 0
ones_none = omega (arith, ones-le 0 0 (omega arith))

-- a set whose members have different numbers below n
pub record Numbered (m n : ℕ) (s : ℕ → ℕ) : Type 0 where
  pub low : (v : ℕ) → has m v ≡ true → s v < n
  pub apart : (u v : ℕ) → has m u ≡ true → has m v ≡ true → s u ≡ s v → u ≡ v

-- some member has number i
abbrev pub Numbers : ℕ → (ℕ → ℕ) → ℕ → Type 0
Numbers m s i = (v : ℕ) × (has m v ≡ true) × (s v ≡ i)

-- some member has number i, or none has
find_number : (m : ℕ) (s : ℕ → ℕ) (i : ℕ) → Numbers m s i ⊎ ((v : ℕ) → has m v ≡ true → s v ≡ i → ⊥)
find_number m s i = ⊎_elim
    (λ (v, h, e). let (in-m, same) = and_parts (has m v) _ e in inl (v, in-m, eqb-true _ _ same))
    (λ none. inr (λ v h e. ⊎_elim
    (λ l. both_ways _ (none v l) (and_from _ _ h (eq-eqb _ _ e)))
    (λ l. both_ways _ (has_beyond m v l) h)
    (cases_lt v m)))
    (some_below (λ v. has m v && eqb (s v) i) m)

-- without the member that has the greatest number, the others have numbers below it
numbered-less : (n m : ℕ) (s : ℕ → ℕ) → Numbered m (suc n) s → (u : ℕ) → has m u ≡ true → s u ≡ n → Numbered (without m u) n s
numbered-less n m s k u h e = record {
  low = λ v g.
      let (in-m, other) = and_parts (has m v) _ (sym (has-without m u v) ∙ g) in
      let ne : s v ≡ n → ⊥ = λ same. eqb-false v u (not-true _ other) (k.apart v u in-m h (same ∙ sym e)) in
      omega (arith, k.low v in-m);
  apart = λ v w g f.
      k.apart v w (and_parts (has m v) _ (sym (has-without m u v) ∙ g)).0 (and_parts (has m w) _ (sym (has-without m u w) ∙ f)).0;
}

-- a number of the rest, or the greatest
number_more : (n m : ℕ) (s : ℕ → ℕ) (u : ℕ) → has m u ≡ true → s u ≡ n → ((i : ℕ) → i < n → Numbers (without m u) s i) → (i : ℕ) → i < suc n → Numbers m s i
number_more n m s u h e all i l = ⊎_elim
    (λ less. let (v, g, f) = all i less in (v, (and_parts (has m v) _ (sym (has-without m u v) ∙ g)).0, f))
    (λ same. (u, h, e ∙ sym same))
    (below_suc i n l)

number_less : (n m : ℕ) (s : ℕ → ℕ) (u : ℕ) → s u ≡ n → ((i : ℕ) → i < suc n → Numbers m s i) → (i : ℕ) → i < n → Numbers (without m u) s i
number_less n m s u e all i l =
    let (v, g, f) = all i (omega arith) in
    (v, has-without m u v ∙ and_from _ _ g (not_from_false _ (ne_eqb v u (λ same. let z : i ≡ n = sym f ∙ ap s same ∙ e in omega arith))), f)

-- such a set has at most n members, and n exactly if each number below n is that of a member
pub counted : (n m : ℕ) (s : ℕ → ℕ) → Numbered m n s → (ones m ≤ n) × (ones m ≡ n → (i : ℕ) → i < n → Numbers m s i) × (((i : ℕ) → i < n → Numbers m s i) → ones m ≡ n)
counted zero m s k =
    let empty : m ≡ 0 = same_masks m 0 (λ z. not_so _ (λ h. let l : s z < 0 = k.low z h in omega arith) ∙ sym (has_none z)) in
    let none : ones m ≡ 0 = ap ones empty ∙ ones_none in
    (omega arith, (λ e i l. absurd (omega arith)), (λ all. none))
counted (suc n) m s k = ⊎_elim
    (λ (u, h, e).
    let rest = counted n (without m u) s (numbered-less n m s k u h e) in
    let more : ones m ≡ suc (ones (without m u)) = ones-without m u h in (
      omega (arith, rest.0),
      (λ f. number_more n m s u h e (rest.1 (omega arith))),
      (λ all. more ∙ ap suc (rest.2 (number_less n m s u e all))),
    ))
    (λ none.
    let rest = counted n m s (record { low = λ v h. let ne : s v ≡ n → ⊥ = none v h in omega (arith, k.low v h); apart = k.apart }) in (
      omega (arith, rest.0),
      (λ f. absurd (omega (arith, rest.0))),
      (λ all. let (v, h, e) = all n (omega arith) in absurd (none v h e)),
    ))
    (find_number m s n)
