-- Laws of sets as masks.
use Rattle.std.proofs.Common.{◌≡◌, ℕ, zero, suc, ◌+◌, ◌-◌, ◌*◌, ◌/◌, ◌%◌, ◌^◌, ◌<◌, ◌≤◌, false, not, ◌&&◌, ◌||◌, eqb, sym, refl, ap, ◌∙◌, ⊎_elim, lt_of_lt_of_le, one-mul, arith, pow_mono}
use native.Mathlib.Nat.{mul-mod_left, div-eq_of_lt, zero-div, mod-eq_of_lt}
use lib.Bits.{and_mask, bit_and, bit_or, bit_xor, and_comm, and_shifted, xor_zero_r, or_shr, or_mod, and_shr, and_mod, xor_shr, xor_mod}
use Rattle.std.proofs.lemmas.Nat.{pow-add, pow_below, shl-shr, mod_below, one_shl, or_lt, xor_lt, and_le_l}
use Rattle.std.proofs.lemmas.Bool.{cases_order, cases_eq, eq-eqb, ne_eqb}
use Rattle.basics.specs.Sets.{has, only, union, without}

-- bit x of a mask
abbrev bit : ℕ → ℕ → ℕ
bit m x = m / 2 ^ x % 2

bit-small : (m x : ℕ) → bit m x < 2
bit-small m x = mod_below (m / 2 ^ x) 2 (omega arith)

-- two binary digits at a time
or_digit : (u v : ℕ) → u < 2 → v < 2 → eqb (bit_or u v) 1 ≡ (eqb u 1 || eqb v 1)
or_digit zero zero hu hv = refl
or_digit zero (suc zero) hu hv = refl
or_digit zero (suc (suc v)) hu hv = absurd (omega arith)
or_digit (suc zero) zero hu hv = refl
or_digit (suc zero) (suc zero) hu hv = refl
or_digit (suc zero) (suc (suc v)) hu hv = absurd (omega arith)
or_digit (suc (suc u)) v hu hv = absurd (omega arith)

less_digit : (u v : ℕ) → u < 2 → v < 2 → eqb (bit_xor u (bit_and u v)) 1 ≡ (eqb u 1 && not (eqb v 1))
less_digit zero zero hu hv = refl
less_digit zero (suc zero) hu hv = refl
less_digit zero (suc (suc v)) hu hv = absurd (omega arith)
less_digit (suc zero) zero hu hv = refl
less_digit (suc zero) (suc zero) hu hv = refl
less_digit (suc zero) (suc (suc v)) hu hv = absurd (omega arith)
less_digit (suc (suc u)) v hu hv = absurd (omega arith)

pub has-union : (a b z : ℕ) → has (union a b) z ≡ (has a z || has b z)
unfolding has union
has-union a b z =
    ap (λ n. eqb (n % 2) 1) (or_shr a b z)
    ∙ ap (λ n. eqb n 1) (or_mod (a / 2 ^ z) (b / 2 ^ z) 1)
    ∙ or_digit (bit a z) (bit b z) (bit-small a z) (bit-small b z)

-- the bits of a power of two
bit_below : (x z : ℕ) → z < x → bit (2 ^ x) z ≡ 0
bit_below x z h =
    let split : x ≡ (x - suc z) + 1 + z = omega arith in
    ap (λ n. 2 ^ n / 2 ^ z % 2) split
    ∙ ap (λ n. n / 2 ^ z % 2) (pow-add 2 ((x - suc z) + 1) z)
    ∙ ap (λ n. n % 2) (shl-shr (2 ^ ((x - suc z) + 1)) z)
    ∙ ap (λ n. n % 2) (pow-add 2 (x - suc z) 1)
    ∙ mul-mod_left (2 ^ (x - suc z)) 2

bit-here : (x : ℕ) → bit (2 ^ x) x ≡ 1
bit-here x = ap (λ n. n / 2 ^ x % 2) (sym (one-mul (2 ^ x))) ∙ ap (λ n. n % 2) (shl-shr 1 x)

bit-above : (x z : ℕ) → x < z → bit (2 ^ x) z ≡ 0
bit-above x z h = ap (λ n. n % 2) (div-eq_of_lt (pow_below x z h))

pub has-only : (x z : ℕ) → has (only x) z ≡ eqb z x
unfolding has only
has-only x z =
    ⊎_elim (λ e. ap (λ n. eqb (bit (2 ^ x) n) 1) e ∙ ap (λ n. eqb n 1) (bit-here x) ∙ sym (eq-eqb z x e))
    (⊎_elim (λ l. ap (λ n. eqb n 1) (bit_below x z l) ∙ sym (ne_eqb z x (omega arith))) (λ l. ap (λ n. eqb n 1) (bit-above x z l) ∙ sym (ne_eqb z x (omega arith))))
    (cases_order z x)

pub has-without : (m x z : ℕ) → has (without m x) z ≡ (has m z && not (eqb z x))
unfolding has without only
has-without m x z =
    ap (λ n. eqb (n % 2) 1) (xor_shr m (bit_and m (2 ^ x)) z ∙ ap (bit_xor (m / 2 ^ z)) (and_shr m (2 ^ x) z))
    ∙ ap (λ n. eqb n 1) (xor_mod (m / 2 ^ z) (bit_and (m / 2 ^ z) (2 ^ x / 2 ^ z)) 1 ∙ ap (bit_xor (m / 2 ^ z % 2)) (and_mod (m / 2 ^ z) (2 ^ x / 2 ^ z) 1))
    ∙ less_digit (bit m z) (bit (2 ^ x) z) (bit-small m z) (bit-small (2 ^ x) z)
    ∙ ap (λ b. eqb (bit m z) 1 && not b) (has-only x z)

pub has_none : (z : ℕ) → has 0 z ≡ false
unfolding has
has_none z = ap (λ n. eqb (n % 2) 1) (zero-div (2 ^ z))

-- a mask of k bits has no number from k on
module _ (k m x : ℕ) (fits : m < 2 ^ k) (past : k ≤ x) where
  pub below_power : m < 2 ^ x
  below_power = lt_of_lt_of_le fits (pow_mono past)

  pub has_past : has m x ≡ false
  unfolding has
  has_past = ap (λ n. eqb (n % 2) 1) (div-eq_of_lt below_power)

  pub without_past : without m x ≡ m
  unfolding without
  without_past =
      ap (bit_xor m) (and_comm m (2 ^ x) ∙ ap (λ n. bit_and n m) (sym (one-mul (2 ^ x))) ∙ and_shifted 1 x m below_power) ∙ xor_zero_r m

-- a shift and a mask read one bit
pub has_bit : (m x : ℕ) → eqb (bit_and (m / 2 ^ x) 1) 1 ≡ has m x
unfolding has
has_bit m x = ap (λ n. eqb n 1) (and_mask (m / 2 ^ x) 1)

-- what is left below k of a mask of k bits, one number more, one number less, or another such mask
module _ (k m x : ℕ) (fits : m < 2 ^ k) (within : x < k) (few : k ≤ 128) where
  single_bit : (1 * 2 ^ x) % 2 ^ 128 ≡ 2 ^ x
  single_bit = one_shl x 128 (omega arith)

  pub with_bit : bit_or m ((1 * 2 ^ x) % 2 ^ 128) % 2 ^ k ≡ union m (only x)
  unfolding union only
  with_bit = ap (λ n. bit_or m n % 2 ^ k) single_bit ∙ mod-eq_of_lt (or_lt k m (2 ^ x) fits (pow_below x k within))

  pub without_bit : bit_xor m (bit_and m ((1 * 2 ^ x) % 2 ^ 128)) % 2 ^ k ≡ without m x
  unfolding without
  without_bit =
      ap (λ n. bit_xor m (bit_and m n) % 2 ^ k) single_bit
      ∙ mod-eq_of_lt (xor_lt k m (bit_and m (2 ^ x)) fits (omega (arith, fits, and_le_l m (2 ^ x))))

pub union_fits : (k a b : ℕ) → a < 2 ^ k → b < 2 ^ k → bit_or a b % 2 ^ k ≡ union a b
unfolding union
union_fits k a b p q = mod-eq_of_lt (or_lt k a b p q)

pub union_none : (m : ℕ) → union 0 m ≡ m
unfolding union
union_none m = refl

-- a test of equality does not mind the order
pub eqb_swap : (p q : ℕ) → eqb p q ≡ eqb q p
eqb_swap p q = ⊎_elim (λ e. eq-eqb p q e ∙ sym (eq-eqb q p (sym e))) (λ ne. ne_eqb p q ne ∙ sym (ne_eqb q p (λ e. ne (sym e)))) (cases_eq p q)
