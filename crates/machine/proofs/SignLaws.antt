-- The signs of a type are its positive atoms.
use Rattle.std.proofs.Common.{◌≡◌, ℕ, zero, suc, ◌+◌, ◌-◌, ◌*◌, ◌/◌, ◌%◌, ◌^◌, ◌<◌, ◌≤◌, Bool, true, false, cond, not, ◌||◌, eqb, ltb, sym, refl, ap, ◌∙◌, subst, ⊎_elim, lt_of_lt_of_le, mul_assoc, suc-mul, add_comm, arith, pow_mono}
use native.Mathlib.Nat.{div-eq_of_lt, mul-mod_left}
use lib.Bits.{bit_or, bit_xor, or_lt, xor_lt, xor_shr, xor_mod}
use Rattle.std.proofs.lemmas.Nat.{pow_pos, pow-add, shl-shr, shr-shr, shl_below, shr_high, mod_below, mod-mul-add}
use Rattle.std.proofs.lemmas.Bool.{cases_lt, lt-ltb, le-ltb}
use Rattle.basics.specs.Sets.{has, union}
use Rattle.derivation.specs.Trees.{Tree, qubit, arrow, pair, atoms, positive}
use Rattle.basics.proofs.SetLaws.{has-union}
use Rattle.machine.specs.Facts.{signs_of}

-- a mask below 2 ^ n has no number from n on
has_above : (m n x : ℕ) → m < 2 ^ n → n ≤ x → has m x ≡ false
unfolding has
has_above m n x h l = ap (λ k. eqb (k % 2) 1) (div-eq_of_lt (lt_of_lt_of_le h (pow_mono l)))

-- a shifted mask
has_shifted-low : (m n x : ℕ) → x < n → has (m * 2 ^ n) x ≡ false
unfolding has
has_shifted-low m n x h =
    let split : n ≡ (n - suc x) + 1 + x = omega arith in
    ap (λ k. eqb (m * 2 ^ k / 2 ^ x % 2) 1) split
    ∙ ap (λ k. eqb (m * k / 2 ^ x % 2) 1) (pow-add 2 ((n - suc x) + 1) x ∙ ap (λ k. k * 2 ^ x) (pow-add 2 (n - suc x) 1))
    ∙ ap (λ k. eqb (k / 2 ^ x % 2) 1) (sym (mul_assoc m (2 ^ (n - suc x) * 2) (2 ^ x)) ∙ ap (λ k. k * 2 ^ x) (sym (mul_assoc m (2 ^ (n - suc x)) 2)))
    ∙ ap (λ k. eqb (k % 2) 1) (shl-shr (m * 2 ^ (n - suc x) * 2) x)
    ∙ ap (λ k. eqb k 1) (mul-mod_left (m * 2 ^ (n - suc x)) 2)

has_shifted : (m n x : ℕ) → n ≤ x → has (m * 2 ^ n) x ≡ has m (x - n)
unfolding has
has_shifted m n x h =
    let split : x ≡ n + (x - n) = omega arith in
    ap (λ k. eqb (m * 2 ^ n / 2 ^ k % 2) 1) split
    ∙ ap (λ k. eqb (k % 2) 1) (sym (shr-shr (m * 2 ^ n) n (x - n)) ∙ ap (λ k. k / 2 ^ (x - n)) (shl-shr m n))

-- bit x of n ones
bit-ones : (n x : ℕ) → x < n → (2 ^ n - 1) / 2 ^ x % 2 ≡ 1
bit-ones n x h =
    let split : n ≡ (n - suc x) + 1 + x = omega arith in
    let high = 2 ^ (n - suc x) in
    let whole : 2 ^ n ≡ high * 2 * 2 ^ x = ap (λ k. 2 ^ k) split ∙ pow-add 2 ((n - suc x) + 1) x ∙ ap (λ k. k * 2 ^ x) (pow-add 2 (n - suc x) 1) in
    let odd : high * 2 - 1 ≡ (high - 1) * 2 + 1 = omega (arith, pow_pos (n - suc x)) in
    let next : high * 2 ≡ suc (high * 2 - 1) = omega (arith, pow_pos (n - suc x)) in
    let parts : 2 ^ n - 1 ≡ (high * 2 - 1) * 2 ^ x + (2 ^ x - 1) = omega (arith, whole ∙ ap (λ k. k * 2 ^ x) next ∙ suc-mul (high * 2 - 1) (2 ^ x), pow_pos x) in
    ap (λ k. k / 2 ^ x % 2) parts
    ∙ ap (λ k. k % 2) (shr_high (high * 2 - 1) x (2 ^ x - 1) (omega (arith, pow_pos x)) ∙ odd)
    ∙ mod-mul-add (high - 1) 2 1 (omega arith)

xor_digit : (u : ℕ) → u < 2 → eqb (bit_xor u 1) 1 ≡ not (eqb u 1)
xor_digit zero h = refl
xor_digit (suc zero) h = refl
xor_digit (suc (suc u)) h = absurd (omega arith)

-- a mask reversed within n bits
has-turned : (m n x : ℕ) → x < n → has (bit_xor m (2 ^ n - 1)) x ≡ not (has m x)
unfolding has
has-turned m n x h =
    ap (λ k. eqb (k % 2) 1) (xor_shr m (2 ^ n - 1) x)
    ∙ ap (λ k. eqb k 1) (xor_mod (m / 2 ^ x) ((2 ^ n - 1) / 2 ^ x) 1 ∙ ap (bit_xor (m / 2 ^ x % 2)) (bit-ones n x h))
    ∙ xor_digit (m / 2 ^ x % 2) (mod_below (m / 2 ^ x) 2 (omega arith))

turned_lt : (m n : ℕ) → m < 2 ^ n → bit_xor m (2 ^ n - 1) < 2 ^ n
turned_lt m n h = xor_lt n m (2 ^ n - 1) h (omega (arith, pow_pos n))

or_false : (b : Bool) → (b || false) ≡ b
or_false true = refl
or_false false = refl

-- two masks, one behind the other
module _ (low high n k : ℕ) (h : low < 2 ^ n) where
  both_lt : high < 2 ^ k → bit_or low (high * 2 ^ n) < 2 ^ (n + k)
  both_lt l =
      or_lt (n + k) low (high * 2 ^ n) (lt_of_lt_of_le h (pow_mono (omega arith)))
      (subst (λ j. high * 2 ^ n < 2 ^ j) (add_comm k n) (shl_below high k n l))

  has_both : (x : ℕ) → has (bit_or low (high * 2 ^ n)) x ≡ cond (ltb x n) (has low x) (has high (x - n))
  unfolding union
  has_both x =
      has-union low (high * 2 ^ n) x
      ∙ ⊎_elim (λ (l : x < n). rw (lt-ltb x n l, has_shifted-low high n x l) (or_false (has low x)))
      (λ (l : n ≤ x). rw (le-ltb x n l, has_above low n x h l, has_shifted high n x l) refl) (cases_lt x n)

pub signs_lt : (t : Tree) → signs_of t < 2 ^ atoms t
signs_lt qubit = omega arith
signs_lt (arrow a c) = both_lt (bit_xor (signs_of a) (2 ^ atoms a - 1)) (signs_of c) (atoms a) (atoms c) (turned_lt (signs_of a) (atoms a) (signs_lt a)) (signs_lt c)
signs_lt (pair a c) = both_lt (signs_of a) (signs_of c) (atoms a) (atoms c) (signs_lt a) (signs_lt c)

pub signs-has : (t : Tree) (i : ℕ) → i < atoms t → has (signs_of t) i ≡ positive t i
unfolding has
signs-has qubit zero h = refl
signs-has qubit (suc i) h = absurd (omega arith)
signs-has (arrow a c) i h =
    has_both (bit_xor (signs_of a) (2 ^ atoms a - 1)) (signs_of c) (atoms a) (atoms c) (turned_lt (signs_of a) (atoms a) (signs_lt a)) i
    ∙ ⊎_elim (λ (l : i < atoms a). rw (lt-ltb i (atoms a) l, has-turned (signs_of a) (atoms a) i l, signs-has a i l) refl)
    (λ (l : atoms a ≤ i). rw (le-ltb i (atoms a) l, signs-has c (i - atoms a) (omega arith)) refl) (cases_lt i (atoms a))
signs-has (pair a c) i h =
    has_both (signs_of a) (signs_of c) (atoms a) (atoms c) (signs_lt a) i
    ∙ ⊎_elim (λ (l : i < atoms a). rw (lt-ltb i (atoms a) l, signs-has a i l) refl)
    (λ (l : atoms a ≤ i). rw (le-ltb i (atoms a) l, signs-has c (i - atoms a) (omega arith)) refl) (cases_lt i (atoms a))
