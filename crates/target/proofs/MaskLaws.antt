-- Sets as masks of k bits: what is in such a set is below k, and a mask fits k bits if nothing is left of it after a shift by k.
use Rattle.std.proofs.Common.{◌≡◌, ℕ, zero, suc, ◌/◌, ◌%◌, ◌^◌, ◌<◌, ◌≤◌, true, ◌&&◌, eqb, ltb, List, [], ◌∷◌, length, get_or, sym, refl, ap, ◌∙◌, ⊎_elim, arith}
use native.Mathlib.Nat.{div-eq_of_lt}
use lib.Bits.{bit_and, and_mod, and_shr}
use Rattle.std.proofs.lemmas.Nat.{pow_pos, le-div, mod_below}
use Rattle.std.proofs.lemmas.List.{get_or-map, length-map}
use Rattle.std.proofs.lemmas.Bool.{cases_lt, lt-ltb, le-ltb, eq-eqb, ne_eqb, and_parts, and_from, both_ways}
use Rattle.derivation.specs.Rows.{all_in, all_below}
use Rattle.basics.specs.Sets.{has, without}
use Rattle.derivation.proofs.RowLaws.{below_from_lem}
use Rattle.basics.proofs.SetLaws.{below_power, has_past, has-without}
use Rattle.basics.specs.declared.numbers.Wire.{Wire}
use Rattle.target.specs.Interface.{numbers_of}

pub fits_past : (k m x : ℕ) → m < 2 ^ k → k ≤ x → ltb m (2 ^ x) ≡ true
fits_past k m x fits past = lt-ltb m (2 ^ x) (below_power k m x fits past)

-- what is in a mask of k bits is below k
pub has_below : (k m x : ℕ) → m < 2 ^ k → has m x ≡ true → x < k
has_below k m x fits e = ⊎_elim (λ l. l) (λ l. absurd (both_ways (has m x) (has_past k m x fits l) e)) (cases_lt x k)

-- wires in a set of numbers below k are below k
pub all_below_lem : (k m : ℕ) (ws : List ℕ) → ((z : ℕ) → has m z ≡ true → z < k) → all_in m ws ≡ true → all_below k ws ≡ true
all_below_lem k m [] low e = refl
all_below_lem k m (w ∷ ws) low e =
    let p = and_parts (has m w) (all_in (without m w) ws) e in
    and_from (ltb w k) _ (lt-ltb w k (low w p.0))
    (all_below_lem k (without m w) ws (λ z h. low z (and_parts (has m z) _ (sym (has-without m w z) ∙ h)).0) p.1)

pub below_at : (k : ℕ) (ws : List Wire) (i : ℕ) (d : Wire) → all_below k (numbers_of ws) ≡ true → i < length ws → (get_or ws i d).0 < k
below_at k ws i d e h = omega (arith, below_from_lem k (numbers_of ws) e i (omega (arith, length-map ws (λ w. w.0))), get_or-map (λ w. w.0) ws i d 0 h)

-- what is in two sets is in both
and_digit : (u v : ℕ) → u < 2 → v < 2 → eqb (bit_and u v) 1 ≡ (eqb u 1 && eqb v 1)
and_digit zero v hu hv = refl
and_digit (suc zero) zero hu hv = refl
and_digit (suc zero) (suc zero) hu hv = refl
and_digit (suc zero) (suc (suc v)) hu hv = absurd (omega arith)
and_digit (suc (suc u)) v hu hv = absurd (omega arith)

pub has-and : (a b z : ℕ) → has (bit_and a b) z ≡ (has a z && has b z)
unfolding has
has-and a b z =
    ap (λ n. eqb (n % 2) 1) (and_shr a b z)
    ∙ ap (λ n. eqb n 1) (and_mod (a / 2 ^ z) (b / 2 ^ z) 1)
    ∙ and_digit (a / 2 ^ z % 2) (b / 2 ^ z % 2) (mod_below (a / 2 ^ z) 2 (omega arith)) (mod_below (b / 2 ^ z) 2 (omega arith))

-- nothing is left after a shift by k exactly if the mask fits k bits
pub shift_fits : (m k : ℕ) → ltb m (2 ^ k) ≡ eqb (m / 2 ^ k) 0
shift_fits m k =
    ⊎_elim (λ l. lt-ltb m (2 ^ k) l ∙ sym (eq-eqb (m / 2 ^ k) 0 (div-eq_of_lt l)))
    (λ l. le-ltb m (2 ^ k) l ∙ sym (ne_eqb (m / 2 ^ k) 0 (λ e. omega (arith, le-div 1 m (2 ^ k) (pow_pos k) (omega arith)))))
    (cases_lt m (2 ^ k))
