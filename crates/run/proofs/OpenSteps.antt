-- What open looks for over the rows of a derivation, and the steps of its loop over the starts of the wires.
use Rattle.std.proofs.Common.{◌≡◌, ℕ, suc, ◌+◌, ◌*◌, ◌%◌, ◌^◌, ◌<◌, ◌≤◌, Bool, true, false, cond, not, List, [], ◌∷◌, ◌++◌, map, length, get_or, take, Some, Option, sym, refl, ap, ◌∙◌, subst, ap₂, one-mul, add-one, arith}
use native.Mathlib.Nat.{two-pow-succ}
use lib.Bits.{bit_or, or_shifted_r}
use lib.Lanes.{mask_l}
use lib.ListN.{length-map}
use Rattle.std.specs.List.{position_from}
use Rattle.std.proofs.lemmas.Nat.{one_shl}
use Rattle.std.proofs.lemmas.Simd.{mask_l-lt}
use Rattle.std.proofs.lemmas.List.{length-take-le, map_more}
use Rattle.basics.specs.declared.gate.Gate.{Gate as GateName}
use Rattle.derivation.specs.declared.rows.Row.{Row}
use Rattle.run.specs.Opening.{not_taken, walkable}

-- the lowest row that cannot be walked, as a search from row r on finds it
pub not_taken-found : (takes : GateName → Bool) (r : ℕ) (rows : List Row) → position_from (λ row. not (walkable takes row.rule)) r rows ≡ not_taken takes r rows
not_taken-found takes r [] = refl
not_taken-found takes r (row ∷ rows) =
    ap (λ (k : ℕ). cond (not (walkable takes row.rule)) (Some r) (position_from (λ x. not (walkable takes x.rule)) k rows)) (add-one r)
    ∙ swapped (walkable takes row.rule) (Some r) (not_taken-found takes (suc r) rows)
  where
    swapped : (b : Bool) (o : Option ℕ) {p q : Option ℕ} → p ≡ q → cond (not b) o p ≡ cond b q o
    swapped true o e = e
    swapped false o e = refl

-- a list with one more bit has the mask with that bit above
mask_push : (ms : List Bool) (b : Bool) → mask_l (ms ++ b ∷ []) ≡ cond b 1 0 * 2 ^ length ms + mask_l ms
mask_push [] true = refl
mask_push [] false = refl
mask_push (m ∷ ms) true = omega (arith, mask_push ms true, two-pow-succ (length ms))
mask_push (m ∷ ms) false = omega (arith, mask_push ms false, two-pow-succ (length ms))

-- the mask of the elements below i that pass a test, and of the one at i
module _ {X : Type 0} (f : X → Bool) (xs : List X) (i : ℕ) (d : X) (h : i < length xs) (few : length xs ≤ 32) (so_far after : ℕ) (e : so_far ≡ mask_l (map f (take i xs))) where
  mask_length : length (map f (take i xs)) ≡ i
  mask_length = length-map (take i xs) f ∙ length-take-le i xs (omega arith)

  mask_next : mask_l (map f (take (i + 1) xs)) ≡ cond (f (get_or xs i d)) 1 0 * 2 ^ i + so_far
  mask_next =
      ap mask_l (map_more f xs i d h) ∙ mask_push (map f (take i xs)) (f (get_or xs i d))
      ∙ ap₂ (λ (n m : ℕ). cond (f (get_or xs i d)) 1 0 * 2 ^ n + m) mask_length (sym e)

  -- it passes
  pub mask_with : f (get_or xs i d) ≡ true → after ≡ bit_or so_far ((1 * 2 ^ i) % 2 ^ 32) → after ≡ mask_l (map f (take (i + 1) xs))
  mask_with passes is =
      let low = subst (λ n. so_far < 2 ^ n) mask_length (subst (λ m. m < 2 ^ length (map f (take i xs))) (sym e) (mask_l-lt (map f (take i xs)))) in
      is ∙ ap (bit_or so_far) (one_shl i 32 (omega arith) ∙ sym (one-mul (2 ^ i))) ∙ or_shifted_r 1 i so_far low
      ∙ ap (λ b. cond b 1 0 * 2 ^ i + so_far) (sym passes) ∙ sym mask_next

  -- it does not
  pub mask_skip : f (get_or xs i d) ≡ false → after ≡ so_far → after ≡ mask_l (map f (take (i + 1) xs))
  mask_skip fails is = is ∙ sym (ap (λ b. cond b 1 0 * 2 ^ i + so_far) fails ∙ zero_more (2 ^ i) so_far) ∙ sym mask_next
    where
      zero_more : (n m : ℕ) → 0 * n + m ≡ m
      zero_more n m = omega arith
