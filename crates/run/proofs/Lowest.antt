-- The set of wires that can move: its lowest is the wire that a sweep moves, and it is empty exactly when all are home.
use Rattle.std.proofs.Common.{◌≡◌, ℕ, zero, suc, ◌+◌, ◌*◌, ◌<◌, ◌≤◌, Bool, true, false, cond, not, ◌&&◌, eqb, List, [], ◌∷◌, map, length, get_or, Some, None, sym, refl, ap, ◌∙◌, ap₂, ⊎_elim, arith}
use lib.Count.{count_trailing_zeros}
use lib.Lanes.{mask_l}
use Rattle.std.specs.List.{prefix_len}
use Rattle.std.proofs.lemmas.Simd.{trailing_mask_l}
use Rattle.std.proofs.lemmas.Bool.{and_parts, both_ways, cases_Bool, eqb-true, eqb-false}
use Rattle.derivation.specs.declared.types.TypeEntry.{TypeEntry}
use Rattle.derivation.specs.declared.rows.Row.{Row}
use Rattle.derivation.specs.declared.rows.Place.{Place}
use Rattle.derivation.specs.Places.{wires}
use Rattle.theory.specs.Ports.{is_end}
use Rattle.theory.specs.Runs.{Reached}
use Rattle.theory.specs.Theory.{Theory}
use Rattle.theory.specs.Tokens.{Fired, movable, no_place}
use Rattle.theory.proofs.Progress.{reached-length}
use Rattle.run.specs.Books.{wires_where}
use Rattle.run.specs.Calls.{all_home, lowest, lowest_from}
use Rattle.run.proofs.Sweeps.{found, none_found}

positive : (n : ℕ) → (n ≡ 0 → ⊥) → 0 < n
positive n f = omega (arith, f)

-- the bits of a mask behind its first
rest_some : (n : ℕ) → 0 < cond false 1 0 + 2 * n → 0 < n
rest_some n h = omega arith

module _ (es : List TypeEntry) (rows : List Row) where
  -- the first that can move is found
  first-from : (tokens : List Place) (k : ℕ) (ts : List Place) → 0 < mask_l (map (movable es rows tokens) ts) → lowest_from es rows tokens k ts ≡ Some (k + prefix_len (λ t. not (movable es rows tokens t)) ts)
  first-from tokens k [] h = absurd (omega arith)
  first-from tokens k (t ∷ ts) h = go (first-from tokens (suc k) ts) (movable es rows tokens t) h where
    go : (0 < mask_l (map (movable es rows tokens) ts) → lowest_from es rows tokens (suc k) ts ≡ Some (suc k + prefix_len (λ u. not (movable es rows tokens u)) ts)) → (b : Bool) → 0 < cond b 1 0 + 2 * mask_l (map (movable es rows tokens) ts) → cond b (Some k) (lowest_from es rows tokens (suc k) ts) ≡ Some (k + cond (not b) (1 + prefix_len (λ u. not (movable es rows tokens u)) ts) 0)
    go later true h = ap (λ (n : ℕ). Some n) (omega arith)
    go later false h = later (rest_some _ h) ∙ ap (λ (n : ℕ). Some n) (omega arith)

  -- the wire that a sweep moves is the lowest of those that can move
  pub lowest_first : (tokens : List Place) → length tokens ≤ 32 → 0 < wires_where (movable es rows tokens) tokens → lowest es rows tokens ≡ Some (count_trailing_zeros 32 (wires_where (movable es rows tokens) tokens))
  unfolding lowest
  lowest_first tokens few some = first-from tokens 0 tokens some ∙ ap (λ (n : ℕ). Some n) (sym (trailing_mask_l (movable es rows tokens) 32 tokens few some ∙ omega arith))

  none_first : (tokens : List Place) (k : ℕ) (ts : List Place) → mask_l (map (movable es rows tokens) ts) ≡ 0 → lowest_from es rows tokens k ts ≡ None
  none_first tokens k [] e = refl
  none_first tokens k (t ∷ ts) e = go (none_first tokens (suc k) ts) (movable es rows tokens t) e where
    go : (mask_l (map (movable es rows tokens) ts) ≡ 0 → lowest_from es rows tokens (suc k) ts ≡ None) → (b : Bool) → cond b 1 0 + 2 * mask_l (map (movable es rows tokens) ts) ≡ 0 → cond b (Some k) (lowest_from es rows tokens (suc k) ts) ≡ None
    go later true e = absurd (omega arith)
    go later false e = later (omega arith)

  -- none is found where none can move
  pub lowest_none : (tokens : List Place) → wires_where (movable es rows tokens) tokens ≡ 0 → lowest es rows tokens ≡ None
  unfolding lowest
  lowest_none tokens e = none_first tokens 0 tokens e

  all_home-at : (ts : List Place) → all_home es rows ts ≡ true → (i : ℕ) → i < length ts → is_end es rows (get_or ts i no_place) ≡ true
  all_home-at [] e i h = absurd (omega arith)
  all_home-at (t ∷ ts) e zero h = (and_parts (is_end es rows t) (all_home es rows ts) e).0
  all_home-at (t ∷ ts) e (suc i) h = all_home-at ts (and_parts (is_end es rows t) (all_home es rows ts) e).1 i (omega arith)

  all_home-of : (ts : List Place) → ((i : ℕ) → i < length ts → is_end es rows (get_or ts i no_place) ≡ true) → all_home es rows ts ≡ true
  all_home-of [] f = refl
  all_home-of (t ∷ ts) f = ap₂ (λ (a b : Bool). a && b) (f 0 (omega arith)) (all_home-of ts (λ i h. f (suc i) (omega arith)))

  module _ (theory : Theory es rows) (tokens : List Place) (n : ℕ) (fired : List Fired) (reached : Reached es rows tokens n fired) where
    long : length tokens ≡ wires es rows
    long = reached-length es rows theory.begins reached

    home-none : wires_where (movable es rows tokens) tokens ≡ 0 → all_home es rows tokens ≡ true
    home-none e = all_home-of tokens (λ i h. ⊎_elim (λ t. t)
        (λ f. let (u, l, can) = (theory.progress tokens n fired reached).1 (i, omega (arith, long), f) in
        absurd (both_ways _ (none_found es rows tokens (lowest_none tokens e) u (omega (arith, long))) can))
        (cases_Bool (is_end es rows (get_or tokens i no_place))))

    away-some : length tokens ≤ 32 → 0 < wires_where (movable es rows tokens) tokens → all_home es rows tokens ≡ false
    away-some few some = ⊎_elim
        (λ t. let (l, can) = found es rows tokens _ (lowest_first tokens few some) in
        let (u, h, away) = (theory.progress tokens n fired reached).0 (_, omega (arith, long), can) in
        absurd (both_ways _ away (all_home-at tokens t u (omega (arith, long)))))
        (λ f. f) (cases_Bool (all_home es rows tokens))

    -- none can move exactly when all are home
    pub home-ready : length tokens ≤ 32 → eqb (wires_where (movable es rows tokens) tokens) 0 ≡ all_home es rows tokens
    home-ready few = ⊎_elim
        (λ t. t ∙ sym (home-none (eqb-true _ _ t)))
        (λ f. f ∙ sym (away-some few (positive (wires_where (movable es rows tokens) tokens) (eqb-false _ _ f))))
        (cases_Bool (eqb (wires_where (movable es rows tokens) tokens) 0))
