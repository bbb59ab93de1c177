-- The steps of the loop over a table, and what a search of a table finds.
use Rattle.std.proofs.Common.{◌≡◌, ℕ, suc, ◌+◌, ◌<◌, ◌≤◌, Bool, eqb, not, true, false, cond, ltb, leb, List, length, get_or, drop, Some, None, sym, refl, ap, ◌∙◌, ⊎_elim, add-one, arith}
use lib.ListN.{length-map}
use Rattle.std.specs.List.{position_or_len}
use Rattle.std.specs.Option.{unwrap_or}
use Rattle.std.proofs.lemmas.List.Recursion.{is_position_or_len}
use Rattle.std.proofs.lemmas.List.Sums.{fails_before_first, prefix_len-le-length}
use Rattle.std.proofs.lemmas.List.{drop_all, drop_more}
use Rattle.std.proofs.lemmas.Bool.{both_ways, eq-eqb, ltb-false, and_parts, cases_lt, cond-false, cond-true, le-leb, leb-true, le-ltb, lt-leb, lt-ltb}
use Rattle.basics.specs.declared.numbers.Wire.{Wire}
use Rattle.basics.specs.Sets.{has, only, union}
use Rattle.basics.proofs.SetLaws.{union_none}
use Rattle.target.specs.Interface.{numbers_of}
use Rattle.channel_map.specs.Channels.{Table, channels_from, channels_of, fitting, seatable}
use Rattle.channel_map.specs.ChannelLaws.{shares-place, table_every, union_assoc, union-end}

-- the channels of a set

pub channels_start : (xs : List ℕ) (m : ℕ) → union 0 (channels_from 0 (drop 0 xs) m) ≡ channels_of xs m
unfolding channels_of
channels_start xs m = union_none (channels_from 0 xs m)

module _ (xs : List ℕ) (m w : ℕ) where
  channels_next : (so_far : ℕ) → w < length xs
      → union so_far (channels_from w (drop w xs) m) ≡ union (union so_far (cond (has m w) (only (get_or xs w 0)) 0)) (channels_from (w + 1) (drop (w + 1) xs) m)
  channels_next so_far h =
      ap (λ l. union so_far (channels_from w l m)) (drop_more xs w 0 h)
      ∙ sym (union_assoc so_far (cond (has m w) (only (get_or xs w 0)) 0) (channels_from (suc w) (drop (w + 1) xs) m))
      ∙ ap (λ n. union (union so_far (cond (has m w) (only (get_or xs w 0)) 0)) (channels_from n (drop (w + 1) xs) m)) (sym (add-one w))

  -- a wire in the set adds its channel
  pub channels_with : (so_far after : ℕ) → w < length xs → has m w ≡ true → after ≡ union so_far (only (get_or xs w 0))
      → union after (channels_from (w + 1) (drop (w + 1) xs) m) ≡ union so_far (channels_from w (drop w xs) m)
  channels_with so_far after h e is =
      ap (λ n. union n (channels_from (w + 1) (drop (w + 1) xs) m))
      (is ∙ ap (union so_far) (sym (cond-true (has m w) (only (get_or xs w 0)) 0 e)))
      ∙ sym (channels_next so_far h)

  -- another wire adds none
  pub channels_skip : (so_far after : ℕ) → w < length xs → has m w ≡ false → after ≡ so_far
      → union after (channels_from (w + 1) (drop (w + 1) xs) m) ≡ union so_far (channels_from w (drop w xs) m)
  channels_skip so_far after h e is =
      ap (λ n. union n (channels_from (w + 1) (drop (w + 1) xs) m))
      (is ∙ sym (union-end so_far) ∙ ap (union so_far) (sym (cond-false (has m w) (only (get_or xs w 0)) 0 e)))
      ∙ sym (channels_next so_far h)

  pub channels_end : (so_far : ℕ) → length xs ≤ w → union so_far (channels_from w (drop w xs) m) ≡ so_far
  channels_end so_far h = ap (λ l. union so_far (channels_from w l m)) (drop_all w xs h) ∙ union-end so_far

-- how many wires fit

none_past : (b : Bool) (n : ℕ) → cond b (Some n) None ≡ None → b ≡ false
none_past true n e = absurd cc
none_past false n e = refl

-- the first wire whose channel is not below the width
fitting_first : (n : ℕ) (xs : List ℕ) → fitting n xs ≡ position_or_len (λ c. leb n c) xs
fitting_first n xs = is_position_or_len (fitting n) (λ c. leb n c) refl (λ c cs. ⊎_elim
    (λ l. cond-true (ltb c n) _ _ (lt-ltb c n l) ∙ (omega arith) ∙ sym (cond-false (leb n c) _ _ (lt-leb n c l)))
    (λ l. cond-false (ltb c n) _ _ (le-ltb c n l) ∙ sym (cond-true (leb n c) _ _ (le-leb n c l))) (cases_lt c n)) xs

pub fitting_found : (n : ℕ) (xs : List ℕ) → length xs ≡ 32 → (let p = position_or_len (λ c. leb n c) xs in unwrap_or (cond (ltb p (length xs)) (Some p) None) 32) ≡ fitting n xs
fitting_found n xs whole =
    let p : ℕ = position_or_len (λ c. leb n c) xs in
    ⊎_elim
    (λ l. ap (λ o. unwrap_or o 32) (cond-true (ltb p (length xs)) (Some p) None (lt-ltb p (length xs) l)) ∙ sym (fitting_first n xs))
    (λ l. ap (λ o. unwrap_or o 32) (cond-false (ltb p (length xs)) (Some p) None (le-ltb p (length xs) l)) ∙ sym whole
    ∙ omega (arith, l, prefix_len-le-length (λ c. not (leb n c)) xs) ∙ sym (fitting_first n xs))
    (cases_lt p (length xs))

-- where no entry is found, none is the channel
pub wire_missing : (t : Table) (c : ℕ) → (let p = position_or_len (λ n. eqb n c) t.entries in cond (ltb p (length t.entries)) (Some p) None) ≡ None → 32 ≤ c
wire_missing t c none =
    let p : ℕ = position_or_len (λ n. eqb n c) t.entries in
    let past : length t.entries ≤ p = ltb-false p (length t.entries) (none_past (ltb p (length t.entries)) p none) in
    ⊎_elim
    (λ l. let at = shares-place t.entries c (table_every t c l) in
    absurd (both_ways (eqb (get_or t.entries at.0 0) c) (fails_before_first (λ n. eqb n c) t.entries at.0 0 (omega (arith, at.1, past))) (eq-eqb _ c at.2)))
    (λ l. l) (cases_lt c 32)

-- the seats of a gate

pub few-wires : (ws : List Wire) → seatable (numbers_of ws) ≡ true → length ws ≤ 3
few-wires ws e = omega (arith, length-map ws (λ w. w.0), leb-true (length (numbers_of ws)) 3 (and_parts _ _ e).0)
