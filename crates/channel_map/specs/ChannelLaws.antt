-- Laws of channels: a table without a fault has each channel once, and sets keep what they say on the way down and back.
use Rattle.std.specs.Prelude.{◌≡◌, ℕ, zero, suc, ◌+◌, ◌-◌, ◌*◌, ◌/◌, ◌%◌, ◌^◌, ◌<◌, ◌≤◌, Bool, true, false, cond, ◌&&◌, ◌||◌, ◌⊎◌, List, [], ◌∷◌, map, length, get_or, take, drop, is_some, Some, None, Option, ◌==◌, ◌≢◌, bit_and, nat_eq, nat_lt, slice_index, slice_index_or, refl}
use Rattle.std.proofs.Common.{sym, ◌∙◌, ap₂, map-id, add-zero, zero-add, add-suc, suc-add, div-one, lt_of_lt_of_le, add-one, one-add, arith, pow_mono, pow_pos}
use Rattle.std.proofs.Math.Path.{ap}
use Rattle.std.proofs.Math.Logic.{inl, inr, ⊎_elim}
use Rattle.std.proofs.Math.Nat.{two-pow-succ}
use Rattle.std.proofs.Math.Pow.{pow-lt}
use Rattle.std.proofs.lemmas.Nat.{shr_below, shr-shr, div-add-mod', mod_below, or_lt}
use Rattle.std.proofs.lemmas.List.{ext_get_or, get_or-take, get_or_default, get_or_past, length-take-le, take_more}
use Rattle.std.proofs.lemmas.Bool.{and_parts, and_from, and_right, both_ways, cases_Bool, cases_eq, cases_lt, cases_order, cond-true, cond-false, eq-eqb, eqb-true, ne_eqb, ltb-true, ltb-false, le-ltb, lt-ltb, or_from, or_left, or_parts, or_right}
use Rattle.derivation.specs.Faults.{first_fault}
use Rattle.basics.specs.declared.refusal.Refusal.TheVariants.{ChannelEntry}
use Rattle.basics.specs.Sets.{has, only, union}
use Rattle.derivation.proofs.FaultLaws.{cond_none, first-after, first-at, none_from}
use Rattle.basics.proofs.SetLaws.{has_past, has_none, has-only, has-union}
use Rattle.target.specs.Interface.{disjoint, sets_fit, shares, within}
use Rattle.target.proofs.MaskLaws.{has-and}
use Rattle.target.proofs.WireLaws.{not_shared}
use Rattle.channel_map.specs.declared.channels.Channels.{Channels}
use Rattle.channel_map.specs.Channels.{GreatestWidth, Table, channel_at, channel_of, channels_from, channels_of, down_from, entry_fault, fitting, table_fault, up_from, wires_from, wires_of}

-- masks

pub two_pow_above : (n : ℕ) → n < 2 ^ n
two_pow_above zero = omega arith
two_pow_above (suc n) = let h : n < 2 ^ n = two_pow_above n in omega (arith, two-pow-succ n)

-- two binary digits that are both 1 or both not
same_digit : (u v : ℕ) → u < 2 → v < 2 → (u == 1) ≡ (v == 1) → u ≡ v
same_digit zero zero hu hv e = refl
same_digit zero (suc zero) hu hv e = absurd (both_ways true (sym e) refl)
same_digit zero (suc (suc v)) hu hv e = absurd (omega arith)
same_digit (suc zero) zero hu hv e = absurd (both_ways true e refl)
same_digit (suc zero) (suc zero) hu hv e = refl
same_digit (suc zero) (suc (suc v)) hu hv e = absurd (omega arith)
same_digit (suc (suc u)) v hu hv e = absurd (omega arith)

same_below : (n a b : ℕ) → a < 2 ^ n → b < 2 ^ n → ((z : ℕ) → has a z ≡ has b z) → a ≡ b
unfolding has
same_below zero a b ha hb e = omega arith
same_below (suc n) a b ha hb e =
    let low : a % 2 ≡ b % 2 = same_digit (a % 2) (b % 2) (mod_below a 2 (omega arith)) (mod_below b 2 (omega arith)) (simp div-one at (e 0)) in
    let half : (z : ℕ) → has (a / 2) z ≡ has (b / 2) z = λ z.
    ap (λ k. nat_eq (k % 2) 1) (shr-shr a 1 z ∙ ap (λ j. a / 2 ^ j) (one-add z)) ∙ e (suc z) ∙ sym (ap (λ k. nat_eq (k % 2) 1) (shr-shr b 1 z ∙ ap (λ j. b / 2 ^ j) (one-add z))) in
    let high : a / 2 ≡ b / 2 = same_below n (a / 2) (b / 2) (shr_below a n 1 (rw add-one ha)) (shr_below b n 1 (rw add-one hb)) half in
    sym (div-add-mod' a 2) ∙ ap₂ (λ (q r : ℕ). q * 2 + r) high low ∙ div-add-mod' b 2

-- masks with the same members are the same
pub same_masks : (a b : ℕ) → ((z : ℕ) → has a z ≡ has b z) → a ≡ b
same_masks a b e =
    same_below (a + b) a b (lt_of_lt_of_le (two_pow_above a) (pow_mono {i = a} {j = a + b} (omega arith))) (lt_of_lt_of_le (two_pow_above b) (pow_mono {i = b} {j = a + b} (omega arith))) e

or_false : (b : Bool) → (b || false) ≡ b
or_false true = refl
or_false false = refl

or_same : (a b c : Bool) → ((a || b) || c) ≡ (a || (b || c))
or_same true b c = refl
or_same false b c = refl

pub union_assoc : (a b c : ℕ) → union (union a b) c ≡ union a (union b c)
union_assoc a b c = same_masks (union (union a b) c) (union a (union b c)) (λ z. simp has-union (or_same (has a z) (has b z) (has c z)))

pub union-end : (a : ℕ) → union a 0 ≡ a
union-end a = same_masks (union a 0) a (λ z. simp (has-union, has_none) (or_false (has a z)))

-- a number that is in a set or not, as a set
has_piece : (b : Bool) (c z : ℕ) → has (cond b (only c) 0) z ≡ (b && z == c)
has_piece true c z = has-only c z
has_piece false c z = has_none z

-- lists

-- a number that stands at k, and the place of one that occurs
pub shares_at : (xs : List ℕ) (k v : ℕ) → k < length xs → slice_index xs k ≡ v → shares v xs ≡ true
shares_at [] k v h e = absurd (omega arith)
shares_at (x ∷ xs) zero v h e = cond-true (v == x) true (shares v xs) (eq-eqb v x (sym e))
shares_at (x ∷ xs) (suc k) v h e =
    ⊎_elim (λ t. cond-true (v == x) true (shares v xs) t) (λ f. cond-false (v == x) true (shares v xs) f ∙ shares_at xs k v (omega arith) e) (cases_Bool (v == x))

pub shares-place : (xs : List ℕ) (v : ℕ) → shares v xs ≡ true → (k : ℕ) × (k < length xs) × (slice_index xs k ≡ v)
shares-place [] v h = absurd (both_ways false refl h)
shares-place (x ∷ xs) v h =
    ⊎_elim (λ t. (0, omega arith, sym (eqb-true v x t)))
    (λ f. let p = shares-place xs v (sym (cond-false (v == x) true (shares v xs) f) ∙ h) in (suc p.0, omega arith, p.2)) (cases_Bool (v == x))

-- no two of the numbers are equal
abbrev pub Apart : List ℕ → Type 0
Apart xs = (j k : ℕ) → j < length xs → k < length xs → slice_index xs j ≡ slice_index xs k → j ≡ k

apart-rest : (x : ℕ) (xs : List ℕ) → Apart (x ∷ xs) → Apart xs
apart-rest x xs a j k hj hk e = let s : suc j ≡ suc k = a (suc j) (suc k) (omega arith) (omega arith) e in omega arith

apart-first : (x : ℕ) (xs : List ℕ) → Apart (x ∷ xs) → shares x xs ≡ false
apart-first x xs a =
    ⊎_elim (λ t. let p = shares-place xs x t in let s : ◌≡◌ {A = ℕ} 0 (suc p.0) = a 0 (suc p.0) (omega arith) (omega (arith, p.1)) (sym p.2) in absurd (omega arith)) (λ f. f)
    (cases_Bool (shares x xs))

more-apart : (c : ℕ) (xs : List ℕ) → Apart xs → ((k : ℕ) → k < length xs → slice_index xs k ≢ c) → Apart (c ∷ xs)
more-apart c xs apart none zero zero hj hk e = refl
more-apart c xs apart none zero (suc k) hj hk e = absurd (none k (omega arith) (sym e))
more-apart c xs apart none (suc j) zero hj hk e = absurd (none j (omega arith) e)
more-apart c xs apart none (suc j) (suc k) hj hk e = ap suc (apart j k (omega arith) (omega arith) e)

more-low : (n c : ℕ) (xs : List ℕ) → c < n → ((k : ℕ) → k < n → slice_index xs k < n) → (k : ℕ) → k < suc n → slice_index (c ∷ xs) k < n
more-low n c xs h low zero l = h
more-low n c xs h low (suc k) l = low k (omega arith)

-- n + 2 different numbers below n + 1: the last takes the place of the greatest, and n + 1 different numbers below n are left
module _ (n : ℕ) (f : ℕ → ℕ) (low : (k : ℕ) → k < suc (suc n) → f k < suc n) (apart : (j k : ℕ) → j < suc (suc n) → k < suc (suc n) → f j ≡ f k → j ≡ k) where
  abbrev moved : ℕ → ℕ
  moved k = cond (f k == n) (f (suc n)) (f k)

  moved_top : (k : ℕ) → f k ≡ n → moved k ≡ f (suc n)
  moved_top k e = cond-true (f k == n) (f (suc n)) (f k) (eq-eqb (f k) n e)

  moved_other : (k : ℕ) → (f k ≢ n) → moved k ≡ f k
  moved_other k e = cond-false (f k == n) (f (suc n)) (f k) (ne_eqb (f k) n e)

  last_other : (k : ℕ) → k < suc n → f (suc n) ≢ f k
  last_other k h e = let s : suc n ≡ k = apart (suc n) k (omega arith) (omega arith) e in omega arith

  moved-low : (k : ℕ) → k < suc n → moved k < n
  moved-low k h = ⊎_elim
      (λ e. let less : f (suc n) ≡ n → ⊥ = λ q. last_other k h (q ∙ sym e) in omega (arith, moved_top k e, low (suc n) (omega arith)))
      (λ e. omega (arith, moved_other k e, low k (omega arith))) (cases_eq (f k) n)

  moved_apart : (j k : ℕ) → j < suc n → k < suc n → moved j ≡ moved k → j ≡ k
  moved_apart j k hj hk e = ⊎_elim
      (λ ej. ⊎_elim (λ ek. apart j k (omega arith) (omega arith) (ej ∙ sym ek)) (λ ek. absurd (last_other k hk (sym (moved_top j ej) ∙ e ∙ moved_other k ek))) (cases_eq (f k) n))
      (λ ej. ⊎_elim (λ ek. absurd (last_other j hj (sym (moved_top k ek) ∙ sym e ∙ moved_other j ej)))
      (λ ek. apart j k (omega arith) (omega arith) (sym (moved_other j ej) ∙ e ∙ moved_other k ek)) (cases_eq (f k) n))
      (cases_eq (f j) n)

-- so there is no room for n + 1 different numbers below n
crowded : (n : ℕ) (f : ℕ → ℕ) → ((k : ℕ) → k < suc n → f k < n) → ((j k : ℕ) → j < suc n → k < suc n → f j ≡ f k → j ≡ k) → ⊥
crowded zero f low apart = omega (arith, low 0 (omega arith))
crowded (suc n) f low apart = crowded n (moved n f low apart) (moved-low n f low apart) (moved_apart n f low apart)

-- of n different numbers below n each number below n is one
pub every_below : (n : ℕ) (xs : List ℕ) → length xs ≡ n → Apart xs → ((k : ℕ) → k < n → slice_index xs k < n) → (c : ℕ) → c < n → shares c xs ≡ true
every_below n xs e apart low c h =
    ⊎_elim (λ t. t)
    (λ f.
    let none : (k : ℕ) → k < length xs → slice_index xs k ≡ c → ⊥ = λ k l q. both_ways (shares c xs) f (shares_at xs k c l q) in
    let more : Apart (c ∷ xs) = more-apart c xs apart none in
    absurd (crowded n (λ k. slice_index (c ∷ xs) k) (more-low n c xs h low) (λ j k hj hk q. more j k (omega arith) (omega arith) q)))
    (cases_Bool (shares c xs))

-- tables

none_of : {R : Type 0} (o : Option R) → is_some o ≡ false → o ≡ None
none_of None e = refl
none_of (Some r) e = absurd (both_ways true e refl)

-- without a fault each entry is below 32 and not among those before it
entry-fine : (xs : List ℕ) → table_fault xs ≡ None → (k : ℕ) → k < length xs → (slice_index xs k < 32) × (shares (slice_index xs k) (take k xs) ≡ false)
entry-fine xs e k h =
    let fine : entry_fault (map (λ c. c) (take k xs)) (slice_index xs k) ≡ None = none_from entry_fault (λ c. c) [] xs 0 e k h in
    let parts = or_parts _ _ (cond_none _ _ _ fine).0 in
    let low : get_or xs k 0 ≤ 31 = ltb-false 31 (slice_index xs k) parts.0 in
    (omega arith, ap (shares (slice_index xs k)) (sym (map-id (take k xs))) ∙ parts.1)

unequal : (xs : List ℕ) → table_fault xs ≡ None → (j k : ℕ) → j < k → k < length xs → slice_index xs j ≢ slice_index xs k
unequal xs e j k l h q =
    both_ways _ (entry-fine xs e k h).1 (shares_at (take k xs) j (slice_index xs k) (omega (arith, length-take-le k xs (omega arith))) (get_or-take k xs j 0 l ∙ q))

pub apart_from_lem : (xs : List ℕ) → table_fault xs ≡ None → Apart xs
apart_from_lem xs e j k hj hk q =
    ⊎_elim (λ same. same) (⊎_elim (λ l. absurd (unequal xs e j k l hk q)) (λ l. absurd (unequal xs e k j l hj (sym q)))) (cases_order j k)

-- the table that channels hold
abbrev pub table_of : Channels → Table
table_of c = record { entries = c.table; whole = c.whole; faultless = c.faultless }

module _ (t : Table) where
  pub table-apart : Apart t.entries
  table-apart = apart_from_lem t.entries (none_of _ t.faultless)

  pub table-low : (w : ℕ) → w < 32 → slice_index t.entries w < 32
  table-low w h = (entry-fine t.entries (none_of _ t.faultless) w (omega (arith, t.whole))).0

  -- each channel below 32 is the channel of a wire
  pub table_every : (c : ℕ) → c < 32 → shares c t.entries ≡ true
  table_every c h = every_below 32 t.entries t.whole table-apart table-low c h

  -- a wire below 32 has a channel below 32; other numbers stay
  pub channel_entry : (w : ℕ) → w < 32 → channel_of t.entries w ≡ slice_index t.entries w
  channel_entry w h = get_or_default t.entries w w 0 (omega (arith, t.whole))

  pub channel_low : (w : ℕ) → w < 32 → channel_of t.entries w < 32
  channel_low w h = rw (channel_entry w h) (table-low w h)

  pub channel_past : (w : ℕ) → 32 ≤ w → channel_of t.entries w ≡ w
  channel_past w h = get_or_past t.entries w w (omega (arith, t.whole))

  -- different wires have different channels
  pub channel_apart : (v w : ℕ) → channel_of t.entries v ≡ channel_of t.entries w → v ≡ w
  channel_apart v w e = ⊎_elim
      (λ hv. ⊎_elim (λ hw. table-apart v w (omega (arith, t.whole)) (omega (arith, t.whole)) (sym (channel_entry v hv) ∙ e ∙ channel_entry w hw))
      (λ hw. absurd (omega (arith, channel_low v hv, e, channel_past w hw))) (cases_lt w 32))
      (λ hv. ⊎_elim (λ hw. absurd (omega (arith, channel_low w hw, e, channel_past v hv)))
      (λ hw. sym (channel_past v hv) ∙ e ∙ channel_past w hw) (cases_lt w 32))
      (cases_lt v 32)

-- sets on the way down

-- what is no entry is not in the set of channels
channels_miss : (w : ℕ) (cs : List ℕ) (m z : ℕ) → shares z cs ≡ false → has (channels_from w cs m) z ≡ false
channels_miss w [] m z h = has_none z
channels_miss w (c ∷ cs) m z h =
    let parts = not_shared z c cs h in
    has-union (cond (has m w) (only c) 0) (channels_from (suc w) cs m) z
    ∙ or_from _ _ (has_piece (has m w) c z ∙ and_right (has m w) (z == c) parts.0) (channels_miss (suc w) cs m z parts.1)

and_true : (b : Bool) → (b && true) ≡ b
and_true true = refl
and_true false = refl

-- the channel of a wire is in the set of channels if the wire is in the set
channels_hit : (w : ℕ) (cs : List ℕ) (m k : ℕ) → Apart cs → k < length cs → has (channels_from w cs m) (slice_index cs k) ≡ has m (w + k)
channels_hit w [] m k apart h = absurd (omega arith)
channels_hit w (c ∷ cs) m zero apart h =
    has-union (cond (has m w) (only c) 0) (channels_from (suc w) cs m) c
    ∙ ap₂ ◌||◌ (has_piece (has m w) c c ∙ ap (λ b. has m w && b) (eq-eqb c c refl) ∙ and_true (has m w)) (channels_miss (suc w) cs m c (apart-first c cs apart))
    ∙ or_false (has m w) ∙ ap (has m) (sym (add-zero w))
channels_hit w (c ∷ cs) m (suc k) apart h =
    let other : get_or cs k 0 ≡ c → ⊥ = λ e. let s : suc k ≡ 0 = apart (suc k) 0 h (omega arith) e in omega arith in
    has-union (cond (has m w) (only c) 0) (channels_from (suc w) cs m) (slice_index cs k)
    ∙ ap₂ ◌||◌ (has_piece (has m w) c (slice_index cs k) ∙ and_right (has m w) _ (ne_eqb _ c other)) (channels_hit (suc w) cs m k (apart-rest c cs apart) (omega arith))
    ∙ ap (has m) (suc-add w k ∙ sym (add-suc w k))

-- channels are below n if those of the wires in the set are
channels_low : (w : ℕ) (cs : List ℕ) (m n : ℕ) → ((k : ℕ) → k < length cs → has m (w + k) ≡ true → slice_index cs k < n) → channels_from w cs m < 2 ^ n
unfolding union only
channels_low w [] m n low = pow_pos n
channels_low w (c ∷ cs) m n low =
    or_lt n (cond (has m w) (only c) 0) (channels_from (suc w) cs m)
    (⊎_elim (λ e. rw e (pow-lt (low 0 (omega arith) (ap (has m) (add-zero w) ∙ e)))) (λ e. rw e (pow_pos n)) (cases_Bool (has m w)))
    (channels_low (suc w) cs m n (λ k h e. low (suc k) (omega arith) (ap (has m) (add-suc w k ∙ sym (suc-add w k)) ∙ e)))

-- sets on the way back

-- no other numbers than those of the wires are in the set of wires
wires_miss : (w : ℕ) (cs : List ℕ) (m z : ℕ) → ((k : ℕ) → k < length cs → z ≢ w + k) → has (wires_from w cs m) z ≡ false
wires_miss w [] m z away = has_none z
wires_miss w (c ∷ cs) m z away =
    has-union (cond (has m c) (only w) 0) (wires_from (suc w) cs m) z
    ∙ or_from _ _ (has_piece (has m c) w z ∙ and_right (has m c) (z == w) (ne_eqb z w (λ e. away 0 (omega arith) (omega arith))))
    (wires_miss (suc w) cs m z (λ k l e. away (suc k) (omega arith) (omega arith)))

-- a wire is in the set of wires if its channel is in the set
wires_hit : (w : ℕ) (cs : List ℕ) (m k : ℕ) → k < length cs → has (wires_from w cs m) (w + k) ≡ has m (slice_index cs k)
wires_hit w [] m k h = absurd (omega arith)
wires_hit w (c ∷ cs) m zero h =
    ap (has (wires_from w (c ∷ cs) m)) (add-zero w) ∙ has-union (cond (has m c) (only w) 0) (wires_from (suc w) cs m) w
    ∙ ap₂ ◌||◌ (has_piece (has m c) w w ∙ ap (λ b. has m c && b) (eq-eqb w w refl) ∙ and_true (has m c)) (wires_miss (suc w) cs m w (λ k l e. omega arith))
    ∙ or_false (has m c)
wires_hit w (c ∷ cs) m (suc k) h =
    has-union (cond (has m c) (only w) 0) (wires_from (suc w) cs m) (w + suc k)
    ∙ ap₂ ◌||◌ (has_piece (has m c) w (w + suc k) ∙ and_right (has m c) _ (ne_eqb (w + suc k) w (omega arith))) (ap (has (wires_from (suc w) cs m)) (add-suc w k ∙ sym (suc-add w k)) ∙ wires_hit (suc w) cs m k (omega arith))

-- how many wires have a channel below n

fitting_front : (n c : ℕ) (cs : List ℕ) → 0 < fitting n (c ∷ cs) → (c < n) × (fitting n (c ∷ cs) ≡ suc (fitting n cs))
fitting_front n c cs h = ⊎_elim
    (λ e. (ltb-true c n e, cond-true (nat_lt c n) (suc (fitting n cs)) 0 e))
    (λ e. absurd (omega (arith, cond-false (nat_lt c n) (suc (fitting n cs)) 0 e))) (cases_Bool (nat_lt c n))

pub fitting-low : (n : ℕ) (cs : List ℕ) (k : ℕ) → k < fitting n cs → (k < length cs) × (slice_index cs k < n)
fitting-low n [] k h = absurd (omega arith)
fitting-low n (c ∷ cs) zero h = (omega arith, (fitting_front n c cs h).0)
fitting-low n (c ∷ cs) (suc k) h =
    let p : (k < length cs) × (slice_index cs k < n) = fitting-low n cs k (omega (arith, (fitting_front n c cs (omega arith)).1)) in (omega arith, p.1)

-- no more fit: the next wire, if there is one, has a channel from n on
pub fitting_stops : (n : ℕ) (cs : List ℕ) → fitting n cs < length cs → n ≤ slice_index cs (fitting n cs)
fitting_stops n [] h = absurd (omega arith)
fitting_stops n (c ∷ cs) h = ⊎_elim
    (λ e. let f = cond-true (nat_lt c n) (suc (fitting n cs)) 0 e in rw f (fitting_stops n cs (omega (arith, f))))
    (λ e. let f = cond-false (nat_lt c n) (suc (fitting n cs)) 0 e in rw f (ltb-false c n e)) (cases_Bool (nat_lt c n))

pub greatest_width : GreatestWidth
greatest_width n entries = ((λ w h. (fitting-low n entries w h).1), fitting_stops n entries)

-- sets by a table

module _ (t : Table) where
  -- a channel is in the set of channels exactly if its wire is in the set
  pub has_channels : (m w : ℕ) → w < 32 → has (channels_of t.entries m) (channel_of t.entries w) ≡ has m w
  unfolding channels_of
  has_channels m w h =
      ap (has (channels_from 0 t.entries m)) (channel_entry t w h) ∙ channels_hit 0 t.entries m w (table-apart t) (omega (arith, t.whole)) ∙ ap (has m) (zero-add w)

  -- a wire is in the set of wires exactly if its channel is in the set
  pub has-wires : (m w : ℕ) → w < 32 → has (wires_of t.entries m) w ≡ has m (channel_of t.entries w)
  unfolding wires_of
  has-wires m w h =
      ap (has (wires_from 0 t.entries m)) (sym (zero-add w)) ∙ wires_hit 0 t.entries m w (omega (arith, t.whole)) ∙ ap (has m) (sym (channel_entry t w h))

  pub wires_past : (m w : ℕ) → 32 ≤ w → has (wires_of t.entries m) w ≡ false
  unfolding wires_of
  wires_past m w h = wires_miss 0 t.entries m w (λ k l e. omega (arith, t.whole))

  -- down and back is the set
  pub wires_channels : (m : ℕ) → m < 2 ^ 32 → wires_of t.entries (channels_of t.entries m) ≡ m
  wires_channels m h = same_masks (wires_of t.entries (channels_of t.entries m)) m (λ w. ⊎_elim
      (λ l. has-wires (channels_of t.entries m) w l ∙ has_channels m w l)
      (λ l. wires_past (channels_of t.entries m) w l ∙ sym (has_past 32 m w h l)) (cases_lt w 32))

  -- a number is the channel of a wire, or in no set of channels
  channel_cases : (z : ℕ) → ((w : ℕ) × ((m : ℕ) → has (channels_of t.entries m) z ≡ has m w)) ⊎ ((m : ℕ) → has (channels_of t.entries m) z ≡ false)
  unfolding channels_of
  channel_cases z = ⊎_elim
      (λ e. let p = shares-place t.entries z e in
      inl (p.0, λ m. ap (has (channels_from 0 t.entries m)) (sym p.2) ∙ channels_hit 0 t.entries m p.0 (table-apart t) p.1 ∙ ap (has m) (zero-add p.0)))
      (λ e. inr (λ m. channels_miss 0 t.entries m z e)) (cases_Bool (shares z t.entries))

  -- the channels of what is in two sets are those that are in both sets of channels
  pub channels_and : (a b : ℕ) → channels_of t.entries (bit_and a b) ≡ bit_and (channels_of t.entries a) (channels_of t.entries b)
  channels_and a b = same_masks _ _ (λ z. ⊎_elim
      (λ p. p.1 (bit_and a b) ∙ has-and a b p.0 ∙ ap₂ ◌&&◌ (sym (p.1 a)) (sym (p.1 b)) ∙ sym (has-and (channels_of t.entries a) (channels_of t.entries b) z))
      (λ none. none (bit_and a b) ∙ ap₂ ◌&&◌ (sym (none a)) (sym (none b)) ∙ sym (has-and (channels_of t.entries a) (channels_of t.entries b) z)) (channel_cases z))

  channels_none : channels_of t.entries 0 ≡ 0
  channels_none = same_masks _ _ (λ z. ⊎_elim (λ p. p.1 0 ∙ has_none p.0 ∙ sym (has_none z)) (λ none. none 0 ∙ sym (has_none z)) (channel_cases z))

  -- wires below the width of the map have channels below the width beneath
  pub channels_fit : (n m : ℕ) → m < 2 ^ fitting n t.entries → channels_of t.entries m < 2 ^ n
  unfolding channels_of
  channels_fit n m h = channels_low 0 t.entries m n (λ k l e. ⊎_elim
      (λ low. (fitting-low n t.entries k low).1)
      (λ high. absurd (both_ways _ (ap (has m) (zero-add k) ∙ has_past (fitting n t.entries) m k h high) e)) (cases_lt k (fitting n t.entries)))

  channels_disjoint : (a b : ℕ) → disjoint a b ≡ true → disjoint (channels_of t.entries a) (channels_of t.entries b) ≡ true
  channels_disjoint a b e = eq-eqb _ 0 (sym (channels_and a b) ∙ ap (channels_of t.entries) (eqb-true (bit_and a b) 0 e) ∙ channels_none)

  channels_within : (a b : ℕ) → within a b ≡ true → within (channels_of t.entries a) (channels_of t.entries b) ≡ true
  channels_within a b e = eq-eqb _ _ (sym (channels_and a b) ∙ ap (channels_of t.entries) (eqb-true (bit_and a b) a e))

  -- sets that fit the map have channels that fit beneath
  pub sets_fit_lem : (n used given ones : ℕ) → sets_fit (fitting n t.entries) used given ones ≡ true
      → sets_fit n (channels_of t.entries used) (channels_of t.entries given) (channels_of t.entries ones) ≡ true
  sets_fit_lem n used given ones e =
      let p = and_parts _ _ e in
      let q = and_parts _ _ p.1 in
      let r = and_parts _ _ q.1 in
      and_from _ _ (lt-ltb _ _ (channels_fit n used (ltb-true used _ p.0)))
      (and_from _ _ (channels_disjoint given ones q.0) (and_from _ _ (channels_within given used r.0) (channels_within ones used r.1)))

-- the channel of a wire, as an answer
pub channel_at_lem : (xs : List ℕ) → length xs ≡ 32 → (w : ℕ) → w < 32 → Some (record { 0 = slice_index xs w }) ≡ channel_at xs w
channel_at_lem xs whole w h = ap (λ c. Some (record { 0 = c })) (get_or_default xs w 0 w (omega arith)) ∙ sym (cond-true (nat_lt w 32) (Some (record { 0 = channel_of xs w })) None (lt-ltb w 32 h))

-- the check of a table, entry by entry

module _ (xs : List ℕ) (i : ℕ) (h : i < length xs) where
  at-fault : (nat_lt 31 (slice_index xs i) || shares (slice_index xs i) (take i xs)) ≡ true → first_fault entry_fault (λ c. c) (take i xs) (drop i xs) ≡ Some (ChannelEntry i)
  at-fault e =
      first-at entry_fault (λ c. c) xs i 0 (take i xs) (ChannelEntry i) h
      (cond-true _ _ _ e ∙ ap (λ n. Some (ChannelEntry n)) (length-take-le i xs (omega arith)))

  pub entry_high : 31 < slice_index xs i → first_fault entry_fault (λ c. c) (take i xs) (drop i xs) ≡ Some (ChannelEntry i)
  entry_high l = at-fault (or_left _ _ (lt-ltb 31 (slice_index xs i) l))

  pub entry_repeats : (k : ℕ) → k < length (take i xs) → slice_index (take i xs) k ≡ slice_index xs i → first_fault entry_fault (λ c. c) (take i xs) (drop i xs) ≡ Some (ChannelEntry i)
  entry_repeats k l e = at-fault (or_right _ _ (shares_at (take i xs) k (slice_index xs i) l e))

  pub entry_good : get_or xs i 0 ≤ 31 → ((k : ℕ) → k < length (take i xs) → slice_index (take i xs) k ≢ slice_index xs i)
      → first_fault entry_fault (λ c. c) (take i xs) (drop i xs) ≡ first_fault entry_fault (λ c. c) (take (i + 1) xs) (drop (i + 1) xs)
  entry_good l none =
      let new : shares (slice_index xs i) (take i xs) ≡ false = ⊎_elim (λ e. let p = shares-place (take i xs) (slice_index xs i) e in absurd (none p.0 p.1 p.2)) (λ f. f) (cases_Bool (shares (slice_index xs i) (take i xs))) in
      first-after entry_fault (λ c. c) xs i 0 (take i xs) h (cond-false _ _ _ (or_from _ _ (le-ltb 31 (slice_index xs i) l) new))
      ∙ ap (λ l. first_fault entry_fault (λ c. c) l (drop (i + 1) xs)) (sym (take_more xs i 0 h))

-- the two written tables

up_at : (w n k d : ℕ) → k < n → slice_index_or (up_from w n) k d ≡ w + k
up_at w zero k d h = absurd (omega arith)
up_at w (suc n) zero d h = sym (add-zero w)
up_at w (suc n) (suc k) d h = up_at (suc w) n k d (omega arith) ∙ suc-add w k ∙ sym (add-suc w k)

down-at : (n k d : ℕ) → k < n → slice_index_or (down_from n) k d ≡ n - 1 - k
down-at zero k d h = absurd (omega arith)
down-at (suc n) zero d h = omega arith
down-at (suc n) (suc k) d h = let e : get_or (down_from n) k d ≡ n - 1 - k = down-at n k d (omega arith) in omega arith

pub straight_channel : (w : ℕ) → w < 32 → channel_of (up_from 0 32) w ≡ w
straight_channel w h = up_at 0 32 w w h ∙ zero-add w

pub reversed_channel : (w : ℕ) → w < 32 → channel_of (down_from 32) w ≡ 31 - w
reversed_channel w h = down-at 32 w w h

-- a list of 32 numbers that are these is the table, which has no fault
pub straight_filled : (xs : List ℕ) → length xs ≡ 32 → ((k : ℕ) → k < 32 → slice_index xs k ≡ k) → xs ≡ up_from 0 32
straight_filled xs e at = ext_get_or 0 xs (up_from 0 32) e (λ k h. at k (omega arith) ∙ sym (up_at 0 32 k 0 (omega arith) ∙ zero-add k))

pub reversed_filled : (xs : List ℕ) → length xs ≡ 32 → ((k : ℕ) → k < 32 → slice_index xs k ≡ 31 - k) → xs ≡ down_from 32
reversed_filled xs e at = ext_get_or 0 xs (down_from 32) e (λ k h. at k (omega arith) ∙ sym (down-at 32 k 0 (omega arith)))

pub straight_faultless : is_some (table_fault (up_from 0 32)) ≡ false
unfolding first_fault
straight_faultless = refl

pub reversed_faultless : is_some (table_fault (down_from 32)) ≡ false
unfolding first_fault
reversed_faultless = refl
