-- Laws of the channel map: what it refuses and what it leaves, by the target beneath.
use Rattle.std.specs.Prelude.{◌≡◌, ℕ, zero, suc, ◌+◌, ◌^◌, ◌<◌, ◌≤◌, Bool, true, false, cond, not, ◌&&◌, List, [], ◌∷◌, map, length, Some, None, Ok, Err, Result, ◌==◌, nat_eq, nat_le, nat_lt, refl}
use Rattle.std.proofs.Common.{sym, ◌∙◌, ap, ap₂, subst, ⊎_elim, arith}
use Rattle.std.proofs.lemmas.List.{length-map}
use Rattle.std.proofs.lemmas.Bool.{and_parts, and_from, both_ways, cases_Bool, cases_eq, cases_lt, cond-true, cond-false, eq-eqb, eqb-true, ne_eqb, le-leb, ltb-true, not_from_false, not_from_true, or_left, or_right}
use Rattle.basics.specs.declared.gate.Gate.{Gate}
use Rattle.basics.specs.declared.refusal.Refusal.{Refusal}
use Rattle.basics.specs.declared.refusal.Refusal.TheVariants.{AtCapacity, NotTaken, WireMisuse, WireSets}
use Rattle.basics.specs.Gates.{arity}
use Rattle.derivation.specs.Rows.{all_below, all_in}
use Rattle.basics.specs.Sets.{has, only, union, without}
use Rattle.basics.proofs.SetLaws.{has-only, has-union, has-without}
use Rattle.target.specs.Interface.{Commutes, Kept, Obeys, View, apart_from, applied_view, apply_fault, begin_fault, begun_view, seated, sets_fit, shares}
use Rattle.target.proofs.MaskLaws.{all_below_lem, has_below}
use Rattle.target.proofs.WireLaws.{arity_few}
use Rattle.channel_map.specs.Channels.{Table, channel_of, channels_of, fitting, mapped_applied, mapped_begun, mapped_view, seatable, wires_of}
use Rattle.channel_map.specs.ChannelLaws.{channel_apart, channel_low, channel_past, has-wires, sets_fit_lem, two_pow_above, wires_channels, wires_past}

-- other names for wires: different wires have different names
module _ (f : ℕ → ℕ) (apart : (v w : ℕ) → f v ≡ f w → v ≡ w) where
  eqb_by : (v w : ℕ) → (f v == f w) ≡ (v == w)
  eqb_by v w = ⊎_elim (λ e. eq-eqb (f v) (f w) (ap f e) ∙ sym (eq-eqb v w e)) (λ ne. ne_eqb (f v) (f w) (λ e. ne (apart v w e)) ∙ sym (ne_eqb v w ne)) (cases_eq v w)

  shares_by : (v : ℕ) (ws : List ℕ) → shares (f v) (map f ws) ≡ shares v ws
  shares_by v [] = refl
  shares_by v (w ∷ ws) = ap₂ (λ (b x : Bool). cond b true x) (eqb_by v w) (shares_by v ws)

  apart_by : (vs ws : List ℕ) → apart_from (map f vs) (map f ws) ≡ apart_from vs ws
  apart_by [] ws = refl
  apart_by (v ∷ vs) ws = ap₂ (λ (b x : Bool). not b && x) (shares_by v ws) (apart_by vs ws)

  without_by : (m n x z : ℕ) → has m z ≡ has n (f z) → has (without m x) z ≡ has (without n (f x)) (f z)
  without_by m n x z e = has-without m x z ∙ ap₂ (λ (a b : Bool). a && not b) e (sym (eqb_by z x)) ∙ sym (has-without n (f x) (f z))

  -- a set that has the names of wires exactly if another has the wires
  all_in-same : (k m n : ℕ) (ws : List ℕ) → all_below k ws ≡ true → ((z : ℕ) → z < k → has m z ≡ has n (f z)) → all_in m ws ≡ all_in n (map f ws)
  all_in-same k m n [] low same = refl
  all_in-same k m n (w ∷ ws) low same =
      let p = and_parts (nat_lt w k) (all_below k ws) low in
      ap₂ ◌&&◌ (same w (ltb-true w k p.0)) (all_in-same k (without m w) (without n (f w)) ws p.1 (λ z l. without_by m n w z (same z l)))

  -- a set that has the names of a set
  all_in-more : (m n : ℕ) (ws : List ℕ) → ((z : ℕ) → has m z ≡ true → has n (f z) ≡ true) → all_in m ws ≡ true → all_in n (map f ws) ≡ true
  all_in-more m n [] more e = refl
  all_in-more m n (w ∷ ws) more e =
      let p = and_parts (has m w) (all_in (without m w) ws) e in
      and_from (has n (f w)) _ (more w p.0)
      (all_in-more (without m w) (without n (f w)) ws
      (λ z h. let q = and_parts (has m z) (not (z == w)) (sym (has-without m w z) ∙ h) in
      has-without n (f w) (f z) ∙ and_from (has n (f z)) _ (more z q.0) (ap not (eqb_by z w) ∙ q.1)) p.1)

  seated-same : (k m n : ℕ) (g : Gate) (ws : List ℕ) → all_below k ws ≡ true → ((z : ℕ) → z < k → has m z ≡ has n (f z)) → seated m g ws ≡ seated n g (map f ws)
  seated-same k m n g ws low same = ap₂ ◌&&◌ (ap (λ l. nat_eq l (arity g)) (sym (length-map ws f))) (all_in-same k m n ws low same)

  seated-more : (m n : ℕ) (g : Gate) (ws : List ℕ) → ((z : ℕ) → has m z ≡ true → has n (f z) ≡ true) → seated m g ws ≡ true → seated n g (map f ws) ≡ true
  seated-more m n g ws more e =
      let p = and_parts (length ws == arity g) (all_in m ws) e in
      and_from _ _ (ap (λ l. nat_eq l (arity g)) (length-map ws f) ∙ p.0) (all_in-more m n ws more p.1)

-- the set of the numbers below n
full : ℕ → ℕ
full zero = 0
full (suc n) = union (full n) (only n)

has-full : (n z : ℕ) → z < n → has (full n) z ≡ true
unfolding full
has-full zero z h = absurd (omega arith)
has-full (suc n) z h = has-union (full n) (only n) z ∙ ⊎_elim
    (λ l. or_left (has (full n) z) _ (has-full n z l)) (λ l. or_right _ (has (only n) z) (has-only n z ∙ eq-eqb z n (omega arith))) (cases_lt z n)

-- a number in a set is below the set, as a number
has-less : (m z : ℕ) → has m z ≡ true → z < m
has-less m z h = has_below m m z (two_pow_above m) h

-- the channels of the wires in a set are in this one
channel_within : (t : Table) (m z : ℕ) → has m z ≡ true → has (full (m + 32)) (channel_of t.entries z) ≡ true
channel_within t m z h =
    let l : z < m = has-less m z h in
    has-full (m + 32) (channel_of t.entries z) (⊎_elim (λ low. omega (arith, channel_low t z low)) (λ high. omega (arith, channel_past t z high)) (cases_lt z 32))

-- what commutes beneath commutes by the map
pub map_commutes : {S : Type 0} (takes : Gate → Bool) (applied : Gate → List ℕ → S → S) → Commutes takes applied → Commutes takes (mapped_applied applied)
map_commutes takes applied law s used f g vs ws tf tg sf sg away =
    let t = s.0 in
    let by = channel_of t.entries in
    let into = full (used + 32) in
    ap (λ x. (t, x)) (law s.1 into f g (map by vs) (map by ws) tf tg
    (seated-more by (channel_apart t) used into f vs (channel_within t used) sf) (seated-more by (channel_apart t) used into g ws (channel_within t used) sg)
    (apart_by by (channel_apart t) vs ws ∙ away))

-- gates

module _ (t : Table) where
  wire-low : (u z : ℕ) → has (wires_of t.entries u) z ≡ true → z < 32
  wire-low u z h = ⊎_elim (λ l. l) (λ l. absurd (both_ways _ (wires_past t u z l) h)) (cases_lt z 32)

  -- wires that are too many or over 31 seat no gate
  unseated : (u : ℕ) (g : Gate) (ws : List ℕ) → seatable ws ≡ false → seated (wires_of t.entries u) g ws ≡ false
  unseated u g ws no-seats = ⊎_elim
      (λ e.
      let p = and_parts (length ws == arity g) (all_in (wires_of t.entries u) ws) e in
      let few : length ws ≤ 3 = omega (arith, eqb-true (length ws) (arity g) p.0, arity_few g) in
      absurd (both_ways (seatable ws) no-seats (and_from _ _ (le-leb (length ws) 3 few) (all_below_lem 32 (wires_of t.entries u) ws (wire-low u) p.1))))
      (λ f. f) (cases_Bool (seated (wires_of t.entries u) g ws))

  -- other wires seat a gate exactly if their channels do beneath
  seats_beneath : (u : ℕ) (g : Gate) (ws : List ℕ) → seatable ws ≡ true → seated (wires_of t.entries u) g ws ≡ seated u g (map (channel_of t.entries) ws)
  seats_beneath u g ws e = seated-same (channel_of t.entries) (channel_apart t) 32 (wires_of t.entries u) u g ws (and_parts _ _ e).1 (has-wires t u)

  module _ {S : Type 0} (takes : Gate → Bool) where
    pub misused : (v : View S) (g : Gate) (ws : List ℕ) → true ≡ takes g → seatable ws ≡ false → apply_fault takes (mapped_view t v) g ws ≡ Some (WireMisuse g)
    misused v g ws e no-seats =
        cond-false (not (takes g)) _ _ (not_from_true (takes g) (sym e)) ∙ cond-true _ _ _ (not_from_false _ (unseated v.used g ws no-seats))

    fault-beneath : (v : View S) (g : Gate) (ws : List ℕ) → seatable ws ≡ true → apply_fault takes (mapped_view t v) g ws ≡ apply_fault takes v g (map (channel_of t.entries) ws)
    fault-beneath v g ws e =
        ap (λ b. cond (not (takes g)) (Some (NotTaken g)) (cond (not b) (Some (WireMisuse g)) (cond (nat_le v.capacity v.count) (Some (AtCapacity g)) None)))
        (seats_beneath v.used g ws e)

    -- an apply beneath to the channels is an apply of the map to the wires
    apply-to : (applied : Gate → List ℕ → S → S) (g : Gate) (ws : List ℕ) (v after : View S) (r : Result (Unit {0}) Refusal) → seatable ws ≡ true
        → Obeys (apply_fault takes v g (map (channel_of t.entries) ws)) (applied_view applied v g (map (channel_of t.entries) ws)) r after
        → Obeys (apply_fault takes (mapped_view t v) g ws) (applied_view (mapped_applied applied) (mapped_view t v) g ws) r (mapped_view t after)
    apply-to applied g ws v after (Ok u) e o = (fault-beneath v g ws e ∙ o.0, ap (mapped_view t) o.1)
    apply-to applied g ws v after (Err x) e o = fault-beneath v g ws e ∙ o

    pub apply-by : (applied : Gate → List ℕ → S → S) (g : Gate) (ws cs : List ℕ) (v after : View S) (r : Result (Unit {0}) Refusal) → seatable ws ≡ true → cs ≡ map (channel_of t.entries) ws
        → Obeys (apply_fault takes v g cs) (applied_view applied v g cs) r after
        → Obeys (apply_fault takes (mapped_view t v) g ws) (applied_view (mapped_applied applied) (mapped_view t v) g ws) r (mapped_view t after)
    apply-by applied g ws cs v after r e q o = apply-to applied g ws v after r e (subst (λ (l : List ℕ). Obeys (apply_fault takes v g l) (applied_view applied v g l) r after) q o)

  fits-from : (b : Bool) → ◌≡◌ {A = Result (Unit {0}) Refusal} (Ok tt) (cond b (Ok tt) (Err WireSets)) → b ≡ true
  fits-from true e = refl
  fits-from false e = absurd cc

  -- the view after a begin, by the wires in use
  abbrev begun-used : {S : Type 0} → (ℕ → ℕ → ℕ → S → S) → ℕ → ℕ → ℕ → View S → ℕ → View (Table × S)
  begun-used begun used given ones v u = record {
    state = mapped_begun begun used given ones (t, v.state);
    used = u;
    count = 0;
    width = fitting v.width t.entries;
    capacity = v.capacity;
  }

  -- a begin beneath with the channels is a begin of the map with the wires
  begin-with : {S : Type 0} (begun : ℕ → ℕ → ℕ → S → S) (used given ones : ℕ) (v after : View S) (r : Result (Unit {0}) Refusal)
      → used < 2 ^ 32 → sets_fit (fitting v.width t.entries) used given ones ≡ true
      → Obeys (begin_fault v (channels_of t.entries used) (channels_of t.entries given) (channels_of t.entries ones))
      (begun_view begun v (channels_of t.entries used) (channels_of t.entries given) (channels_of t.entries ones)) r after
      → Obeys (begin_fault (mapped_view t v) used given ones) (begun_view (mapped_begun begun) (mapped_view t v) used given ones) r (mapped_view t after)
  begin-with begun used given ones v after (Ok u) small fit o =
      (cond-true _ _ _ fit, ap (mapped_view t) o.1 ∙ ap (begun-used begun used given ones v) (wires_channels t used small))
  begin-with begun used given ones v after (Err x) small fit o =
      let fine = cond-true (sets_fit v.width (channels_of t.entries used) (channels_of t.entries given) (channels_of t.entries ones)) None (Some WireSets) (sets_fit_lem t v.width used given ones fit) in
      let z : ◌≡◌ {A = ℕ} 0 1 = cc in absurd (omega arith)

  pub begin_by : {S : Type 0} (begun : ℕ → ℕ → ℕ → S → S) (used given ones width : ℕ) (v after : View S) (r : Result (Unit {0}) Refusal)
      → used < 2 ^ 32 → width ≡ fitting v.width t.entries → ◌≡◌ {A = Result (Unit {0}) Refusal} (Ok tt) (cond (sets_fit width used given ones) (Ok tt) (Err WireSets))
      → {u g o : ℕ} → u ≡ channels_of t.entries used → g ≡ channels_of t.entries given → o ≡ channels_of t.entries ones
      → Obeys (begin_fault v u g o) (begun_view begun v u g o) r after
      → Obeys (begin_fault (mapped_view t v) used given ones) (begun_view (mapped_begun begun) (mapped_view t v) used given ones) r (mapped_view t after)
  begin_by begun used given ones width v after r small wide none eu eg eo h =
      begin-with begun used given ones v after r small (ap (λ n. sets_fit n used given ones) (sym wide) ∙ fits-from (sets_fit width used given ones) none) (rw (eu, eg, eo) at h)

-- what is kept beneath is kept
pub kept_by : {A B : Type 0} (f : A → B) (r : Result (Unit {0}) Refusal) (a b : A) → Kept r a b → Kept r (f a) (f b)
kept_by f (Ok u) a b k = tt
kept_by f (Err e) a b k = ap f k
