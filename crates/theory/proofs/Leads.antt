-- The lead places: those that a move is counted by. Each place but the starts is one, save the results of a gate after its first.
use Rattle.std.proofs.Common.{◌≡◌, ℕ, zero, suc, ◌+◌, ◌-◌, ◌<◌, ◌≤◌, Bool, true, false, cond, not, ◌&&◌, eqb, ltb, List, ◌++◌, map, length, take, sym, refl, ap, ◌∙◌, subst, ap₂, ⊎_elim, add-one, arith}
use mathlib.Core.Bool.{and-false, and_assoc, and_self_left}
use Rattle.std.specs.List.{flat_map}
use Rattle.std.proofs.lemmas.List.{length-append, length-map, take_all}
use Rattle.std.proofs.lemmas.Bool.{not-true, and_parts, eq-eqb, ne_eqb, cases_Bool, cases_eq, cases_lt, both_ways, ltb-true, lt-ltb, le-ltb}
use Rattle.derivation.specs.declared.types.TypeEntry.{TypeEntry}
use Rattle.derivation.specs.declared.rows.Rule.{Rule}
use Rattle.derivation.specs.declared.rows.Rule.TheVariants.{Variable, Zero, One, Gate, Lambda, PairLambda, Apply, Pair}
use Rattle.derivation.specs.declared.rows.Row.{Row}
use Rattle.derivation.specs.declared.rows.Part.{Part}
use Rattle.derivation.specs.declared.rows.Part.TheVariants.{Ty, Variable as Var}
use Rattle.derivation.specs.declared.rows.Place.{Place}
use Rattle.basics.specs.declared.gate.Gate.{Gate as GateName}
use Rattle.basics.specs.declared.gate.Gate.TheVariants.{H, S, T, X, Z, Cx, Cz, Ccx}
use Rattle.basics.specs.Gates.{arity}
use Rattle.derivation.specs.Rows.{no_row}
use Rattle.derivation.specs.Judgements.{rule_at}
use Rattle.derivation.specs.Places.{numbers, keep, places, negative, is_bit, is_gate, mates, all_mates, wires, moves}
use Rattle.derivation.specs.Weights.{sum_to}
use Rattle.derivation.specs.Accepted.{Accepted}
use Rattle.derivation.proofs.PlaceLaws.{sum_to-same, size_joined, length-numbers, length-keep-append, length-keep-map}
use Rattle.derivation.proofs.CountLaws.{mates-more}
use Rattle.theory.specs.Ports.{at, width, part_width, is_place, is_start, starts}
use Rattle.theory.specs.Tokens.{same_part, same_place, seats}
use Rattle.theory.proofs.Signs.{gate-of}
use Rattle.theory.proofs.Ways.{same_part_lem, gate-width, gate-negative}
use Rattle.theory.proofs.Occurrences.{one, one-small, occ, occ-keep, as_many}
use Rattle.theory.proofs.Starts.{sum_none, sum_one, sum-at, occ-places, occ-starts, length-starts}

-- a result of a gate, but not its first
abbrev pub is_late : List Row → Place → Bool
is_late rows p = is_gate (rule_at rows p.row.0) && (same_part Ty p.part && ltb (seats (rule_at rows p.row.0)) p.atom.0)

-- the gate's row, the atom and the whole of such a place
pub late_facts : (rows : List Row) (p : Place) → is_late rows p ≡ true
    → (is_gate (rule_at rows p.row.0) ≡ true) × (seats (rule_at rows p.row.0) < p.atom.0) × (at p.row.0 p.atom.0 ≡ p)
late_facts rows p h =
    let (gated, rest) = and_parts (is_gate (rule_at rows p.row.0)) _ h in
    let (part, above) = and_parts (same_part Ty p.part) _ rest in
    (gated, ltb-true _ _ above, λ i. record { row = p.row; part = same_part_lem Ty p.part part i; atom = p.atom })

-- a place that is no start and no later result of a gate
abbrev pub lead : List TypeEntry → List Row → Place → Bool
lead es rows p = is_place es rows p && (not (is_start es rows p) && not (is_late rows p))

-- what that says, one by one
pub lead-parts : (es : List TypeEntry) (rows : List Row) (p : Place) → lead es rows p ≡ true
    → (is_place es rows p ≡ true) × (is_start es rows p ≡ false) × (is_late rows p ≡ false)
lead-parts es rows p h =
    let (here, rest) = and_parts (is_place es rows p) _ h in
    let (no_start, no-late) = and_parts (not (is_start es rows p)) _ rest in
    (here, not-true _ no_start, not-true _ no-late)

-- a gate has a seat, and one mate less than seats
seats-some : (rule : Rule) → is_gate rule ≡ true → seats rule ≡ suc (mates rule)
seats-some rule e = let (g, k) = gate-of rule e in subst (λ k. seats k ≡ suc (mates k)) (sym k) (go g)
  where
    go : (g : GateName) → arity g ≡ suc (mates (Gate g))
    go H = refl
    go S = refl
    go T = refl
    go X = refl
    go Z = refl
    go Cx = refl
    go Cz = refl
    go Ccx = refl

-- other rules have no mates
mates_none : (rule : Rule) → is_gate rule ≡ false → mates rule ≡ 0
mates_none Variable e = refl
mates_none Zero e = refl
mates_none One e = refl
mates_none (Gate g) e = absurd (both_ways _ e refl)
mates_none (Lambda p x) e = refl
mates_none (PairLambda p x y) e = refl
mates_none (Apply f a) e = refl
mates_none (Pair l r) e = refl

module _ (es : List TypeEntry) (rows : List Row) (a : Accepted es rows) (r : ℕ) (gated : is_gate (rule_at rows r) ≡ true) where
  -- a gate row's type has two atoms for each seat
  pub seats-width : width es rows r ≡ seats (rule_at rows r) + seats (rule_at rows r)
  seats-width =
      let (g, e) = gate-of (rule_at rows r) gated in
      omega (arith, gate-width es rows a r g e, ap seats e)

  -- and its results are positive
  pub result-positive : (i : ℕ) → seats (rule_at rows r) ≤ i → negative es rows (at r i) ≡ false
  result-positive i h =
      let (g, e) = gate-of (rule_at rows r) gated in
      gate-negative es rows a r g e i ∙ le-ltb i (arity g) (omega (arith, ap seats e))

-- m numbers above k, of which i is one or not
sum-above : (k i m : ℕ) → sum_to (λ j. one (eqb (suc (k + j)) i)) m ≡ one (ltb i (suc (k + m)) && ltb k i)
sum-above k i m =
    ⊎_elim
    (λ (above : k < i). ⊎_elim
    (λ (below : i < suc (k + m)).
    sum_one (λ j. one (eqb (suc (k + j)) i)) (i - suc k) m (omega arith) (λ j l ne. ap one (ne_eqb (suc (k + j)) i (λ e. ne (omega arith))))
    ∙ rw (eq-eqb (suc (k + (i - suc k))) i (omega arith), lt-ltb i (suc (k + m)) below, lt-ltb k i above) refl)
    (λ (past : suc (k + m) ≤ i).
    sum_none (λ j. one (eqb (suc (k + j)) i)) m (λ j l. ap one (ne_eqb (suc (k + j)) i (omega arith))) ∙ rw (le-ltb i (suc (k + m)) past) refl)
    (cases_lt i (suc (k + m))))
    (λ (low : i ≤ k).
    sum_none (λ j. one (eqb (suc (k + j)) i)) m (λ j l. ap one (ne_eqb (suc (k + j)) i (omega arith))) ∙ rw (le-ltb k i low) (ap one (sym (and-false _))))
    (cases_lt k i)

-- a test that is part of another
and_again : (x y z : Bool) → (x && (x && y && z)) ≡ (x && y && z)
and_again x y z = ap (λ b. x && b) (and_assoc x y z) ∙ and_self_left x (y && z) ∙ sym (and_assoc x y z)

module _ (es : List TypeEntry) (rows : List Row) (a : Accepted es rows) where
  -- the later results of row r
  abbrev lates_at : ℕ → List Place
  lates_at r = map (λ i. at r (suc (seats (rule_at rows r) + i))) (numbers 0 (mates (rule_at rows r)))

  -- those of a place's own row
  occ_late-own : (r i : ℕ) (part : Part)
      → sum_to (λ j. one (same_part Ty part && eqb (suc (seats (rule_at rows r) + j)) i)) (mates (rule_at rows r))
      ≡ one (ltb i (part_width es rows r part) && (is_gate (rule_at rows r) && (same_part Ty part && ltb (seats (rule_at rows r)) i)))
  occ_late-own r i part = ⊎_elim
      (go part)
      (λ (e : is_gate (rule_at rows r) ≡ false). rw (e, mates_none (rule_at rows r) e) (ap one (sym (and-false _))))
      (cases_Bool (is_gate (rule_at rows r)))
    where
      go : (part : Part) → is_gate (rule_at rows r) ≡ true
          → sum_to (λ j. one (same_part Ty part && eqb (suc (seats (rule_at rows r) + j)) i)) (mates (rule_at rows r))
          ≡ one (ltb i (part_width es rows r part) && (is_gate (rule_at rows r) && (same_part Ty part && ltb (seats (rule_at rows r)) i)))
      go Ty e =
          let both : width es rows r ≡ suc (seats (rule_at rows r) + mates (rule_at rows r)) = omega (arith, seats-width es rows a r e, seats-some (rule_at rows r) e) in
          rw (e, both) (sum-above (seats (rule_at rows r)) i (mates (rule_at rows r)))
      go (Var z) e = rw e (sum_none (λ j. 0) _ (λ j m. refl) ∙ ap one (sym (and-false _)))

  -- those of row r: each stands among them once
  occ_late-row : (q : Place) (r : ℕ) → r < length rows → occ q (lates_at r) ≡ one (eqb r q.row.0 && (is_place es rows q && is_late rows q))
  occ_late-row q r l =
      length-keep-map (λ p. same_place p q) _ (mates (rule_at rows r))
      ∙ ⊎_elim
      (λ (e : r ≡ q.row.0).
      rw e (rw (eq-eqb q.row.0 q.row.0 refl, lt-ltb q.row.0 (length rows) (omega arith)) (occ_late-own q.row.0 q.atom.0 q.part)))
      (λ ne. rw (ne_eqb r q.row.0 ne) (sum_none (λ j. 0) _ (λ j m. refl)))
      (cases_eq r q.row.0)

  -- the later results of all gates
  abbrev lates : List Place
  lates = flat_map lates_at (numbers 0 (length rows))

  -- each of them stands among them once, and nothing else does
  occ_lates : (q : Place) → occ q lates ≡ one (is_place es rows q && is_late rows q)
  occ_lates q =
      size_joined (occ q) refl (length-keep-append (λ p. same_place p q)) lates_at (length rows)
      ∙ sum_to-same _ _ (length rows) (λ r l. occ_late-row q r l)
      ∙ sum-at (λ r. is_place es rows q && is_late rows q) q.row.0 (length rows)
      ∙ ap one (and_again (ltb q.row.0 (length rows)) _ _)

  -- each gate has its mates
  length_lates : length lates ≡ all_mates rows
  length_lates =
      size_joined length refl length-append lates_at (length rows)
      ∙ go (length rows) (omega arith)
      ∙ ap all_mates (take_all (length rows) rows (omega arith))
    where
      go : (n : ℕ) → n ≤ length rows → sum_to (λ r. length (lates_at r)) n ≡ all_mates (take n rows)
      go zero h = refl
      go (suc n) h =
          omega (
            arith,
            go n (omega arith),
            length-map (numbers 0 (mates (rule_at rows n))) (λ i. at n (suc (seats (rule_at rows n) + i))),
            length-numbers 0 (mates (rule_at rows n)),
            mates-more rows n no_row h,
            ap (λ k. all_mates (take k rows)) (add-one n),
          )

  -- a later result of a gate is no start
  late_no_start : (q : Place) → is_late rows q ≡ true → is_start es rows q ≡ false
  late_no_start q hl =
      let (gated, above, e) = late_facts rows q hl in
      subst (λ (x : Place). is_start es rows x ≡ false) e
      (rw (result-positive es rows a q.row.0 gated q.atom.0 (omega arith)) (ap is_bit (gate-of (rule_at rows q.row.0) gated).1))

  -- starts, later results and lead places are all places
  parts_all : wires es rows + all_mates rows + length (keep (lead es rows) (places es rows)) ≡ length (places es rows)
  parts_all =
      let leads = keep (lead es rows) (places es rows) in
      let listed = as_many (starts es rows ++ (lates ++ leads)) (places es rows)
      (λ q. omega (arith, same q, occ-places es rows a q, one-small (is_place es rows q))) same in
      omega (arith, listed, length-append (starts es rows) (lates ++ leads), length-append lates leads, length-starts es rows, length_lates)
    where
      split : (p s t : Bool) → (t ≡ true → s ≡ false) → one (p && s) + (one (p && t) + cond (p && (not s && not t)) (one p) 0) ≡ one p
      split true true true h = absurd (both_ways _ (h refl) refl)
      split true true false h = refl
      split true false true h = refl
      split true false false h = refl
      split false s t h = refl

      same : (q : Place) → occ q (starts es rows ++ (lates ++ keep (lead es rows) (places es rows))) ≡ occ q (places es rows)
      same q =
          let leads = keep (lead es rows) (places es rows) in
          length-keep-append (λ p. same_place p q) (starts es rows) (lates ++ leads)
          ∙ ap₂ ◌+◌ (occ-starts es rows a q)
          (length-keep-append (λ p. same_place p q) lates leads
          ∙ ap₂ ◌+◌ (occ_lates q) (occ-keep (lead es rows) q (places es rows) ∙ ap (λ n. cond (lead es rows q) n 0) (occ-places es rows a q)))
          ∙ split (is_place es rows q) (is_start es rows q) (is_late rows q) (late_no_start q)
          ∙ sym (occ-places es rows a q)

  -- there are as many lead places as moves in a complete run
  pub lead-count : length (keep (lead es rows) (places es rows)) ≡ moves es rows
  lead-count = omega (arith, parts_all)
