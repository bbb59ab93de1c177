-- Gates that fire: each is that of a gate row, its wires are different wires of the run, and each gate row fires at most once.
use Rattle.std.proofs.Common.{◌≡◌, ℕ, zero, suc, ◌+◌, ◌-◌, ◌*◌, ◌/◌, ◌%◌, ◌^◌, ◌<◌, ◌≤◌, Bool, true, false, ◌&&◌, ◌||◌, eqb, List, [], ◌∷◌, map, length, get_or, take, Some, Option, sym, refl, ap, ◌∙◌, subst, inl, ⊎_elim, suc-mul, add-one, arith}
use Rattle.std.specs.Option.{option_to_list}
use Rattle.std.proofs.lemmas.Nat.{pow_pos, pow-add, shr_high, mod-mul-add}
use Rattle.std.proofs.lemmas.List.{take_all, length-append}
use Rattle.std.proofs.lemmas.Bool.{and_parts, and_from, and_right, both_ways, not_from_false, ne_eqb, cases_Bool, cond-true, cond-false}
use Rattle.basics.specs.Gates.{arity}
use Rattle.derivation.specs.declared.types.TypeEntry.{TypeEntry}
use Rattle.derivation.specs.declared.rows.Rule.TheVariants.{Gate}
use Rattle.derivation.specs.declared.rows.Row.{Row}
use Rattle.derivation.specs.declared.rows.Place.{Place}
use Rattle.basics.specs.Sets.{has, without}
use Rattle.derivation.specs.Rows.{all_in, no_row}
use Rattle.derivation.specs.Judgements.{rule_at}
use Rattle.derivation.specs.Places.{is_gate, gate_rows}
use Rattle.derivation.specs.Weights.{sum_to}
use Rattle.derivation.specs.Accepted.{Accepted}
use Rattle.basics.proofs.SetLaws.{has-without}
use Rattle.derivation.proofs.CountLaws.{kept_more}
use Rattle.derivation.proofs.TreeLaws.{not_so}
use Rattle.theory.specs.Ports.{at, is_place, is_end}
use Rattle.theory.specs.Tokens.{Fired, Moved, no_place, wire_at, is_seat, together, gate_fired, fired_at, move}
use Rattle.theory.specs.Steps.{Step}
use Rattle.theory.specs.Runs.{Reached, begun, moved}
use Rattle.theory.specs.Laws.{PortLaws, StartLaws, MovesAreSteps, Firing}
use Rattle.theory.proofs.Basics.{none_some, same_some}
use Rattle.theory.proofs.Ways.{place-parts, seat_facts, seat_is}
use Rattle.theory.proofs.Progress.{machine, placed, move_facts, with-from, with_to, left_by, reached-length, run_fact, step}
use Rattle.theory.proofs.Occurrences.{one}
use Rattle.theory.proofs.Starts.{sum_none, sum_one}

-- the set of all numbers below n has each of them
has_all : (n x : ℕ) → x < n → has (2 ^ n - 1) x ≡ true
unfolding has
has_all n x h =
    ap (λ m. eqb (m / 2 ^ x % 2) 1) split
    ∙ ap (λ m. eqb (m % 2) 1) (shr_high (k * 2 + 1) x (2 ^ x - 1) (omega (arith, pow_pos x)))
    ∙ ap (λ m. eqb m 1) (mod-mul-add k 2 1 (omega arith))
  where
    k : ℕ
    k = 2 ^ (n - suc x) - 1

    whole : n ≡ n - suc x + 1 + x
    whole = omega arith

    more : 2 ^ (n - suc x + 1) ≡ suc (k * 2 + 1)
    more = omega (arith, pow-add 2 (n - suc x) 1, pow_pos (n - suc x))

    split : 2 ^ n - 1 ≡ (k * 2 + 1) * 2 ^ x + (2 ^ x - 1)
    split =
        ap (λ j. 2 ^ j - 1) whole ∙ ap (λ m. m - 1) (pow-add 2 (n - suc x + 1) x ∙ ap (λ m. m * 2 ^ x) more)
        ∙ omega (arith, suc-mul (k * 2 + 1) (2 ^ x), pow_pos x)

-- different numbers of a set can be taken out of it one by one
all_in_lem : (m : ℕ) (xs : List ℕ) → ((i : ℕ) → i < length xs → has m (get_or xs i 0) ≡ true)
    → ((i j : ℕ) → i < length xs → j < length xs → get_or xs i 0 ≡ get_or xs j 0 → i ≡ j) → all_in m xs ≡ true
all_in_lem m [] inside apart = refl
all_in_lem m (x ∷ xs) inside apart =
    and_from _ _ (inside 0 (omega arith))
    (all_in_lem (without m x) xs
    (λ i h.
    has-without m x (get_or xs i 0)
    ∙ and_from _ _ (inside (suc i) (omega arith)) (not_from_false _ (ne_eqb _ _ (λ e. let z = apart (suc i) 0 (omega arith) (omega arith) e in omega arith))))
    (λ i j h k e. let s = apart (suc i) (suc j) (omega arith) (omega arith) e in omega arith))

-- gate f fires at row r: its wires' tokens stand at the seats, in their order
record FiresAt (rows : List Row) (tokens : List Place) (f : Fired) (r : ℕ) : Type 0 where
  row : r < length rows
  rule : rule_at rows r ≡ Gate f.gate
  many : length f.wires ≡ arity f.gate
  stand : (i : ℕ) → i < arity f.gate → (get_or f.wires i 0 < length tokens) × (get_or tokens (get_or f.wires i 0) no_place ≡ at r i)

-- a step that fires a gate does so at some row
step-fires : {es : List TypeEntry} {rows : List Row} {tokens after : List Place} {w : ℕ} {o : Option Fired} → Step es rows tokens w o after
    → (f : Fired) → o ≡ Some f → (r : ℕ) × FiresAt rows tokens f r
step-fires (Step.passes l t enters joins) f e = absurd (none_some e)
step-fires {rows = rows} {tokens = tokens} (Step.fires {r = r} l h rule n x holds m there others) f e =
    (r, subst (λ k. FiresAt rows tokens k r) (same_some e) (record { row = h; rule = rule; many = n; stand = holds }))

-- the wires of a gate that fires are different wires of the run
fires_in : (rows : List Row) (tokens : List Place) (f : Fired) (r : ℕ) → FiresAt rows tokens f r → all_in (2 ^ length tokens - 1) f.wires ≡ true
fires_in rows tokens f r at-r =
    let many = at-r.many in
    all_in_lem (2 ^ length tokens - 1) f.wires
    (λ i h. has_all (length tokens) _ (at-r.stand i (omega arith)).0)
    (λ i j h k e. ap (λ (p : Place). p.atom.0) (sym (at-r.stand i (omega arith)).1 ∙ ap (λ v. get_or tokens v no_place) e ∙ (at-r.stand j (omega arith)).1))

-- sums of two functions, as the sum of a third
sum_both : (f g h : ℕ → ℕ) (n : ℕ) → ((x : ℕ) → f x + g x ≡ h x) → sum_to f n + sum_to g n ≡ sum_to h n
sum_both f g h zero e = refl
sum_both f g h (suc n) e = omega (arith, sum_both f g h n e, e n)

module _ (es : List TypeEntry) (rows : List Row) where
  -- how many rows below n have a first seat that passes a test
  abbrev seats_passed : (Place → Bool) → ℕ → ℕ
  seats_passed t n = sum_to (λ i. one (is_seat es rows (at i 0) && t (at i 0))) n

  -- no more than there are gate rows
  passed_few : (t : Place → Bool) → seats_passed t (length rows) ≤ gate_rows rows
  passed_few t =
      subst (λ (l : List Row). seats_passed t (length rows) ≤ gate_rows l) (take_all (length rows) rows (omega arith)) (go (length rows) (omega arith))
    where
      less : (b c d : Bool) → (b ≡ true → d ≡ true) → one (b && c) ≤ one d
      less true true d h = rw (h refl) (omega arith)
      less true false d h = omega arith
      less false c d h = omega arith

      go : (n : ℕ) → n ≤ length rows → seats_passed t n ≤ gate_rows (take n rows)
      go zero h = omega arith
      go (suc n) h =
          omega (
            arith,
            go n (omega arith),
            less (is_seat es rows (at n 0)) (t (at n 0)) (is_gate (rule_at rows n)) (λ s. ap is_gate (seat_facts es rows (at n 0) s).1),
            kept_more (λ row. is_gate row.rule) rows n no_row h,
            ap (λ k. gate_rows (take k rows)) (add-one n),
          )

  -- a token that moves takes one first seat with it if a gate fires, and else none
  passed_fired : (tokens : List Place) (p : Place) → is_place es rows p ≡ true → is_end es rows p ≡ false
      → seats_passed ((machine es rows).with p) (length rows) ≡ length (option_to_list (fired_at es rows tokens p))
  passed_fired tokens p here on = ⊎_elim
      (λ (s : is_seat es rows p ≡ true).
      let (g, rule, h, e) = seat_facts es rows p s in
      let first = seat_is es rows r g rule 0 (omega arith) in
      sum_one _ r (length rows) (place-parts es rows p here).0 (λ x m ne. other x (λ t. ne))
      ∙ ap one (and_from _ _ first (with_to es rows p (at r 0) on (inl (s, first, refl))))
      ∙ ap (λ o. length (option_to_list o)) (sym (cond-true _ _ _ s ∙ ap (λ k. gate_fired es rows k (map (wire_at tokens) (together es rows p))) rule)))
      (λ (s : is_seat es rows p ≡ false).
      sum_none _ (length rows) (λ x m. other x (λ t same. both_ways _ s t))
      ∙ ap (λ o. length (option_to_list o)) (sym (cond-false _ _ _ s)))
      (cases_Bool (is_seat es rows p))
    where
      r : ℕ
      r = p.row.0

      other : (x : ℕ) → (is_seat es rows p ≡ true → x ≡ r → ⊥) → one (is_seat es rows (at x 0) && (machine es rows).with p (at x 0)) ≡ 0
      other x apart =
          ap one (not_so _ (λ y.
          let (seat, moves) = and_parts (is_seat es rows (at x 0)) _ y in
          ⊎_elim
          (λ (s, t, e). apart s (sym e))
          (λ (s, e). both_ways _ s (subst (λ (q : Place). is_seat es rows q ≡ true) (sym e) seat))
          (with-from es rows p (at x 0) moves).1))

  -- tests that do not both pass are counted apart
  passed_either : (t u : Place → Bool) → ((p : Place) → t p ≡ true → u p ≡ true → ⊥)
      → (n : ℕ) → seats_passed t n + seats_passed u n ≡ seats_passed (λ p. t p || u p) n
  passed_either t u apart n = sum_both _ _ _ n (λ x. split (is_seat es rows (at x 0)) (t (at x 0)) (u (at x 0)) (apart (at x 0)))
    where
      split : (a b c : Bool) → (b ≡ true → c ≡ true → ⊥) → one (a && b) + one (a && c) ≡ one (a && (b || c))
      split true true true h = absurd (h refl refl)
      split true true false h = refl
      split true false c h = omega arith
      split false b c h = refl

module _ (es : List TypeEntry) (rows : List Row) (a : Accepted es rows) (ports : PortLaws es rows) (begin : StartLaws es rows) where
  -- the gates that fired are as many as the first seats that tokens have left
  fired-many : {tokens : List Place} {n : ℕ} {fired : List Fired} (r : Reached es rows tokens n fired)
      → seats_passed es rows (left_by es rows r) (length rows) ≡ length fired
  fired-many begun = sum_none _ (length rows) (λ x l. ap one (and_right (is_seat es rows (at x 0)) false refl))
  fired-many (moved {tokens = before} {fired = fired} r w m e) =
      let k = step es rows a ports begin r w m e in
      let f = run_fact es rows a ports begin r in
      let left = left_by es rows r in
      let p = placed before w in
      let apart : (q : Place) → left q ≡ true → (machine es rows).with p q ≡ true → ⊥
      = λ q y z. let (v, h, s) = k.enabled.1 q z in both_ways (left q) (subst (λ c. left c ≡ false) s (f.off v h)) y in
      let now = passed_fired es rows before p (f.stands w k.wire) k.enabled.0 in
      let fires = ap (λ o. length (option_to_list o)) (move_facts es rows before w m e).3 in
      omega (arith, passed_either es rows left ((machine es rows).with p) apart (length rows), fired-many r, length-append fired (option_to_list m.fired))

  module _ (steps : MovesAreSteps es rows) where
    -- a move that fires a gate does so at some row
    move-fires : {tokens : List Place} {n : ℕ} {fired : List Fired} → Reached es rows tokens n fired
        → (w : ℕ) (m : Moved) (f : Fired) → move es rows tokens w ≡ Some m → m.fired ≡ Some f → (r : ℕ) × FiresAt rows tokens f r
    move-fires {tokens} {n} {fired} run w m f e some = step-fires ((steps tokens n fired run w m).0 e) f some

    -- a gate that fires is that of a row, with as many different wires as seats, and no more gates fire than there are gate rows
    pub firing : Firing es rows
    firing = record {
      of_row = λ tokens n fired run w m f e some. let (r, s) = move-fires run w m f e some in (r, s.row, s.rule);
      seated = λ tokens n fired run w m f e some.
          let (r, s) = move-fires run w m f e some in
          (s.many, subst (λ k. all_in (2 ^ k - 1) f.wires ≡ true) (reached-length es rows begin run) (fires_in rows tokens f r s));
      few = λ tokens n fired run. subst (λ k. k ≤ gate_rows rows) (fired-many run) (passed_few es rows (left_by es rows run));
    }
