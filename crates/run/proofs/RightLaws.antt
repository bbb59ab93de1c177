-- What is kept is right exactly if it is known to be where all wires stand at places of their own.
use Rattle.std.proofs.Common.{◌≡◌, ℕ, ◌<◌, ◌≤◌, Bool, true, false, not, eqb, List, map, length, get_or, sym, refl, ap, ◌∙◌, subst, ⊎_elim, arith}
use Rattle.std.proofs.lemmas.List.{get_or_default, get_or-map, get_or_past, length-map}
use Rattle.std.proofs.lemmas.Bool.{both_ways, and_parts, and_from, and_left, and_right, cases_Bool, cases_lt, cond-true, cond-false, le-ltb, not-true, not_from_false}
use Rattle.derivation.specs.declared.types.TypeEntry.{TypeEntry}
use Rattle.derivation.specs.declared.rows.Row.{Row}
use Rattle.derivation.specs.declared.rows.Place.{Place}
use Rattle.derivation.specs.Judgements.{rule_at}
use Rattle.derivation.specs.Rows.{no_row}
use Rattle.basics.specs.Sets.{has}
use Rattle.theory.specs.Ports.{at, is_end, is_place}
use Rattle.theory.specs.Tokens.{all_stand, among, is_seat, movable, no_place, seats, together}
use Rattle.theory.proofs.Basics.{both_pass}
use Rattle.theory.proofs.Ways.{all-stand-from, all-stand_to, among-at, among-here, among-row, row-among, wire-found}
use Rattle.run.specs.Books.{Kept, Right, seat_of, wires_where}
use Rattle.run.proofs.SetsOfWires.{has_mask, same_masks}
use Rattle.run.proofs.Standing.{nowhere, part_differs, Can, Known}

-- where the tokens of a list are
abbrev pub spots : List Row → List Place → ℕ → Place
spots rows tokens v = get_or tokens v (nowhere rows)

-- a row with seats is a row of the derivation
pub seats-rowed : (rows : List Row) (r i : ℕ) → i < seats (rule_at rows r) → r < length rows
seats-rowed rows r i h =
    ⊎_elim (λ l. l) (λ l. absurd (omega (arith, ap (λ (row : Row). seats row.rule) (get_or_past rows r no_row l)))) (cases_lt r (length rows))

-- nowhere is no place
pub nowhere_off : (es : List TypeEntry) (rows : List Row) → is_place es rows (nowhere rows) ≡ false
nowhere_off es rows = and_left _ _ (le-ltb (length rows) (length rows) (omega arith))

module _ (es : List TypeEntry) (rows : List Row) (tokens : List Place) where
  -- a place is that of a wire
  pub spot_wire : (v : ℕ) → is_place es rows (spots rows tokens v) ≡ true → v < length tokens
  spot_wire v h = ⊎_elim
      (λ l. l)
      (λ l. absurd (both_ways _ (nowhere_off es rows) (subst (λ p. is_place es rows p ≡ true) (get_or_past tokens v (nowhere rows) l) h)))
      (cases_lt v (length tokens))

  pub seat_wire : (v r i : ℕ) → spots rows tokens v ≡ at r i → v < length tokens
  seat_wire v r i e =
      ⊎_elim (λ l. l) (λ l. absurd (part_differs r i (length rows) 0 0 (sym e ∙ get_or_past tokens v (nowhere rows) l))) (cases_lt v (length tokens))

  -- the members of the set of wires that pass a test
  pub where_in : (t : Place → Bool) (v : ℕ) → v < length tokens → has (wires_where t tokens) v ≡ t (spots rows tokens v)
  where_in t v l = has_mask (map t tokens) v ∙ get_or-map t tokens v (nowhere rows) false l

  pub where_past : (t : Place → Bool) (v : ℕ) → length tokens ≤ v → has (wires_where t tokens) v ≡ false
  where_past t v l = has_mask (map t tokens) v ∙ get_or_past (map t tokens) v false (omega (arith, length-map tokens t))

  -- a token can move by the machine exactly if it can by where all are
  pub movable_can : (p : Place) → movable es rows tokens p ≡ true → Can es rows (spots rows tokens) p
  movable_can p m =
      let (on, all) = and_parts (not (is_end es rows p)) _ m in (
        not-true _ on,
        λ s i l.
            let among-all = ap (among (at p.row.0 i)) (cond-true (is_seat es rows p) _ _ s) ∙ among-row p.row.0 0 (seats (rule_at rows p.row.0)) i (omega arith) (omega arith) in
            let (u, h, e) = among-at (at p.row.0 i) tokens (all-stand-from tokens (together es rows p) all _ among-all) in
            (u, get_or_default tokens u (nowhere rows) no_place h ∙ e),
      )

  pub can_movable : (v : ℕ) (p : Place) → v < length tokens → spots rows tokens v ≡ p → Can es rows (spots rows tokens) p → movable es rows tokens p ≡ true
  can_movable v p l here (on, all) = and_from _ _ (not_from_false _ on) (⊎_elim
      (λ s. ap (all_stand tokens) (cond-true (is_seat es rows p) _ _ s) ∙ all-stand_to tokens _ (λ q m.
      let (j, h, e) = row-among p.row.0 0 (seats (rule_at rows p.row.0)) q m in
      let (u, there) = all s j (omega arith) in
      let lu = seat_wire u p.row.0 j there in
      among-here q tokens u lu (get_or_default tokens u no_place (nowhere rows) lu ∙ there ∙ e)))
      (λ s. ap (all_stand tokens) (cond-false (is_seat es rows p) _ _ s) ∙ and_from _ true (among-here p tokens v l (get_or_default tokens v no_place (nowhere rows) l ∙ here)) refl)
      (cases_Bool (is_seat es rows p)))

module _ (es : List TypeEntry) (rows : List Row) (b : Kept)
    (apart : (w v : ℕ) → w < length b.tokens → v < length b.tokens → get_or b.tokens w no_place ≡ get_or b.tokens v no_place → w ≡ v)
    (stand : (w : ℕ) → w < length b.tokens → is_place es rows (get_or b.tokens w no_place) ≡ true) where
  -- what is kept of tokens at places of their own is known to be right if it is right
  pub right_known : Right es rows b → Known es rows (spots rows b.tokens) b
  right_known right = record {
    rowed = right.fit.0;
    roomy = right.fit.1;
    past = λ v h. (ap (λ m. has m v) right.ready ∙ where_past es rows b.tokens _ v h, get_or_past b.tokens v (nowhere rows) h);
    can = λ v here h.
        let l = spot_wire es rows b.tokens v here in
        movable_can es rows b.tokens _ (sym (ready_at v l) ∙ h);
    able = λ v here c.
        let l = spot_wire es rows b.tokens v here in
        ready_at v l ∙ can_movable es rows b.tokens v _ l refl c;
    sits = λ r h. record {
      wires = λ v. ap (λ m. has m v) (right.waits r h) ∙ ⊎_elim
          (λ l. where_in es rows b.tokens (seat_of es rows r) v l)
          (λ l. where_past es rows b.tokens (seat_of es rows r) v l ∙ sym (ap (seat_of es rows r) (get_or_past b.tokens v (nowhere rows) l) ∙ and_right (eqb (length rows) r) false refl))
          (cases_lt v (length b.tokens));
      seated = λ i u l e.
          let k = seat_wire es rows b.tokens u r i e in
          let there = get_or_default b.tokens u no_place (nowhere rows) k ∙ e in
          let stands = among-here (at r i) b.tokens u k there in
          let (m, same) = wire-found b.tokens (at r i) stands in
          right.seated r i l stands ∙ apart _ u m k (same ∙ sym there);
    };
  }
    where
      ready_at : (v : ℕ) → v < length b.tokens → has b.ready v ≡ movable es rows b.tokens (spots rows b.tokens v)
      ready_at v l = ap (λ m. has m v) right.ready ∙ where_in es rows b.tokens _ v l

  -- and is right if it is known to be
  pub known-right : Known es rows (spots rows b.tokens) b → length b.tokens ≤ 32 → Right es rows b
  known-right k few = record {
    fit = (k.rowed, k.roomy, few);
    ready = same_masks _ _ (λ v. ⊎_elim
        (λ l.
        let here = ap (is_place es rows) (get_or_default b.tokens v (nowhere rows) no_place l) ∙ stand v l in
        both_pass _ _ (λ h. can_movable es rows b.tokens v _ l refl (k.can v here h)) (λ h. k.able v here (movable_can es rows b.tokens _ h))
        ∙ sym (where_in es rows b.tokens (movable es rows b.tokens) v l))
        (λ l. (k.past v l).0 ∙ sym (where_past es rows b.tokens (movable es rows b.tokens) v l))
        (cases_lt v (length b.tokens)));
    waits = λ r h. same_masks _ _ (λ v. (k.sits r h).wires v ∙ ⊎_elim
        (λ l. sym (where_in es rows b.tokens (seat_of es rows r) v l))
        (λ l. ap (seat_of es rows r) (get_or_past b.tokens v (nowhere rows) l) ∙ and_right (eqb (length rows) r) false refl ∙ sym (where_past es rows b.tokens (seat_of es rows r) v l))
        (cases_lt v (length b.tokens)));
    seated = λ r i l stands.
        let (m, same) = wire-found b.tokens (at r i) stands in
        (k.sits r (seats-rowed rows r i l)).seated i _ l (get_or_default b.tokens _ (nowhere rows) no_place m ∙ same);
  }
