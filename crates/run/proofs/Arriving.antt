-- A wire that was nowhere comes to a place: what is kept then is right again.
use Rattle.std.proofs.Common.{◌≡◌, ℕ, ◌<◌, ◌≤◌, Bool, true, false, not, ◌&&◌, ◌||◌, eqb, ◌⊎◌, List, length, get_or, set, sym, refl, ap, ◌∙◌, subst, inl, inr, ⊎_elim, arith}
use lib.Count.{ones}
use Rattle.std.proofs.lemmas.List.{get_or-set_same, get_or-set_other, length-set}
use Rattle.std.proofs.lemmas.Bool.{both_ways, and_cases, and_parts, and_from, and_left, and_right, cases_Bool, cases_eq, cond-true, cond-false, cond_both, or_cases, or_from, or_left, or_right, not_from_true, eq-eqb, ne_eqb, eqb-true, eqb-false}
use Rattle.basics.specs.declared.gate.Gate.TheVariants.{H, S, T, X, Z, Cx, Cz, Ccx}
use Rattle.basics.specs.declared.numbers.Wire.{Wire}
use Rattle.derivation.specs.declared.types.TypeEntry.{TypeEntry}
use Rattle.derivation.specs.declared.rows.Rule.{Rule}
use Rattle.derivation.specs.declared.rows.Rule.TheVariants.{Variable, Zero, One, Gate, Lambda, PairLambda, Apply, Pair}
use Rattle.derivation.specs.declared.rows.Row.{Row}
use Rattle.derivation.specs.declared.rows.Place.{Place}
use Rattle.derivation.specs.Judgements.{rule_at}
use Rattle.basics.specs.Sets.{has, only, union, without}
use Rattle.basics.proofs.SetLaws.{has-only, has-union, has-without}
use Rattle.theory.specs.Ports.{at, is_end, is_place}
use Rattle.theory.specs.Tokens.{is_seat, seats}
use Rattle.theory.proofs.Ways.{place-parts}
use Rattle.run.specs.declared.books.Waiting.{Waiting}
use Rattle.run.specs.Books.{Kept, nobody, sat, seat_of, settled}
use Rattle.std.proofs.Math.Bool.{and-true}
use Rattle.run.proofs.Standing.{nowhere, placing, placing-here, placing_other, part_differs, Held, Can, Sits, Known, seat_of_facts, seat_of_is, full-held, held-full}

-- a rule has at most three seats
pub seats-few : (rule : Rule) → seats rule ≤ 3
seats-few Variable = omega arith
seats-few Zero = omega arith
seats-few One = omega arith
seats-few (Gate H) = omega arith
seats-few (Gate S) = omega arith
seats-few (Gate T) = omega arith
seats-few (Gate X) = omega arith
seats-few (Gate Z) = omega arith
seats-few (Gate Cx) = omega arith
seats-few (Gate Cz) = omega arith
seats-few (Gate Ccx) = omega arith
seats-few (Lambda p x) = omega arith
seats-few (PairLambda p x y) = omega arith
seats-few (Apply f a) = omega arith
seats-few (Pair l r) = omega arith

second_fails : (x y : Bool) → x ≡ true → (x && y) ≡ false → y ≡ false
second_fails x y h e = ⊎_elim (λ f. absurd (both_ways x f h)) (λ f. f) (and_cases x y e)

or_false : (b : Bool) → (b || false) ≡ b
or_false true = refl
or_false false = refl

module _ (es : List TypeEntry) (rows : List Row) (f : ℕ → Place) (w : ℕ) (q : Place) (off : f w ≡ nowhere rows) (free : (u : ℕ) → f u ≡ q → ⊥) where
  -- where the wires are then
  abbrev then : ℕ → Place
  then = placing f w q

  -- seats that were held still are
  held_on : (r : ℕ) → Held es rows f r → Held es rows then r
  held_on r all i l =
      let (u, e) = all i l in
      (u, placing_other f w q u (λ same. part_differs r i (length rows) 0 0 (sym e ∙ ap f same ∙ off)) ∙ e)

  -- a wire that stands at a place then, and did not come to it, stood there before
  before : (u : ℕ) (p : Place) → then u ≡ p → ((u ≡ w) × (q ≡ p)) ⊎ (f u ≡ p)
  before u p e = ⊎_elim
      (λ same. inl (same, sym (placing-here f w q u same) ∙ e))
      (λ other. inr (sym (placing_other f w q u other) ∙ e))
      (cases_eq u w)

  -- all seats of a row other than that of q were held before
  held_back : (r : ℕ) → seat_of es rows r q ≡ false → Held es rows then r → Held es rows f r
  held_back r away all i l =
      let (u, e) = all i l in
      ⊎_elim (λ (s, same). absurd (both_ways _ away (ap (seat_of es rows r) same ∙ seat_of_is es rows r i l))) (λ same. (u, same)) (before u (at r i) e)

  -- who waits at such a row still does
  sits_on : (r : ℕ) (here : Waiting) → seat_of es rows r q ≡ false → Sits es rows f r here → Sits es rows then r here
  sits_on r here away s = record {
    wires = λ v. ⊎_elim
        (λ same. s.wires v ∙ ap (λ k. seat_of es rows r (f k)) same ∙ ap (seat_of es rows r) off ∙ and_right (eqb (length rows) r) false refl ∙ sym (ap (seat_of es rows r) (placing-here f w q v same) ∙ away))
        (λ other. s.wires v ∙ sym (ap (seat_of es rows r) (placing_other f w q v other)))
        (cases_eq v w);
    seated = λ i u l e. ⊎_elim
        (λ (same, there). absurd (both_ways _ away (ap (seat_of es rows r) there ∙ seat_of_is es rows r i l)))
        (λ there. s.seated i u l there)
        (before u (at r i) e);
  }

  -- w sits down
  sits-down : (r i : ℕ) (here : Waiting) → i < seats (rule_at rows r) → i < length here.seats → q ≡ at r i → Sits es rows f r here
      → Sits es rows then r (record { wires = union here.wires (only w); seats = set here.seats i (record { 0 = w }) })
  sits-down r i here l room there s = record {
    wires = λ v. has-union here.wires (only w) v ∙ ⊎_elim
        (λ same.
        or_right (has here.wires v) _ (has-only w v ∙ eq-eqb v w same)
        ∙ sym (ap (seat_of es rows r) (placing-here f w q v same ∙ there) ∙ seat_of_is es rows r i l))
        (λ other.
        ap (λ c. has here.wires v || c) (has-only w v ∙ ne_eqb v w other) ∙ or_false (has here.wires v)
        ∙ s.wires v ∙ sym (ap (seat_of es rows r) (placing_other f w q v other)))
        (cases_eq v w);
    seated = λ j u m e. ⊎_elim
        (λ (same, here-too).
        let index : j ≡ i = ap (λ (p : Place). p.atom.0) (sym here-too ∙ there) in
        ap (λ k. (get_or (set here.seats i (record { 0 = w })) k (record { 0 = 0 })).0) index
        ∙ ap (λ (k : Wire). k.0) (get_or-set_same here.seats i (record { 0 = w }) (record { 0 = 0 }) room) ∙ sym same)
        (λ stood.
        ap (λ (k : Wire). k.0) (get_or-set_other here.seats i j (record { 0 = w }) (record { 0 = 0 }) (λ index. free u (stood ∙ ap (at r) index ∙ sym there)))
        ∙ s.seated j u m stood)
        (before u (at r j) e);
  }

  -- who could move still can
  can_on : (p : Place) → Can es rows f p → Can es rows then p
  can_on p (going, all) = (going, λ s. held_on p.row.0 (all s))

  -- who can move then, and not because w came, could before
  can_back : (p : Place) → (is_seat es rows p ≡ true → seat_of es rows p.row.0 q ≡ false) → Can es rows then p → Can es rows f p
  can_back p away (going, all) = (going, λ s. held_back p.row.0 (away s) (all s))

  module _ (b : Kept) (k : Known es rows f b) (inside : w < length b.tokens) where
    -- what is kept then is right, if it is for w, for the others, and for each row
    known_from : (waiting : List Waiting) (ready : ℕ) → length waiting ≡ length rows → ((r : ℕ) → r < length rows → length (get_or waiting r nobody).seats ≡ 3)
        → ((v : ℕ) → length b.tokens ≤ v → has ready v ≡ false)
        → (has ready w ≡ true → Can es rows then q) → (Can es rows then q → has ready w ≡ true)
        → ((v : ℕ) → (v ≡ w → ⊥) → is_place es rows (f v) ≡ true → has ready v ≡ true → Can es rows then (f v))
        → ((v : ℕ) → (v ≡ w → ⊥) → is_place es rows (f v) ≡ true → Can es rows then (f v) → has ready v ≡ true)
        → ((r : ℕ) → r < length rows → Sits es rows then r (get_or waiting r nobody))
        → Known es rows then (record { tokens = b.tokens; waiting = waiting; ready = ready })
    known_from waiting ready rowed roomy past mine-can mine-able other-can other-able sits = record {
      rowed = rowed;
      roomy = roomy;
      past = λ v h. (past v h, placing_other f w q v (λ same. absurd (omega arith)) ∙ (k.past v h).1);
      can = λ v there h. ⊎_elim
          (λ same. subst (Can es rows then) (sym (placing-here f w q v same)) (mine-can (subst (λ u. has ready u ≡ true) same h)))
          (λ other.
          let stays = placing_other f w q v other in
          subst (Can es rows then) (sym stays) (other-can v other (subst (λ p. is_place es rows p ≡ true) stays there) h))
          (cases_eq v w);
      able = λ v there h. ⊎_elim
          (λ same. subst (λ u. has ready u ≡ true) (sym same) (mine-able (subst (Can es rows then) (placing-here f w q v same) h)))
          (λ other.
          let stays = placing_other f w q v other in
          other-able v other (subst (λ p. is_place es rows p ≡ true) stays there) (subst (Can es rows then) stays h))
          (cases_eq v w);
      sits = sits;
    }

    -- w comes to a place that is no seat
    known-plain : is_seat es rows q ≡ false → (ready : ℕ) → ((v : ℕ) → (v ≡ w → ⊥) → has ready v ≡ has b.ready v)
        → (has ready w ≡ true → is_end es rows q ≡ false) → (is_end es rows q ≡ false → has ready w ≡ true)
        → Known es rows then (record { tokens = b.tokens; waiting = b.waiting; ready = ready })
    known-plain plain ready same-others to from =
        let away : (r : ℕ) → seat_of es rows r q ≡ false = λ r. and_right (eqb q.row.0 r) _ plain in
        known_from b.waiting ready k.rowed k.roomy
        (λ v h. same-others v (λ same. absurd (omega arith)) ∙ (k.past v h).0)
        (λ h. (to h, λ s. absurd (both_ways _ plain s)))
        (λ c. from c.0)
        (λ v other there h. can_on (f v) (k.can v there (sym (same-others v other) ∙ h)))
        (λ v other there c. same-others v other ∙ k.able v there (can_back (f v) (λ s. away _) c))
        (λ r h. sits_on r _ (away r) (k.sits r h))

    -- w comes to a seat
    module _ (seat : is_seat es rows q ≡ true) (rowed : q.row.0 < length rows) (going : (p : Place) → is_seat es rows p ≡ true → is_end es rows p ≡ false) where
      -- its row, and who waits there then
      abbrev row : ℕ
      row = q.row.0

      abbrev waiters : Waiting
      waiters = record { wires = union (get_or b.waiting row nobody).wires (only w); seats = set (get_or b.waiting row nobody).seats q.atom.0 (record { 0 = w }) }

      number-low : q.atom.0 < seats (rule_at rows row)
      number-low = (seat_of_facts es rows row q (and_from _ _ (eq-eqb row row refl) seat)).0

      seat-whole : q ≡ at row q.atom.0
      seat-whole = (seat_of_facts es rows row q (and_from _ _ (eq-eqb row row refl) seat)).1

      sits-new : Sits es rows then row waiters
      sits-new = sits-down row q.atom.0 (get_or b.waiting row nobody) number-low (omega (arith, k.roomy row rowed, seats-few (rule_at rows row), number-low)) seat-whole (k.sits row rowed)

      -- seats of other rows are not where w came
      other_row : (r : ℕ) → (r ≡ row → ⊥) → seat_of es rows r q ≡ false
      other_row r ne = and_left _ _ (ne_eqb row r (λ e. ne (sym e)))

      -- what holds of the row's waiters and those of the others, however the ready ones are
      known-seat : (ready : ℕ) → ((v : ℕ) → length b.tokens ≤ v → has ready v ≡ false)
          → (has ready w ≡ true → Can es rows then q) → (Can es rows then q → has ready w ≡ true)
          → ((v : ℕ) → (v ≡ w → ⊥) → is_place es rows (f v) ≡ true → has ready v ≡ true → Can es rows then (f v))
          → ((v : ℕ) → (v ≡ w → ⊥) → is_place es rows (f v) ≡ true → Can es rows then (f v) → has ready v ≡ true)
          → Known es rows then (record { tokens = b.tokens; waiting = set b.waiting row waiters; ready = ready })
      known-seat ready past mine-can mine-able other-can other-able =
          let size : row < length b.waiting = omega (arith, k.rowed, rowed) in
          known_from (set b.waiting row waiters) ready (length-set b.waiting row waiters ∙ k.rowed)
          (λ r h. ⊎_elim
          (λ same. ap (λ j. length (get_or (set b.waiting row waiters) j nobody).seats) same ∙ ap (λ (x : Waiting). length x.seats) (get_or-set_same b.waiting row waiters nobody size)
          ∙ length-set (get_or b.waiting row nobody).seats _ _ ∙ k.roomy row rowed)
          (λ other. ap (λ (x : Waiting). length x.seats) (get_or-set_other b.waiting row r waiters nobody other) ∙ k.roomy r h)
          (cases_eq r row))
          past mine-can mine-able other-can other-able
          (λ r h. ⊎_elim
          (λ same. subst (λ j. Sits es rows then j (get_or (set b.waiting row waiters) j nobody)) (sym same) (subst (Sits es rows then row) (sym (get_or-set_same b.waiting row waiters nobody size)) sits-new))
          (λ other. subst (Sits es rows then r) (sym (get_or-set_other b.waiting row r waiters nobody other)) (sits_on r _ (other_row r other) (k.sits r h)))
          (cases_eq r row))

      -- a wire of another row is as ready as before
      can-other : (p : Place) → seat_of es rows row p ≡ false → Can es rows then p → Can es rows f p
      can-other p away = can_back p (λ s. other_row p.row.0 (λ same. both_ways _ away (and_from _ _ (eq-eqb _ _ same) s)))

      -- who waits at the row can move exactly if all its seats are held
      can-here : (p : Place) → seat_of es rows row p ≡ true → Held es rows then row → Can es rows then p
      can-here p sits all =
          let (same, here) = and_parts (eqb p.row.0 row) _ sits in
          (going p here, λ s. subst (Held es rows then) (sym (eqb-true _ _ same)) all)

      here-held : (p : Place) → seat_of es rows row p ≡ true → Can es rows then p → Held es rows then row
      here-held p sits (on, all) =
          let (same, here) = and_parts (eqb p.row.0 row) _ sits in
          subst (Held es rows then) (eqb-true _ _ same) (all here)

      seat_here : seat_of es rows row q ≡ true
      seat_here = and_from _ _ (eq-eqb row row refl) seat

      -- the wires other than w that wait there then
      waits-other : (v : ℕ) → (v ≡ w → ⊥) → has waiters.wires v ≡ seat_of es rows row (f v)
      waits-other v other = sits-new.wires v ∙ ap (seat_of es rows row) (placing_other f w q v other)

      waits-self : has waiters.wires w ≡ true
      waits-self = sits-new.wires w ∙ ap (seat_of es rows row) (placing-here f w q w refl) ∙ seat_here

      -- the last to come makes all of them ready
      known-full : Held es rows then row → Known es rows then (record { tokens = b.tokens; waiting = set b.waiting row waiters; ready = union b.ready waiters.wires })
      known-full all =
          known-seat (union b.ready waiters.wires)
          (λ v h.
          has-union b.ready waiters.wires v
          ∙ or_from _ _ (k.past v h).0 (waits-other v (λ same. absurd (omega arith)) ∙ ap (seat_of es rows row) (k.past v h).1 ∙ and_right (eqb (length rows) row) false refl))
          (λ h. can-here q seat_here all)
          (λ c. has-union b.ready waiters.wires w ∙ or_right (has b.ready w) _ waits-self)
          (λ v other there h. ⊎_elim
          (λ e. can_on (f v) (k.can v there e))
          (λ e. can-here (f v) (sym (waits-other v other) ∙ e) all)
          (or_cases (has b.ready v) _ (sym (has-union b.ready waiters.wires v) ∙ h)))
          (λ v other there c. has-union b.ready waiters.wires v ∙ ⊎_elim
          (λ e. or_right (has b.ready v) _ (waits-other v other ∙ e))
          (λ e. or_left _ (has waiters.wires v) (k.able v there (can-other (f v) e c)))
          (cases_Bool (seat_of es rows row (f v))))

      -- one who is not the last waits
      known-part : (Held es rows then row → ⊥) → Known es rows then (record { tokens = b.tokens; waiting = set b.waiting row waiters; ready = without b.ready w })
      known-part none =
          known-seat (without b.ready w)
          (λ v h. has-without b.ready w v ∙ and_left _ _ (k.past v h).0)
          (λ h. absurd (both_ways _ (gone w refl) h))
          (λ c. absurd (none (here-held q seat_here c)))
          (λ v other there h. can_on (f v) (k.can v there (sym (stays v other) ∙ h)))
          (λ v other there c. stays v other ∙ ⊎_elim
          (λ e. absurd (none (here-held (f v) e c)))
          (λ e. k.able v there (can-other (f v) e c))
          (cases_Bool (seat_of es rows row (f v))))
        where
          gone : (v : ℕ) → v ≡ w → has (without b.ready w) v ≡ false
          gone v same = has-without b.ready w v ∙ and_right _ _ (not_from_true _ (eq-eqb v w same))

          stays : (v : ℕ) → (v ≡ w → ⊥) → has (without b.ready w) v ≡ has b.ready v
          stays v other = has-without b.ready w v ∙ ap (λ c. has b.ready v && not c) (ne_eqb v w other) ∙ and-true (has b.ready v)

      -- so what is kept is right
      known-sat : Known es rows then (sat b row q.atom.0 (seats (rule_at rows row)) w)
      known-sat = ⊎_elim
          (λ e. subst (λ n. Known es rows then (record { tokens = b.tokens; waiting = set b.waiting row waiters; ready = n })) (sym (cond-true _ _ _ e))
          (known-full (full-held es rows then row waiters sits-new (eqb-true _ _ e))))
          (λ e. subst (λ n. Known es rows then (record { tokens = b.tokens; waiting = set b.waiting row waiters; ready = n })) (sym (cond-false _ _ _ e))
          (known-part (λ all. eqb-false _ _ e (held-full es rows then row waiters sits-new all))))
          (cases_Bool (eqb (ones waiters.wires) (seats (rule_at rows row))))

    -- w has come to q, and what is kept is right
    pub arrive : is_place es rows q ≡ true → ((p : Place) → is_seat es rows p ≡ true → is_end es rows p ≡ false) → Known es rows (placing f w q) (settled es rows b w q)
    unfolding settled
    arrive here going =
        cond_both (is_place es rows q && is_seat es rows q) _ _ (Known es rows then)
        (λ e. known-sat (and_parts (is_place es rows q) _ e).1 (place-parts es rows q here).0 going)
        (λ e.
        let plain = second_fails _ _ here e in
        cond_both (is_place es rows q && is_end es rows q) _ _ (Known es rows then)
        (λ d.
        known-plain plain (without b.ready w)
        (λ v other. has-without b.ready w v ∙ ap (λ c. has b.ready v && not c) (ne_eqb v w other) ∙ and-true (has b.ready v))
        (λ h. absurd (both_ways _ (has-without b.ready w w ∙ and_right _ _ (not_from_true _ (eq-eqb w w refl))) h))
        (λ h. absurd (both_ways _ h (and_parts (is_place es rows q) _ d).1)))
        (λ d.
        known-plain plain (union b.ready (only w))
        (λ v other. has-union b.ready (only w) v ∙ ap (λ c. has b.ready v || c) (has-only w v ∙ ne_eqb v w other) ∙ or_false (has b.ready v))
        (λ h. second_fails _ _ here d)
        (λ h. has-union b.ready (only w) w ∙ or_right (has b.ready w) _ (has-only w w ∙ eq-eqb w w refl))))
