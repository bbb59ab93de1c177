-- A gate whose seats are all held fires: by what is kept its tokens pass together, and what is kept then is right.
use Rattle.std.proofs.Common.{◌≡◌, ℕ, zero, suc, ◌+◌, ◌<◌, true, false, eqb, List, [], ◌∷◌, map, length, get_or, take, set, Some, sym, refl, ap, ◌∙◌, subst, ⊎_elim, add-zero, zero-add, arith}
use lib.Count.{ones}
use Rattle.std.proofs.lemmas.List.{ext_get_or, get_or_default, get_or-map, get_or-set_other, get_or-set_same, get_or-take, length-map, length-set, length-take-le}
use Rattle.std.proofs.lemmas.Bool.{both_ways, and_parts, and_from, and_right, cases_Bool, cases_eq, cond-true, cond-false, eq-eqb, eqb-true, lt-ltb}
use Rattle.basics.specs.declared.gate.Gate.{Gate as GateName}
use Rattle.basics.specs.declared.numbers.Wire.{Wire}
use Rattle.derivation.specs.declared.types.TypeEntry.{TypeEntry}
use Rattle.derivation.specs.declared.rows.Rule.TheVariants.{Gate}
use Rattle.derivation.specs.declared.rows.Row.{Row}
use Rattle.derivation.specs.declared.rows.Place.{Place}
use Rattle.derivation.specs.Accepted.{Accepted}
use Rattle.derivation.specs.Judgements.{rule_at}
use Rattle.derivation.specs.Places.{numbers}
use Rattle.derivation.specs.Rows.{all_below}
use Rattle.derivation.proofs.PlaceLaws.{length-numbers}
use Rattle.basics.proofs.SetLaws.{has_none}
use Rattle.derivation.proofs.TreeLaws.{not_so}
use Rattle.theory.specs.Ports.{at, listed}
use Rattle.theory.specs.Runs.{Reached}
use Rattle.theory.specs.Tokens.{Fired, Moved, among, gate_fired, is_seat, move, no_place, seats, together, wire_at}
use Rattle.theory.proofs.Basics.{at_listed, both_pass, listed_at}
use Rattle.theory.proofs.Ways.{among-here, among-row, row-among, wire-found}
use Rattle.target.specs.Interface.{numbers_of}
use Rattle.run.specs.declared.books.Waiting.{Waiting}
use Rattle.run.specs.Books.{Kept, Right, nobody, passed, seat_of, stepped_all}
use Rattle.run.proofs.Standing.{nowhere, part_differs, Known, Sits, seat_of_facts, seat_of_is}
use Rattle.run.proofs.Arriving.{seats-few}
use Rattle.run.proofs.RightLaws.{spots, seat_wire}
use Rattle.run.proofs.Stepping.{Unlike, awaited}
use Rattle.run.proofs.Leaving.{Whole, leave, sits-still}
use Rattle.run.proofs.MoveLaws.{full-held-all, full-moves, known, made, moved-right, row_low}

-- a list in which equal numbers stand at one index has none twice
pub unlike_from : (ws : List ℕ) → ((i j : ℕ) → i < length ws → j < length ws → get_or ws i 0 ≡ get_or ws j 0 → i ≡ j) → Unlike ws
unlike_from [] apart = tt
unlike_from (w ∷ ws) apart = (
  not_so _ (λ h. let (i, l, e) = listed_at w ws h in let z : suc i ≡ 0 = apart (suc i) 0 (omega arith) (omega arith) e in omega arith),
  unlike_from ws (λ i j h k e. let z : suc i ≡ suc j = apart (suc i) (suc j) (omega arith) (omega arith) e in omega arith),
)

-- numbers that are each below k
below_from_lem : (k : ℕ) (ws : List ℕ) → ((i : ℕ) → i < length ws → get_or ws i 0 < k) → all_below k ws ≡ true
below_from_lem k [] each = refl
below_from_lem k (w ∷ ws) each = and_from _ _ (lt-ltb w k (each 0 (omega arith))) (below_from_lem k ws (λ i h. each (suc i) (omega arith)))

-- a number of some in a row
get_or-numbers : (k n i : ℕ) → i < n → get_or (numbers k n) i 0 ≡ k + i
get_or-numbers k zero i h = absurd (omega arith)
get_or-numbers k (suc n) zero h = sym (add-zero k)
get_or-numbers k (suc n) (suc i) h = get_or-numbers (suc k) n i (omega arith) ∙ omega arith

module _ (es : List TypeEntry) (rows : List Row) (a : Accepted es rows) (b : Kept) {n : ℕ} {fired : List Fired} (run : Reached es rows b.tokens n fired) (right : Right es rows b)
    (w : ℕ) (l : w < length b.tokens) (seat : is_seat es rows (get_or b.tokens w no_place) ≡ true) where
  -- the place of the wire, its row, who waits there, and their wires in the order of the seats
  abbrev place : Place
  place = get_or b.tokens w no_place

  abbrev row : ℕ
  row = place.row.0

  abbrev many : ℕ
  many = seats (rule_at rows row)

  abbrev here : Waiting
  here = get_or b.waiting row nobody

  abbrev seated : List ℕ
  seated = numbers_of (take many here.seats)

  rowed : row < length rows
  rowed = row_low es rows a b run right w l seat

  room : length here.seats ≡ 3
  room = right.fit.1 row rowed

  length-first : length (take many here.seats) ≡ many
  length-first = length-take-le many here.seats (omega (arith, room, seats-few (rule_at rows row)))

  length-seated : length seated ≡ many
  length-seated = length-map (take many here.seats) _ ∙ length-first

  seated-at : (i : ℕ) → i < many → get_or seated i 0 ≡ (get_or here.seats i (record { 0 = 0 })).0
  seated-at i h =
      get_or-map (λ (x : Wire). x.0) (take many here.seats) i (record { 0 = 0 }) 0 (omega (arith, length-first))
      ∙ ap (λ (x : Wire). x.0) (get_or-take many here.seats i (record { 0 = 0 }) h)

  -- the wire of a token at a seat
  seat_has : (u i : ℕ) → i < many → spots rows b.tokens u ≡ at row i → get_or seated i 0 ≡ u
  seat_has u i h e = seated-at i h ∙ ((known es rows a b run right).sits row rowed).seated i u h e

  -- who waits at the row is one of them
  waits_listed : (v : ℕ) → seat_of es rows row (spots rows b.tokens v) ≡ true → listed v seated ≡ true
  waits_listed v s =
      let (h, e) = seat_of_facts es rows row (spots rows b.tokens v) s in
      subst (λ u. listed u seated ≡ true) (seat_has v _ h e) (at_listed seated _ (omega (arith, length-seated)))

  -- as many wait as the row has seats
  module _ (full : ones here.wires ≡ many) where
    -- the wire of each seat
    holds : (i : ℕ) → i < many → (get_or seated i 0 < length b.tokens) × (spots rows b.tokens (get_or seated i 0) ≡ at row i)
    holds i h =
        let (u, e) = full-held-all es rows a b run right w l seat full i h in
        subst (λ v. (v < length b.tokens) × (spots rows b.tokens v ≡ at row i)) (sym (seat_has u i h e)) (seat_wire es rows b.tokens u row i e, e)

    -- each of them waits at the row
    listed-seat : (v : ℕ) → listed v seated ≡ true → (i : ℕ) × (i < many) × (v < length b.tokens) × (spots rows b.tokens v ≡ at row i)
    listed-seat v h =
        let (i, k, e) = listed_at v seated h in
        let low : i < many = omega (arith, length-seated) in
        let (m, there) = holds i low in
        (i, low, subst (λ u. u < length b.tokens) e m, subst (λ u. spots rows b.tokens u ≡ at row i) e there)

    listed-waits : (v : ℕ) → listed v seated ≡ true → seat_of es rows row (spots rows b.tokens v) ≡ true
    listed-waits v h = let (i, low, m, there) = listed-seat v h in ap (seat_of es rows row) there ∙ seat_of_is es rows row i low

    inside : (v : ℕ) → listed v seated ≡ true → v < length b.tokens
    inside v h = (listed-seat v h).2

    -- they are those that move together
    who : (v : ℕ) → v < length b.tokens → among (get_or b.tokens v no_place) (together es rows place) ≡ listed v seated
    who v k =
        let same = get_or_default b.tokens v (nowhere rows) no_place k in
        ap (among (get_or b.tokens v no_place)) (cond-true _ _ _ seat) ∙ both_pass _ _
        (λ h.
        let (j, low, e) = row-among row 0 many (get_or b.tokens v no_place) h in
        waits_listed v (ap (seat_of es rows row) (same ∙ sym e) ∙ seat_of_is es rows row j (omega arith)))
        (λ h.
        let (i, low, m, there) = listed-seat v h in
        subst (λ p. among p (map (at row) (numbers 0 many)) ≡ true) (sym there ∙ same) (among-row row 0 many i (omega arith) (omega arith)))

    unlike : Unlike seated
    unlike = unlike_from seated (λ i j h k e.
        let (m, p) = holds i (omega (arith, length-seated)) in
        let (o, q) = holds j (omega (arith, length-seated)) in
        ap (λ (x : Place). x.atom.0) (sym p ∙ ap (spots rows b.tokens) e ∙ q))

    -- nobody waits there any more
    abbrev emptied : Waiting
    emptied = record { wires = 0; seats = here.seats }

    abbrev cleared : Kept
    cleared = record { tokens = b.tokens; waiting = set b.waiting row emptied; ready = b.ready }

    -- at other rows all still wait
    whole : (r : ℕ) → (r ≡ row → ⊥) → Whole es rows (spots rows b.tokens) (λ v. listed v seated) r
    whole r other v s = not_so _ (λ h.
        let mine = (and_parts (eqb (spots rows b.tokens v).row.0 row) _ (listed-waits v h)).0 in
        other (sym (eqb-true _ _ (and_parts (eqb (spots rows b.tokens v).row.0 r) _ s).0) ∙ eqb-true _ _ mine))

    size : row < length b.waiting
    size = omega (arith, right.fit.0, rowed)

    sits-none : Sits es rows (awaited es rows seated (spots rows b.tokens)) row emptied
    sits-none = record {
      wires = λ v. has_none v ∙ sym (⊎_elim
          (λ h. ap (seat_of es rows row) (cond-true _ _ _ h) ∙ and_right (eqb (length rows) row) false refl)
          (λ h. ap (seat_of es rows row) (cond-false _ _ _ h) ∙ not_so _ (λ s. both_ways _ h (waits_listed v s)))
          (cases_Bool (listed v seated)));
      seated = λ i u h e. ⊎_elim
          (λ k. absurd (part_differs row i (length rows) 0 0 (sym e ∙ cond-true _ _ _ k)))
          (λ k. ((known es rows a b run right).sits row rowed).seated i u h (sym (cond-false _ _ _ k) ∙ e))
          (cases_Bool (listed u seated));
    }

    -- what is kept is right without the wires of the row
    left : Known es rows (awaited es rows seated (spots rows b.tokens)) cleared
    left =
        leave es rows (spots rows b.tokens) (λ v. listed v seated) b (set b.waiting row emptied) (length-set b.waiting row emptied ∙ right.fit.0)
        (λ r h. ⊎_elim
        (λ same. ap (λ j. length (get_or (set b.waiting row emptied) j nobody).seats) same ∙ ap (λ (x : Waiting). length x.seats) (get_or-set_same b.waiting row emptied nobody size) ∙ room)
        (λ other. ap (λ (x : Waiting). length x.seats) (get_or-set_other b.waiting row r emptied nobody other) ∙ right.fit.1 r h)
        (cases_eq r row))
        (λ r h. ⊎_elim
        (λ same.
        subst (λ j. Sits es rows (awaited es rows seated (spots rows b.tokens)) j (get_or (set b.waiting row emptied) j nobody)) (sym same)
        (subst (Sits es rows (awaited es rows seated (spots rows b.tokens)) row) (sym (get_or-set_same b.waiting row emptied nobody size)) sits-none))
        (λ other.
        subst (Sits es rows (awaited es rows seated (spots rows b.tokens)) r) (sym (get_or-set_other b.waiting row r emptied nobody other))
        (sits-still es rows (spots rows b.tokens) (λ v. listed v seated) r _ (whole r other) ((known es rows a b run right).sits r h)))
        (cases_eq r row))
        (λ v stays s. whole _ (λ same. both_ways _ stays (waits_listed v (and_from _ _ (eq-eqb _ _ same) s))))
        (known es rows a b run right)

    -- the wires of the seats by the tokens
    same-wires : map (wire_at b.tokens) (together es rows place) ≡ seated
    same-wires = ap (map (wire_at b.tokens)) (cond-true _ _ _ seat) ∙ ext_get_or 0 _ seated (long ∙ sym length-seated) (λ i h. each i (omega (arith, long)))
      where
        long : length (map (wire_at b.tokens) (map (at row) (numbers 0 many))) ≡ many
        long = length-map (map (at row) (numbers 0 many)) _ ∙ length-map (numbers 0 many) _ ∙ length-numbers 0 many

        each : (i : ℕ) → i < many → get_or (map (wire_at b.tokens) (map (at row) (numbers 0 many))) i 0 ≡ get_or seated i 0
        each i h =
            let (m, there) = holds i h in
            let (k, e) = wire-found b.tokens (at row i) (among-here (at row i) b.tokens (get_or seated i 0) m (get_or_default b.tokens _ no_place (nowhere rows) m ∙ there)) in
            get_or-map (wire_at b.tokens) (map (at row) (numbers 0 many)) i no_place 0 (omega (arith, length-map (numbers 0 many) (at row), length-numbers 0 many))
            ∙ ap (wire_at b.tokens) (get_or-map (at row) (numbers 0 many) i 0 no_place (omega (arith, length-numbers 0 many)) ∙ ap (at row) (get_or-numbers 0 many i h ∙ zero-add i))
            ∙ sym (seat_has _ i h (get_or_default b.tokens _ (nowhere rows) no_place k ∙ e))

    passed_is : passed es rows b row many ≡ stepped_all es rows cleared seated
    unfolding passed
    passed_is = refl

    -- the gate fires on the wires of its seats, all of them go on, and what is kept is right
    pub fire-move : (g : GateName) → rule_at rows row ≡ Gate g
        → (m : Moved) × (move es rows b.tokens w ≡ Some m) × (m.fired ≡ Some (record { gate = g; wires = seated })) × ((passed es rows b row many).tokens ≡ m.tokens) × Right es rows (passed es rows b row many)
    fire-move g rule =
        let can = full-moves es rows a b run right w l seat full in
        let move-is = made es rows a b run right w l can in
        let (tokens-are, kept) = moved-right es rows a run right.fit.2 w _ move-is seated inside who unlike cleared refl left in (
          _,
          move-is,
          cond-true _ _ _ seat ∙ ap (λ k. gate_fired es rows k (map (wire_at b.tokens) (together es rows place))) rule ∙ ap (λ ws. Some (record { gate = g; wires = ws })) same-wires,
          ap (λ (c : Kept). c.tokens) passed_is ∙ tokens-are,
          subst (Right es rows) (sym passed_is) kept,
        )

    -- what the code asks of them
    pub wires-below : all_below (length b.tokens) seated ≡ true
    wires-below = below_from_lem (length b.tokens) seated (λ i h. (holds i (omega (arith, length-seated))).0)
