-- Wires that leave their places: what is kept of the others is still right.
use Rattle.std.proofs.Common.{◌≡◌, ℕ, ◌<◌, Bool, true, false, cond, eqb, List, length, get_or, sym, refl, ap, ◌∙◌, subst, ⊎_elim}
use Rattle.std.proofs.lemmas.Bool.{both_ways, and_parts, and_right, cases_Bool, cond-true, cond-false}
use Rattle.derivation.specs.declared.types.TypeEntry.{TypeEntry}
use Rattle.derivation.specs.declared.rows.Row.{Row}
use Rattle.derivation.specs.declared.rows.Place.{Place}
use Rattle.derivation.specs.Judgements.{rule_at}
use Rattle.derivation.proofs.TreeLaws.{not_so}
use Rattle.theory.specs.Ports.{at, is_place}
use Rattle.theory.specs.Tokens.{is_seat, seats}
use Rattle.run.specs.declared.books.Waiting.{Waiting}
use Rattle.run.specs.Books.{Kept, nobody, seat_of}
use Rattle.run.proofs.Standing.{nowhere, part_differs, Held, Can, Sits, Known, seat_of_is}
use Rattle.run.proofs.RightLaws.{nowhere_off}

module _ (es : List TypeEntry) (rows : List Row) (f : ℕ → Place) (gone : ℕ → Bool) where
  -- where the wires are when some are gone
  abbrev pub staying : ℕ → Place
  staying v = cond (gone v) (nowhere rows) (f v)

  -- nobody who waits at row r is gone
  abbrev pub Whole : ℕ → Type 0
  Whole r = (v : ℕ) → seat_of es rows r (f v) ≡ true → gone v ≡ false

  -- a wire at a seat is not gone
  at_seat : (r i u : ℕ) → staying u ≡ at r i → f u ≡ at r i
  at_seat r i u e = ⊎_elim
      (λ h. absurd (part_differs r i (length rows) 0 0 (sym e ∙ cond-true _ _ _ h)))
      (λ h. sym (cond-false _ _ _ h) ∙ e)
      (cases_Bool (gone u))

  seat_stays : (r i u : ℕ) → Whole r → i < seats (rule_at rows r) → f u ≡ at r i → staying u ≡ at r i
  seat_stays r i u whole l e = cond-false _ _ _ (whole u (ap (seat_of es rows r) e ∙ seat_of_is es rows r i l)) ∙ e

  held-still : (r : ℕ) → Whole r → Held es rows f r → Held es rows staying r
  held-still r whole all i l = let (u, e) = all i l in (u, seat_stays r i u whole l e)

  held_already : (r : ℕ) → Held es rows staying r → Held es rows f r
  held_already r all i l = let (u, e) = all i l in (u, at_seat r i u e)

  -- who waits at such a row still does
  pub sits-still : (r : ℕ) (here : Waiting) → Whole r → Sits es rows f r here → Sits es rows staying r here
  sits-still r here whole s = record {
    wires = λ v. s.wires v ∙ ⊎_elim
        (λ h.
        not_so _ (λ t. both_ways _ (whole v t) h)
        ∙ sym (ap (seat_of es rows r) (cond-true _ _ _ h) ∙ and_right (eqb (length rows) r) false refl))
        (λ h. sym (ap (seat_of es rows r) (cond-false _ _ _ h)))
        (cases_Bool (gone v));
    seated = λ i u l e. s.seated i u l (at_seat r i u e);
  }

  -- a wire at a place is not gone
  is_there : (v : ℕ) → is_place es rows (staying v) ≡ true → gone v ≡ false
  is_there v h = not_so _ (λ e. both_ways _ (nowhere_off es rows) (ap (is_place es rows) (sym (cond-true _ _ _ e)) ∙ h))

  -- what is kept is right without the wires that are gone, if it is for each row
  pub leave : (b : Kept) (waiting : List Waiting) → length waiting ≡ length rows → ((r : ℕ) → r < length rows → length (get_or waiting r nobody).seats ≡ 3)
      → ((r : ℕ) → r < length rows → Sits es rows staying r (get_or waiting r nobody))
      → ((v : ℕ) → gone v ≡ false → is_seat es rows (f v) ≡ true → Whole (f v).row.0)
      → Known es rows f b → Known es rows staying (record { tokens = b.tokens; waiting = waiting; ready = b.ready })
  leave b waiting rowed roomy sits whole k = record {
    rowed = rowed;
    roomy = roomy;
    past = λ v h. ((k.past v h).0, ⊎_elim (λ e. cond-true _ _ _ e) (λ e. cond-false _ _ _ e ∙ (k.past v h).1) (cases_Bool (gone v)));
    can = λ v here h.
        let on = is_there v here in
        let same = cond-false (gone v) (nowhere rows) (f v) on in
        let (going, all) = k.can v (ap (is_place es rows) (sym same) ∙ here) h in
        subst (Can es rows staying) (sym same) (going, λ s. held-still (f v).row.0 (whole v on s) (all s));
    able = λ v here c.
        let on = is_there v here in
        let same = cond-false (gone v) (nowhere rows) (f v) on in
        let (going, all) = subst (Can es rows staying) same c in
        k.able v (ap (is_place es rows) (sym same) ∙ here) (going, λ s. held_already (f v).row.0 (all s));
    sits = sits;
  }

  -- wires at places that are no seats leave them
  pub leave_plain : (b : Kept) → ((v : ℕ) → is_seat es rows (f v) ≡ true → gone v ≡ false) → Known es rows f b → Known es rows staying b
  leave_plain b plain k =
      let whole : (r : ℕ) → Whole r = λ r v s. plain v (and_parts (eqb (f v).row.0 r) _ s).1 in
      leave b b.waiting k.rowed k.roomy (λ r h. sits-still r _ (whole r) (k.sits r h)) (λ v e s. whole _) k
