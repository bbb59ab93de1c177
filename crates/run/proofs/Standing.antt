-- Wires that stand at places, or nowhere: what is kept of them is known to be right, also between two moves.
use Rattle.std.proofs.Common.{◌≡◌, ℕ, ◌<◌, ◌≤◌, Bool, true, false, cond, eqb, List, length, get_or, sym, refl, ap, ◌∙◌, subst}
use lib.Count.{ones}
use Rattle.std.proofs.lemmas.Bool.{both_ways, and_parts, and_from, cond-true, cond-false, eq-eqb, ne_eqb, eqb-true, lt-ltb}
use Rattle.derivation.specs.declared.types.TypeEntry.{TypeEntry}
use Rattle.derivation.specs.declared.rows.Part.{Part}
use Rattle.derivation.specs.declared.rows.Part.TheVariants.{Ty, Variable as Var}
use Rattle.derivation.specs.declared.rows.Row.{Row}
use Rattle.derivation.specs.declared.rows.Place.{Place}
use Rattle.derivation.specs.Judgements.{rule_at}
use Rattle.basics.specs.Sets.{has}
use Rattle.theory.specs.Ports.{at, held, is_end, is_place}
use Rattle.theory.specs.Tokens.{is_seat, seats}
use Rattle.theory.proofs.Ways.{seat_facts}
use Rattle.run.specs.declared.books.Waiting.{Waiting}
use Rattle.run.specs.Books.{Kept, nobody, seat_of}
use Rattle.run.proofs.SetsOfWires.{Numbered, counted}

-- no place of the derivation
abbrev pub nowhere : List Row → Place
nowhere rows = held (length rows) 0 0

-- wire w put at q
abbrev pub placing : (ℕ → Place) → ℕ → Place → ℕ → Place
placing f w q v = cond (eqb v w) q (f v)

pub placing-here : (f : ℕ → Place) (w : ℕ) (q : Place) (v : ℕ) → v ≡ w → placing f w q v ≡ q
placing-here f w q v e = cond-true _ _ _ (eq-eqb v w e)

pub placing_other : (f : ℕ → Place) (w : ℕ) (q : Place) (v : ℕ) → (v ≡ w → ⊥) → placing f w q v ≡ f v
placing_other f w q v e = cond-false _ _ _ (ne_eqb v w e)

-- the places of types are no places of variables
pub part_differs : (r i s x j : ℕ) → at r i ≡ held s x j → ⊥
part_differs r i s x j e = both_ways true (ap (λ (p : Place). typed p.part) e) refl
  where
    typed : Part → Bool
    typed Ty = true
    typed (Var y) = false

module _ (es : List TypeEntry) (rows : List Row) where
  -- all seats of row r are held
  abbrev pub Held : (ℕ → Place) → ℕ → Type 0
  Held f r = (i : ℕ) → i < seats (rule_at rows r) → (u : ℕ) × (f u ≡ at r i)

  -- a token at p can move
  abbrev pub Can : (ℕ → Place) → Place → Type 0
  Can f p = (is_end es rows p ≡ false) × (is_seat es rows p ≡ true → Held f p.row.0)

  -- who waits at row r is right
  pub record Sits (f : ℕ → Place) (r : ℕ) (here : Waiting) : Type 0 where
    pub wires : (v : ℕ) → has here.wires v ≡ seat_of es rows r (f v)
    pub seated : (i u : ℕ) → i < seats (rule_at rows r) → f u ≡ at r i → (get_or here.seats i (record { 0 = 0 })).0 ≡ u

  -- what is kept is right, if wire v's token is at (f v)
  pub record Known (f : ℕ → Place) (b : Kept) : Type 0 where
    pub rowed : length b.waiting ≡ length rows
    pub roomy : (r : ℕ) → r < length rows → length (get_or b.waiting r nobody).seats ≡ 3
    pub past : (v : ℕ) → length b.tokens ≤ v → (has b.ready v ≡ false) × (f v ≡ nowhere rows)
    pub can : (v : ℕ) → is_place es rows (f v) ≡ true → has b.ready v ≡ true → Can f (f v)
    pub able : (v : ℕ) → is_place es rows (f v) ≡ true → Can f (f v) → has b.ready v ≡ true
    pub sits : (r : ℕ) → r < length rows → Sits f r (get_or b.waiting r nobody)

  -- a seat of row r is one of its first places
  pub seat_of_facts : (r : ℕ) (p : Place) → seat_of es rows r p ≡ true → (p.atom.0 < seats (rule_at rows r)) × (p ≡ at r p.atom.0)
  seat_of_facts r p e =
      let (same, seat) = and_parts (eqb p.row.0 r) _ e in
      let (g, rule, h, whole) = seat_facts es rows p seat in
      let row = eqb-true _ _ same in
      (subst (λ k. p.atom.0 < seats (rule_at rows k)) row (subst (λ k. p.atom.0 < seats k) (sym rule) h), sym whole ∙ ap (λ k. at k p.atom.0) row)

  pub seat_of_is : (r i : ℕ) → i < seats (rule_at rows r) → seat_of es rows r (at r i) ≡ true
  seat_of_is r i h = and_from _ _ (eq-eqb r r refl) (lt-ltb i (seats (rule_at rows r)) h)

  -- as many wires wait at a row as it has seats exactly if all its seats are held
  sitters : (f : ℕ → Place) (r : ℕ) (here : Waiting) → Sits f r here → Numbered here.wires (seats (rule_at rows r)) (λ v. (f v).atom.0)
  sitters f r here s = record {
    low = λ v h. (seat_of_facts r (f v) (sym (s.wires v) ∙ h)).0;
    apart = λ u v h k e.
        let (l, p) = seat_of_facts r (f u) (sym (s.wires u) ∙ h) in
        let (m, q) = seat_of_facts r (f v) (sym (s.wires v) ∙ k) in
        sym (s.seated _ u l p) ∙ s.seated _ v l (q ∙ ap (at r) (sym e));
  }

  pub full-held : (f : ℕ → Place) (r : ℕ) (here : Waiting) → Sits f r here → ones here.wires ≡ seats (rule_at rows r) → Held f r
  full-held f r here s e i l =
      let (v, h, same) = (counted _ here.wires (λ v. (f v).atom.0) (sitters f r here s)).1 e i l in
      (v, (seat_of_facts r (f v) (sym (s.wires v) ∙ h)).1 ∙ ap (at r) same)

  pub held-full : (f : ℕ → Place) (r : ℕ) (here : Waiting) → Sits f r here → Held f r → ones here.wires ≡ seats (rule_at rows r)
  held-full f r here s all =
      (counted _ here.wires (λ v. (f v).atom.0) (sitters f r here s)).2
      (λ i l. let (u, e) = all i l in (u, s.wires u ∙ ap (seat_of es rows r) e ∙ seat_of_is r i l, ap (λ (p : Place). p.atom.0) e))
