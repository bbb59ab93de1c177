-- What the books' functions do is what is defined of them, and the books stay fit.
use Rattle.std.proofs.Common.{◌≡◌, ℕ, ◌+◌, ◌<◌, ◌≤◌, Bool, true, false, cond, ◌&&◌, eqb, List, length, get_or, take, drop, set, replicate, Some, None, Option, sym, refl, ap, ◌∙◌, ⊎_elim, add-one, arith}
use lib.Count.{ones}
use Rattle.std.proofs.lemmas.List.{at_drop_more, get_or_read, get_or-replicate, get_or-set_same, get_or-set_other, length-replicate, length-set}
use Rattle.std.proofs.lemmas.Bool.{cases_eq, cond-true, cond-false}
use Rattle.basics.specs.declared.numbers.Wire.{Wire}
use Rattle.derivation.specs.declared.types.TypeEntry.{TypeEntry}
use Rattle.derivation.specs.declared.rows.Row.{Row}
use Rattle.derivation.specs.declared.rows.Place.{Place}
use Rattle.derivation.specs.Judgements.{rule_at}
use Rattle.derivation.specs.Rows.{all_below}
use Rattle.basics.specs.Sets.{only, union, without}
use Rattle.theory.specs.Ports.{is_end, is_place, next}
use Rattle.theory.specs.Tokens.{is_seat, no_place, seats}
use Rattle.target.specs.Interface.{numbers_of}
use Rattle.target.proofs.MaskLaws.{below_at}
use Rattle.machine.specs.Calls.{seat_at}
use Rattle.machine.specs.declared.machine.Seat.{Seat}
use Rattle.run.specs.declared.books.Waiting.{Waiting}
use Rattle.run.specs.Books.{Fit, Kept, nobody, passed, put, sat, settled, settled_from, stepped, stepped_all}

-- a wire sits down at a row whose entry was read
pub sat-at : (tokens : List Place) (xs : List Waiting) (ready r i n : ℕ) (w : Wire) (here : Waiting) (all after : ℕ) → r < length xs → here ≡ get_or xs r here → all ≡ union here.wires (only w.0) → after ≡ cond (eqb (ones all) n) (union ready all) (without ready w.0) → ◌≡◌ {A = Kept} (record { tokens = tokens; waiting = set xs r (record { wires = all; seats = set here.seats i w }); ready = after }) (sat (record { tokens = tokens; waiting = xs; ready = ready }) r i n w.0)
sat-at tokens xs ready r i n w here all after l e f g = let read = get_or_read xs r here l e nobody in cc

-- the seat at p, if there is one, and no seat
seat_there : (t : Bool) (seat s : Seat) (f : Seat → Kept) (b : Kept) → Some seat ≡ cond t (Some s) None → f seat ≡ cond t (f s) b
seat_there true seat s f b e = cc
seat_there false seat s f b e = cc

no_seat : (t : Bool) (s : Seat) (a b : Kept) → None ≡ cond t (Some s) None → b ≡ cond t a b
no_seat true s a b e = cc
no_seat false s a b e = refl

module _ (es : List TypeEntry) (rows : List Row) (b : Kept) (w : ℕ) (p : Place) where
  -- a wire comes to a seat, to an end, or to neither
  pub settled_seat : (seat : Seat) → Some seat ≡ seat_at es rows p → sat b seat.row.0 seat.number seat.arity w ≡ settled es rows b w p
  unfolding settled
  settled_seat seat e = seat_there _ seat _ (λ s. sat b s.row.0 s.number s.arity w) _ e

  pub settled_home : None ≡ seat_at es rows p → true ≡ (is_place es rows p && is_end es rows p) → ◌≡◌ {A = Kept} (record { tokens = b.tokens; waiting = b.waiting; ready = without b.ready w }) (settled es rows b w p)
  unfolding settled
  settled_home e f = sym (cond-true _ _ _ (sym f)) ∙ no_seat _ _ _ _ e

  pub settled_on : None ≡ seat_at es rows p → false ≡ (is_place es rows p && is_end es rows p) → ◌≡◌ {A = Kept} (record { tokens = b.tokens; waiting = b.waiting; ready = union b.ready (only w) }) (settled es rows b w p)
  unfolding settled
  settled_on e f = sym (cond-false _ _ _ (sym f)) ∙ no_seat _ _ _ _ e

  -- wire w's token, which stands at p, goes on if there is a next place
  pub stepped_by : (o : Option Place) → w < length b.tokens → p ≡ get_or b.tokens w p → o ≡ cond (is_place es rows p) (next es rows p) None → elim o [ Some q ↦ put es rows b w q | None ↦ b ] ≡ stepped es rows b w
  unfolding stepped
  stepped_by o within read e =
      let after : Option Place → Kept = λ n. elim n [ Some q ↦ put es rows b w q | None ↦ b ] in
      ap after (e ∙ ap (λ (x : Place). cond (is_place es rows x) (next es rows x) None) (get_or_read b.tokens w p within read no_place))

-- a row's entry is written again, with as many seats
seats-set : (xs : List Waiting) (r k : ℕ) (x : Waiting) → length x.seats ≡ length (get_or xs r nobody).seats → k < length xs → length (get_or (set xs r x) k nobody).seats ≡ length (get_or xs k nobody).seats
seats-set xs r k x h l =
    let count : Waiting → ℕ = λ y. length y.seats in
    ⊎_elim (λ e. ap count (ap (λ j. get_or (set xs j x) k nobody) (sym e) ∙ get_or-set_same xs k x nobody l) ∙ h ∙ ap (λ j. count (get_or xs j nobody)) (sym e))
    (λ ne. ap count (get_or-set_other xs r k x nobody ne))
    (cases_eq k r)

in-each : {X : Type 0} {x y z : X} (P : X → Type 0) (s t : Bool) → P x → P y → P z → P (cond s x (cond t y z))
in-each P true t first second third = first
in-each P false true first second third = second
in-each P false false first second third = third

module _ (es : List TypeEntry) (rows : List Row) where
  pub fit_set : (b : Kept) (r : ℕ) (x : Waiting) → length x.seats ≡ length (get_or b.waiting r nobody).seats → Fit es rows b → Fit es rows (record { tokens = b.tokens; waiting = set b.waiting r x; ready = b.ready })
  fit_set b r x h fit = (length-set b.waiting r x ∙ fit.0, (λ k l. seats-set b.waiting r k x h (omega (arith, fit.0)) ∙ fit.1 k l), fit.2)

  -- what holds after a wire sat down, and whichever wires can move then, holds after one settled
  settled_ways : (P : Kept → Type 0) (b : Kept) (w : ℕ) (p : Place) → P (sat b p.row.0 p.atom.0 (seats (rule_at rows p.row.0)) w) → ((n : ℕ) → P (record { tokens = b.tokens; waiting = b.waiting; ready = n })) → P (settled es rows b w p)
  unfolding settled
  settled_ways P b w p sits stays =
      in-each P (is_place es rows p && is_seat es rows p) (is_place es rows p && is_end es rows p) sits (stays (without b.ready w)) (stays (union b.ready (only w)))

  pub settled_fit : (b : Kept) (w : ℕ) (p : Place) → Fit es rows b → Fit es rows (settled es rows b w p)
  settled_fit b w p fit =
      let here = get_or b.waiting p.row.0 nobody in
      settled_ways (Fit es rows) b w p
      (fit_set b p.row.0 (record { wires = union here.wires (only w); seats = set here.seats p.atom.0 (record { 0 = w }) }) (length-set here.seats p.atom.0 (record { 0 = w })) fit)
      (λ n. fit)

  pub settled_tokens : (b : Kept) (w : ℕ) (p : Place) → (settled es rows b w p).tokens ≡ b.tokens
  settled_tokens b w p = settled_ways (λ k. k.tokens ≡ b.tokens) b w p refl (λ n. refl)

  -- what holds before a wire goes on, and at each next place, holds after
  stepped_ways : (P : Kept → Type 0) (b : Kept) (w : ℕ) → P b → ((q : Place) → P (put es rows b w q)) → P (stepped es rows b w)
  unfolding stepped
  stepped_ways P b w stays moves =
      elim (cond (is_place es rows (get_or b.tokens w no_place)) (next es rows (get_or b.tokens w no_place)) None) as (λ o. P (elim o [ Some q ↦ put es rows b w q | None ↦ b ])) [ Some q ↦ moves q | None ↦ stays ]

  pub stepped_fit : (b : Kept) (w : ℕ) → Fit es rows b → Fit es rows (stepped es rows b w)
  stepped_fit b w fit =
      stepped_ways (Fit es rows) b w fit
      (λ q. settled_fit (record { tokens = set b.tokens w q; waiting = b.waiting; ready = b.ready }) w q (fit.0, fit.1, omega (arith, fit.2, length-set b.tokens w q)))

  -- no step loses a token
  pub stepped_count : (b : Kept) (w : ℕ) → length (stepped es rows b w).tokens ≡ length b.tokens
  stepped_count b w =
      stepped_ways (λ k. length k.tokens ≡ length b.tokens) b w refl
      (λ q. ap length (settled_tokens (record { tokens = set b.tokens w q; waiting = b.waiting; ready = b.ready }) w q) ∙ length-set b.tokens w q)

-- the wires of a row whose entry was read
wires_read : (xs : List Waiting) (r n : ℕ) (here : Waiting) → r < length xs → here ≡ get_or xs r here → take n here.seats ≡ take n (get_or xs r nobody).seats
wires_read xs r n here l e = ap (λ (h : Waiting). take n h.seats) (get_or_read xs r here l e nobody)

pub wire_below : (xs : List Waiting) (r n k i : ℕ) (here : Waiting) → r < length xs → here ≡ get_or xs r here → all_below k (numbers_of (take n (get_or xs r nobody).seats)) ≡ true → i < length (take n here.seats) → (get_or (take n here.seats) i (record { 0 = 0 })).0 < k
wire_below xs r n k i here l e f h = below_at k (take n here.seats) i (record { 0 = 0 }) (ap (λ (ws : List Wire). all_below k (numbers_of ws)) (wires_read xs r n here l e) ∙ f) h

-- a row whose entry was read, where nobody waits any more
pub passed_by : (es : List TypeEntry) (rows : List Row) (b : Kept) (r n : ℕ) (here : Waiting) → r < length b.waiting → here ≡ get_or b.waiting r here → stepped_all es rows (record { tokens = b.tokens; waiting = set b.waiting r (record { wires = 0; seats = here.seats }); ready = b.ready }) (numbers_of (take n here.seats)) ≡ passed es rows b r n
unfolding passed
passed_by es rows b r n here l e =
    ap (λ (h : Waiting). stepped_all es rows (record { tokens = b.tokens; waiting = set b.waiting r (record { wires = 0; seats = h.seats }); ready = b.ready }) (numbers_of (take n h.seats))) (get_or_read b.waiting r here l e nobody)

module _ (es : List TypeEntry) (rows : List Row) where
  -- nobody waits yet
  pub fresh_fit : (tokens : List Place) → length tokens ≤ 32 → Fit es rows (record { tokens = tokens; waiting = replicate (length rows) nobody; ready = 0 })
  fresh_fit tokens few = (length-replicate (length rows) nobody, (λ r l. ap (λ (h : Waiting). length h.seats) (get_or-replicate (length rows) r nobody nobody l)), few)

  -- of the wires from w on, w settles first
  pub settled_next : (b : Kept) (ps : List Place) (w : ℕ) (d : Place) → w < length ps → settled_from es rows b w (drop w ps) ≡ settled_from es rows (settled es rows b w (get_or ps w d)) (w + 1) (drop (w + 1) ps)
  settled_next b ps w d l =
      at_drop_more (λ (qs : List Place). settled_from es rows b w qs) ps w d l
      ∙ ap (λ k. settled_from es rows (settled es rows b w (get_or ps w d)) k (drop (w + 1) ps)) (sym (add-one w))
