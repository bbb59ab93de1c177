-- What a run keeps of its tokens, so that no move looks at all wires: who waits at each row, and who can move.
use Rattle.std.specs.Prelude.{◌≡◌, ℕ, suc, ◌<◌, ◌≤◌, Bool, true, cond, ◌&&◌, List, [], ◌∷◌, map, length, get_or, take, replicate, Some, None, vec_items, ◌==◌, count_ones, slice_index_or, slice_set}
use Rattle.std.specs.Simd.Lanes.{mask_l}
use Rattle.derivation.specs.declared.types.TypeEntry.{TypeEntry}
use Rattle.derivation.specs.declared.rows.Row.{Row}
use Rattle.derivation.specs.declared.rows.Place.{Place}
use Rattle.derivation.specs.Judgements.{rule_at}
use Rattle.basics.specs.Sets.{only, union, without}
use Rattle.theory.specs.Ports.{at, is_end, is_place, next, starts}
use Rattle.theory.specs.Runs.{Reached}
use Rattle.theory.specs.Tokens.{Fired, is_seat, movable, no_place, seats, stands_at, wire_at}
use Rattle.target.specs.Interface.{numbers_of}
use Rattle.machine.specs.declared.machine.Machine.{Machine}
use Rattle.run.specs.declared.books.Books.{Books}
use Rattle.run.specs.declared.books.Waiting.{Waiting}

-- the place of each wire's token, who waits at each row, and the wires that can move
pub record Kept : Type 0 where
  pub tokens : List Place
  pub waiting : List Waiting
  pub ready : ℕ

abbrev pub books_of : Books → Kept
books_of b = record { tokens = vec_items b.places; waiting = vec_items b.waiting; ready = b.ready }

-- nobody waits
abbrev pub nobody : Waiting
nobody = record { wires = 0; seats = record { 0 = 0 } ∷ record { 0 = 0 } ∷ record { 0 = 0 } ∷ [] }

-- wire w sits down at seat i of row r, which has n seats; the last to come makes all of them ready
abbrev pub sat : Kept → ℕ → ℕ → ℕ → ℕ → Kept
sat b r i n w =
    let here : Waiting = get_or b.waiting r nobody in
    let all : ℕ = union here.wires (only w) in
    record {
      tokens = b.tokens;
      waiting = slice_set b.waiting r (record { wires = all; seats = slice_set here.seats i (record { 0 = w }) });
      ready = cond (count_ones all == n) (union b.ready all) (without b.ready w);
    }

module _ (es : List TypeEntry) (rows : List Row) where
  -- wire w has come to p: it waits at a seat, or is home, or can go on
  unfoldable pub settled : Kept → ℕ → Place → Kept
  settled b w p =
      cond (is_place es rows p && is_seat es rows p) (sat b p.row.0 p.atom.0 (seats (rule_at rows p.row.0)) w)
      (cond (is_place es rows p && is_end es rows p) (record { tokens = b.tokens; waiting = b.waiting; ready = without b.ready w })
      (record { tokens = b.tokens; waiting = b.waiting; ready = union b.ready (only w) }))

  -- wire w at its next place q
  abbrev pub put : Kept → ℕ → Place → Kept
  put b w q = settled (record { tokens = slice_set b.tokens w q; waiting = b.waiting; ready = b.ready }) w q

  -- wire w goes on
  unfoldable pub stepped : Kept → ℕ → Kept
  stepped b w = elim (cond (is_place es rows (slice_index_or b.tokens w no_place)) (next es rows (slice_index_or b.tokens w no_place)) None) [ Some q ↦ put b w q | None ↦ b ]

  abbrev pub stepped_all : Kept → List ℕ → Kept
  stepped_all b [] = b
  stepped_all b (w ∷ ws) = stepped_all (stepped b w) ws

  -- the wires at the first n seats of row r go on together, and nobody waits there any more
  unfoldable pub passed : Kept → ℕ → ℕ → Kept
  passed b r n =
      let here : Waiting = get_or b.waiting r nobody in
      stepped_all (record { tokens = b.tokens; waiting = slice_set b.waiting r (record { wires = 0; seats = here.seats }); ready = b.ready }) (numbers_of (take n here.seats))

  -- wires from w on settle, each at its token's place
  abbrev pub settled_from : Kept → ℕ → List Place → Kept
  settled_from b w [] = b
  settled_from b w (p ∷ ps) = settled_from (settled b w p) (suc w) ps

  -- tokens that have just come to their starts
  abbrev pub start_books : Kept
  start_books = settled_from (record { tokens = starts es rows; waiting = replicate (length rows) nobody; ready = 0 }) 0 (starts es rows)

  -- each row has room for three seats, and there are at most 32 wires
  abbrev pub Fit : Kept → Type 0
  Fit b = (length b.waiting ≡ length rows) × ((r : ℕ) → r < length rows → length (get_or b.waiting r nobody).seats ≡ 3) × (length b.tokens ≤ 32)

-- the same of books b, whose tokens machine m moves
module _ (m : Machine) (b : Books) where
  -- the books have room for all that the machine's derivation needs
  abbrev pub FitFor : Type 0
  FitFor = Fit (vec_items m.types) (vec_items m.rows) (books_of b)

  -- wire w has come to p
  abbrev pub settled_in : ℕ → Place → Kept
  settled_in w p = settled (vec_items m.types) (vec_items m.rows) (books_of b) w p

  -- wire w goes on
  abbrev pub stepped_in : ℕ → Kept
  stepped_in w = stepped (vec_items m.types) (vec_items m.rows) (books_of b) w

  -- the wires at the first n seats of row r go on together
  abbrev pub passed_in : ℕ → ℕ → Kept
  passed_in r n = passed (vec_items m.types) (vec_items m.rows) (books_of b) r n

-- the set of the wires whose tokens pass a test
abbrev pub wires_where : (Place → Bool) → List Place → ℕ
wires_where f tokens = mask_l (map f tokens)

module _ (es : List TypeEntry) (rows : List Row) where
  -- a place is a seat of row r
  abbrev pub seat_of : ℕ → Place → Bool
  seat_of r p = p.row.0 == r && is_seat es rows p

  -- some moves, so many, lead from the starts to these tokens
  abbrev pub Underway : List Place → ℕ → Type 0
  Underway tokens n = ∥ ((fired : List Fired) × Reached es rows tokens n fired) ∥₁

  -- what is kept is right: the wires that can move, and for each row who stands at its seats, and at which
  pub record Right (b : Kept) : Type 0 where
    pub fit : Fit es rows b
    pub ready : b.ready ≡ wires_where (movable es rows b.tokens) b.tokens
    pub waits : (r : ℕ) → r < length rows → (get_or b.waiting r nobody).wires ≡ wires_where (seat_of r) b.tokens
    pub seated : (r i : ℕ) → i < seats (rule_at rows r) → stands_at b.tokens (at r i) ≡ true → (get_or (get_or b.waiting r nobody).seats i (record { 0 = 0 })).0 ≡ wire_at b.tokens (at r i)
