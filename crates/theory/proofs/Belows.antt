-- The row below a row: the one row that has it as a premise.
use Rattle.std.proofs.Common.{◌≡◌, ℕ, zero, suc, ◌+◌, ◌<◌, ◌≤◌, true, false, cond, eqb, List, [], ◌∷◌, ◌++◌, length, sym, refl, ap, ◌∙◌, ⊎_elim, add-zero, zero-add, arith}
use Rattle.std.specs.List.{flat_map}
use Rattle.std.proofs.lemmas.Bool.{or_cases, or_parts, both_ways, cases_Bool, cond-true, cond-false, eq-eqb}
use Rattle.derivation.specs.declared.types.TypeEntry.{TypeEntry}
use Rattle.derivation.specs.declared.rows.Row.{Row}
use Rattle.derivation.specs.Rows.{premises}
use Rattle.derivation.specs.Accepted.{occurrences, uses, Accepted}
use Rattle.derivation.proofs.TreeLaws.{not_so}
use Rattle.derivation.proofs.RowLaws.{premises_at}
use Rattle.theory.specs.Ports.{listed, below_from, below}
use Rattle.theory.proofs.Basics.{listed_at, listed-first}

-- a listed number occurs
listed_occurs : (q : ℕ) (ps : List ℕ) → listed q ps ≡ true → 0 < occurrences q ps
listed_occurs q [] h = absurd (both_ways _ refl h)
listed_occurs q (p ∷ ps) h =
    ⊎_elim
    (λ e. omega (arith, ap {B = ℕ} (λ b. cond b 1 0) e))
    (λ e. omega (arith, listed_occurs q ps e))
    (or_cases (eqb p q) (listed q ps) h)

-- a number that is not listed does not occur
unlisted : (q : ℕ) (ps : List ℕ) → listed q ps ≡ false → occurrences q ps ≡ 0
unlisted q [] h = refl
unlisted q (p ∷ ps) h =
    let (here, rest) = or_parts (eqb p q) (listed q ps) h in
    omega (arith, ap {B = ℕ} (λ b. cond b 1 0) here, unlisted q ps rest)

-- occurrences in two lists
occurrences-append : (q : ℕ) (ps qs : List ℕ) → occurrences q (ps ++ qs) ≡ occurrences q ps + occurrences q qs
occurrences-append q [] qs = sym (zero-add _)
occurrences-append q (p ∷ ps) qs = let e = occurrences-append q ps qs in omega arith

-- the uses of a row by the first row and by the others
uses-first : (row : Row) (rows : List Row) (q : ℕ) → uses (row ∷ rows) q ≡ occurrences q (premises row.rule) + uses rows q
uses-first row rows q = occurrences-append q (premises row.rule) (flat_map (λ r. premises r.rule) rows)

-- a row is used at least as often as one row uses it
uses-at : (rows : List Row) (q r : ℕ) → r < length rows → occurrences q (premises_at rows r) ≤ uses rows q
uses-at [] q r h = absurd (omega arith)
uses-at (row ∷ rows) q zero h = omega (arith, uses-first row rows q)
uses-at (row ∷ rows) q (suc r) h = omega (arith, uses-first row rows q, uses-at rows q r (omega arith))

-- a row that is used once has the row that uses it below
below_from_lem : (k : ℕ) (rows : List Row) (q r : ℕ) → uses rows q ≤ 1 → r < length rows → listed q (premises_at rows r) ≡ true → below_from k rows q ≡ k + r
below_from_lem k [] q r u h l = absurd (omega arith)
below_from_lem k (row ∷ rows) q zero u h l = cond-true _ _ _ l ∙ sym (add-zero k)
below_from_lem k (row ∷ rows) q (suc r) u h l =
    let least = uses-at rows q r (omega arith) in
    let here = listed_occurs q (premises_at rows r) l in
    let all = uses-first row rows q in
    let other = not_so (listed q (premises row.rule)) (λ e. omega (arith, listed_occurs q (premises row.rule) e)) in
    let rest = below_from_lem (suc k) rows q r (omega arith) (omega arith) l in
    cond-false _ _ _ other ∙ rest ∙ omega arith

-- a row that no row uses has no row below
below_none : (k : ℕ) (rows : List Row) (q : ℕ) → ((r : ℕ) → r < length rows → listed q (premises_at rows r) ≡ false) → below_from k rows q ≡ k + length rows
below_none k [] q none = sym (add-zero k)
below_none k (row ∷ rows) q none =
    let rest = below_none (suc k) rows q (λ r l. none (suc r) (omega arith)) in
    cond-false _ _ _ (none 0 (omega arith)) ∙ rest ∙ omega arith

-- a row that is used is a premise of some row
user : (rows : List Row) (q : ℕ) → 0 < uses rows q → (r : ℕ) × (r < length rows) × (listed q (premises_at rows r) ≡ true)
user [] q u = absurd (omega arith)
user (row ∷ rows) q u = ⊎_elim (λ e. (0, omega arith, e)) (λ e. later (user rows q (omega (arith, uses-first row rows q, unlisted q (premises row.rule) e)))) (cases_Bool (listed q (premises row.rule)))
  where
    later : (r : ℕ) × (r < length rows) × (listed q (premises_at rows r) ≡ true) → (r : ℕ) × (r < length (row ∷ rows)) × (listed q (premises_at (row ∷ rows) r) ≡ true)
    later s = (suc s.0, omega (arith, s.1), s.2)

module _ (es : List TypeEntry) (rows : List Row) (a : Accepted es rows) where
  -- premises are lower
  pub premise-lower : (r q : ℕ) → r < length rows → listed q (premises_at rows r) ≡ true → q < r
  premise-lower r q h l = let (i, k, e) = listed_at q (premises_at rows r) l in omega (arith, a.lower r h i k)

  -- the row below a premise is the row that it is a premise of
  pub below_premise : (r q : ℕ) → r < length rows → listed q (premises_at rows r) ≡ true → below es rows q ≡ r
  below_premise r q h l =
      let low = premise-lower r q h l in
      let once = a.once q (omega arith) in
      below_from_lem 0 rows q r (omega arith) h l ∙ zero-add r

  -- every row but the last is a premise of the row below it
  pub below_row : (q : ℕ) → suc q < length rows → (below es rows q < length rows) × (listed q (premises_at rows (below es rows q)) ≡ true)
  below_row q h =
      let once = a.once q h in
      let (r, l, e) = user rows q (omega arith) in
      rw (below_premise r q l e) (l, e)

  -- the row below the last row would be the next
  pub below_last : (q : ℕ) → length rows ≤ suc q → below es rows q ≡ length rows
  below_last q h =
      below_none 0 rows q (λ r l. not_so _ (λ e. let low = premise-lower r q l e in omega arith)) ∙ zero-add (length rows)

  -- two premises of a row differ
  pub premises_differ : (r p q : ℕ) → r < length rows → premises_at rows r ≡ p ∷ q ∷ [] → p ≡ q → ⊥
  premises_differ r p q h e same =
      let low = premise-lower r p h (ap (listed p) e ∙ listed-first p (q ∷ [])) in
      let once = a.once p (omega arith) in
      let twice = ap (occurrences p) e in
      omega (arith, uses-at rows p r h, ap {B = ℕ} (λ b. cond b 1 0) (eq-eqb p p refl), ap {B = ℕ} (λ b. cond b 1 0) (eq-eqb q p (sym same)))
