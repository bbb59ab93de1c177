-- Where tokens go. Each rule joins places in pairs, its own row's and its premises'; a token enters a rule at one place of a pair and leaves it at the other.
use Rattle.std.specs.Prelude.{ℕ, suc, ◌+◌, ◌-◌, Bool, false, cond, not, ◌&&◌, ◌||◌, List, [], ◌∷◌, ◌++◌, length, Some, None, Option, ◌==◌, nat_lt}
use Rattle.derivation.specs.declared.types.TypeEntry.{TypeEntry}
use Rattle.derivation.specs.declared.rows.Rule.{Rule}
use Rattle.derivation.specs.declared.rows.Rule.TheVariants.{Variable, Zero, One, Gate, Lambda, PairLambda, Apply, Pair}
use Rattle.derivation.specs.declared.rows.Row.{Row}
use Rattle.derivation.specs.declared.rows.Part.{Part}
use Rattle.derivation.specs.declared.rows.Part.TheVariants.{Ty, Variable as Var}
use Rattle.derivation.specs.declared.rows.Place.{Place}
use Rattle.basics.specs.Sets.{has}
use Rattle.basics.specs.Gates.{arity}
use Rattle.derivation.specs.Trees.{atoms}
use Rattle.derivation.specs.Rows.{premises}
use Rattle.derivation.specs.Judgements.{rule_at, env_at, tree_at}
use Rattle.derivation.specs.Places.{places_at, keep, negative, given, is_bit}

-- atom i of the type of row r
abbrev pub at : ℕ → ℕ → Place
at r i = record { row = record { 0 = r }; part = Ty; atom = record { 0 = i } }

-- atom i of variable x in the environment of row r
abbrev pub held : ℕ → ℕ → ℕ → Place
held r x i = record { row = record { 0 = r }; part = Var (record { 0 = x }); atom = record { 0 = i } }

-- q stands in the list
abbrev pub listed : ℕ → List ℕ → Bool
listed q [] = false
listed q (p ∷ ps) = p == q || listed q ps

-- the first row from k on that has q as a premise, or the number after the last
abbrev pub below_from : ℕ → List Row → ℕ → ℕ
below_from k [] q = k
below_from k (row ∷ rows) q = cond (listed q (premises row.rule)) k (below_from (suc k) rows q)

module _ (es : List TypeEntry) (rows : List Row) where
  -- the row that has q as a premise; for the last row there is none
  abbrev pub below : ℕ → ℕ
  below q = below_from 0 rows q

  -- the number of atoms of row x's type
  abbrev pub width : ℕ → ℕ
  width x = atoms (tree_at es rows x)

  -- the premise of two that has variable z
  abbrev pub owner : ℕ → ℕ → ℕ → ℕ
  owner p q z = cond (has (env_at rows p) z) p q

  -- the mate of a place of row r under r's own rule
  abbrev pub across_own : ℕ → Rule → Part → ℕ → Option Place
  across_own r Variable Ty i = Some (held r r i)
  across_own r Variable (Var z) i = Some (at r i)
  across_own r Zero part i = None
  across_own r One part i = None
  across_own r (Gate g) Ty i = Some (cond (nat_lt i (arity g)) (at r (arity g + i)) (at r (i - arity g)))
  across_own r (Gate g) (Var z) i = None
  across_own r (Lambda p x) Ty i = Some (cond (nat_lt i (width x.0)) (held p.0 x.0 i) (at p.0 (i - width x.0)))
  across_own r (Lambda p x) (Var z) i = Some (held p.0 z.0 i)
  across_own r (PairLambda p x y) Ty i = Some (cond (nat_lt i (width x.0)) (held p.0 x.0 i) (cond (nat_lt i (width x.0 + width y.0)) (held p.0 y.0 (i - width x.0)) (at p.0 (i - (width x.0 + width y.0)))))
  across_own r (PairLambda p x y) (Var z) i = Some (held p.0 z.0 i)
  across_own r (Apply f a) Ty i = Some (at f.0 (width a.0 + i))
  across_own r (Apply f a) (Var z) i = Some (held (owner f.0 a.0 z.0) z.0 i)
  across_own r (Pair p q) Ty i = Some (cond (nat_lt i (width p.0)) (at p.0 i) (at q.0 (i - width p.0)))
  across_own r (Pair p q) (Var z) i = Some (held (owner p.0 q.0 z.0) z.0 i)

  -- the mate of a place of premise q under the rule of the row r below it
  abbrev pub across_premise : ℕ → Rule → ℕ → Part → ℕ → Option Place
  across_premise r Variable q part i = None
  across_premise r Zero q part i = None
  across_premise r One q part i = None
  across_premise r (Gate g) q part i = None
  across_premise r (Lambda p x) q Ty i = Some (at r (width x.0 + i))
  across_premise r (Lambda p x) q (Var z) i = Some (cond (z.0 == x.0) (at r i) (held r z.0 i))
  across_premise r (PairLambda p x y) q Ty i = Some (at r (width x.0 + width y.0 + i))
  across_premise r (PairLambda p x y) q (Var z) i = Some (cond (z.0 == x.0) (at r i) (cond (z.0 == y.0) (at r (width x.0 + i)) (held r z.0 i)))
  across_premise r (Apply f a) q Ty i = Some (cond (q == f.0) (cond (nat_lt i (width a.0)) (at a.0 i) (at r (i - width a.0))) (at f.0 i))
  across_premise r (Apply f a) q (Var z) i = Some (held r z.0 i)
  across_premise r (Pair p p') q Ty i = Some (cond (q == p.0) (at r i) (at r (width p.0 + i)))
  across_premise r (Pair p p') q (Var z) i = Some (held r z.0 i)

  -- through the rule of a place's own row, and through that of the row below
  abbrev pub upward : Place → Option Place
  upward p = across_own p.row.0 (rule_at rows p.row.0) p.part p.atom.0

  abbrev pub downward : Place → Option Place
  downward p = across_premise (below p.row.0) (rule_at rows (below p.row.0)) p.row.0 p.part p.atom.0

  -- where a token at p goes: at a negative place it climbs, at a positive place it descends
  unfoldable pub next : Place → Option Place
  next p = cond (negative es rows p) (upward p) (downward p)

  -- where a token at p came from
  unfoldable pub prev : Place → Option Place
  prev p = cond (negative es rows p) (downward p) (upward p)

  -- a place of the derivation: a row, a part of it and an atom of that part
  abbrev pub part_width : ℕ → Part → ℕ
  part_width r Ty = width r
  part_width r (Var z) = cond (has (env_at rows r) z.0) (width z.0) 0

  abbrev pub is_place : Place → Bool
  is_place p = nat_lt p.row.0 (length rows) && nat_lt p.atom.0 (part_width p.row.0 p.part)

  abbrev pub last : ℕ
  last = length rows - 1

  -- an end: a positive place of the last row
  abbrev pub is_end : Place → Bool
  is_end p = p.row.0 == last && not (negative es rows p)

  -- a start: a negative place of the last row, or the place of a zero or one row
  abbrev pub is_start : Place → Bool
  is_start p = cond (negative es rows p) (p.row.0 == last) (is_bit (rule_at rows p.row.0))

  -- the places of zero and one rows, from row k on
  abbrev pub bit_places : ℕ → List Row → List Place
  bit_places k [] = []
  bit_places k (row ∷ rest) = cond (is_bit row.rule) (at k 0 ∷ bit_places (suc k) rest) (bit_places (suc k) rest)

  -- where each wire's token starts: given wires first, then zero and one rows
  unfoldable pub starts : List Place
  starts = given es rows ++ bit_places 0 rows

  -- the ends, in place order
  unfoldable pub ends : List Place
  ends = keep (λ p. not (negative es rows p)) (places_at es rows last)
