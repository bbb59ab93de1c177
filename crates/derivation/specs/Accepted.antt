-- Which derivations are accepted: by the checks in their order, and in the words of the calculus.
use Rattle.std.specs.Prelude.{◌≡◌, ℕ, suc, ◌+◌, ◌-◌, ◌<◌, ◌≤◌, Bool, cond, not, ◌&&◌, List, [], ◌∷◌, map, length, is_some, Some, None, Option, ◌==◌, nat_le, nat_lt, slice_index, slice_index_or}
use Rattle.std.specs.List.{flat_map}
use Rattle.derivation.specs.declared.types.TypeEntry.{TypeEntry}
use Rattle.derivation.specs.declared.types.Size.{Size}
use Rattle.derivation.specs.declared.rows.Row.{Row}
use Rattle.derivation.specs.declared.rows.Record.{Record}
use Rattle.basics.specs.declared.refusal.Refusal.{Refusal}
use Rattle.basics.specs.declared.refusal.Refusal.TheVariants.{TooManyWires}
use Rattle.derivation.specs.Faults.{or_else, first_fault}
use Rattle.derivation.specs.Trees.{atoms, tree, trees, types_fault}
use Rattle.derivation.specs.Rows.{premises, type_at, row_fault, row_of, record_of, unused_fault}
use Rattle.derivation.specs.Weights.{size_of}
use Rattle.derivation.specs.Judgements.{rule_at, Follows}
use Rattle.derivation.specs.Places.{wires}

-- a derivation: its further types and its rows
pub record Derivation : Type 0 where
  pub types : List TypeEntry
  pub rows : List Row

-- the first fault of the rows
abbrev pub rows_fault : List TypeEntry → List Record → Option Refusal
rows_fault es records = first_fault (row_fault es) row_of [] records

abbrev pub wires_fault : List TypeEntry → List Row → Option Refusal
wires_fault es rows = cond (nat_lt 32 (wires es rows)) (Some (TooManyWires (record { 0 = length rows - 1 }))) None

-- what is wrong with all rows together
abbrev pub whole_fault : List TypeEntry → List Row → Option Refusal
whole_fault es rows = or_else (unused_fault rows) (wires_fault es rows)

-- the first fault of types and rows: all types, then each row, then what is said of all rows
abbrev pub fault : List TypeEntry → List Record → Option Refusal
fault es records = or_else (types_fault es) (or_else (rows_fault es records) (whole_fault es (map row_of records)))

-- the checks pass, and there are not too many types or rows
unfoldable pub valid : List TypeEntry → List Row → Bool
valid es rows = nat_le (length es) 64 && (nat_lt 0 (length rows) && (nat_le (length rows) 128 && not (is_some (fault es (map record_of rows)))))

-- how often q stands in a list
abbrev pub occurrences : ℕ → List ℕ → ℕ
occurrences q [] = 0
occurrences q (p ∷ ps) = cond (p == q) 1 0 + occurrences q ps

-- how often row q is a premise
abbrev pub uses : List Row → ℕ → ℕ
uses rows q = occurrences q (flat_map (λ row. premises row.rule) rows)

-- a type table keeps its rules: parts are lower, no two entries are equal, no type has more than 16 atoms
pub record Table (es : List TypeEntry) : Type 0 where
  pub few : length es ≤ 64
  pub lower : (t : ℕ) → t < length es → (d : TypeEntry) → ((slice_index_or es t d).left.0 ≤ t) × ((slice_index_or es t d).right.0 ≤ t)
  pub distinct : (s t : ℕ) → s ≤ length es → t ≤ length es → tree es s ≡ tree es t → s ≡ t
  pub small : (t : ℕ) → t ≤ length es → atoms (tree es t) ≤ 16

-- a derivation keeps all rules: each row follows by its rule from premises with lower numbers,
-- every row but the last is a premise exactly once, and there are at most 32 wires
pub record Accepted (es : List TypeEntry) (rows : List Row) : Type 0 where
  pub table : Table es
  pub some : 0 < length rows
  pub few : length rows ≤ 128
  pub known : (r : ℕ) → r < length rows → type_at rows r ≤ length es
  pub lower : (r : ℕ) → r < length rows → (i : ℕ) → i < length (premises (rule_at rows r)) → slice_index (premises (rule_at rows r)) i < r
  pub follows : (r : ℕ) → r < length rows → Follows es rows r
  pub once : (q : ℕ) → suc q < length rows → uses rows q ≡ 1
  pub wired : wires es rows ≤ 32

-- what reading knows of a derivation once its types and each of its rows have passed
pub record Sound (es : List TypeEntry) (sizes : List Size) (rows : List Row) : Type 0 where
  pub few_types : length es ≤ 64
  pub some_rows : 0 < length rows
  pub few_rows : length rows ≤ 128
  pub types_pass : types_fault es ≡ None
  pub rows_pass : rows_fault es (map record_of rows) ≡ None
  pub sized : sizes ≡ map size_of (trees es)
