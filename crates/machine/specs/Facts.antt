-- What a machine keeps of each row.
use Rattle.std.specs.Prelude.{ℕ, ◌+◌, ◌-◌, ◌*◌, ◌^◌, Bool, true, false, cond, not, List, [], ◌∷◌, ◌++◌, map, length, Option, Some, None, bit_or, bit_xor, nat_lt, slice_index_or, slice_set}
use Rattle.std.specs.List.{flat_map}
use Rattle.basics.specs.declared.numbers.RowId.{RowId}
use Rattle.derivation.specs.declared.types.TypeKind.{TypeKind}
use Rattle.derivation.specs.declared.types.TypeKind.TheVariants.{Arrow, Pair}
use Rattle.derivation.specs.declared.types.TypeEntry.{TypeEntry}
use Rattle.derivation.specs.declared.rows.Row.{Row}
use Rattle.derivation.specs.declared.rows.Part.{Part}
use Rattle.derivation.specs.declared.rows.Part.TheVariants.{Ty, Variable as Var}
use Rattle.derivation.specs.declared.rows.Place.{Place}
use Rattle.basics.specs.Sets.{has}
use Rattle.derivation.specs.Trees.{Tree, qubit, arrow, pair, atoms}
use Rattle.derivation.specs.Judgements.{env_at, tree_at}
use Rattle.derivation.specs.Places.{numbers, keep, negative}
use Rattle.machine.specs.declared.tables.Polarity.{Polarity}
use Rattle.machine.specs.declared.tables.Polarity.TheVariants.{Negative, Positive}
use Rattle.machine.specs.declared.tables.TypeFacts.{TypeFacts}
use Rattle.machine.specs.declared.tables.RowFacts.{RowFacts}
use Rattle.theory.specs.Ports.{below, bit_places, part_width}

-- the positive atoms of a type as a set of their numbers: an arrow reverses those of its left part
abbrev pub signs_of : Tree → ℕ
signs_of qubit = 1
signs_of (arrow a c) = bit_or (bit_xor (signs_of a) (2 ^ atoms a - 1)) (signs_of c * 2 ^ atoms a)
signs_of (pair a c) = bit_or (signs_of a) (signs_of c * 2 ^ atoms a)

-- what is kept of a type
abbrev pub facts_of : Tree → TypeFacts
facts_of t = record { width = atoms t; signs = signs_of t }

-- that of an arrow or a pair, by what is kept of its parts
abbrev pub joined_facts : TypeKind → TypeFacts → TypeFacts → TypeFacts
joined_facts Arrow a c = record { width = a.width + c.width; signs = bit_or (bit_xor a.signs (2 ^ a.width - 1)) (c.signs * 2 ^ a.width) }
joined_facts Pair a c = record { width = a.width + c.width; signs = bit_or a.signs (c.signs * 2 ^ a.width) }

-- the number k as a row of n, if it is less
abbrev pub row_of : ℕ → ℕ → Option RowId
row_of n k = cond (nat_lt k n) (Some (record { 0 = k })) None

-- what is kept of row r: that of its type, its environment, and the row below it, if one has it as a premise
abbrev pub facts_at : List TypeEntry → List Row → ℕ → RowFacts
facts_at es rows r = record { ty = facts_of (tree_at es rows r); env = env_at rows r; below = row_of (length rows) (below es rows r) }

-- the same, if there is such a row
abbrev pub facts_found : List TypeEntry → List Row → ℕ → Option RowFacts
facts_found es rows r = cond (nat_lt r (length rows)) (Some (facts_at es rows r)) None

-- a list with x at each of some places
abbrev pub marked : {A : Type 0} → List A → List ℕ → A → List A
marked xs [] x = xs
marked xs (p ∷ ps) x = marked (slice_set xs p x) ps x

-- the polarity of a place that is negative, or is not
abbrev pub polarity_of : Bool → Polarity
polarity_of true = Negative
polarity_of false = Positive

-- whether a polarity is the positive one
abbrev pub is_positive : Polarity → Bool
is_positive Negative = false
is_positive Positive = true

-- the polarity of atom i of a type, if it has so many atoms
abbrev pub atom_polarity : TypeFacts → ℕ → Option Polarity
atom_polarity t i = cond (nat_lt i t.width) (Some (polarity_of (not (has t.signs i)))) None

-- the polarity of a place, if its part has so many atoms
abbrev pub place_polarity : List TypeEntry → List Row → Place → Option Polarity
place_polarity es rows p = cond (nat_lt p.atom.0 (part_width es rows p.row.0 p.part)) (Some (polarity_of (negative es rows p))) None

-- a test that comes out as wanted
abbrev pub agrees : Bool → Bool → Bool
agrees true b = b
agrees false b = not b

-- the places of the first n atoms in one part of row r
abbrev pub places_to : ℕ → Part → ℕ → List Place
places_to r part n = map (λ i. record { row = record { 0 = r }; part = part; atom = record { 0 = i } }) (numbers 0 n)

-- those whose atoms are in a set or, if that is wanted, are not
abbrev pub signed : Bool → ℕ → ℕ → Part → ℕ → List Place
signed wanted signs r part n = keep (λ p. agrees wanted (has signs p.atom.0)) (places_to r part n)

-- nothing is kept of a row that there is not
abbrev pub no_facts : RowFacts
no_facts = record { ty = record { width = 0; signs = 0 }; env = 0; below = None }

-- those in variables x of row r: the variables below n that are in its environment
abbrev pub signed_held : List RowFacts → Bool → ℕ → ℕ → List Place
signed_held facts wanted r n = flat_map (λ x. cond (has (slice_index_or facts r no_facts).env x) (signed wanted (slice_index_or facts x no_facts).ty.signs r (Var (record { 0 = x })) (slice_index_or facts x no_facts).ty.width) []) (numbers 0 n)

-- the negative places of row r or, if that is wanted, the positive ones
abbrev pub signed_at : List RowFacts → Bool → ℕ → List Place
signed_at facts wanted r = signed_held facts wanted r (length facts) ++ signed (not wanted) (slice_index_or facts r no_facts).ty.signs r Ty (slice_index_or facts r no_facts).ty.width

-- the places where tokens start, by what is kept of the rows
abbrev pub starts_by : List RowFacts → List Row → List Place
starts_by facts rows = signed_at facts true (length facts - 1) ++ bit_places [] rows 0 rows
