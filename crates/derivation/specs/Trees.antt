-- Types as trees, and the type table that stands for them.
use Rattle.std.specs.Prelude.{ℕ, zero, suc, ◌+◌, ◌-◌, Bool, true, false, cond, not, ◌&&◌, ◌||◌, List, [], ◌∷◌, length, Some, None, Option, ◌==◌, nat_le, nat_lt, slice_index_or}
use Rattle.derivation.specs.declared.types.TypeKind.{TypeKind}
use Rattle.derivation.specs.declared.types.TypeKind.TheVariants.{Arrow, Pair}
use Rattle.derivation.specs.declared.types.TypeEntry.{TypeEntry}
use Rattle.basics.specs.declared.refusal.Refusal.{Refusal}
use Rattle.basics.specs.declared.refusal.Refusal.TheVariants.{PartNotLower, RepeatedType, TooManyAtoms}
use Rattle.derivation.specs.Growth.{grown}
use Rattle.derivation.specs.Faults.{first_fault}

-- a type: a qubit, an arrow, or a pair
pub data Tree : Type 0 where
  qubit : Tree
  arrow : Tree → Tree → Tree
  pair : Tree → Tree → Tree

-- the atoms of a type are its qubits, numbered from 0, left to right
abbrev pub atoms : Tree → ℕ
atoms qubit = 1
atoms (arrow a c) = atoms a + atoms c
atoms (pair a c) = atoms a + atoms c

-- whether atom i is positive: an arrow reverses the atoms of its left part
abbrev pub positive : Tree → ℕ → Bool
positive qubit i = true
positive (arrow a c) i = cond (nat_lt i (atoms a)) (not (positive a i)) (positive c (i - atoms a))
positive (pair a c) i = cond (nat_lt i (atoms a)) (positive a i) (positive c (i - atoms a))

-- n qubits: B, or B with n - 1 qubits
abbrev pub power : ℕ → Tree
power zero = qubit
power (suc zero) = qubit
power (suc (suc n)) = pair qubit (power (suc n))

abbrev pub node : TypeKind → Tree → Tree → Tree
node Arrow a c = arrow a c
node Pair a c = pair a c

-- the tree of an entry, by those of the entries before it
abbrev pub unfolded : List Tree → TypeEntry → Tree
unfolded done e = node e.kind (slice_index_or done e.left.0 qubit) (slice_index_or done e.right.0 qubit)

-- the trees of a table's entries: first the qubit, then those of the further types
unfoldable pub trees : List TypeEntry → List Tree
trees es = grown unfolded (qubit ∷ []) es

-- the tree of entry t
abbrev pub tree : List TypeEntry → ℕ → Tree
tree es t = slice_index_or (trees es) t qubit

abbrev pub same_kind : TypeKind → TypeKind → Bool
same_kind Arrow Arrow = true
same_kind Arrow Pair = false
same_kind Pair Arrow = false
same_kind Pair Pair = true

abbrev pub same_entry : TypeEntry → TypeEntry → Bool
same_entry d e = same_kind d.kind e.kind && (d.left.0 == e.left.0 && d.right.0 == e.right.0)

-- an entry of no table, where a list of entries has no further one
abbrev pub no_entry : TypeEntry
no_entry = record { kind = Arrow; left = record { 0 = 0 }; right = record { 0 = 0 } }

-- e stands in the list
abbrev pub listed : List TypeEntry → TypeEntry → Bool
listed [] e = false
listed (d ∷ ds) e = same_entry d e || listed ds e

-- what is wrong with entry e behind those of done
abbrev pub type_fault : List TypeEntry → TypeEntry → Option Refusal
type_fault done e =
    let k = suc (length done) in
    cond (nat_le k e.left.0 || nat_le k e.right.0) (Some (PartNotLower (record { 0 = k })))
    (cond (listed done e) (Some (RepeatedType (record { 0 = k })))
    (cond (nat_lt 16 (atoms (unfolded (trees done) e))) (Some (TooManyAtoms (record { 0 = k }))) None))

-- the first fault of a table
abbrev pub types_fault : List TypeEntry → Option Refusal
types_fault es = first_fault type_fault (λ e. e) [] es
