-- What the rows of a derivation stand on, and the checks of each row.
use Rattle.std.specs.Prelude.{ℕ, zero, suc, ◌-◌, Bool, true, false, cond, not, ◌&&◌, List, [], ◌∷◌, map, length, get_or, Some, None, Ok, Err, Option, Result, ◌==◌, nat_lt, if◌then◌else◌, slice_index, slice_index_or}
use Rattle.std.specs.List.{fold, list_all, slice_get}
use Rattle.basics.specs.declared.numbers.RowId.{RowId}
use Rattle.derivation.specs.declared.types.TypeKind.{TypeKind}
use Rattle.derivation.specs.declared.types.TypeKind.TheVariants.{Arrow, Pair as PairKind}
use Rattle.derivation.specs.declared.types.TypeEntry.{TypeEntry}
use Rattle.derivation.specs.declared.rows.Rule.{Rule}
use Rattle.derivation.specs.declared.rows.Rule.TheVariants.{Variable, Zero, One, Gate, Lambda, PairLambda, Apply, Pair}
use Rattle.derivation.specs.declared.rows.Row.{Row}
use Rattle.derivation.specs.declared.rows.Record.{Record}
use Rattle.derivation.specs.declared.check.Step.{Step}
use Rattle.basics.specs.declared.refusal.Refusal.{Refusal}
use Rattle.basics.specs.declared.refusal.Refusal.TheVariants.{NoSuchType, PremiseNotLower, PremiseTaken, NotFree, TypeMismatch, NoSuchGate, UnusedRow}
use Rattle.basics.specs.Sets.{has, only, union, without}
use Rattle.derivation.specs.Growth.{grown}
use Rattle.basics.specs.Gates.{arity}
use Rattle.derivation.specs.Trees.{same_entry, no_entry}

-- the numbers of rows
abbrev pub numbers : List RowId → List ℕ
numbers rs = map (λ (r : RowId). r.0) rs

-- the rows that a rule stands on
abbrev pub premises : Rule → List ℕ
premises Variable = []
premises Zero = []
premises One = []
premises (Gate g) = []
premises (Lambda p x) = p.0 ∷ []
premises (PairLambda p x y) = p.0 ∷ []
premises (Apply f a) = f.0 ∷ a.0 ∷ []
premises (Pair l r) = l.0 ∷ r.0 ∷ []

-- the variables that a rule binds
abbrev pub binders : Rule → List ℕ
binders Variable = []
binders Zero = []
binders One = []
binders (Gate g) = []
binders (Lambda p x) = x.0 ∷ []
binders (PairLambda p x y) = x.0 ∷ y.0 ∷ []
binders (Apply f a) = []
binders (Pair l r) = []

-- the variable that row k introduces, as a set
abbrev pub introduced : ℕ → Rule → ℕ
introduced k Variable = only k
introduced k Zero = 0
introduced k One = 0
introduced k (Gate g) = 0
introduced k (Lambda p x) = 0
introduced k (PairLambda p x y) = 0
introduced k (Apply f a) = 0
introduced k (Pair l r) = 0

-- m with the environments of some rows
abbrev pub gathered : ℕ → List ℕ → List ℕ → ℕ
gathered m envs ps = fold (λ n p. union n (slice_index envs p)) m ps

-- m less some variables
abbrev pub less : ℕ → List ℕ → ℕ
less m xs = fold without m xs

-- the environment of a row, by those of the rows before it:
-- its own variable, if it introduces one, and what its premises have, less what it binds
abbrev pub environment : List ℕ → Row → ℕ
environment envs row = less (gathered (introduced (length envs) row.rule) envs (premises row.rule)) (binders row.rule)

-- the environments of the rows
unfoldable pub environments : List Row → List ℕ
environments rows = grown environment [] rows

-- m with some numbers
abbrev pub including : ℕ → List ℕ → ℕ
including m ps = fold (λ n p. union n (only p)) m ps

-- m with the premises of the rows
abbrev pub taken_from : ℕ → List Row → ℕ
taken_from m rows = fold (λ n row. including n (premises row.rule)) m rows

-- the rows that are a premise of some row
unfoldable pub taken : List Row → ℕ
taken rows = taken_from 0 rows

-- each number is below k
abbrev pub all_below : ℕ → List ℕ → Bool
all_below k ps = list_all (λ p. nat_lt p k) ps

-- the numbers are not in m, and no two are equal
abbrev pub none_in : ℕ → List ℕ → Bool
none_in m [] = true
none_in m (p ∷ ps) = not (has m p) && none_in (union m (only p)) ps

-- the variables are in m, and no two are equal
abbrev pub all_in : ℕ → List ℕ → Bool
all_in m [] = true
all_in m (x ∷ xs) = has m x && all_in (without m x) xs

-- m with some numbers, if they are not in it and no two are equal
abbrev pub taking : ℕ → List ℕ → Option ℕ
taking m ps = if none_in m ps then Some (including m ps) else None

-- m less some variables, if they are in it and no two are equal
abbrev pub releasing : ℕ → List ℕ → Option ℕ
releasing m xs = if all_in m xs then Some (less m xs) else None

-- what the rule binds is in the environment of its premise
abbrev pub binds_free : List ℕ → Rule → Bool
binds_free envs rule = all_in (gathered 0 envs (premises rule)) (binders rule)

-- a row of no derivation, where a list of rows has no further one
abbrev pub no_row : Row
no_row = record { ty = record { 0 = 0 }; rule = Variable }

-- a qubit in state zero
abbrev pub zero_row : Row
zero_row = record { ty = record { 0 = 0 }; rule = Zero }

-- the type number of row r
abbrev pub type_at : List Row → ℕ → ℕ
type_at rows r = (get_or rows r no_row).ty.0

-- entry t of the table is of this kind, with these parts
abbrev pub is_node : List TypeEntry → TypeKind → ℕ → ℕ → ℕ → Bool
is_node es kind zero l r = false
is_node es kind (suc t) l r =
    nat_lt t (length es) && same_entry (slice_index_or es t no_entry) (record { kind = kind; left = record { 0 = l }; right = record { 0 = r } })

-- entry t, of which nothing is said where it is the qubit or the table has no such entry
abbrev pub entry_at : List TypeEntry → ℕ → TypeEntry
entry_at es zero = no_entry
entry_at es (suc t) = slice_index_or es t no_entry

-- its parts
abbrev pub left_part : List TypeEntry → ℕ → ℕ
left_part es t = (entry_at es t).left.0

abbrev pub right_part : List TypeEntry → ℕ → ℕ
right_part es t = (entry_at es t).right.0

-- entry t, if the table has it; the qubit is no entry
abbrev pub found : List TypeEntry → ℕ → Option TypeEntry
found es zero = None
found es (suc t) = slice_get es t

-- entry t is n qubits
abbrev pub is_power : List TypeEntry → ℕ → ℕ → Bool
is_power es zero t = false
is_power es (suc zero) t = t == 0
is_power es (suc (suc n)) t = is_node es PairKind t 0 (right_part es t) && is_power es (suc n) (right_part es t)

-- entry t is what the rule gives, by the types of the rows before it
abbrev pub fits : List TypeEntry → List Row → ℕ → Rule → Bool
fits es rows t Variable = true
fits es rows t Zero = t == 0
fits es rows t One = t == 0
fits es rows t (Gate g) = is_node es Arrow t (left_part es t) (left_part es t) && is_power es (arity g) (left_part es t)
fits es rows t (Lambda p x) = is_node es Arrow t (type_at rows x.0) (type_at rows p.0)
fits es rows t (PairLambda p x y) = is_node es Arrow t (left_part es t) (type_at rows p.0) && is_node es PairKind (left_part es t) (type_at rows x.0) (type_at rows y.0)
fits es rows t (Apply f a) = is_node es Arrow (type_at rows f.0) (type_at rows a.0) t
fits es rows t (Pair l r) = is_node es PairKind t (type_at rows l.0) (type_at rows r.0)

-- what a row adds to the rows of done, if it introduces the variables of m, stands on ps and binds xs, or what is wrong with it
abbrev pub step : List Row → ℕ → List ℕ → List ℕ → Result Step Refusal
step done m ps xs =
    let k = length done in
    cond (not (all_below k ps)) (Err (PremiseNotLower (record { 0 = k })))
    (cond (not (none_in (taken done) ps)) (Err (PremiseTaken (record { 0 = k })))
    (cond (not (all_in (gathered m (environments done) ps) xs)) (Err (NotFree (record { 0 = k })))
    (Ok (record { taken = including (taken done) ps; env = less (gathered m (environments done) ps) xs }))))

-- the same of a row of this rule
abbrev pub rule_step : List Row → Rule → Result Step Refusal
rule_step done rule = step done (introduced (length done) rule) (premises rule) (binders rule)

-- what is wrong with a rule at type t, behind the rows of done
abbrev pub rule_fault : List TypeEntry → List Row → ℕ → Rule → Option Refusal
rule_fault es done t rule =
    let k = length done in
    cond (not (all_below k (premises rule))) (Some (PremiseNotLower (record { 0 = k })))
    (cond (not (none_in (taken done) (premises rule))) (Some (PremiseTaken (record { 0 = k })))
    (cond (not (binds_free (environments done) rule)) (Some (NotFree (record { 0 = k })))
    (cond (not (fits es done t rule)) (Some (TypeMismatch (record { 0 = k }))) None)))

-- the same of a row as it was read, which may lack a rule
abbrev pub known_fault : List TypeEntry → List Row → ℕ → Option Rule → Option Refusal
known_fault es done t None = Some (NoSuchGate (record { 0 = length done }))
known_fault es done t (Some rule) = rule_fault es done t rule

abbrev pub row_fault : List TypeEntry → List Row → Record → Option Refusal
row_fault es done r = cond (nat_lt (length es) r.ty.0) (Some (NoSuchType (record { 0 = length done }))) (known_fault es done r.ty.0 r.rule)

abbrev pub rule_or : Option Rule → Rule
rule_or None = Zero
rule_or (Some rule) = rule

-- the row that was read, and a row as it is read
abbrev pub row_of : Record → Row
row_of r = record { ty = r.ty; rule = rule_or r.rule }

abbrev pub record_of : Row → Record
record_of row = record { ty = row.ty; rule = Some row.rule }

-- the lowest number from q on, of n, that is not in m
abbrev pub lowest_missing : ℕ → ℕ → ℕ → Option Refusal
lowest_missing m q zero = None
lowest_missing m q (suc n) = cond (has m q) (lowest_missing m (suc q) n) (Some (UnusedRow (record { 0 = q })))

-- the lowest row but the last that is no premise
abbrev pub unused_fault : List Row → Option Refusal
unused_fault rows = lowest_missing (taken rows) 0 (length rows - 1)
