-- What the code learns of rows while it checks one row.
use Rattle.std.proofs.Common.{◌≡◌, ℕ, zero, suc, ◌+◌, ◌≤◌, Bool, true, false, cond, if◌then◌else◌, not, ltb, List, [], ◌∷◌, ◌++◌, length, Some, None, Option, Ok, Err, sym, refl, ap, ◌∙◌, subst, ap₂, zero-add, add-one, arith}
use Rattle.std.proofs.lemmas.List.Folds.{list_all-map}
use Rattle.std.proofs.lemmas.List.Sums.{fold-append}
use Rattle.std.specs.List.{find, list_all, range_with_len}
use Rattle.std.specs.Option.{ok_or, option_map}
use Rattle.std.specs.Result.{result_err}
use Rattle.derivation.specs.declared.check.Step.{Step}
use Rattle.std.proofs.lemmas.Bool.{le-ltb, and_parts, and_from, ltb-true, lt-ltb}
use Rattle.derivation.specs.declared.types.TypeEntry.{TypeEntry}
use Rattle.basics.specs.declared.numbers.RowId.{RowId}
use Rattle.derivation.specs.declared.rows.Rule.{Rule}
use Rattle.derivation.specs.declared.rows.Rule.TheVariants.{Variable, Zero, One, Gate, Lambda, PairLambda, Apply, Pair}
use Rattle.derivation.specs.declared.rows.Row.{Row}
use Rattle.derivation.specs.declared.rows.Record.{Record}
use Rattle.basics.specs.declared.refusal.Refusal.TheVariants.{UnusedRow, PremiseNotLower, PremiseTaken, NotFree, TypeMismatch}
use Rattle.basics.specs.Sets.{has}
use Rattle.derivation.specs.Growth.{grown}
use Rattle.derivation.specs.Rows.{premises, binders, introduced, gathered, less, environment, environments, lowest_missing, taken, including, all_below, none_in, all_in, binds_free, row_fault, numbers, fits, rule_step, step, taking, releasing}
use Rattle.derivation.specs.Faults.{or_else}
use Rattle.derivation.proofs.GrowthLaws.{grown-push, length-grown}

-- the checks of premises and of what is bound, and then one more
then_one : {A B : Type 0} (a b c : Bool) (x y z : B) (v : A) (o : Option B) →
    cond (not a) (Some x) (cond (not b) (Some y) (cond (not c) (Some z) o)) ≡ or_else (result_err (cond (not a) (Err x) (cond (not b) (Err y) (cond (not c) (Err z) (Ok v))))) o
then_one false b c x y z v o = refl
then_one true false c x y z v o = refl
then_one true true false x y z v o = refl
then_one true true true x y z v o = refl

ok_then : {A B : Type 0} (a b c : Bool) (x y z : B) (v w : A) → Ok v ≡ cond (not a) (Err x) (cond (not b) (Err y) (cond (not c) (Err z) (Ok w))) → v ≡ w
ok_then false b c x y z v w e = cc
ok_then true false c x y z v w e = cc
ok_then true true false x y z v w e = cc
ok_then true true true x y z v w e = cc

-- what a row introduces is not what it binds
bound-own : (done : List Row) (rule : Rule) → result_err (rule_step done rule) ≡ result_err (step done 0 (premises rule) (binders rule))
bound-own done Variable = refl
bound-own done Zero = refl
bound-own done One = refl
bound-own done (Gate g) = refl
bound-own done (Lambda p x) = refl
bound-own done (PairLambda p x y) = refl
bound-own done (Apply f a) = refl
bound-own done (Pair l r) = refl

-- a row has its rule's fault, and otherwise a type that fits
pub row-fault : (es : List TypeEntry) (done : List Row) (r : Record) (rule : Rule) → r.ty.0 ≤ length es → r.rule ≡ Some rule →
    row_fault es done r ≡ or_else (result_err (rule_step done rule)) (cond (not (fits es done r.ty.0 rule)) (Some (TypeMismatch (record { 0 = length done }))) None)
row-fault es done r rule known read =
    rw (le-ltb (length es) r.ty.0 known, read, bound-own done rule)
    (then_one (all_below (length done) (premises rule)) (none_in (taken done) (premises rule)) (binds_free (environments done) rule) _ _ _ _ _)

-- one row more
pub environments-push : (rows : List Row) (row : Row) → environments (rows ++ row ∷ []) ≡ environments rows ++ environment (environments rows) row ∷ []
unfolding environments
environments-push rows row = grown-push environment [] rows row

pub taken-push : (rows : List Row) (row : Row) → taken (rows ++ row ∷ []) ≡ including (taken rows) (premises row.rule)
unfolding taken
taken-push rows row = fold-append (λ n (r : Row). including n (premises r.rule)) 0 rows (row ∷ [])

pub environments_none : environments [] ≡ []
unfolding environments grown
environments_none = refl

pub taken_none : taken [] ≡ 0
unfolding taken
taken_none = refl

pub length-environments : (rows : List Row) → length (environments rows) ≡ length rows
unfolding environments
length-environments rows = length-grown environment [] rows ∙ zero-add (length rows)

-- the environment that a row adds
pub env-step : (rows : List Row) (row : Row) (v : Step) → Ok v ≡ rule_step rows row.rule → (v.taken ≡ including (taken rows) (premises row.rule)) × (v.env ≡ environment (environments rows) row)
env-step rows row v e =
    let envs = environments rows in
    let m = introduced (length rows) row.rule in
    let same = ok_then (all_below (length rows) (premises row.rule)) (none_in (taken rows) (premises row.rule)) (all_in (gathered m envs (premises row.rule)) (binders row.rule)) _ _ _ v _ e in (
      ap (λ (s : Step). s.taken) same,
      ap (λ (s : Step). s.env) same ∙ ap (λ n. less (gathered (introduced n row.rule) envs (premises row.rule)) (binders row.rule)) (sym (length-environments rows)),
    )

-- lower premises are rows
all_below-more : (j k : ℕ) (ps : List ℕ) → j ≤ k → all_below j ps ≡ true → all_below k ps ≡ true
all_below-more j k [] h e = refl
all_below-more j k (p ∷ ps) h e =
    let b = and_parts (ltb p j) (all_below j ps) e in
    let low = ltb-true p j b.0 in
    and_from (ltb p k) (all_below k ps) (lt-ltb p k (omega arith)) (all_below-more j k ps h b.1)

-- a value that is there if a test holds
some_if : {A : Type 0} (b : Bool) (x y : A) → (if b then Some x else None) ≡ Some y → (b ≡ true) × (y ≡ x)
some_if true x y e = (refl, cc)
some_if false x y e = cc

none_if : {A : Type 0} (b : Bool) (x : A) → (if b then Some x else None) ≡ None → b ≡ false
none_if true x e = cc
none_if false x e = refl

-- the error in place of what is not there
pub err_if_none : {A E : Type 0} (o : Option A) (e x : E) → o ≡ None → Err x ≡ ok_or o e → x ≡ e
err_if_none None e x h k = cc
err_if_none (Some a) e x h k = cc

-- the checks of premises and of what is bound, in their order, behind the rows of done
module _ (done : List Row) (k : RowId) (at : k.0 ≡ length done) (own : ℕ) (ps xs : List RowId) where
  lower : (b : Bool) → list_all (λ p. ltb p.0 k.0) ps ≡ b → all_below (length done) (numbers ps) ≡ b
  lower b e = subst (λ n. all_below n (numbers ps) ≡ b) at (list_all-map (λ p. ltb p k.0) (λ (p : RowId). p.0) ps ∙ e)

  pub not_lower : list_all (λ p. ltb p.0 k.0) ps ≡ false → Err (PremiseNotLower k) ≡ step done own (numbers ps) (numbers xs)
  not_lower e = rw (lower false e) (ap (λ n. Err (PremiseNotLower (record { 0 = n }))) at)

  module _ (low : list_all (λ p. ltb p.0 k.0) ps ≡ true) where
    pub below_all : length done ≤ 128 → all_below 128 (numbers ps) ≡ true
    below_all h = all_below-more (length done) 128 (numbers ps) h (lower true low)

    pub not_free : taking (taken done) (numbers ps) ≡ None → Err (PremiseTaken k) ≡ step done own (numbers ps) (numbers xs)
    not_free e = rw (lower true low, none_if _ _ e) (ap (λ n. Err (PremiseTaken (record { 0 = n }))) at)

    module _ (m : ℕ) (free : taking (taken done) (numbers ps) ≡ Some m) where
      pub not_held : releasing (gathered own (environments done) (numbers ps)) (numbers xs) ≡ None → Err (NotFree k) ≡ step done own (numbers ps) (numbers xs)
      not_held e = rw (lower true low, (some_if _ _ _ free).0, none_if _ _ e) (ap (λ n. Err (NotFree (record { 0 = n }))) at)

      pub stands : (env : ℕ) → releasing (gathered own (environments done) (numbers ps)) (numbers xs) ≡ Some env → Ok (record { taken = m; env = env }) ≡ step done own (numbers ps) (numbers xs)
      stands env e = rw (lower true low, (some_if _ _ _ free).0, (some_if _ _ _ e).0) (ap₂ (λ t v. Ok (record { taken = t; env = v })) (some_if _ _ _ free).1 (some_if _ _ _ e).1)

-- a record of no row, where a list of records has no further one
abbrev pub no_record : Record
no_record = record { ty = record { 0 = 0 }; rule = None }

-- the lowest row that is no premise is found by a search from row q on
pub missing-found : (m q n : ℕ) → lowest_missing m q n ≡ option_map (λ k. UnusedRow (record { 0 = k })) (find (λ k. not (has m k)) (range_with_len q n))
missing-found m q zero = refl
missing-found m q (suc n) = elim (has m q) as (λ b. cond b (lowest_missing m (suc q) n) (Some (UnusedRow (record { 0 = q }))) ≡ option_map (λ k. UnusedRow (record { 0 = k })) (cond (not b) (Some q) (find (λ k. not (has m k)) (range_with_len (q + 1) n)))) [
  | true ↦ ap (λ k. lowest_missing m k n) (sym (add-one q)) ∙ missing-found m (q + 1) n
  | false ↦ refl
]
