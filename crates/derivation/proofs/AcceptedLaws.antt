-- The checks of a derivation pass exactly if it keeps the typing rules.
use Rattle.std.proofs.Common.{◌≡◌, ℕ, ◌<◌, ◌≤◌, true, not, ltb, leb, List, [], ◌∷◌, map, length, get_or, take, is_some, Some, None, Option, sym, refl, ap, ◌∙◌, subst, arith}
use lib.ListN.{length-map}
use Rattle.std.proofs.lemmas.List.{get_or-take, length-take-le, take-map, get_or-map}
use Rattle.std.proofs.lemmas.Bool.{and_parts, and_from, not-true, not-false, not_from_true, not_from_false, both_ways, cond-false, leb-true, le-leb, ltb-true, ltb-false, lt-ltb, le-ltb, eqb-true, eqb-false, ne_eqb}
use Rattle.basics.specs.declared.gate.Gate.{Gate as GateName}
use Rattle.basics.specs.declared.gate.Gate.TheVariants.{H, S, T, X, Z, Cx, Cz, Ccx}
use Rattle.derivation.specs.declared.types.TypeKind.TheVariants.{Arrow, Pair as PairKind}
use Rattle.derivation.specs.declared.types.TypeEntry.{TypeEntry}
use Rattle.derivation.specs.declared.rows.Rule.{Rule}
use Rattle.derivation.specs.declared.rows.Rule.TheVariants.{Variable, Zero, One, Gate, Lambda, PairLambda, Apply, Pair}
use Rattle.derivation.specs.declared.rows.Row.{Row}
use Rattle.basics.specs.Sets.{has, union}
use Rattle.basics.specs.Gates.{arity}
use Rattle.derivation.specs.Trees.{Tree, qubit, arrow, pair, power, tree, types_fault}
use Rattle.derivation.specs.Rows.{premises, binders, introduced, gathered, less, environments, taken, none_in, all_in, binds_free, fits}
use Rattle.derivation.specs.Rows.{no_row, type_at, is_node, row_fault, row_of, record_of, unused_fault}
use Rattle.derivation.specs.Judgements.{Judgement, ◌⊢◌, Apart, rule_at, tree_at, judged, Follows}
use Rattle.derivation.specs.Judgements.{Infers, variable, zero_bit, one_bit, gate, abstraction, pair_abstraction, application, pairing}
use Rattle.derivation.specs.Places.{wires}
use Rattle.derivation.specs.Accepted.{Table, Accepted, rows_fault, valid}
use Rattle.derivation.proofs.FaultLaws.{cond_none, or_else_both, or_else_none, none_from, none_to}
use Rattle.basics.proofs.SetLaws.{has-without}
use Rattle.derivation.proofs.TreeLaws.{Lower, table-from, table_to, tree_zero, tree-node, tree-power, parts, node-tree, power-tree}
use Rattle.derivation.proofs.RowLaws.{premises_at, Below, Low, below_from_lem, below_to, once-from, unused_none, once_free}
use Rattle.derivation.proofs.RowLaws.{gathered-take, env-row, binders-low, apart-premises}

-- the judgement of premise i
abbrev premise : List Judgement → ℕ → Judgement
premise js i = get_or js i (0 ⊢ qubit)

-- what a rule says of the environments of its premises
abbrev Binding : Rule → List Judgement → Type 0
Binding Variable js = Unit {0}
Binding Zero js = Unit {0}
Binding One js = Unit {0}
Binding (Gate g) js = Unit {0}
Binding (Lambda p x) js = has (premise js 0).env x.0 ≡ true
Binding (PairLambda p x y) js = (has (premise js 0).env x.0 ≡ true) × (has (premise js 0).env y.0 ≡ true) × (x.0 ≡ y.0 → ⊥)
Binding (Apply f a) js = Unit {0}
Binding (Pair l r) js = Unit {0}

-- what a rule says of types; of gives each variable's type
abbrev Typing : (ℕ → Tree) → Rule → List Judgement → Judgement → Type 0
Typing of Variable js j = Unit {0}
Typing of Zero js j = j.type ≡ qubit
Typing of One js j = j.type ≡ qubit
Typing of (Gate g) js j = j.type ≡ arrow (power (arity g)) (power (arity g))
Typing of (Lambda p x) js j = j.type ≡ arrow (of x.0) (premise js 0).type
Typing of (PairLambda p x y) js j = j.type ≡ arrow (pair (of x.0) (of y.0)) (premise js 0).type
Typing of (Apply f a) js j = (premise js 0).type ≡ arrow (premise js 1).type j.type
Typing of (Pair l r) js j = j.type ≡ pair (premise js 0).type (premise js 1).type

-- what an inference says of the judgements that it joins
inverted : (of : ℕ → Tree) (k : ℕ) {rule : Rule} {js : List Judgement} {j : Judgement} → Infers of k rule js j → Binding rule js × Typing of rule js j
inverted of k variable = (tt, tt)
inverted of k zero_bit = (tt, refl)
inverted of k one_bit = (tt, refl)
inverted of k gate = (tt, refl)
inverted of k (abstraction h) = (h, refl)
inverted of k (pair_abstraction x y d) = ((x, y, d), refl)
inverted of k (application a) = (tt, refl)
inverted of k (pairing a) = (tt, refl)

-- the judgement of row r, by a list of environments and the type of each row
abbrev stated : List ℕ → (ℕ → Tree) → ℕ → Judgement
stated envs of r = get_or envs r 0 ⊢ of r

-- an inference between judgements with equal parts
restated : (of : ℕ → Tree) (k : ℕ) (rule : Rule) (js : List Judgement) (m n : ℕ) (a c : Tree)
    → n ≡ m → c ≡ a → Infers of k rule js (m ⊢ a) → Infers of k rule js (n ⊢ c)
restated of k rule js m n a c p q i = subst (λ l. Infers of k rule js (l ⊢ c)) (sym p) (subst (λ t. Infers of k rule js (m ⊢ t)) (sym q) i)

module _ (of : ℕ → Tree) (envs : List ℕ) where
  -- what a rule binds is free in its premise exactly if the rule's condition holds
  binding_from : (rule : Rule) → binds_free envs rule ≡ true → Binding rule (map (stated envs of) (premises rule))
  unfolding union
  binding_from Variable h = tt
  binding_from Zero h = tt
  binding_from One h = tt
  binding_from (Gate g) h = tt
  binding_from (Lambda p x) h = (and_parts (has (get_or envs p.0 0) x.0) true h).0
  binding_from (PairLambda p x y) h =
      let m = get_or envs p.0 0 in
      let (hx, rest) = and_parts (has m x.0) _ h in
      let (hy, d) = and_parts (has m y.0) _ (sym (has-without m x.0 y.0) ∙ (and_parts _ true rest).0) in
      (hx, hy, λ same. eqb-false y.0 x.0 (not-true _ d) (sym same))
  binding_from (Apply f a) h = tt
  binding_from (Pair l r) h = tt

  binding_to : (rule : Rule) → Binding rule (map (stated envs of) (premises rule)) → binds_free envs rule ≡ true
  unfolding union
  binding_to Variable b = refl
  binding_to Zero b = refl
  binding_to One b = refl
  binding_to (Gate g) b = refl
  binding_to (Lambda p x) b = and_from (has (get_or envs p.0 0) x.0) true b refl
  binding_to (PairLambda p x y) b =
      let m = get_or envs p.0 0 in
      let differ = not_from_false _ (ne_eqb y.0 x.0 (λ same. b.2 (sym same))) in
      and_from (has m x.0) _ b.0 (and_from _ true (has-without m x.0 y.0 ∙ and_from (has m y.0) _ b.1 differ) refl)
  binding_to (Apply f a) b = refl
  binding_to (Pair l r) b = refl

  -- a rule infers the judgement of row k
  inferred : (k : ℕ) (rule : Rule)
      → get_or envs k 0 ≡ less (gathered (introduced k rule) envs (premises rule)) (binders rule)
      → Binding rule (map (stated envs of) (premises rule))
      → ((p q : ℕ) → premises rule ≡ p ∷ q ∷ [] → Apart (get_or envs p 0) (get_or envs q 0))
      → Typing of rule (map (stated envs of) (premises rule)) (stated envs of k)
      → Infers of k rule (map (stated envs of) (premises rule)) (stated envs of k)
  unfolding union
  inferred k Variable e b a t = restated of k _ _ _ _ _ _ e refl variable
  inferred k Zero e b a t = restated of k _ _ _ _ _ _ e t zero_bit
  inferred k One e b a t = restated of k _ _ _ _ _ _ e t one_bit
  inferred k (Gate g) e b a t = restated of k _ _ _ _ _ _ e t gate
  inferred k (Lambda p x) e b a t = restated of k _ _ _ _ _ _ e t (abstraction b)
  inferred k (PairLambda p x y) e b a t = restated of k _ _ _ _ _ _ e t (pair_abstraction b.0 b.1 b.2)
  inferred k (Apply f a) e b d t =
      subst (λ c. Infers of k (Apply f a) ((get_or envs f.0 0 ⊢ c) ∷ stated envs of a.0 ∷ []) (stated envs of k)) (sym t)
      (restated of k _ _ _ _ _ _ e refl (application (d f.0 a.0 refl)))
  inferred k (Pair l r) e b d t = restated of k _ _ _ _ _ _ e t (pairing (d l.0 r.0 refl))

-- a gate acts on some wire
gate-some : (g : GateName) → 0 < arity g
gate-some H = omega arith
gate-some S = omega arith
gate-some T = omega arith
gate-some X = omega arith
gate-some Z = omega arith
gate-some Cx = omega arith
gate-some Cz = omega arith
gate-some Ccx = omega arith

-- the type of a row of the front
type-take : (rows : List Row) (k x : ℕ) → x < k → type_at (take k rows) x ≡ type_at rows x
type-take rows k x h = ap (λ (row : Row). row.ty.0) (get_or-take k rows x no_row h)

module _ (es : List TypeEntry) (rows : List Row) where
  -- the test of a type reads only rows of the front
  fits-take : (k t : ℕ) (rule : Rule) → Below k (premises rule) → Below k (binders rule) → fits es (take k rows) t rule ≡ fits es rows t rule
  fits-take k t Variable p b = refl
  fits-take k t Zero p b = refl
  fits-take k t One p b = refl
  fits-take k t (Gate g) p b = refl
  fits-take k t (Lambda q x) p b = rw (type-take rows k x.0 (b 0 (omega arith)), type-take rows k q.0 (p 0 (omega arith)))
  fits-take k t (PairLambda q x y) p b =
      rw (type-take rows k x.0 (b 0 (omega arith)), type-take rows k y.0 (b 1 (omega arith)), type-take rows k q.0 (p 0 (omega arith)))
  fits-take k t (Apply f a) p b = rw (type-take rows k f.0 (p 0 (omega arith)), type-take rows k a.0 (p 1 (omega arith)))
  fits-take k t (Pair l r) p b = rw (type-take rows k l.0 (p 0 (omega arith)), type-take rows k r.0 (p 1 (omega arith)))

  -- what a rule says of the types of row k and its premises
  abbrev Typed : ℕ → Rule → Type 0
  Typed k rule = Typing (tree_at es rows) rule (map (judged es rows) (premises rule)) (judged es rows k)

  -- the test of a type passes exactly if the type is what the rule says
  typed-from : Lower es → (k : ℕ) (rule : Rule) → fits es rows (type_at rows k) rule ≡ true → Typed k rule
  typed-from low k Variable h = tt
  typed-from low k Zero h = ap (tree es) (eqb-true _ 0 h) ∙ tree_zero es
  typed-from low k One h = ap (tree es) (eqb-true _ 0 h) ∙ tree_zero es
  typed-from low k (Gate g) h =
      let (node, power) = and_parts (is_node es Arrow (type_at rows k) _ _) _ h in
      tree-node es low Arrow _ _ _ node ∙ ap (λ a. arrow a a) (tree-power es low (arity g) _ power)
  typed-from low k (Lambda p x) h = tree-node es low Arrow _ _ _ h
  typed-from low k (PairLambda p x y) h =
      let (node, left) = and_parts (is_node es Arrow (type_at rows k) _ _) _ h in
      tree-node es low Arrow _ _ _ node ∙ ap (λ a. arrow a (tree_at es rows p.0)) (tree-node es low PairKind _ _ _ left)
  typed-from low k (Apply f a) h = tree-node es low Arrow _ _ _ h
  typed-from low k (Pair l r) h = tree-node es low PairKind _ _ _ h

  typed_to : Table es → (k : ℕ) → type_at rows k ≤ length es → ((r : ℕ) → r < k → type_at rows r ≤ length es)
      → (rule : Rule) → Below k (premises rule) → Below k (binders rule) → Typed k rule → fits es rows (type_at rows k) rule ≡ true
  typed_to table k h known Variable p b t = refl
  typed_to table k h known Zero p b t = power-tree es table 1 _ (omega arith) h t
  typed_to table k h known One p b t = power-tree es table 1 _ (omega arith) h t
  typed_to table k h known (Gate g) p b t =
      let n = parts es table Arrow (type_at rows k) (power (arity g)) (power (arity g)) h t in
      and_from _ _
      (node-tree es table Arrow _ _ _ h n.left_known n.left_known (t ∙ ap (λ a. arrow a a) (sym n.left_tree)))
      (power-tree es table (arity g) _ (gate-some g) n.left_known n.left_tree)
  typed_to table k h known (Lambda q x) p b t =
      node-tree es table Arrow _ _ _ h (known x.0 (b 0 (omega arith))) (known q.0 (p 0 (omega arith))) t
  typed_to table k h known (PairLambda q x y) p b t =
      let n = parts es table Arrow (type_at rows k) _ _ h t in
      and_from _ _
      (node-tree es table Arrow _ _ _ h n.left_known (known q.0 (p 0 (omega arith))) (t ∙ ap (λ a. arrow a (tree_at es rows q.0)) (sym n.left_tree)))
      (node-tree es table PairKind _ _ _ n.left_known (known x.0 (b 0 (omega arith))) (known y.0 (b 1 (omega arith))) n.left_tree)
  typed_to table k h known (Apply f a) p b t =
      node-tree es table Arrow _ _ _ (known f.0 (p 0 (omega arith))) (known a.0 (p 1 (omega arith))) h t
  typed_to table k h known (Pair l r) p b t =
      node-tree es table PairKind _ _ _ h (known l.0 (p 0 (omega arith))) (known r.0 (p 1 (omega arith))) t

-- a row with no fault, behind the rows before it
record Sound (es : List TypeEntry) (rows : List Row) (k : ℕ) : Type 0 where
  known : type_at rows k ≤ length es
  lower : Below k (premises_at rows k)
  new : none_in (taken (take k rows)) (premises_at rows k) ≡ true
  bound : binds_free (environments (take k rows)) (rule_at rows k) ≡ true
  typed : fits es (take k rows) (type_at rows k) (rule_at rows k) ≡ true

-- rows are read back as they are
read_back : (rows : List Row) → map row_of (map record_of rows) ≡ rows
read_back [] = refl
read_back (row ∷ rows) = ap {B = List Row} (λ l. row ∷ l) (read_back rows)

module _ (es : List TypeEntry) (rows : List Row) where
  -- a row is sound exactly if it has no fault
  sound-from : (k : ℕ) → k < length rows → row_fault es (take k rows) (record_of (get_or rows k no_row)) ≡ None → Sound es rows k
  sound-from k h e =
      let n = length-take-le k rows (omega arith) in
      let (known, e1) = cond_none _ _ _ e in
      let (lower, e2) = cond_none _ _ _ e1 in
      let (new, e3) = cond_none _ _ _ e2 in
      let (bound, e4) = cond_none _ _ _ e3 in
      record {
        known = ltb-false _ _ known;
        lower = subst (λ m. Below m (premises_at rows k)) n (below_from_lem _ _ (not-false _ lower));
        new = not-false _ new;
        bound = not-false _ bound;
        typed = not-false _ (cond_none _ _ _ e4).0;
      }

  sound_to : (k : ℕ) → k < length rows → Sound es rows k → row_fault es (take k rows) (record_of (get_or rows k no_row)) ≡ None
  sound_to k h s =
      let n = length-take-le k rows (omega arith) in
      cond-false _ _ _ (le-ltb _ _ s.known)
      ∙ cond-false _ _ _ (not_from_true _ (below_to _ _ (subst (λ m. Below m (premises_at rows k)) (sym n) s.lower)))
      ∙ cond-false _ _ _ (not_from_true _ s.new)
      ∙ cond-false _ _ _ (not_from_true _ s.bound)
      ∙ cond-false _ _ _ (not_from_true _ s.typed)

  -- the fault of row k, as the rows are read
  fault-at : (k : ℕ) → k < length rows
      → row_fault es (map row_of (take k (map record_of rows))) (get_or (map record_of rows) k (record_of no_row)) ≡ row_fault es (take k rows) (record_of (get_or rows k no_row))
  fault-at k h =
      ap (λ done. row_fault es done (get_or (map record_of rows) k (record_of no_row))) (ap (map row_of) (take-map record_of k rows) ∙ read_back (take k rows))
      ∙ ap (row_fault es (take k rows)) (get_or-map record_of rows k no_row (record_of no_row) h)

  -- the rows have no fault exactly if none of them has one
  sounds_from : rows_fault es (map record_of rows) ≡ None → (k : ℕ) → k < length rows → Sound es rows k
  sounds_from e k h =
      sound-from k h (sym (fault-at k h) ∙ none_from (row_fault es) row_of [] (map record_of rows) (record_of no_row) e k (rw (length-map rows record_of) h))

  sounds_to : ((k : ℕ) → k < length rows → Sound es rows k) → rows_fault es (map record_of rows) ≡ None
  sounds_to s =
      none_to (row_fault es) row_of [] (map record_of rows) (record_of no_row)
      (λ k h. let l = subst (λ n. k < n) (length-map rows record_of) h in fault-at k l ∙ sound_to k l (s k l))

  -- a row binds the same in the front as in all rows
  bound-take : (k : ℕ) (rule : Rule) → k ≤ length rows → Below k (premises rule) → binds_free (environments (take k rows)) rule ≡ binds_free (environments rows) rule
  bound-take k rule h low = ap (λ m. all_in m (binders rule)) (gathered-take rows k 0 (premises rule) h low)

  -- sound rows follow by their rules
  follows-from : Lower es → ((k : ℕ) → k < length rows → Sound es rows k) → (r : ℕ) → r < length rows → Follows es rows r
  follows-from parts_low s r h =
      let low : Low rows = λ k l. (s k l).lower in
      let free = sym (bound-take r (rule_at rows r) (omega arith) (low r h)) ∙ (s r h).bound in
      inferred (tree_at es rows) (environments rows) r (rule_at rows r)
      (env-row rows r h (low r h))
      (binding_from (tree_at es rows) (environments rows) (rule_at rows r) free)
      (λ p q. apart-premises rows low (λ k l. (s k l).new) r p q h)
      (typed-from es rows parts_low r (rule_at rows r)
      (sym (fits-take es rows r (type_at rows r) (rule_at rows r) (low r h) (binders-low rows low r (binders (rule_at rows r)) h free)) ∙ (s r h).typed))

  -- the rows of an accepted derivation are sound
  sounds_since : Accepted es rows → (k : ℕ) → k < length rows → Sound es rows k
  sounds_since a k h =
      let (b, t) = inverted (tree_at es rows) k (a.follows k h) in
      let free = binding_to (tree_at es rows) (environments rows) (rule_at rows k) b in
      let bound = binders-low rows a.lower k (binders (rule_at rows k)) h free in
      record {
        known = a.known k h;
        lower = a.lower k h;
        new = once_free rows a.lower a.once k h;
        bound = bound-take k (rule_at rows k) (omega arith) (a.lower k h) ∙ free;
        typed =
            fits-take es rows k (type_at rows k) (rule_at rows k) (a.lower k h) bound
            ∙ typed_to es rows a.table k (a.known k h) (λ r l. a.known r (omega arith)) (rule_at rows k) (a.lower k h) bound t;
      }

-- no fault is found exactly if there is none
no_fault : {R : Type 0} (o : Option R) → not (is_some o) ≡ true → o ≡ None
no_fault (Some r) e = absurd (both_ways _ refl e)
no_fault None e = refl

fault_none : {R : Type 0} (o : Option R) → o ≡ None → not (is_some o) ≡ true
fault_none o e = rw e refl

-- the checks pass only if the derivation keeps the typing rules
pub accepted_from_valid : (es : List TypeEntry) (rows : List Row) → valid es rows ≡ true → Accepted es rows
unfolding valid
accepted_from_valid es rows v =
    let (types-few, v1) = and_parts (leb (length es) 64) _ v in
    let (some, v2) = and_parts (ltb 0 (length rows)) _ v1 in
    let (rows_few, v3) = and_parts (leb (length rows) 128) _ v2 in
    let (types, e1) = or_else_both (types_fault es) _ (no_fault _ v3) in
    let (each, e2) = or_else_both (rows_fault es (map record_of rows)) _ e1 in
    let (unused, wide) = or_else_both (unused_fault (map row_of (map record_of rows))) _ e2 in
    let s = sounds_from es rows each in
    let table = table-from es (leb-true _ _ types-few) types in
    record {
      table = table;
      some = ltb-true _ _ some;
      few = leb-true _ _ rows_few;
      known = λ r h. (s r h).known;
      lower = λ r h. (s r h).lower;
      follows = follows-from es rows table.lower s;
      once = once-from rows (λ k h. (s k h).new) (ap unused_fault (sym (read_back rows)) ∙ unused);
      wired = subst (λ l. wires es l ≤ 32) (read_back rows) (ltb-false _ _ (cond_none _ _ _ wide).0);
    }

-- the checks pass if the derivation keeps the typing rules
pub valid-from_accepted : (es : List TypeEntry) (rows : List Row) → Accepted es rows → valid es rows ≡ true
unfolding valid
valid-from_accepted es rows a =
    and_from _ _ (le-leb _ _ a.table.few)
    (and_from _ _ (lt-ltb _ _ a.some)
    (and_from _ _ (le-leb _ _ a.few)
    (fault_none _
    (or_else_none _ _ (table_to es a.table)
    ∙ or_else_none _ _ (sounds_to es rows (sounds_since es rows a))
    ∙ or_else_none _ _ (ap unused_fault (read_back rows) ∙ unused_none rows a.once)
    ∙ cond-false _ _ _ (le-ltb _ _ (subst (λ l. wires es l ≤ 32) (sym (read_back rows)) a.wired))))))
