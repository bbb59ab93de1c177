-- The records of types and rows: what was written is read, and what is read was written.
use Rattle.std.proofs.Common.{◌≡◌, ℕ, zero, suc, ◌<◌, ltb, List, [], ◌∷◌, ◌++◌, map, length, get_or, take, Some, None, Option, refl, ap, ◌∙◌, ap₂, arith}
use Rattle.std.proofs.lemmas.Bool.Decides.{nat_tests}
use Rattle.basics.specs.declared.gate.Gate.{Gate as GateName}
use Rattle.basics.specs.declared.gate.Gate.TheVariants.{H, S, T, X, Z, Cx, Cz, Ccx}
use Rattle.derivation.specs.declared.types.TypeKind.{TypeKind}
use Rattle.derivation.specs.declared.types.TypeKind.TheVariants.{Arrow, Pair as PairKind}
use Rattle.derivation.specs.declared.types.TypeEntry.{TypeEntry}
use Rattle.derivation.specs.declared.rows.Rule.{Rule}
use Rattle.derivation.specs.declared.rows.Rule.TheVariants.{Variable, Zero, One, Gate, Lambda, PairLambda, Apply, Pair}
use Rattle.derivation.specs.declared.rows.Row.{Row}
use Rattle.derivation.specs.declared.rows.Record.{Record}
use Rattle.basics.specs.Gates.{code, gate_of}
use Rattle.derivation.specs.Rows.{row_of, record_of, rule_or, known_fault, row_fault}
use Rattle.derivation.specs.Format.{gate_rule, kind_code, type_bytes, row_bytes, rule_bytes, type_length, row_length, front_type, front_row, type_kind, rule_of}
use Rattle.derivation.specs.Faults.{first_fault}
use Rattle.derivation.specs.Reads.{Framed}
use Rattle.derivation.proofs.FaultLaws.{cond_none, or_else_both}
use Rattle.derivation.proofs.FormatCut.{take-firsts, Written, written_from, Exact}

-- types

-- no further kinds of types
type_unknown : (kind : ℕ) → 2 < kind → type_length kind ≡ 0
type_unknown kind h = grind (arith, nat_tests)

-- the bytes of a type record by its kind
type-found : (kind : ℕ) (left : List ℕ) → get_or left 1 0 ≡ kind → type_length kind ≡ get_or left 0 0 → Framed type_length left →
    take (suc (get_or left 0 0)) left ≡ type_bytes (record { kind = type_kind kind; left = record { 0 = get_or left 2 0 }; right = record { 0 = get_or left 3 0 } })
type-found zero left k e f = absurd (omega arith)
type-found (suc zero) left k e f = rw (← e) (take-firsts 0 4 left (omega arith) ∙ cc)
type-found (suc (suc zero)) left k e f = rw (← e) (take-firsts 0 4 left (omega arith) ∙ cc)
type-found (suc (suc (suc n))) left k e f = absurd (omega (arith, type_unknown (suc (suc (suc n))) (omega arith)))

-- both kinds of types have records of the same length
kind_length : (k : TypeKind) → type_length (kind_code k) ≡ 3
kind_length Arrow = refl
kind_length PairKind = refl

-- a kind's code is read as the kind
kind-again : (k : TypeKind) → type_kind (kind_code k) ≡ k
kind-again Arrow = refl
kind-again PairKind = refl

-- a type's record is read as the type
type-written : (e : TypeEntry) (rest : List ℕ) → Written type_length front_type (type_bytes e) rest e
type-written e rest =
    written_from type_length front_type 3 (kind_code e.kind) (e.left.0 ∷ e.right.0 ∷ []) rest e refl (kind_length e.kind)
    (ap (λ k. record { kind = k; left = e.left; right = e.right }) (kind-again e.kind))

pub types_exact : Exact (λ e. e) (λ e. e) type_length front_type type_bytes
types_exact = record { written = type-written; found = λ left f known. type-found (get_or left 1 0) left refl f.fitting f }

-- rows

-- no further gates
gate_unknown : (c : ℕ) → 8 < c → gate_of c ≡ None
gate_unknown c h = grind (arith, nat_tests)

-- a gate's code is read as the gate
gate-again : (g : GateName) → gate_of (code g) ≡ Some g
gate-again H = refl
gate-again S = refl
gate-again T = refl
gate-again X = refl
gate-again Z = refl
gate-again Cx = refl
gate-again Cz = refl
gate-again Ccx = refl

-- there is a rule
abbrev Known : Option Rule → Type 0
Known o = Some (rule_or o) ≡ o

-- a known gate has the code that it was read from
gate-found : (c t : ℕ) → Known (gate_rule (gate_of c)) → rule_bytes t (rule_or (gate_rule (gate_of c))) ≡ 3 ∷ 4 ∷ t ∷ c ∷ []
gate-found zero t known = cc
gate-found (suc zero) t known = refl
gate-found (suc (suc zero)) t known = refl
gate-found (suc (suc (suc zero))) t known = refl
gate-found (suc (suc (suc (suc zero)))) t known = refl
gate-found (suc (suc (suc (suc (suc zero))))) t known = refl
gate-found (suc (suc (suc (suc (suc (suc zero)))))) t known = refl
gate-found (suc (suc (suc (suc (suc (suc (suc zero))))))) t known = refl
gate-found (suc (suc (suc (suc (suc (suc (suc (suc zero)))))))) t known = refl
gate-found (suc (suc (suc (suc (suc (suc (suc (suc (suc n))))))))) t known =
    let c = suc (suc (suc (suc (suc (suc (suc (suc (suc n)))))))) in
    let none = rw (gate_unknown c (omega arith)) at known in
    cc none

-- no further kinds of rows
row_unknown : (kind : ℕ) → 8 < kind → row_length kind ≡ 0
row_unknown kind h = grind (arith, nat_tests)

-- the bytes of a row record by its kind
row-found : (kind : ℕ) (left : List ℕ) → get_or left 1 0 ≡ kind → row_length kind ≡ get_or left 0 0 → Framed row_length left →
    Known (rule_of kind (get_or left 3 0) (get_or left 4 0) (get_or left 5 0)) →
    take (suc (get_or left 0 0)) left ≡ rule_bytes (get_or left 2 0) (rule_or (rule_of kind (get_or left 3 0) (get_or left 4 0) (get_or left 5 0)))
row-found zero left k e f known = absurd (omega arith)
row-found (suc zero) left k e f known = rw (← e) (take-firsts 0 3 left (omega arith) ∙ cc)
row-found (suc (suc zero)) left k e f known = rw (← e) (take-firsts 0 3 left (omega arith) ∙ cc)
row-found (suc (suc (suc zero))) left k e f known = rw (← e) (take-firsts 0 3 left (omega arith) ∙ cc)
row-found (suc (suc (suc (suc zero)))) left k e f known = rw (← e) (take-firsts 0 4 left (omega arith) ∙ cc (gate-found (get_or left 3 0) (get_or left 2 0) known))
row-found (suc (suc (suc (suc (suc zero))))) left k e f known = rw (← e) (take-firsts 0 5 left (omega arith) ∙ cc)
row-found (suc (suc (suc (suc (suc (suc zero)))))) left k e f known = rw (← e) (take-firsts 0 6 left (omega arith) ∙ cc)
row-found (suc (suc (suc (suc (suc (suc (suc zero))))))) left k e f known = rw (← e) (take-firsts 0 5 left (omega arith) ∙ cc)
row-found (suc (suc (suc (suc (suc (suc (suc (suc zero)))))))) left k e f known = rw (← e) (take-firsts 0 5 left (omega arith) ∙ cc)
row-found (suc (suc (suc (suc (suc (suc (suc (suc (suc n))))))))) left k e f known =
    absurd (omega (arith, row_unknown (suc (suc (suc (suc (suc (suc (suc (suc (suc n))))))))) (omega arith)))

-- a rule's record is read as the rule
rule-written : (t : ℕ) (rule : Rule) (rest : List ℕ) →
    Written row_length front_row (rule_bytes t rule) rest (record { ty = record { 0 = t }; rule = Some rule })
rule-written t Variable rest = written_from row_length front_row 2 1 (t ∷ []) rest _ refl refl refl
rule-written t Zero rest = written_from row_length front_row 2 2 (t ∷ []) rest _ refl refl refl
rule-written t One rest = written_from row_length front_row 2 3 (t ∷ []) rest _ refl refl refl
rule-written t (Gate g) rest = written_from row_length front_row 3 4 (t ∷ code g ∷ []) rest _ refl refl (rw (gate-again g) refl)
rule-written t (Lambda p x) rest = written_from row_length front_row 4 5 (t ∷ p.0 ∷ x.0 ∷ []) rest _ refl refl refl
rule-written t (PairLambda p x y) rest = written_from row_length front_row 5 6 (t ∷ p.0 ∷ x.0 ∷ y.0 ∷ []) rest _ refl refl refl
rule-written t (Apply f a) rest = written_from row_length front_row 4 7 (t ∷ f.0 ∷ a.0 ∷ []) rest _ refl refl refl
rule-written t (Pair l r) rest = written_from row_length front_row 4 8 (t ∷ l.0 ∷ r.0 ∷ []) rest _ refl refl refl

pub rows_exact : Exact record_of row_of row_length front_row row_bytes
rows_exact = record {
  written = λ row rest. rule-written row.ty.0 row.rule rest;
  found = λ left f known. row-found (get_or left 1 0) left refl f.fitting f (ap (λ r. r.rule) known);
}

-- a row without fault has a rule
known_from : (es : List TypeEntry) (done : List Row) (t : ℕ) (o : Option Rule) → known_fault es done t o ≡ None → Known o
known_from es done t None e = cc
known_from es done t (Some rule) e = refl

-- rows without fault are the records that they were read from
pub rows-known : (es : List TypeEntry) (done : List Row) (records : List Record) →
    first_fault (row_fault es) row_of done records ≡ None → map record_of (map row_of records) ≡ records
unfolding first_fault
rows-known es done [] e = refl
rows-known es done (r ∷ rs) e =
    let p = or_else_both (row_fault es done r) _ e in
    let q = cond_none (ltb (length es) r.ty.0) _ _ p.0 in
    ap₂ (λ o l. record { ty = r.ty; rule = o } ∷ l)
    (known_from es done r.ty.0 r.rule q.1)
    (rows-known es (done ++ (row_of r ∷ [])) rs p.1)

-- rows are found again in what is read of them
pub rows-again : (rows : List Row) → map row_of (map record_of rows) ≡ rows
rows-again [] = refl
rows-again (row ∷ rows) = ap (λ l. row ∷ l) (rows-again rows)
