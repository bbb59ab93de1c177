-- Reading one record after another: what was read is what was written.
use Rattle.std.proofs.Common.{◌≡◌, ℕ, zero, suc, ◌+◌, ◌≤◌, Bool, true, false, cond, ◌||◌, eqb, ltb, List, [], ◌∷◌, ◌++◌, map, length, get_or, take, drop, Some, None, Ok, Err, Option, Result, sym, refl, ap, ◌∙◌, subst, ap₂, append_assoc, arith, drop-cons}
use Rattle.std.specs.List.{flat_map}
use Rattle.std.proofs.lemmas.List.{take-append-drop, drop_at, length-append}
use Rattle.std.proofs.lemmas.Bool.{or_parts, or_from, ltb-false, le-ltb, eqb-true, eqb-false, eq-eqb, ne_eqb, cond-true, cond-false}
use Rattle.basics.specs.declared.refusal.Refusal.{Refusal}
use Rattle.derivation.specs.Format.{unless, and_then, record_fault, Cut, prepend, cut}
use Rattle.derivation.specs.Reads.{Framed}
use Rattle.derivation.proofs.FaultLaws.{cond_none}

-- a check that passes only if its test does
pub cond_none-some : {R : Type 0} (b : Bool) (r : R) → cond b None (Some r) ≡ None → b ≡ true
cond_none-some true r e = refl
cond_none-some false r e = cc

-- one result is not read as two
pub ok_same : {A : Type 0} {x y : A} → ◌≡◌ {A = Result A Refusal} (Ok x) (Ok y) → x ≡ y
ok_same e = cc

-- a reading that came to a result: no fault before it
pub unless_ok : {A : Type 0} (o : Option Refusal) (r : Result A Refusal) (x : A) → unless o r ≡ Ok x → (o ≡ None) × (r ≡ Ok x)
unless_ok (Some f) r x e = cc
unless_ok None r x e = (refl, e)

-- two readings in turn that came to a result: so did each
pub and_then_ok : {A B : Type 0} (r : Result A Refusal) (f : A → Result B Refusal) (y : B) → and_then r f ≡ Ok y → (x : A) × (r ≡ Ok x) × (f x ≡ Ok y)
and_then_ok (Ok x) f y e = (x, refl, e)
and_then_ok (Err d) f y e = cc

-- an item in front of a reading that came to a result: the rest did
pub prepend_ok : {A : Type 0} (x : A) (r : Result (Cut A) Refusal) (c : Cut A) → prepend x r ≡ Ok c →
    (d : Cut A) × (r ≡ Ok d) × (c.items ≡ x ∷ d.items) × (c.rest ≡ d.rest)
prepend_ok x (Ok d) c e = let same = ok_same e in (d, refl, sym (ap (λ z. z.items) same), sym (ap (λ z. z.rest) same))
prepend_ok x (Err d) c e = cc

-- the n elements of a list from place i on
abbrev pub firsts : ℕ → ℕ → List ℕ → List ℕ
firsts i zero xs = []
firsts i (suc n) xs = get_or xs i 0 ∷ firsts (suc i) n xs

-- the front of a list, element by element
pub take-firsts : (i n : ℕ) (xs : List ℕ) → i + n ≤ length xs → take n (drop i xs) ≡ firsts i n xs
take-firsts i zero xs h = refl
take-firsts i (suc n) xs h =
    ap (take (suc n)) (drop-cons xs i 0 (omega arith))
    ∙ ap (λ l. get_or xs i 0 ∷ l) (take-firsts (suc i) n xs (omega arith))

-- a record is so exactly if it has no fault
pub framed-from_none : (length_of : ℕ → ℕ) (total : ℕ) (left : List ℕ) → record_fault length_of total left ≡ None → Framed length_of left
framed-from_none length_of total left e =
    let n = get_or left 0 0 in
    let m = length_of (get_or left 1 0) in
    let p = cond_none (eqb n 0 || ltb (length left) (1 + n)) _ _ e in
    let q = cond_none (eqb m 0) _ _ p.1 in
    let bounds = or_parts (eqb n 0) (ltb (length left) (1 + n)) p.0 in
    let some = eqb-false n 0 bounds.0 in
    let within = ltb-false (length left) (1 + n) bounds.1 in
    record { some = omega arith; within = omega arith; fitting = eqb-true m n (cond_none-some _ _ q.1) }

pub none_from_framed : (length_of : ℕ → ℕ) (total : ℕ) (left : List ℕ) → Framed length_of left → record_fault length_of total left ≡ None
none_from_framed length_of total left f =
    let n = get_or left 0 0 in
    let m = length_of (get_or left 1 0) in
    cond-false (eqb n 0 || ltb (length left) (1 + n)) _ _
    (or_from _ _ (ne_eqb n 0 (λ e. omega arith)) (le-ltb (length left) (1 + n) (omega arith)))
    ∙ cond-false (eqb m 0) _ _ (ne_eqb m 0 (λ e. omega arith))
    ∙ cond-true (eqb m n) _ _ (eq-eqb m n f.fitting)

-- the bytes of a record, with rest behind them, are read as y, up to rest
pub record Written {A : Type 0} (length_of : ℕ → ℕ) (front : List ℕ → A) (bytes rest : List ℕ) (y : A) : Type 0 where
  pub framed : Framed length_of (bytes ++ rest)
  pub again : front (bytes ++ rest) ≡ y
  pub behind : drop (1 + get_or (bytes ++ rest) 0 0) (bytes ++ rest) ≡ rest

-- a record of a length byte, a kind and more, as its kind wants it
pub written_from : {A : Type 0} (length_of : ℕ → ℕ) (front : List ℕ → A) (n kind : ℕ) (more rest : List ℕ) (y : A) →
    suc (length more) ≡ n → length_of kind ≡ n → front (n ∷ kind ∷ (more ++ rest)) ≡ y → Written length_of front (n ∷ kind ∷ more) rest y
written_from length_of front n kind more rest y l f e = record {
  framed = record { some = omega arith; within = simp length-append (omega arith); fitting = f };
  again = e;
  behind = drop_at (n ∷ kind ∷ more) rest (1 + n) (omega arith);
}

-- Records of some kind, written from X and read as A, which stand for one another by to and from:
-- what was written is read, and what is read, and has something in X that it stands for, was written.
pub record Exact {X A : Type 0} (to : X → A) (from : A → X) (length_of : ℕ → ℕ) (front : List ℕ → A) (write : X → List ℕ) : Type 0 where
  pub written : (x : X) (rest : List ℕ) → Written length_of front (write x) rest (to x)
  pub found : (left : List ℕ) → Framed length_of left → to (from (front left)) ≡ front left →
      take (suc (get_or left 0 0)) left ≡ write (from (front left))

-- as many items are cut off as were asked for
pub cut-length : {A : Type 0} (length_of : ℕ → ℕ) (front : List ℕ → A) (total n : ℕ) (left : List ℕ) (c : Cut A) →
    cut length_of front total n left ≡ Ok c → length c.items ≡ n
unfolding cut
cut-length length_of front total zero left c e = sym (ap (λ z. length z.items) (ok_same e))
cut-length length_of front total (suc n) left c e =
    let p = unless_ok (record_fault length_of total left) _ c e in
    let q = prepend_ok (front left) _ c p.1 in
    ap length q.2 ∙ ap suc (cut-length length_of front total n _ q.0 q.1)

module _ {X A : Type 0} {to : X → A} {from : A → X} {length_of : ℕ → ℕ} {front : List ℕ → A} {write : X → List ℕ}
    (exact : Exact to from length_of front write) where
  -- one record that was read, in front of those behind it
  found_front : (left : List ℕ) (xs : List X) (rest : List ℕ) → Framed length_of left → to (from (front left)) ≡ front left →
      drop (1 + get_or left 0 0) left ≡ flat_map write xs ++ rest → left ≡ flat_map write (from (front left) ∷ xs) ++ rest
  found_front left xs rest f known behind =
      let n = get_or left 0 0 in
      let one : 1 + n ≡ suc n = omega arith in
      sym (take-append-drop (suc n) left)
      ∙ ap₂ ◌++◌ (exact.found left f known) (ap (λ k. drop k left) (sym one) ∙ behind)
      ∙ sym (append_assoc (write (from (front left))) (flat_map write xs) rest)

  -- bytes that were cut into items were written from them
  pub cut-sound : (total n : ℕ) (left : List ℕ) (c : Cut A) → cut length_of front total n left ≡ Ok c →
      map to (map from c.items) ≡ c.items → left ≡ flat_map write (map from c.items) ++ c.rest
  unfolding cut
  cut-sound total zero left c e known = ap (λ z. flat_map write (map from z.items) ++ z.rest) (ok_same e)
  cut-sound total (suc n) left c e known =
      let p = unless_ok (record_fault length_of total left) _ c e in
      let q = prepend_ok (front left) _ c p.1 in
      let d = q.0 in
      let all = subst (λ l. map to (map from l) ≡ l) q.2 known in
      let here : to (from (front left)) ≡ front left = cc all in
      let behind : map to (map from d.items) ≡ d.items = cc all in
      found_front left (map from d.items) d.rest
      (framed-from_none length_of total left p.0) here (cut-sound total n _ d q.1 behind)
      ∙ ap₂ (λ l r. flat_map write (map from l) ++ r) (sym q.2) (sym q.3)

  -- bytes that were written are cut into the items
  pub cut_complete : (total : ℕ) (xs : List X) (rest : List ℕ) →
      cut length_of front total (length xs) (flat_map write xs ++ rest) ≡ Ok (record { items = map to xs; rest = rest })
  unfolding cut
  cut_complete total [] rest = refl
  cut_complete total (x ∷ xs) rest =
      let more = flat_map write xs ++ rest in
      let w = exact.written x more in
      let fine = none_from_framed length_of total (write x ++ more) w.framed in
      rw (append_assoc (write x) (flat_map write xs) rest, fine, w.again, w.behind, cut_complete total xs rest) refl
