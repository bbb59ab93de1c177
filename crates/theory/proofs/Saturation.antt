-- A set of places that holds the starts and is closed under the moves holds all places.
use Rattle.std.proofs.Common.{◌≡◌, ℕ, zero, suc, ◌+◌, ◌-◌, ◌<◌, ◌≤◌, true, false, not, eqb, ◌⊎◌, List, [], ◌∷◌, length, unwrap_or, sym, refl, ap, ◌∙◌, subst, inl, inr, ⊎_elim, arith}
use mathlib.Core.Path.{subst⁻¹}
use Rattle.std.proofs.lemmas.Bool.{and_parts, and_from, and_left, and_right, or_cases, or_left, or_right, not-true, not_from_true, not_from_false, both_ways, cond-true, cond-false, cases_lt, cases_eq, eqb-true, eq-eqb, ne_eqb}
use Rattle.basics.specs.declared.gate.Gate.{Gate as GateName}
use Rattle.derivation.specs.declared.types.TypeEntry.{TypeEntry}
use Rattle.basics.specs.declared.numbers.RowId.{RowId}
use Rattle.derivation.specs.declared.rows.Rule.{Rule}
use Rattle.derivation.specs.declared.rows.Rule.TheVariants.{Variable, Zero, One, Gate, Lambda, PairLambda, Apply, Pair}
use Rattle.derivation.specs.declared.rows.Row.{Row}
use Rattle.derivation.specs.declared.rows.Part.{Part}
use Rattle.derivation.specs.declared.rows.Part.TheVariants.{Ty, Variable as Var}
use Rattle.derivation.specs.declared.rows.Place.{Place}
use Rattle.basics.specs.Sets.{has}
use Rattle.basics.specs.Gates.{arity}
use Rattle.derivation.specs.Trees.{qubit, atoms, positive, power}
use Rattle.derivation.specs.Rows.{premises}
use Rattle.derivation.specs.Judgements.{Apart, rule_at, env_at, tree_at}
use Rattle.derivation.specs.Places.{negative, is_bit}
use Rattle.derivation.specs.Accepted.{Accepted}
use Rattle.theory.specs.Ports.{at, held, listed, below, width, part_width, is_place, is_end, is_start}
use Rattle.theory.specs.Tokens.{among, together, advance}
use Rattle.theory.specs.Steps.{Joins, Enters}
use Rattle.theory.specs.Laws.{StartLaws, Saturates}
use Rattle.theory.proofs.Basics.{listed-first, listed-second, listed-one, listed_two}
use Rattle.theory.proofs.Belows.{premise-lower, below_row}
use Rattle.theory.proofs.Signs.{Together, Closed, rule_says, arrow-left, power-atoms}
use Rattle.theory.proofs.Ways.{place, part_has, place_at_lem, place-held, place-parts, row-among, mates-from, seat_is, together_seat, next-seat, seat_place, seat_no_end}
use Rattle.theory.proofs.Links.{Linked, Link, premise-listed, premise-row}
use Rattle.theory.proofs.Links.{lambda-bound, lambda-body, lambda-environment, pair-bound-first, pair-bound-second, pair_body, pair-lambda-environment}
use Rattle.theory.proofs.Links.{apply-result, apply-environment, pair-first, pair-second, pair-environment}
use Rattle.theory.proofs.Joined.{joins-next}
use Rattle.theory.proofs.Gives.{From, Gives, Takes, gives_as, takes_as, full, gives_all, takes_all, Sends, turned, Leads, gives_on, takes_on, power-takes, power_gives, power-given}

-- every number, and every number but x
abbrev Any : ℕ → Type 0
Any z = Unit {0}

abbrev But : ℕ → ℕ → Type 0
But x z = z ≡ x → ⊥

-- row r has variable z
abbrev In : List Row → ℕ → ℕ → Type 0
In rows r z = has (env_at rows r) z ≡ true

-- what is reached of row r's type, and of its variable z
abbrev Typed : (Place → Type 0) → ℕ → ℕ → Type 0
Typed S r i = S (at r i)

abbrev KeptAt : (Place → Type 0) → ℕ → ℕ → ℕ → Type 0
KeptAt S r z i = S (held r z i)

module _ (es : List TypeEntry) (rows : List Row) (S : Place → Type 0) where
  -- row r gives what its type owes, and its user takes it
  abbrev RowGives : ℕ → Type 0
  RowGives r = Gives (tree_at es rows r) (Typed S r)

  abbrev RowTakes : ℕ → Type 0
  RowTakes r = Takes (tree_at es rows r) (Typed S r)

  -- row r is given its variable z, and takes it
  abbrev VarGives : ℕ → ℕ → Type 0
  VarGives r z = Gives (tree_at es rows z) (KeptAt S r z)

  abbrev VarTakes : ℕ → ℕ → Type 0
  VarTakes r z = Takes (tree_at es rows z) (KeptAt S r z)

  -- row r is given those of its variables of which P holds
  abbrev Given : ℕ → (ℕ → Type 0) → Type 0
  Given r P = (z : ℕ) → In rows r z → P z → VarGives r z

  -- what variable z of row r leads to at premise q, and back
  abbrev Keeps : ℕ → ℕ → ℕ → Type 0
  Keeps r q z = Leads (tree_at es rows z) (KeptAt S r z) (KeptAt S q z)

  -- a row does what it owes: given its variables it gives, and given all but one and a user it takes that one
  record Serves (r : ℕ) : Type 0 where
    out : Given r Any → RowGives r
    back : (x : ℕ) → In rows r x → Given r (But x) → RowTakes r → VarTakes r x

  -- a row is given its variables and a user
  record Fed (r : ℕ) : Type 0 where
    gives : Given r Any
    takes : RowTakes r

  -- a row with one premise, of which it binds the variables of B
  record Binds (r p : ℕ) (B : ℕ → Type 0) : Type 0 where
    inner : (z : ℕ) → In rows r z → In rows p z
    bound : (z : ℕ) → B z → In rows p z
    split : (z : ℕ) → In rows p z → B z ⊎ In rows r z
    keeps : (z : ℕ) → In rows r z → Keeps r p z
    out : (((z : ℕ) → B z → VarGives p z) → RowGives p) → ((x : ℕ) → B x → ((z : ℕ) → B z → But x z → VarGives p z) → RowTakes p → VarTakes p x) → RowGives r
    back : RowTakes r → ((z : ℕ) → B z → VarGives p z) × RowTakes p

  -- a row with two premises, which share its variables
  record Shares (r p q : ℕ) : Type 0 where
    split : (z : ℕ) → In rows r z → In rows p z ⊎ In rows q z
    left : (z : ℕ) → In rows p z → In rows r z
    right : (z : ℕ) → In rows q z → In rows r z
    apart : (z : ℕ) → In rows p z → In rows q z → ⊥
    keeps_left : (z : ℕ) → In rows p z → Keeps r p z
    keeps_right : (z : ℕ) → In rows q z → Keeps r q z
    out : RowGives p → RowGives q → RowGives r
    to_left : RowGives q → RowTakes r → RowTakes p
    to_right : RowGives p → RowTakes r → RowTakes q

  module _ (r p : ℕ) (B : ℕ → Type 0) (b : Binds r p B) where
    -- a premise is given what its row is given and binds
    given-binds : (P : ℕ → Type 0) → ((z : ℕ) → B z → P z → VarGives p z) → Given r P → Given p P
    given-binds P bs gs z i h =
        ⊎_elim (λ m. bs z m h) (λ j. gives_on (tree_at es rows z) (b.keeps z j) (gs z j h)) (b.split z i)

    -- a row does what it owes if its premise does, and the premise is given all if the row is
    serves-binds : Serves p → Serves r
    serves-binds s = record {
      out = λ gs. b.out (λ bs. s.out (given-binds Any (λ z m h. bs z m) gs)) (λ x m bs k. s.back x (b.bound x m) (given-binds (But x) bs (λ z i h. gs z i tt)) k);
      back = λ x i gs k.
          let (bs, user) = b.back k in
          takes_on (tree_at es rows x) (b.keeps x i) (s.back x (b.inner x i) (given-binds (But x) (λ z m h. bs z m) gs) user);
    }

    fed-binds : Fed r → Fed p
    fed-binds d = let (bs, user) = b.back d.takes in record { gives = given-binds Any (λ z m h. bs z m) d.gives; takes = user }

  module _ (r p q : ℕ) (b : Shares r p q) where
    -- each premise is given its part of what its row is given
    given-left : (P : ℕ → Type 0) → Given r P → Given p P
    given-left P gs z i h = gives_on (tree_at es rows z) (b.keeps_left z i) (gs z (b.left z i) h)

    given-right : (P : ℕ → Type 0) → Given r P → Given q P
    given-right P gs z i h = gives_on (tree_at es rows z) (b.keeps_right z i) (gs z (b.right z i) h)

    module _ (serve : (z : ℕ) → listed z (p ∷ q ∷ []) ≡ true → Serves z) where
      -- what each premise gives
      left-gives : Given p Any → RowGives p
      left-gives gs = (serve p (listed-first p (q ∷ []))).out gs

      right-gives : Given q Any → RowGives q
      right-gives gs = (serve q (listed-second p q)).out gs

      -- the same of a row with two premises
      serves-shares : Serves r
      serves-shares = record {
        out = λ gs. b.out (left-gives (given-left Any gs)) (right-gives (given-right Any gs));
        back = λ x i gs k. ⊎_elim
            (λ j. takes_on (tree_at es rows x) (b.keeps_left x j) ((serve p (listed-first p (q ∷ []))).back x j (given-left (But x) gs)
            (b.to_left (right-gives (λ z m h. given-right (But x) gs z m (λ e. b.apart x j (subst (In rows q) e m)))) k)))
            (λ j. takes_on (tree_at es rows x) (b.keeps_right x j) ((serve q (listed-second p q)).back x j (given-right (But x) gs)
            (b.to_right (left-gives (λ z m h. given-left (But x) gs z m (λ e. b.apart x (subst (In rows p) e m) j))) k)))
            (b.split x i);
      }

      fed-shares : Fed r → (z : ℕ) → listed z (p ∷ q ∷ []) ≡ true → Fed z
      fed-shares d z h =
          let gs = given-left Any d.gives in
          let hs = given-right Any d.gives in
          ⊎_elim
          (λ e. subst Fed e (record { gives = gs; takes = b.to_left (right-gives hs) d.takes }))
          (λ e. subst Fed e (record { gives = hs; takes = b.to_right (left-gives gs) d.takes }))
          (listed_two z p q h)

  -- what each rule makes of its row and its premises
  abbrev Obeys : ℕ → Rule → Type 0
  Obeys r Variable = Serves r
  Obeys r Zero = Serves r
  Obeys r One = Serves r
  Obeys r (Gate g) = Serves r
  Obeys r (Lambda p x) = Binds r p.0 (λ z. z ≡ x.0)
  Obeys r (PairLambda p x y) = Binds r p.0 (λ z. (z ≡ x.0) ⊎ (z ≡ y.0))
  Obeys r (Apply f a) = Shares r f.0 a.0
  Obeys r (Pair p q) = Shares r p.0 q.0

  -- a row does what it owes if its premises do
  serves : (r : ℕ) (rule : Rule) → Obeys r rule → ((q : ℕ) → listed q (premises rule) ≡ true → Serves q) → Serves r
  serves r Variable o s = o
  serves r Zero o s = o
  serves r One o s = o
  serves r (Gate g) o s = o
  serves r (Lambda p x) o s = serves-binds r p.0 _ o (s p.0 (listed-first p.0 []))
  serves r (PairLambda p x y) o s = serves-binds r p.0 _ o (s p.0 (listed-first p.0 []))
  serves r (Apply f a) o s = serves-shares r f.0 a.0 o s
  serves r (Pair p q) o s = serves-shares r p.0 q.0 o s

  -- the premises of a row are given all if the row is
  feeds : (r : ℕ) (rule : Rule) → Obeys r rule → ((q : ℕ) → listed q (premises rule) ≡ true → Serves q) → Fed r → (q : ℕ) → listed q (premises rule) ≡ true → Fed q
  feeds r Variable o s d q h = absurd (both_ways false refl h)
  feeds r Zero o s d q h = absurd (both_ways false refl h)
  feeds r One o s d q h = absurd (both_ways false refl h)
  feeds r (Gate g) o s d q h = absurd (both_ways false refl h)
  feeds r (Lambda p x) o s d q h = subst Fed (listed-one q p.0 h) (fed-binds r p.0 _ o d)
  feeds r (PairLambda p x y) o s d q h = subst Fed (listed-one q p.0 h) (fed-binds r p.0 _ o d)
  feeds r (Apply f a) o s d q h = fed-shares r f.0 a.0 o s d q h
  feeds r (Pair l a) o s d q h = fed-shares r l.0 a.0 o s d q h

  module _ (accepted : Accepted es rows) (obeys : (r : ℕ) → r < length rows → Obeys r (rule_at rows r)) where
    -- every row below n does what it owes
    serves-below : (n r : ℕ) → r < n → r < length rows → Serves r
    serves-below zero r l h = absurd (omega arith)
    serves-below (suc n) r l h = serves r (rule_at rows r) (obeys r h) (λ q m. let b = premise-lower es rows accepted r q h m in serves-below n q (omega arith) (omega arith))

    -- every row does what it owes, by its premises
    all-serve : (r : ℕ) → r < length rows → Serves r
    all-serve r h = serves-below (suc r) r (omega arith) h

    module _ (begins : Fed (length rows - 1)) where
      -- each of the last n rows is given all
      fed-from : (n r : ℕ) → r < length rows → length rows ≤ r + n → Fed r
      fed-from zero r h l = absurd (omega arith)
      fed-from (suc n) r h l =
          ⊎_elim
          (λ (m : suc r < length rows).
          let k = below es rows r in
          let (hk, e) = below_row es rows accepted r m in
          let b = premise-lower es rows accepted k r hk e in
          feeds k (rule_at rows k) (obeys k hk) (λ q i. let c = premise-lower es rows accepted k q hk i in all-serve q (omega arith)) (fed-from n k hk (omega arith)) r e)
          (λ (m : length rows ≤ suc r). let e : length rows - 1 ≡ r = omega arith in subst Fed e begins)
          (cases_lt (suc r) (length rows))

      -- every row is given all, by the row below it
      all-fed : (r : ℕ) → r < length rows → Fed r
      all-fed r h = fed-from (length rows) r h (omega arith)

      -- so every place is reached
      all-reached : (p : Place) → is_place es rows p ≡ true → S p
      all-reached p h =
          let (known, inside) = place-parts es rows p h in
          part-reached p.row.0 p.part p.atom.0 known inside
        where
          part-reached : (r : ℕ) (t : Part) (i : ℕ) → r < length rows → i < part_width es rows r t → S (place r t i)
          part-reached r Ty i l k = let d = all-fed r l in full (tree_at es rows r) (Typed S r) ((all-serve r l).out d.gives) d.takes i k
          part-reached r (Var z) i l k =
              let (m, n) = part_has _ _ i k in
              let d = all-fed r l in
              full (tree_at es rows z.0) (KeptAt S r z.0) (d.gives z.0 m tt) ((all-serve r l).back z.0 m (λ x o ne. d.gives x o tt) d.takes) i n

module _
    (es : List TypeEntry) (rows : List Row) (accepted : Accepted es rows) (S : Place → Type 0)
    (closed : (p : Place) → is_place es rows p ≡ true → is_end es rows p ≡ false → ((q : Place) → among q (together es rows p) ≡ true → S q) → S (advance es rows p)) where
  -- a place that is no end passes to the one that the rule which it enters joins with it
  passes : (r : ℕ) (p q : Place) → is_place es rows p ≡ true → is_end es rows p ≡ false → Enters es rows r p → Linked es rows r p q → S p → S q
  passes r p q h e c j x =
      let (n, s) = joins-next es rows accepted r p q h c j in
      subst S (ap (λ o. unwrap_or o p) n)
      (closed p h e (λ o m. ⊎_elim (λ (t, u, k). absurd (both_ways _ s t)) (λ (t, k). subst S k x) (mates-from es rows p o m)))

  -- a negative place of row r does
  climbs : (r : ℕ) (p q : Place) → is_place es rows p ≡ true → p.row.0 ≡ r → negative es rows p ≡ true → Linked es rows r p q → S p → S q
  climbs r p q h own n j = passes r p q h (and_right _ _ (not_from_true _ n)) (inl (n, own)) j

  -- so does a positive place of a premise of row r
  descends : (r : ℕ) (p q : Place) → r < length rows → is_place es rows p ≡ true → listed p.row.0 (premises (rule_at rows r)) ≡ true → negative es rows p ≡ false
      → Linked es rows r p q → S p → S q
  descends r p q l h m n j =
      let low = premise-lower es rows accepted r p.row.0 l m in
      passes r p q h (and_left _ _ (ne_eqb _ _ (λ (z : p.row.0 ≡ length rows - 1). omega arith))) (inr (n, l, m)) j

  -- a place of row r and one of a premise that its rule joins, by the sign of the one and of the other
  sends : {r : ℕ} {p q : Place} → r < length rows → Link es rows r p q → Sends (negative es rows p) (S p) (S q)
  sends {r} {p} {q} h k = record {
    onward = λ c. climbs r p q k.lower_place k.own c (inl k.joins);
    back = λ c. descends r q p h k.upper_place k.premise (sym k.signs ∙ c) (inr k.joins);
  }

  sends-above : {r : ℕ} {p q : Place} → r < length rows → Link es rows r p q → Sends (negative es rows q) (S p) (S q)
  sends-above {r} {p} {q} h k = subst (λ b. Sends b (S p) (S q)) k.signs (sends h k)

  -- a variable gives what it is given
  serves-variable : (r : ℕ) → r < length rows → rule_at rows r ≡ Variable → Serves es rows S r
  serves-variable r h e =
      let env = rule_says es rows accepted r Variable h e in
      let own : In rows r r = env r ∙ eq-eqb r r refl in
      let wire : Leads (tree_at es rows r) (KeptAt S r r) (Typed S r) = λ i l. record {
        onward = λ c. climbs r (held r r i) (at r i) (place-held es rows r r i h own l) refl c (inl (Joins.variable e l));
        back = λ c. climbs r (at r i) (held r r i) (place_at_lem es rows r i h l) refl (not_from_false _ c) (inr (Joins.variable e l));
      } in
      record {
        out = λ gs. gives_on (tree_at es rows r) wire (gs r own tt);
        back = λ x m gs k. subst⁻¹ (VarTakes es rows S r) (eqb-true x r (sym (env x) ∙ m)) (takes_on (tree_at es rows r) wire k);
      }

  -- a gate whose seats are all reached leads to all its results
  fires : (r : ℕ) (g : GateName) → rule_at rows r ≡ Gate g → ((i : ℕ) → i < arity g → S (at r i)) → (i : ℕ) → i < arity g → S (at r (arity g + i))
  fires r g e x i l =
      let s = seat_is es rows r g e i l in
      subst S (ap (λ o. unwrap_or o (at r i)) (next-seat es rows accepted r g e i l))
      (closed (at r i) (seat_place es rows accepted (at r i) s) (seat_no_end es rows accepted (at r i) s)
      (λ q m. let (j, k, f) = row-among r 0 (arity g) q (ap (among q) (sym (together_seat es rows r g e i l)) ∙ m) in subst S f (x j (omega arith))))

  -- a gate gives its results for its seats
  serves-gate : (r : ℕ) (g : GateName) → r < length rows → rule_at rows r ≡ Gate g → Serves es rows S r
  serves-gate r g h e =
      let n = arity g in
      let (type, none) = rule_says es rows accepted r (Gate g) h e in
      record {
        out = λ gs. gives_as (Typed S r) (sym type) (
          (λ v. power_gives g (From (atoms (power n)) (Typed S r))
              (λ i l. subst (λ k. S (at r (k + i))) (sym (power-atoms g)) (fires r g e (power-given g (Typed S r) v) i l))),
          (λ _. power-takes n (Typed S r)),
        );
        back = λ x m. absurd (both_ways _ (none x) m);
      }

  -- a lambda binds a variable of its premise
  binds_lambda : (r : ℕ) (p x : RowId) → r < length rows → rule_at rows r ≡ Lambda p x → Binds es rows S r p.0 (λ z. z ≡ x.0)
  binds_lambda r p x h e =
      let (type, free, env) = rule_says es rows accepted r (Lambda p x) h e in
      let a = tree_at es rows x.0 in
      let c = tree_at es rows p.0 in
      let inside : (z : ℕ) → In rows r z → (In rows p.0 z) × (eqb z x.0 ≡ false) = λ z i. let (k, d) = and_parts _ _ (sym (env z) ∙ i) in (k, not-true _ d) in
      let bound : Leads a (Typed S r) (KeptAt S p.0 x.0) = λ i l. sends-above h (lambda-bound es rows accepted r h p x e i l) in
      let body : Leads c (Typed S p.0) (From (atoms a) (Typed S r)) = λ i l. turned (positive c i) (sends-above h (lambda-body es rows accepted r h p x e _ i refl l)) in
      record {
        inner = λ z i. (inside z i).0;
        bound = λ z m. subst⁻¹ (In rows p.0) m free;
        split = λ z i. ⊎_elim inl (λ d. inr (env z ∙ and_from _ _ i (not_from_false _ (ne_eqb z x.0 d)))) (cases_eq z x.0);
        keeps = λ z i j l. let (k, d) = inside z i in sends h (lambda-environment es rows accepted r h p x e z j k d l);
        out = λ f g. gives_as (Typed S r) (sym type) (
          (λ v. gives_on c body (f (λ z m. subst⁻¹ (VarGives es rows S p.0) m (gives_on a bound v)))),
          (λ k. takes_on a bound (g x.0 refl (λ z m d. absurd (d m)) (takes_on c body k))),
        );
        back = λ k.
            let (v, user) = takes_as (Typed S r) type k in
            ((λ z m. subst⁻¹ (VarGives es rows S p.0) m (gives_on a bound v)), takes_on c body user);
      }

  -- a pair lambda binds two
  binds_pair_lambda : (r : ℕ) (p x y : RowId) → r < length rows → rule_at rows r ≡ PairLambda p x y → Binds es rows S r p.0 (λ z. (z ≡ x.0) ⊎ (z ≡ y.0))
  binds_pair_lambda r p x y h e =
      let (type, free-x, free-y, differ, env) = rule_says es rows accepted r (PairLambda p x y) h e in
      let a = tree_at es rows x.0 in
      let b = tree_at es rows y.0 in
      let c = tree_at es rows p.0 in
      let inside : (z : ℕ) → In rows r z → (In rows p.0 z) × (eqb z x.0 ≡ false) × (eqb z y.0 ≡ false) = λ z i.
      let (rest, dy) = and_parts _ _ (sym (env z) ∙ i) in
      let (k, dx) = and_parts _ _ rest in
      (k, not-true _ dx, not-true _ dy) in
      let bound-x : Leads a (Typed S r) (KeptAt S p.0 x.0) = λ i l. sends-above h (pair-bound-first es rows accepted r h p x y e i l) in
      let bound-y : Leads b (From (atoms a) (Typed S r)) (KeptAt S p.0 y.0) = λ i l. sends-above h (pair-bound-second es rows accepted r h p x y e _ i refl l) in
      let body : Leads c (Typed S p.0) (From (atoms a + atoms b) (Typed S r)) = λ i l. turned (positive c i) (sends-above h (pair_body es rows accepted r h p x y e _ i refl l)) in
      let given-x : Gives a (Typed S r) → (z : ℕ) → z ≡ x.0 → VarGives es rows S p.0 z = λ v z m. subst⁻¹ (VarGives es rows S p.0) m (gives_on a bound-x v) in
      let given-y : Gives b (From (atoms a) (Typed S r)) → (z : ℕ) → z ≡ y.0 → VarGives es rows S p.0 z = λ v z m. subst⁻¹ (VarGives es rows S p.0) m (gives_on b bound-y v) in
      record {
        inner = λ z i. (inside z i).0;
        bound = λ z m. ⊎_elim (λ s. subst⁻¹ (In rows p.0) s free-x) (λ s. subst⁻¹ (In rows p.0) s free-y) m;
        split = λ z i.
            ⊎_elim (λ s. inl (inl s))
            (λ dx. ⊎_elim (λ s. inl (inr s))
            (λ dy. inr (env z ∙ and_from _ _ (and_from _ _ i (not_from_false _ (ne_eqb z x.0 dx))) (not_from_false _ (ne_eqb z y.0 dy))))
            (cases_eq z y.0))
            (cases_eq z x.0);
        keeps = λ z i j l. let (k, dx, dy) = inside z i in sends h (pair-lambda-environment es rows accepted r h p x y e z j k dx dy l);
        out = λ f g. gives_as (Typed S r) (sym type) (
          (λ v. gives_on c body (f (λ z m. ⊎_elim (given-x v.0 z) (given-y v.1 z) m))),
          (λ k. (
            (λ v. takes_on b bound-y (g y.0 (inr refl) (λ z m d. ⊎_elim (given-x v z) (λ s. absurd (d s)) m) (takes_on c body k))),
            (λ v. takes_on a bound-x (g x.0 (inl refl) (λ z m d. ⊎_elim (λ s. absurd (d s)) (given-y v z) m) (takes_on c body k))),
          )),
        );
        back = λ k.
            let (v, user) = takes_as (Typed S r) type k in
            ((λ z m. ⊎_elim (given-x v.0 z) (given-y v.1 z) m), takes_on c body user);
      }

  -- a rule with two premises, by what it does with types
  shares_by : (r p q : ℕ) → r < length rows → Apart (env_at rows p) (env_at rows q) → Together (env_at rows r) (env_at rows p) (env_at rows q)
      → ((s z i : ℕ) → listed s (p ∷ q ∷ []) ≡ true → In rows s z → i < width es rows z → Link es rows r (held r z i) (held s z i))
      → (RowGives es rows S p → RowGives es rows S q → RowGives es rows S r)
      → (RowGives es rows S q → RowTakes es rows S r → RowTakes es rows S p)
      → (RowGives es rows S p → RowTakes es rows S r → RowTakes es rows S q)
      → Shares es rows S r p q
  shares_by r p q h apart both link out to_left to_right = record {
    split = λ z i. or_cases _ _ (sym (both z) ∙ i);
    left = λ z i. both z ∙ or_left _ _ i;
    right = λ z i. both z ∙ or_right _ _ i;
    apart = apart;
    keeps_left = λ z i j l. sends h (link p z j (listed-first p (q ∷ [])) i l);
    keeps_right = λ z i j l. sends h (link q z j (listed-second p q) i l);
    out = out;
    to_left = to_left;
    to_right = to_right;
  }

  -- an application of a function to its argument
  shares_apply : (r : ℕ) (f a : RowId) → r < length rows → rule_at rows r ≡ Apply f a → Shares es rows S r f.0 a.0
  shares_apply r f a h e =
      let (type, both, apart) = rule_says es rows accepted r (Apply f a) h e in
      let s = tree_at es rows a.0 in
      let c = tree_at es rows r in
      let wide = ap atoms type in
      let mf = listed-first f.0 (a.0 ∷ []) in
      let ma = listed-second f.0 a.0 in
      let argument : Leads s (Typed S a.0) (Typed S f.0) = λ i l. record {
        onward = λ k. descends r (at a.0 i) (at f.0 i) h (place_at_lem es rows a.0 i (premise-row es rows accepted r h (Apply f a) e a.0 ma) l)
            (premise-listed es rows accepted r h (Apply f a) e a.0 ma) (not_from_true _ k) (inr (Joins.argument e l));
        back = λ k. descends r (at f.0 i) (at a.0 i) h (place_at_lem es rows f.0 i (premise-row es rows accepted r h (Apply f a) e f.0 mf) (omega arith))
            (premise-listed es rows accepted r h (Apply f a) e f.0 mf) (ap not (arrow-left _ _ _ i type l ∙ ap not k)) (inl (Joins.argument e l));
      } in
      let result : Leads c (From (atoms s) (Typed S f.0)) (Typed S r) = λ i l. turned (positive c i) (sends h (apply-result es rows accepted r h f a e i _ refl l)) in
      shares_by r f.0 a.0 h apart both (apply-environment es rows accepted r h f a e)
      (λ g v. gives_on c result ((gives_as (Typed S f.0) type g).0 (gives_on s argument v)))
      (λ v k. takes_as (Typed S f.0) (sym type) (gives_on s argument v, takes_on c result k))
      (λ g k. takes_on s argument ((gives_as (Typed S f.0) type g).1 (takes_on c result k)))

  -- a pair of two values
  shares-pair : (r : ℕ) (p q : RowId) → r < length rows → rule_at rows r ≡ Pair p q → Shares es rows S r p.0 q.0
  shares-pair r p q h e =
      let (type, both, apart) = rule_says es rows accepted r (Pair p q) h e in
      let s = tree_at es rows p.0 in
      let c = tree_at es rows q.0 in
      let first : Leads s (Typed S p.0) (Typed S r) = λ i l. turned (positive s i) (sends-above h (pair-first es rows accepted r h p q e i l)) in
      let second : Leads c (Typed S q.0) (From (atoms s) (Typed S r)) = λ i l. turned (positive c i) (sends-above h (pair-second es rows accepted r h p q e _ i refl l)) in
      shares_by r p.0 q.0 h apart both (pair-environment es rows accepted r h p q e)
      (λ g v. gives_as (Typed S r) (sym type) (gives_on s first g, gives_on c second v))
      (λ v k. takes_on s first ((takes_as (Typed S r) type k).1 (gives_on c second v)))
      (λ g k. takes_on c second ((takes_as (Typed S r) type k).0 (gives_on s first g)))

  module _ (begun : (p : Place) → is_place es rows p ≡ true → is_start es rows p ≡ true → S p) where
    -- a zero or one row gives a start
    serves-bit : (r : ℕ) (rule : Rule) → r < length rows → rule_at rows r ≡ rule → is_bit rule ≡ true → tree_at es rows r ≡ qubit → Closed (env_at rows r) → Serves es rows S r
    serves-bit r rule h e bit type none =
        let wide = ap atoms type in
        record {
          out = λ gs. gives_as (Typed S r) (sym type)
              (begun (at r 0) (place_at_lem es rows r 0 h (omega arith)) (cond-false _ _ _ (ap (λ t. not (positive t 0)) type) ∙ ap is_bit e ∙ bit));
          back = λ x m. absurd (both_ways _ (none x) m);
        }

    -- every row does with its premises what its rule makes of them
    obeys : (r : ℕ) (rule : Rule) → r < length rows → rule_at rows r ≡ rule → Obeys es rows S r rule
    obeys r Variable h e = serves-variable r h e
    obeys r Zero h e = let (type, none) = rule_says es rows accepted r Zero h e in serves-bit r Zero h e refl type none
    obeys r One h e = let (type, none) = rule_says es rows accepted r One h e in serves-bit r One h e refl type none
    obeys r (Gate g) h e = serves-gate r g h e
    obeys r (Lambda p x) h e = binds_lambda r p x h e
    obeys r (PairLambda p x y) h e = binds_pair_lambda r p x y h e
    obeys r (Apply f a) h e = shares_apply r f a h e
    obeys r (Pair p q) h e = shares-pair r p q h e

    -- the last row is given all
    fed-last : Fed es rows S (length rows - 1)
    fed-last =
        let last = length rows - 1 in
        let some = accepted.some in
        let h : last < length rows = omega arith in
        record {
          gives = λ z m u. gives_all (tree_at es rows z) (λ i l c. begun (held last z i) (place-held es rows last z i h m l) (cond-true _ _ _ c ∙ eq-eqb last last refl));
          takes = takes_all (tree_at es rows last) (λ i l c. begun (at last i) (place_at_lem es rows last i h l) (cond-true _ _ _ (not_from_false _ c) ∙ eq-eqb last last refl));
        }

-- a set of places that holds the starts and is closed under the moves holds all places
pub saturates : (es : List TypeEntry) (rows : List Row) → Accepted es rows → StartLaws es rows → Saturates es rows
saturates es rows accepted starts S first closed =
    let begun : (q : Place) → is_place es rows q ≡ true → is_start es rows q ≡ true → S q = λ q place start. let (w, l, e) = starts.all q place start in subst S e (first w l) in
    all-reached es rows S accepted (λ r l. obeys es rows accepted S closed begun r (rule_at rows r) l refl) (fed-last es rows accepted S closed begun)
