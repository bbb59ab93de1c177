-- What the derived `==` on places and polarities tests, and the first place that passes it.
use Rattle.std.proofs.Common.{◌≡◌, ℕ, suc, ◌+◌, ◌<◌, ◌≤◌, Bool, true, false, cond, not, ◌&&◌, ltb, eqb, List, [], ◌∷◌, length, unwrap_or, Some, None, Option, sym, refl, ap, ◌∙◌, ap₂, ⊎_elim, arith}
use Rattle.std.specs.List.{position_or_len}
use Rattle.std.specs.Option.{option_eq}
use Rattle.std.proofs.lemmas.Option.{none-some}
use Rattle.basics.specs.declared.numbers.EndId.{EndId}
use Rattle.std.proofs.lemmas.Bool.{lt-ltb, le-ltb, cases_lt}
use Rattle.derivation.specs.declared.rows.Part.{Part}
use Rattle.derivation.specs.declared.rows.Part.TheVariants.{Ty, Variable as Var}
use Rattle.derivation.specs.declared.rows.Place.{Place}
use Rattle.derivation.specs.contracts.rows.PartPartialEq.TheImpl.{ghosts as part_equality}
use Rattle.derivation.specs.contracts.rows.PlacePartialEq.TheImpl.{ghosts as equality}
use Rattle.basics.specs.Sets.{has}
use Rattle.machine.specs.declared.tables.Polarity.{Polarity}
use Rattle.machine.specs.declared.tables.Polarity.TheVariants.{Negative, Positive}
use Rattle.machine.specs.declared.tables.TypeFacts.{TypeFacts}
use Rattle.machine.specs.contracts.tables.PolarityPartialEq.TheImpl.{ghosts as polarity_equality}
use Rattle.machine.specs.Facts.{agrees, atom_polarity, is_positive, polarity_of}
use Rattle.theory.specs.Tokens.{same_part, same_place, wire_at}

part-eq : (a b : Part) → part_equality.eq a b ≡ same_part a b
part-eq Ty Ty = refl
part-eq Ty (Var y) = refl
part-eq (Var x) Ty = refl
part-eq (Var x) (Var y) = refl

pub place-eq : (q p : Place) → equality.eq q p ≡ same_place q p
place-eq q p = ap (λ b. eqb q.row.0 p.row.0 && (b && eqb q.atom.0 p.atom.0)) (part-eq q.part p.part)

-- the number of the first place that is p, as a search for one answers it
pub first_place : (ps : List Place) (p : Place) → position_or_len (λ q. equality.eq q p) ps ≡ wire_at ps p
first_place [] p = refl
first_place (q ∷ ps) p = ap₂ (λ (c : Bool) (n : ℕ). cond (not c) (1 + n) 0) (place-eq q p) (first_place ps p) ∙ go (same_place q p) (wire_at ps p)
  where
    go : (b : Bool) (n : ℕ) → cond (not b) (1 + n) 0 ≡ cond b 0 (suc n)
    go true n = refl
    go false n = omega arith

first_le : (ps : List Place) (p : Place) → wire_at ps p ≤ length ps
first_le [] p = omega arith
first_le (q ∷ ps) p = go (same_place q p) (wire_at ps p) (first_le ps p)
  where
    go : (b : Bool) (n : ℕ) → n ≤ length ps → cond b 0 (suc n) ≤ suc (length ps)
    go true n h = omega arith
    go false n h = omega arith

-- the search's answer, or how many places there are
pub found_or_all : (ps : List Place) (p : Place) → unwrap_or (cond (ltb (wire_at ps p) (length ps)) (Some (wire_at ps p)) None) (length ps) ≡ wire_at ps p
found_or_all ps p = go (wire_at ps p) (length ps) (first_le ps p)
  where
    go : (w n : ℕ) → w ≤ n → unwrap_or (cond (ltb w n) (Some w) None) n ≡ w
    go w n h = ⊎_elim (λ (l : w < n). rw (lt-ltb w n l) refl) (λ (l : n ≤ w). rw (le-ltb w n l) (omega arith)) (cases_lt w n)

-- the number of an end, by what the search found
abbrev end_of : ℕ → Bool → Option EndId
end_of w b = cond b (Some (record { 0 = w })) None

pub end_none : (w : ℕ) (found small : Bool) → None ≡ cond found (Some w) None → None ≡ end_of w (found && small)
end_none w true small h = absurd (none-some w h)
end_none w false small h = refl

pub end_some : (k w : ℕ) (found : Bool) → Some k ≡ cond found (Some w) None → end_of k (ltb k 256) ≡ end_of w (found && ltb w 256)
end_some k w true h = ap (λ j. end_of j (ltb j 256)) (ap (λ o. unwrap_or o 0) h)
end_some k w false h = absurd (none-some k (sym h))

-- the same of the polarity of an atom
polarity-eq : (b : Bool) (w : Polarity) → polarity_equality.eq (polarity_of (not b)) w ≡ agrees (is_positive w) b
polarity-eq true Negative = refl
polarity-eq true Positive = refl
polarity-eq false Negative = refl
polarity-eq false Positive = refl

pub atom_polarity-eq : (t : TypeFacts) (i : ℕ) (w : Polarity) → i < t.width → option_eq polarity_equality.eq (atom_polarity t i) (Some w) ≡ agrees (is_positive w) (has t.signs i)
atom_polarity-eq t i w h = ap (λ c. option_eq polarity_equality.eq (cond c (Some (polarity_of (not (has t.signs i)))) None) (Some w)) (lt-ltb i t.width h) ∙ polarity-eq (has t.signs i) w

-- the reverse of a polarity is positive if it is not
pub reversed-positive : (p : Polarity) → is_positive (polarity_of (is_positive p)) ≡ not (is_positive p)
reversed-positive Negative = refl
reversed-positive Positive = refl

pub not_not : (b : Bool) → not (not b) ≡ b
not_not true = refl
not_not false = refl
