-- Places that are followed step by step.
use Rattle.std.proofs.Common.{◌≡◌, ℕ, suc, ◌+◌, ◌-◌, ◌<◌, true, cond, List, map, length, get_or, Some, None, Option, sym, ap, ◌∙◌, arith}
use Rattle.std.proofs.lemmas.Bool.{cond-true}
use Rattle.derivation.specs.declared.types.TypeEntry.{TypeEntry}
use Rattle.derivation.specs.declared.rows.Row.{Row}
use Rattle.derivation.specs.declared.rows.Place.{Place}
use Rattle.derivation.specs.Places.{moves}
use Rattle.derivation.proofs.AcceptedLaws.{accepted_from_valid}
use Rattle.derivation.proofs.FormatLaws.{read_sound}
use Rattle.theory.specs.Ports.{next, is_place, starts, ends}
use Rattle.theory.specs.Tokens.{wire_at}
use Rattle.theory.specs.Finals.{end_wires, finals, followed}
use Rattle.theory.specs.Theory.{Promised}
use Rattle.theory.proofs.Assembled.{theory}

module _ (es : List TypeEntry) (rows : List Row) where
  -- one step of following, with n - i left
  pub follow_more : (p q : Place) (n i : ℕ) → i < n → next es rows p ≡ Some q → followed es rows (n - i) p ≡ followed es rows (n - (i + 1)) q
  follow_more p q n i h e =
      let left : n - i ≡ suc (n - (i + 1)) = omega arith in
      ap (λ k. followed es rows k p) left ∙ ap (λ (o : Option Place). elim o [ Some r ↦ followed es rows (n - (i + 1)) r | None ↦ p ]) e

  -- what the call answers at a place is next
  pub called : (p : Place) (o : Option Place) → is_place es rows p ≡ true → o ≡ cond (is_place es rows p) (next es rows p) None → next es rows p ≡ o
  called p o here e = sym (e ∙ cond-true (is_place es rows p) (next es rows p) None here)

-- the wires at the ends, by the last places of a copy of the derivation
pub end-wires : {es es' : List TypeEntry} {rows rows' : List Row} {n : ℕ} {places stops : List Place} → es ≡ es' → rows ≡ rows' → n ≡ moves es' rows' → places ≡ map (followed es rows n) (starts es rows) → stops ≡ ends es rows
    → map (wire_at places) stops ≡ end_wires es' rows'
unfolding finals
end-wires te re ne p q = (λ i. map (wire_at (p i)) (q i)) ∙ (λ i. map (wire_at (map (followed (te i) (re i) (ne i)) (starts (te i) (re i)))) (ends (te i) (re i)))

-- what is promised of bytes that are a derivation
pub promised : (bytes : List ℕ) → ((i : ℕ) → i < length bytes → get_or bytes i 0 < 256) → Promised bytes
promised bytes small es rows e = theory es rows (accepted_from_valid es rows (read_sound bytes (record { types = es; rows = rows }) small e).1)
