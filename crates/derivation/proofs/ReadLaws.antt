-- Reading accepts exactly the encodings of derivations that keep the rules.
use Rattle.std.proofs.Common.{◌≡◌, ℕ, ◌<◌, List, map, length, get_or, Some, None, Ok, Err, Result, sym, refl, ap, ◌∙◌, ap₂, subst₂, inl, inr, ⊎_elim, arith}
use Rattle.derivation.specs.declared.types.TypeEntry.{TypeEntry}
use Rattle.derivation.specs.declared.rows.Row.{Row}
use Rattle.basics.specs.declared.refusal.Refusal.{Refusal}
use Rattle.derivation.specs.Accepted.{Accepted, Derivation, fault}
use Rattle.derivation.specs.Format.{encode, parse, derivation_of, Parsed}
use Rattle.derivation.specs.Rows.{row_of}
use Rattle.derivation.specs.Faults.{Checked, Gives}
use Rattle.derivation.specs.Reading.{ReadAnswers, ReadExact}
use Rattle.derivation.proofs.AcceptedLaws.{accepted_from_valid, valid-from_accepted}
use Rattle.derivation.proofs.FormatCut.{ok_same}
use Rattle.derivation.proofs.FormatLaws.{read_sound, read_complete}

-- the encoding of an accepted derivation is read as that derivation
encoded_ok : (bytes : List ℕ) (es : List TypeEntry) (rows : List Row) → bytes ≡ encode es rows → Accepted es rows → derivation_of bytes ≡ Ok (record { types = es; rows = rows })
encoded_ok bytes es rows e a = ap derivation_of e ∙ read_complete es rows (valid-from_accepted es rows a)

module _ (bytes : List ℕ) (small : (i : ℕ) → i < length bytes → get_or bytes i 0 < 256) (held_types : List TypeEntry) (held_rows : List Row) where
  pub read_exact : (r : Result (Unit {0}) Refusal) → ReadAnswers bytes r held_types held_rows → ReadExact bytes r held_types held_rows
  read_exact (Ok u) answer memory es rows = (
    λ h.
        let s = read_sound bytes (record { types = held_types; rows = held_rows }) small answer in
        (s.0 ∙ ap₂ encode h.1 h.2, subst₂ Accepted h.1 h.2 (accepted_from_valid held_types held_rows s.1)),
    λ h.
        let same : ◌≡◌ {A = Result Derivation Refusal} (Ok (record { types = held_types; rows = held_rows })) (Ok (record { types = es; rows = rows })) = sym answer ∙ encoded_ok bytes es rows h.0 h.1 in
        (refl, ap (λ (d : Derivation). d.types) (ok_same same), ap (λ (d : Derivation). d.rows) (ok_same same)),
  )
  read_exact (Err e) answer memory es rows = (
    λ h. let z : ◌≡◌ {A = ℕ} 0 1 = cc h.0 in absurd (omega arith),
    λ h. ⊎_elim
        (λ no. let same : ◌≡◌ {A = Result Derivation Refusal} (Err e) (Ok (record { types = es; rows = rows })) = sym no ∙ encoded_ok bytes es rows h.0 h.1 in let z : ◌≡◌ {A = ℕ} 0 1 = cc in absurd (omega arith))
        (λ full. absurd (memory (ap Err full))) answer,
  )

-- what reading yields once the bytes were taken apart
pub parsed_refused : (bytes : List ℕ) (e : Refusal) → parse bytes ≡ Err e → derivation_of bytes ≡ Err e
unfolding derivation_of
parsed_refused bytes e h = rw h refl

module _ (bytes : List ℕ) (p : Parsed) (h : parse bytes ≡ Ok p) where
  pub parsed_fine : (es : List TypeEntry) (rows : List Row) → fault p.types p.records ≡ None → es ≡ p.types → rows ≡ map row_of p.records → derivation_of bytes ≡ Ok (record { types = es; rows = rows })
  unfolding derivation_of
  parsed_fine es rows f te re = rw (h, f, te, re) refl

  pub parsed_faulty : (e : Refusal) → fault p.types p.records ≡ Some e → derivation_of bytes ≡ Err e
  unfolding derivation_of
  parsed_faulty e f = rw (h, f) refl

  -- the checks decide the answer
  pub accepted_gives : {H : Type 0} (types_of : H → List TypeEntry) (rows_of_lem : H → List Row) (r : Result H Refusal) →
      Checked (fault p.types p.records) r (λ x. (types_of x ≡ p.types) × (rows_of_lem x ≡ map row_of p.records)) →
      Gives (derivation_of bytes) r (λ x. record { types = types_of x; rows = rows_of_lem x })
  accepted_gives types_of rows_of_lem (Ok x) a = parsed_fine (types_of x) (rows_of_lem x) a.0 a.1.0 a.1.1
  accepted_gives types_of rows_of_lem (Err e) a = ⊎_elim (λ f. inl (parsed_faulty e f)) (λ m. inr m) a
