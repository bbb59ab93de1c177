-- Cutting records off the front of some bytes, one after another.
use Rattle.std.proofs.Common.{◌≡◌, ℕ, suc, ◌+◌, ◌-◌, ◌<◌, ◌≤◌, List, [], ◌∷◌, ◌++◌, get_or, drop, Some, None, Ok, Err, Result, sym, refl, ap, ◌∙◌, append_assoc, append-nil, arith}
use Rattle.basics.specs.declared.refusal.Refusal.{Refusal}
use Rattle.derivation.specs.Format.{record_fault, Cut, prepend, cut}

-- items in front of those that are cut off
abbrev pub behind : {A : Type 0} → List A → Result (Cut A) Refusal → Result (Cut A) Refusal
behind xs (Ok c) = Ok (record { items = xs ++ c.items; rest = c.rest })
behind xs (Err e) = Err e

-- one more item
behind_more : {A : Type 0} (xs : List A) (x : A) (r : Result (Cut A) Refusal) → behind xs (prepend x r) ≡ behind (xs ++ x ∷ []) r
behind_more xs x (Ok c) = ap (λ l. Ok (record { items = l; rest = c.rest })) (sym (append_assoc xs (x ∷ []) c.items))
behind_more xs x (Err e) = refl

module _ {A : Type 0} (length_of : ℕ → ℕ) (front : List ℕ → A) (total : ℕ) where
  cut_none : (left : List ℕ) → cut length_of front total 0 left ≡ Ok (record { items = []; rest = left })
  unfolding cut
  cut_none left = refl

  cut-next : (n : ℕ) (left : List ℕ) → record_fault length_of total left ≡ None →
      cut length_of front total (suc n) left ≡ prepend (front left) (cut length_of front total n (drop (1 + get_or left 0 0) left))
  unfolding cut
  cut-next n left none = rw none refl

  cut-fault : (n : ℕ) (left : List ℕ) (d : Refusal) → record_fault length_of total left ≡ Some d → cut length_of front total (suc n) left ≡ Err d
  unfolding cut
  cut-fault n left d some = rw some refl

-- After i of n records: what is cut off of all bytes is xs and what is cut off of left.
pub record Cutting {A : Type 0} (length_of : ℕ → ℕ) (front : List ℕ → A) (total n : ℕ) (bytes : List ℕ) (xs : List A) (i : ℕ) (left : List ℕ) : Type 0 where
  pub same : cut length_of front total n bytes ≡ behind xs (cut length_of front total (n - i) left)

module _ {A : Type 0} {length_of : ℕ → ℕ} {front : List ℕ → A} {total n : ℕ} {bytes : List ℕ} {xs : List A} {i : ℕ} {left : List ℕ}
    (c : Cutting length_of front total n bytes xs i left) where
  one_less : i < n → n - i ≡ suc (n - (i + 1))
  one_less h = omega arith

  -- one record more, as a reader answers it
  pub cutting_more : {x : A} {after : List ℕ} {ys : List A} → i < n →
      (record_fault length_of total left ≡ None) × (x ≡ front left) × (after ≡ drop (1 + get_or left 0 0) left) → ys ≡ xs ++ x ∷ [] →
      Cutting length_of front total n bytes ys (i + 1) after
  cutting_more h read more = record {
    same = rw (more, read.1, read.2)
        (c.same
        ∙ ap (λ k. behind xs (cut length_of front total k left)) (one_less h)
        ∙ ap (behind xs) (cut-next length_of front total (n - (i + 1)) left read.0)
        ∙ behind_more xs (front left) _);
  }

  -- the first fault is that of all
  pub cutting_fault : {d : Refusal} → i < n → record_fault length_of total left ≡ Some d → cut length_of front total n bytes ≡ Err d
  cutting_fault {d} h some =
      c.same
      ∙ ap (λ k. behind xs (cut length_of front total k left)) (one_less h)
      ∙ ap (behind xs) (cut-fault length_of front total (n - (i + 1)) left d some)

  pub cutting_all : n ≤ i → cut length_of front total n bytes ≡ Ok (record { items = xs; rest = left })
  cutting_all h =
      let e : n - i ≡ 0 = omega arith in
      c.same
      ∙ ap (λ k. behind xs (cut length_of front total k left)) e
      ∙ ap (behind xs) (cut_none length_of front total left)
      ∙ ap (λ l. Ok (record { items = l; rest = left })) (append-nil xs)
