-- Laws of the first fault.
use Rattle.std.proofs.Common.{◌≡◌, ℕ, zero, suc, ◌+◌, ◌<◌, ◌≤◌, Bool, true, false, cond, List, [], ◌∷◌, ◌++◌, map, length, get_or, take, drop, Some, None, Option, sym, refl, ap, ◌∙◌, append_assoc, append-nil, arith}
use Rattle.std.proofs.lemmas.List.{drop_more, drop_all}
use Rattle.derivation.specs.Faults.{or_else, first_fault}

pub or_else_some : {R : Type 0} (o p : Option R) (r : R) → o ≡ Some r → or_else o p ≡ Some r
or_else_some o p r e = rw e refl

pub or_else_none : {R : Type 0} (o p : Option R) → o ≡ None → or_else o p ≡ p
or_else_none o p e = rw e refl

-- a check that found nothing: its test failed, and what follows found nothing
pub cond_none : {R : Type 0} (b : Bool) (r : R) (o : Option R) → cond b (Some r) o ≡ None → (b ≡ false) × (o ≡ None)
cond_none true r o e = let z : ◌≡◌ {A = ℕ} 0 1 = cc in absurd (omega arith)
cond_none false r o e = (refl, e)

-- both parts of a check that found nothing
pub or_else_both : {R : Type 0} (o p : Option R) → or_else o p ≡ None → (o ≡ None) × (p ≡ None)
or_else_both (Some r) p e = let z : ◌≡◌ {A = ℕ} 0 1 = cc in absurd (omega arith)
or_else_both None p e = (refl, e)

module _ {A B R : Type 0} (f : List B → A → Option R) (g : A → B) where
  -- the fault of the item at the front is the answer
  pub first-here : (done : List B) (x : A) (xs : List A) (r : R) → f done x ≡ Some r → first_fault f g done (x ∷ xs) ≡ Some r
  unfolding first_fault
  first-here done x xs r e = or_else_some (f done x) _ r e

  -- without a fault at the front the rest decides
  pub first_next : (done : List B) (x : A) (xs : List A) → f done x ≡ None → first_fault f g done (x ∷ xs) ≡ first_fault f g (done ++ (g x ∷ [])) xs
  unfolding first_fault
  first_next done x xs e = or_else_none (f done x) _ e

  -- a list has no fault exactly if none of its items has one
  pub none_from : (done : List B) (xs : List A) (d : A) → first_fault f g done xs ≡ None → (k : ℕ) → k < length xs → f (done ++ map g (take k xs)) (get_or xs k d) ≡ None
  unfolding first_fault
  none_from done [] d e k h = absurd (omega arith)
  none_from done (x ∷ xs) d e zero h = ap (λ l. f l x) (append-nil done) ∙ (or_else_both (f done x) _ e).0
  none_from done (x ∷ xs) d e (suc k) h =
      ap (λ l. f l (get_or xs k d)) (sym (append_assoc done (g x ∷ []) (map g (take k xs))))
      ∙ none_from (done ++ (g x ∷ [])) xs d (or_else_both (f done x) _ e).1 k (omega arith)

  pub none_to : (done : List B) (xs : List A) (d : A) → ((k : ℕ) → k < length xs → f (done ++ map g (take k xs)) (get_or xs k d) ≡ None) → first_fault f g done xs ≡ None
  unfolding first_fault
  none_to done [] d h = refl
  none_to done (x ∷ xs) d h =
      or_else_none (f done x) _ (ap (λ l. f l x) (sym (append-nil done)) ∙ h 0 (omega arith))
      ∙ none_to (done ++ (g x ∷ [])) xs d (λ k l. ap (λ m. f m (get_or xs k d)) (append_assoc done (g x ∷ []) (map g (take k xs))) ∙ h (suc k) (omega arith))

  -- the same in a loop over a list, at item i
  pub first-at : (xs : List A) (i : ℕ) (d : A) (done : List B) (r : R) → i < length xs → f done (get_or xs i d) ≡ Some r → first_fault f g done (drop i xs) ≡ Some r
  first-at xs i d done r h e = ap (first_fault f g done) (drop_more xs i d h) ∙ first-here done (get_or xs i d) (drop (i + 1) xs) r e

  pub first-after : (xs : List A) (i : ℕ) (d : A) (done : List B) → i < length xs → f done (get_or xs i d) ≡ None → first_fault f g done (drop i xs) ≡ first_fault f g (done ++ (g (get_or xs i d) ∷ [])) (drop (i + 1) xs)
  first-after xs i d done h e = ap (first_fault f g done) (drop_more xs i d h) ∙ first_next done (get_or xs i d) (drop (i + 1) xs) e

  pub first-end : (xs : List A) (i : ℕ) (done : List B) → length xs ≤ i → first_fault f g done (drop i xs) ≡ None
  unfolding first_fault
  first-end xs i done h = ap (first_fault f g done) (drop_all i xs h)
