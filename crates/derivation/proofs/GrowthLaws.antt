-- Laws of lists that are made from their own front.
use Rattle.std.proofs.Common.{◌≡◌, ℕ, zero, suc, ◌+◌, ◌<◌, ◌≤◌, List, [], ◌∷◌, ◌++◌, length, get_or, take, sym, refl, ap, ◌∙◌, add-zero, arith, length-append}
use Rattle.std.proofs.lemmas.List.{get_or_append_left, get_or_at}
use Rattle.derivation.specs.Growth.{grown}

module _ {A B : Type 0} (f : List B → A → B) where
  pub grown-append : (done : List B) (xs ys : List A) → grown f done (xs ++ ys) ≡ grown f (grown f done xs) ys
  unfolding grown
  grown-append done [] ys = refl
  grown-append done (x ∷ xs) ys = grown-append (done ++ (f done x ∷ [])) xs ys

  pub grown-push : (done : List B) (xs : List A) (x : A) → grown f done (xs ++ x ∷ []) ≡ grown f done xs ++ (f (grown f done xs) x ∷ [])
  unfolding grown
  grown-push done xs x = grown-append done xs (x ∷ [])

  pub length-grown : (done : List B) (xs : List A) → length (grown f done xs) ≡ length done + length xs
  unfolding grown
  length-grown done [] = sym (add-zero (length done))
  length-grown done (x ∷ xs) = length-grown (done ++ (f done x ∷ [])) xs ∙ simp length-append (omega arith)

  -- what stands at the front stays
  pub get_or-grown_front : (done : List B) (xs : List A) (i : ℕ) (d : B) → i < length done → get_or (grown f done xs) i d ≡ get_or done i d
  unfolding grown
  get_or-grown_front done [] i d h = refl
  get_or-grown_front done (x ∷ xs) i d h =
      get_or-grown_front (done ++ (f done x ∷ [])) xs i d (simp length-append (omega arith)) ∙ get_or_append_left done (f done x ∷ []) d i h

  -- the element that item k made, by the items before it
  pub get_or-grown : (done : List B) (xs : List A) (k : ℕ) (d : B) (e : A) → k < length xs → get_or (grown f done xs) (length done + k) d ≡ f (grown f done (take k xs)) (get_or xs k e)
  unfolding grown
  get_or-grown done [] k d e h = absurd (omega arith)
  get_or-grown done (x ∷ xs) zero d e h =
      ap (λ i. get_or (grown f (done ++ (f done x ∷ [])) xs) i d) (add-zero (length done))
      ∙ get_or-grown_front (done ++ (f done x ∷ [])) xs (length done) d (simp length-append (omega arith))
      ∙ get_or_at done (f done x) [] d (length done) refl
  get_or-grown done (x ∷ xs) (suc k) d e h =
      let e1 : length done + suc k ≡ length (done ++ (f done x ∷ [])) + k = simp length-append (omega arith) in
      ap (λ i. get_or (grown f (done ++ (f done x ∷ [])) xs) i d) e1
      ∙ get_or-grown (done ++ (f done x ∷ [])) xs k d e (omega arith)

  -- the front of the made list is made of the front of the items
  pub get_or-grown-take : (done : List B) (xs : List A) (k i : ℕ) (d : B) → k ≤ length xs → i < length done + k → get_or (grown f done (take k xs)) i d ≡ get_or (grown f done xs) i d
  unfolding grown
  get_or-grown-take done xs zero i d h l = sym (get_or-grown_front done xs i d (omega arith))
  get_or-grown-take done [] (suc k) i d h l = absurd (omega arith)
  get_or-grown-take done (x ∷ xs) (suc k) i d h l = get_or-grown-take (done ++ (f done x ∷ [])) xs k i d (omega arith) (simp length-append (omega arith))
