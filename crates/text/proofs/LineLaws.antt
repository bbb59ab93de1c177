-- Numbered lines, one after the other.
use Rattle.std.proofs.Common.{◌≡◌, ℕ, suc, ◌+◌, ◌<◌, List, [], ◌∷◌, ◌++◌, length, get_or, take, sym, ap, ◌∙◌, append_assoc, append-nil, add-zero, arith, length-take}
use Rattle.std.proofs.lemmas.List.{take_more}
use Rattle.text.specs.Lines.{numbered}

module _ {A : Type 0} (line : ℕ → A → List ℕ) where
  numbered-push : (k : ℕ) (xs : List A) (x : A) → numbered line k (xs ++ x ∷ []) ≡ numbered line k xs ++ line (k + length xs) x
  numbered-push k [] x = append-nil (line k x) ∙ ap (λ n. line n x) (sym (add-zero k))
  numbered-push k (y ∷ xs) x =
      let next : suc k + length xs ≡ k + suc (length xs) = omega arith in
      ap (λ (l : List ℕ). line k y ++ l) (numbered-push (suc k) xs x ∙ ap (λ n. numbered line (suc k) xs ++ line n x) next)
      ∙ sym (append_assoc (line k y) (numbered line (suc k) xs) (line (k + suc (length xs)) x))

  numbered-take : (xs : List A) (i : ℕ) (d : A) → i < length xs → numbered line 0 (take (i + 1) xs) ≡ numbered line 0 (take i xs) ++ line i (get_or xs i d)
  numbered-take xs i d h =
      let here : 0 + length (take i xs) ≡ i = omega (arith, length-take i xs) in
      ap (numbered line 0) (take_more xs i d h) ∙ numbered-push 0 (take i xs) (get_or xs i d)
      ∙ ap (λ n. numbered line 0 (take i xs) ++ line n (get_or xs i d)) here

  -- one line more, behind what is written
  pub numbered-more : (before : List ℕ) (xs : List A) (i : ℕ) (d : A) {so_far : List ℕ} → i < length xs → so_far ≡ before ++ numbered line 0 (take i xs)
      → so_far ++ line i (get_or xs i d) ≡ before ++ numbered line 0 (take (i + 1) xs)
  numbered-more before xs i d h e =
      ap (λ (l : List ℕ). l ++ line i (get_or xs i d)) e ∙ append_assoc before (numbered line 0 (take i xs)) (line i (get_or xs i d))
      ∙ ap (λ (l : List ℕ). before ++ l) (sym (numbered-take xs i d h))
