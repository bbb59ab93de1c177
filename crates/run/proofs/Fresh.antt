-- What holds of a run that has just been made: no move leads to its tokens, and its books are right.
use Rattle.std.proofs.Common.{◌≡◌, true, false, List, [], Ok, Err, Result, sym, ap, ◌∙◌, subst}
use Rattle.std.specs.Result.{MatchResult, is_ok}
use Rattle.derivation.specs.declared.types.TypeEntry.{TypeEntry}
use Rattle.derivation.specs.declared.rows.Row.{Row}
use Rattle.derivation.specs.declared.rows.Place.{Place}
use Rattle.derivation.specs.Accepted.{valid}
use Rattle.derivation.proofs.AcceptedLaws.{accepted_from_valid}
use Rattle.theory.specs.Ports.{starts}
use Rattle.theory.specs.Runs.{Reached, begun}
use Rattle.run.specs.Books.{Kept, Right, Underway, start_books}
use Rattle.run.proofs.Settling.{start_right, start-tokens}

-- what is known of an answer that was Ok is known of it still where its error was told otherwise
pub still_ok : {A E D : Type 0} (P : A → Type 0) (Q R : E → Type 0) (r : Result A E) {m : Result A D} {x : A} → MatchResult r P Q → MatchResult r (λ y. m ≡ Ok y) R → is_ok m ≡ is_ok r → m ≡ Ok x → P x
still_ok P Q R (Ok y) p same variant is = let e : y ≡ _ = cc in subst P e p
still_ok P Q R (Err d) p told variant is = let e : true ≡ false = sym (ap is_ok is) ∙ variant in cc

module _ (es : List TypeEntry) (rows : List Row) (v : valid es rows ≡ true) (b : Kept) (e : b ≡ start_books es rows) where
  pub fresh-tokens : b.tokens ≡ starts es rows
  fresh-tokens = ap (λ (k : Kept). k.tokens) e ∙ start-tokens es rows (accepted_from_valid es rows v)

  pub fresh-reached : Underway es rows b.tokens 0
  fresh-reached = ∣ ([], subst (λ (ts : List Place). Reached es rows ts 0 []) (sym fresh-tokens) begun) ∣₁

  pub fresh-right : ∥ Right es rows b ∥₁
  fresh-right = ∣ subst (Right es rows) (sym e) (start_right es rows (accepted_from_valid es rows v)) ∣₁
