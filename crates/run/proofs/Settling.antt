-- Wires that settle one after the other where they start: what is kept then is right.
use Rattle.std.proofs.Common.{◌≡◌, ℕ, suc, ◌+◌, ◌<◌, ◌≤◌, true, false, cond, eqb, ltb, List, [], ◌∷◌, length, get_or, replicate, sym, refl, ap, ◌∙◌, subst, ⊎_elim, add-zero, arith}
use Rattle.std.proofs.lemmas.List.{get_or_default, get_or_past, get_or-replicate, length-replicate}
use Rattle.std.proofs.lemmas.Bool.{both_ways, and_right, cases_eq, cases_lt, cond-true, cond-false, le-ltb, lt-ltb}
use Rattle.derivation.specs.declared.types.TypeEntry.{TypeEntry}
use Rattle.derivation.specs.declared.rows.Row.{Row}
use Rattle.derivation.specs.declared.rows.Place.{Place}
use Rattle.derivation.specs.Accepted.{Accepted}
use Rattle.basics.specs.Sets.{has}
use Rattle.basics.proofs.SetLaws.{has_none}
use Rattle.theory.specs.Ports.{is_end, is_place, starts}
use Rattle.theory.specs.Runs.{begun}
use Rattle.theory.specs.Tokens.{is_seat, no_place}
use Rattle.theory.proofs.Assembled.{theory}
use Rattle.theory.proofs.Ways.{seat_no_end}
use Rattle.run.specs.declared.books.Waiting.{Waiting}
use Rattle.run.specs.Books.{Kept, Right, nobody, settled, settled_from, start_books}
use Rattle.run.proofs.Standing.{nowhere, placing, placing-here, placing_other, part_differs, Known}
use Rattle.run.proofs.Arriving.{arrive}
use Rattle.run.proofs.RightLaws.{spots, nowhere_off}
use Rattle.run.proofs.Stepping.{settled_tokens}
use Rattle.run.proofs.MoveLaws.{right_as, run_apart, run_stand}

module _ (es : List TypeEntry) (rows : List Row) where
  -- wires below k have come to their places
  abbrev come : List Place → ℕ → ℕ → Place
  come tokens k v = cond (ltb v k) (spots rows tokens v) (nowhere rows)

  -- all of them
  come-all : (tokens : List Place) (k : ℕ) → length tokens ≤ k → (v : ℕ) → come tokens k v ≡ spots rows tokens v
  come-all tokens k h v = ⊎_elim
      (λ l. cond-true _ _ _ (lt-ltb v k l))
      (λ l. cond-false _ _ _ (le-ltb v k l) ∙ sym (get_or_past tokens v (nowhere rows) (omega arith)))
      (cases_lt v k)

  -- one more
  come-more : (tokens : List Place) (k : ℕ) → k < length tokens → (v : ℕ) → placing (come tokens k) k (get_or tokens k no_place) v ≡ come tokens (suc k) v
  come-more tokens k h v = ⊎_elim
      (λ same.
      placing-here (come tokens k) k _ v same ∙ sym (get_or_default tokens k (nowhere rows) no_place h)
      ∙ sym (ap (come tokens (suc k)) same ∙ cond-true _ _ _ (lt-ltb k (suc k) (omega arith))))
      (λ other. placing_other (come tokens k) k _ v other ∙ ⊎_elim
      (λ l. cond-true _ _ _ (lt-ltb v k l) ∙ sym (cond-true _ _ _ (lt-ltb v (suc k) (omega arith))))
      (λ l. cond-false _ _ _ (le-ltb v k l) ∙ sym (cond-false _ _ _ (le-ltb v (suc k) (omega arith))))
      (cases_lt v k))
      (cases_eq v k)

  -- while nobody is anywhere nobody waits
  nobody-known : (tokens : List Place) → Known es rows (λ v. nowhere rows) (record { tokens = tokens; waiting = replicate (length rows) nobody; ready = 0 })
  nobody-known tokens = record {
    rowed = length-replicate (length rows) nobody;
    roomy = λ r h. ap (λ (x : Waiting). length x.seats) (get_or-replicate (length rows) r nobody nobody h);
    past = λ v h. (has_none v, refl);
    can = λ v here h. absurd (both_ways _ (nowhere_off es rows) here);
    able = λ v here c. absurd (both_ways _ (nowhere_off es rows) here);
    sits = λ r h. record {
      wires = λ v. ap (λ (x : Waiting). has x.wires v) (get_or-replicate (length rows) r nobody nobody h) ∙ has_none v ∙ sym (and_right (eqb (length rows) r) false refl);
      seated = λ i u l e. absurd (part_differs r i (length rows) 0 0 (sym e));
    };
  }

  module _ (moving : (p : Place) → is_seat es rows p ≡ true → is_end es rows p ≡ false) (tokens : List Place)
      (apart : (w v : ℕ) → w < length tokens → v < length tokens → get_or tokens w no_place ≡ get_or tokens v no_place → w ≡ v)
      (stand : (w : ℕ) → w < length tokens → is_place es rows (get_or tokens w no_place) ≡ true) where
    -- nobody is where the next one comes
    unmet : (k : ℕ) → k < length tokens → (u : ℕ) → come tokens k u ≡ get_or tokens k no_place → ⊥
    unmet k h u e = ⊎_elim
        (λ l.
        let m : u < length tokens = omega arith in
        let same = apart u k m h (get_or_default tokens u no_place (nowhere rows) m ∙ sym (cond-true _ _ _ (lt-ltb u k l)) ∙ e) in
        omega arith)
        (λ l. both_ways _ (nowhere_off es rows) (ap (is_place es rows) (sym (cond-false _ _ _ (le-ltb u k l)) ∙ e) ∙ stand k h))
        (cases_lt u k)

    -- the wires from w on settle
    all-settle : (ps : List Place) (w : ℕ) (b : Kept) → b.tokens ≡ tokens → length tokens ≡ w + length ps
        → ((i : ℕ) → i < length ps → get_or ps i no_place ≡ get_or tokens (w + i) no_place) → Known es rows (come tokens w) b
        → ((settled_from es rows b w ps).tokens ≡ tokens) × Known es rows (spots rows tokens) (settled_from es rows b w ps)
    all-settle [] w b same size each k = (same, subst (λ f. Known es rows f b) (λ i v. come-all tokens w (omega arith) v i) k)
    all-settle (p ∷ ps) w b same size each k =
        let h : w < length tokens = omega arith in
        let here : p ≡ get_or tokens w no_place = each 0 (omega arith) ∙ ap (λ n. get_or tokens n no_place) (add-zero w) in
        let inside : w < length b.tokens = subst (λ ts. w < length ts) (sym same) h in
        let there : Known es rows (come tokens (suc w)) (settled es rows b w p)
        = subst (λ f. Known es rows f (settled es rows b w p)) (λ i v. (ap (λ q. placing (come tokens w) w q v) here ∙ come-more tokens w h v) i)
        (arrive es rows (come tokens w) w p (cond-false _ _ _ (le-ltb w w (omega arith))) (λ u e. unmet w h u (e ∙ here)) b k inside (ap (is_place es rows) here ∙ stand w h) moving) in
        all-settle ps (suc w) (settled es rows b w p) (settled_tokens es rows b w p ∙ same) (omega arith)
        (λ i l. each (suc i) (omega arith) ∙ ap (λ n. get_or tokens n no_place) (omega arith)) there

module _ (es : List TypeEntry) (rows : List Row) (a : Accepted es rows) where
  begin : ((start_books es rows).tokens ≡ starts es rows) × Known es rows (spots rows (starts es rows)) (start_books es rows)
  begin = all-settle es rows (seat_no_end es rows a) (starts es rows) (run_apart es rows a begun) (run_stand es rows a begun) (starts es rows) 0 _ refl (omega arith)
      (λ i l. ap (λ n. get_or (starts es rows) n no_place) (omega arith))
      (subst (λ f. Known es rows f (record { tokens = starts es rows; waiting = replicate (length rows) nobody; ready = 0 })) (λ i v. sym (cond-false (ltb v 0) (spots rows (starts es rows) v) (nowhere rows) (le-ltb v 0 (omega arith))) i) (nobody-known es rows (starts es rows)))

  -- a run that opens has its tokens at the starts
  pub start-tokens : (start_books es rows).tokens ≡ starts es rows
  start-tokens = begin.0

  -- and what it keeps of them is right
  pub start_right : Right es rows (start_books es rows)
  start_right = right_as es rows a (start_books es rows) (starts es rows) begun (omega (arith, (theory es rows a).begins.count, a.wired)) begin.0 begin.1
