-- The computed next place is the one that a rule joins.
use Rattle.std.proofs.Common.{◌≡◌, ℕ, suc, ◌<◌, ◌≤◌, true, false, eqb, ◌⊎◌, List, [], ◌∷◌, length, Some, sym, refl, ap, ◌∙◌, inl, inr, ⊎_elim, arith}
use Rattle.std.proofs.lemmas.Bool.{and_from, or_parts, not_from_false, both_ways, cases_Bool, cases_lt, eq-eqb}
use Rattle.derivation.specs.declared.types.TypeEntry.{TypeEntry}
use Rattle.derivation.specs.declared.rows.Rule.{Rule}
use Rattle.derivation.specs.declared.rows.Rule.TheVariants.{Variable, Zero, One, Gate, Lambda, PairLambda, Apply, Pair}
use Rattle.derivation.specs.declared.rows.Row.{Row}
use Rattle.derivation.specs.declared.rows.Part.TheVariants.{Ty}
use Rattle.derivation.specs.declared.rows.Place.{Place}
use Rattle.basics.specs.Sets.{has}
use Rattle.derivation.specs.Rows.{premises, binders}
use Rattle.derivation.specs.Judgements.{rule_at, env_at}
use Rattle.derivation.specs.Places.{is_gate, negative}
use Rattle.derivation.specs.Accepted.{Accepted}
use Rattle.basics.proofs.SetLaws.{eqb_swap}
use Rattle.derivation.proofs.TreeLaws.{not_so}
use Rattle.theory.specs.Ports.{held, listed, below, width, upward, downward, next, is_place, last}
use Rattle.theory.specs.Tokens.{is_seat}
use Rattle.theory.specs.Steps.{Joins, Enters}
use Rattle.theory.proofs.Basics.{none_some, listed-first, listed-second}
use Rattle.theory.proofs.Belows.{premise-lower, below_row}
use Rattle.theory.proofs.Signs.{gate-of}
use Rattle.theory.proofs.Ways.{place-parts, seat_facts, seat_negative}
use Rattle.theory.proofs.Links.{for_one, Linked, Link, premise-listed, rise}
use Rattle.theory.proofs.Links.{lambda-bound, lambda-body, lambda-environment, pair-bound-first, pair-bound-second, pair_body, pair-lambda-environment}
use Rattle.theory.proofs.Links.{apply-result, apply-falls, apply-environment, pair-first, pair-second, pair-environment}
use Rattle.theory.proofs.PortLaws.{next-negative, next-positive, known_up, known-down, port_laws}

-- a rule with a premise is no gate
premise-gate : (rule : Rule) (q : ℕ) → listed q (premises rule) ≡ true → is_gate rule ≡ false
premise-gate rule q h = not_so _ (λ t. let (g, e) = gate-of rule t in both_ways _ (ap (λ k. listed q (premises k)) e) h)

module _ (es : List TypeEntry) (rows : List Row) (a : Accepted es rows) where
  -- a place that is no seat, and a next place: the rule that it enters joins them
  pub next-joins : (p q : Place) → is_place es rows p ≡ true → is_seat es rows p ≡ false → next es rows p ≡ Some q → (r : ℕ) × Enters es rows r p × Linked es rows r p q
  next-joins p q h s e =
      let x = p.row.0 in
      ⊎_elim
      (λ n. ⊎_elim
      (λ j. (x, inl (n, refl), j))
      (λ seat. absurd (both_ways _ s (seat ∙ n)))
      (known_up es rows a p (Some q) h (sym (next-negative es rows p n) ∙ e)).1)
      (λ n. ⊎_elim
      (λ (l : suc x < length rows).
      let (hb, m) = below_row es rows a x l in
      (below es rows x, inr (n, hb, m), (known-down es rows a p (Some q) h (sym (next-positive es rows p n) ∙ e)).1))
      (λ (l : length rows ≤ suc x).
      let k = (place-parts es rows p h).0 in
      absurd (none_some (sym ((port_laws es rows a).at_end p (and_from _ _ (eq-eqb x (last es rows) (omega arith)) (not_from_false _ n))) ∙ e)))
      (cases_lt (suc x) (length rows)))
      (cases_Bool (negative es rows p))

  -- a token at p, in row r or in a premise of it, passes row r's rule to q
  abbrev Passes : ℕ → Place → Place → Type 0
  Passes r p q =
      ((p.row.0 ≡ r) × (upward es rows p ≡ Some q))
      ⊎ ((listed p.row.0 (premises (rule_at rows r)) ≡ true) × (downward es rows p ≡ Some q))

  -- two places pass a rule to one another, and it is no gate's
  abbrev PassBoth : ℕ → Place → Place → Type 0
  PassBoth r p q = Passes r p q × Passes r q p × (is_gate (rule_at rows r) ≡ false)

  link_passes : {r : ℕ} {p q : Place} → Link es rows r p q → PassBoth r p q
  link_passes {r} {p} {q} l = (inl (l.own, l.rises), inr (l.premise, l.falls), premise-gate (rule_at rows r) q.row.0 l.premise)

  -- a variable that is not bound is joined with the same variable of the premise that has it
  environment_link : (r q z i : ℕ) (rule : Rule) → r < length rows → rule_at rows r ≡ rule → listed q (premises rule) ≡ true → has (env_at rows q) z ≡ true → listed z (binders rule) ≡ false
      → i < width es rows z → Link es rows r (held r z i) (held q z i)
  environment_link r q z i Variable h e l k b w = absurd (both_ways false refl l)
  environment_link r q z i Zero h e l k b w = absurd (both_ways false refl l)
  environment_link r q z i One h e l k b w = absurd (both_ways false refl l)
  environment_link r q z i (Gate g) h e l k b w = absurd (both_ways false refl l)
  environment_link r q z i (Lambda p x) h e l k b w =
      let (bx, none) = or_parts (eqb x.0 z) false b in
      for_one (λ n. has (env_at rows n) z ≡ true → Link es rows r (held r z i) (held n z i)) p.0 q l
      (λ m. lambda-environment es rows a r h p x e z i m (eqb_swap z x.0 ∙ bx) w) k
  environment_link r q z i (PairLambda p x y) h e l k b w =
      let (bx, rest) = or_parts (eqb x.0 z) _ b in
      let (by, none) = or_parts (eqb y.0 z) false rest in
      for_one (λ n. has (env_at rows n) z ≡ true → Link es rows r (held r z i) (held n z i)) p.0 q l
      (λ m. pair-lambda-environment es rows a r h p x y e z i m (eqb_swap z x.0 ∙ bx) (eqb_swap z y.0 ∙ by) w) k
  environment_link r q z i (Apply f c) h e l k b w = apply-environment es rows a r h f c e q z i l k w
  environment_link r q z i (Pair f c) h e l k b w = pair-environment es rows a r h f c e q z i l k w

  -- joined places pass to one another
  joined_pass : (r : ℕ) → r < length rows → {p q : Place} → Joins es rows r p q → PassBoth r p q
  joined_pass r h (Joins.variable {i = i} e w) = (inl (refl, rise es rows a r h Variable e _ i), inl (refl, rise es rows a r h Variable e Ty i), ap is_gate e)
  joined_pass r h (Joins.environment {q = q} {z = z} {i = i} l k b w) = link_passes (environment_link r q z i (rule_at rows r) h refl l k b w)
  joined_pass r h (Joins.bound {p = p} {x = x} {i = i} e w) = link_passes (lambda-bound es rows a r h p x e i w)
  joined_pass r h (Joins.body {p = p} {x = x} {i = i} e w) = link_passes (lambda-body es rows a r h p x e _ i refl w)
  joined_pass r h (Joins.bound_first {p = p} {x = x} {y = y} {i = i} e w) = link_passes (pair-bound-first es rows a r h p x y e i w)
  joined_pass r h (Joins.bound_second {p = p} {x = x} {y = y} {i = i} e w) = link_passes (pair-bound-second es rows a r h p x y e _ i refl w)
  joined_pass r h (Joins.pair_body {p = p} {x = x} {y = y} {i = i} e w) = link_passes (pair_body es rows a r h p x y e _ i refl w)
  joined_pass r h (Joins.argument {f = f} {a = b} {i = i} e w) =
      let (from-f, from-b) = apply-falls es rows a r h f b e i w in (
        inr (premise-listed es rows a r h (Apply f b) e f.0 (listed-first f.0 (b.0 ∷ [])), from-f),
        inr (premise-listed es rows a r h (Apply f b) e b.0 (listed-second f.0 b.0), from-b),
        ap is_gate e,
      )
  joined_pass r h (Joins.result {f = f} {a = b} {i = i} e w) = link_passes (apply-result es rows a r h f b e i _ refl w)
  joined_pass r h (Joins.left_part {p = p} {q = q} {i = i} e w) = link_passes (pair-first es rows a r h p q e i w)
  joined_pass r h (Joins.right_part {p = p} {q = q} {i = i} e w) = link_passes (pair-second es rows a r h p q e _ i refl w)

  -- a place that passes a rule which it enters comes next to the place that it passes to
  passes-next : (r : ℕ) (p q : Place) → r < length rows → Enters es rows r p → Passes r p q → next es rows p ≡ Some q
  passes-next r p q h (inl (n, own)) (inl (same, rises)) = next-negative es rows p n ∙ rises
  passes-next r p q h (inl (n, own)) (inr (l, falls)) = absurd (omega (arith, own, premise-lower es rows a r p.row.0 h l))
  passes-next r p q h (inr (n, k, l)) (inl (own, rises)) = absurd (omega (arith, own, premise-lower es rows a r p.row.0 h l))
  passes-next r p q h (inr (n, k, l)) (inr (m, falls)) = next-positive es rows p n ∙ falls

  -- what the rule that a place enters joins with it comes next, and the place is no seat
  pub joins-next : (r : ℕ) (p q : Place) → is_place es rows p ≡ true → Enters es rows r p → Linked es rows r p q → (next es rows p ≡ Some q) × (is_seat es rows p ≡ false)
  joins-next r p q h c j = (passes-next r p q low c both.0, not_so _ (no_seat c))
    where
      low : r < length rows
      low = ⊎_elim (λ n. let k = (place-parts es rows p h).0 in omega (arith, n.1)) (λ n. n.1) c

      both : Passes r p q × (is_gate (rule_at rows r) ≡ false)
      both = ⊎_elim (λ k. let (there, back, g) = joined_pass r low k in (there, g)) (λ k. let (there, back, g) = joined_pass r low k in (back, g)) j

      no_seat : Enters es rows r p → is_seat es rows p ≡ true → ⊥
      no_seat (inl (n, own)) s = let (g, e, i, same) = seat_facts es rows p s in both_ways _ both.1 (ap (λ k. is_gate (rule_at rows k)) (sym own) ∙ ap is_gate e)
      no_seat (inr (n, k, l)) s = both_ways _ n (seat_negative es rows a p s)
