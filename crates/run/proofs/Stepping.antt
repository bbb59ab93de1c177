-- Wires that go on one after the other: when all have come to their next places, what is kept is right.
use Rattle.std.proofs.Common.{◌≡◌, ℕ, ◌<◌, true, false, cond, ◌&&◌, ◌||◌, eqb, List, [], ◌∷◌, length, get_or, set, Some, None, Option, sym, refl, ap, ◌∙◌, subst, ⊎_elim, arith}
use Rattle.std.proofs.lemmas.List.{ext_get_or, get_or_default, get_or-set_other, get_or-set_same, length-set}
use Rattle.std.proofs.lemmas.Bool.{both_ways, cases_Bool, cases_eq, cond-true, cond-false, cond_both, ne_eqb, or_right, or_from}
use Rattle.derivation.specs.declared.types.TypeEntry.{TypeEntry}
use Rattle.derivation.specs.declared.rows.Row.{Row}
use Rattle.derivation.specs.declared.rows.Place.{Place}
use Rattle.theory.specs.Ports.{is_end, is_place, listed, next}
use Rattle.theory.specs.Tokens.{is_seat, no_place}
use Rattle.theory.proofs.Basics.{listed-first}
use Rattle.run.specs.Books.{Kept, put, settled, stepped, stepped_all}
use Rattle.run.proofs.Standing.{nowhere, placing, placing-here, placing_other, Known}
use Rattle.run.proofs.Arriving.{arrive}
use Rattle.run.proofs.RightLaws.{spots, nowhere_off, spot_wire}

-- no number stands twice in the list
abbrev pub Unlike : List ℕ → Type 0
Unlike [] = Unit {0}
Unlike (w ∷ ws) = (listed w ws ≡ false) × Unlike ws

module _ (es : List TypeEntry) (rows : List Row) where
  -- a wire that settles changes no token
  pub settled_tokens : (b : Kept) (w : ℕ) (q : Place) → (settled es rows b w q).tokens ≡ b.tokens
  unfolding settled
  settled_tokens b w q =
      cond_both (is_place es rows q && is_seat es rows q) _ _ (λ (c : Kept). c.tokens ≡ b.tokens) (λ e. refl)
      (λ e. cond_both (is_place es rows q && is_end es rows q) _ _ (λ (c : Kept). c.tokens ≡ b.tokens) (λ d. refl) (λ d. refl))

  -- a wire goes on to the next place
  stepped_is : (b : Kept) (w : ℕ) (q : Place) → is_place es rows (get_or b.tokens w no_place) ≡ true → next es rows (get_or b.tokens w no_place) ≡ Some q → stepped es rows b w ≡ put es rows b w q
  unfolding stepped
  stepped_is b w q here e = ap onward (cond-true _ _ _ here ∙ e)
    where
      onward : Option Place → Kept
      onward (Some p) = put es rows b w p
      onward None = b

  -- tokens can be others, as many
  pub known-tokens : (f : ℕ → Place) (b : Kept) (tokens : List Place) → length tokens ≡ length b.tokens → Known es rows f b
      → Known es rows f (record { tokens = tokens; waiting = b.waiting; ready = b.ready })
  known-tokens f b tokens e k = record {
    rowed = k.rowed;
    roomy = k.roomy;
    past = λ v h. k.past v (omega arith);
    can = k.can;
    able = k.able;
    sits = k.sits;
  }

  -- some wires are still to come to their places
  abbrev pub awaited : List ℕ → (ℕ → Place) → ℕ → Place
  awaited ws f v = cond (listed v ws) (nowhere rows) (f v)

module _ (es : List TypeEntry) (rows : List Row) (moving : (p : Place) → is_seat es rows p ≡ true → is_end es rows p ≡ false) (after : List Place)
    (apart : (w v : ℕ) → w < length after → v < length after → get_or after w no_place ≡ get_or after v no_place → w ≡ v)
    (stand : (w : ℕ) → w < length after → is_place es rows (get_or after w no_place) ≡ true) where
  -- the first of the awaited has come
  come : (w : ℕ) (ws : List ℕ) → w < length after → listed w ws ≡ false → (v : ℕ) → placing (awaited es rows (w ∷ ws) (spots rows after)) w (get_or after w no_place) v ≡ awaited es rows ws (spots rows after) v
  come w ws l new v = ⊎_elim
      (λ same.
      placing-here (awaited es rows (w ∷ ws) (spots rows after)) w (get_or after w no_place) v same
      ∙ sym (ap (awaited es rows ws (spots rows after)) same ∙ cond-false _ _ _ new ∙ get_or_default after w (nowhere rows) no_place l))
      (λ other.
      placing_other (awaited es rows (w ∷ ws) (spots rows after)) w (get_or after w no_place) v other
      ∙ ap (λ c. cond (c || listed v ws) (nowhere rows) (spots rows after v)) (ne_eqb w v (λ e. other (sym e))))
      (cases_eq v w)

  -- nobody is where it goes
  unmet : (w : ℕ) (ws : List ℕ) → w < length after → (u : ℕ) → awaited es rows (w ∷ ws) (spots rows after) u ≡ get_or after w no_place → ⊥
  unmet w ws l u e = ⊎_elim
      (λ h. both_ways _ (nowhere_off es rows) (ap (is_place es rows) (sym (cond-true _ _ _ h) ∙ e) ∙ stand w l))
      (λ h.
      let there : spots rows after u ≡ get_or after w no_place = sym (cond-false _ _ _ h) ∙ e in
      let k = spot_wire es rows after u (ap (is_place es rows) there ∙ stand w l) in
      let same = apart u w k l (get_or_default after u no_place (nowhere rows) k ∙ there) in
      both_ways _ h (ap (λ v. listed v (w ∷ ws)) same ∙ listed-first w ws))
      (cases_Bool (listed u (w ∷ ws)))

  -- one wire goes on
  one-steps : (w : ℕ) (ws : List ℕ) (b : Kept) → w < length after → listed w ws ≡ false → length b.tokens ≡ length after
      → is_place es rows (get_or b.tokens w no_place) ≡ true → next es rows (get_or b.tokens w no_place) ≡ Some (get_or after w no_place)
      → Known es rows (awaited es rows (w ∷ ws) (spots rows after)) b
      → ((stepped es rows b w).tokens ≡ set b.tokens w (get_or after w no_place)) × Known es rows (awaited es rows ws (spots rows after)) (stepped es rows b w)
  one-steps w ws b l new size here e k =
      let q = get_or after w no_place in
      let f = awaited es rows (w ∷ ws) (spots rows after) in
      let same = stepped_is es rows b w q here e in
      let moved : Kept = record { tokens = set b.tokens w q; waiting = b.waiting; ready = b.ready } in
      let off : f w ≡ nowhere rows = cond-true _ _ _ (listed-first w ws) in
      let inside : w < length (set b.tokens w q) = omega (arith, length-set b.tokens w q) in
      let there = arrive es rows f w q off (unmet w ws l) moved (known-tokens es rows f b (set b.tokens w q) (length-set b.tokens w q) k) inside (stand w l) moving in (
        ap (λ (c : Kept). c.tokens) same ∙ settled_tokens es rows moved w q,
        subst (Known es rows (awaited es rows ws (spots rows after))) (sym same) (subst (λ g. Known es rows g (put es rows b w q)) (λ i v. come w ws l new v i) there),
      )

  -- all go on, one after the other
  pub all-step : (ws : List ℕ) (b : Kept) → Unlike ws → length b.tokens ≡ length after
      → ((v : ℕ) → v < length after → listed v ws ≡ false → get_or b.tokens v no_place ≡ get_or after v no_place)
      → ((v : ℕ) → listed v ws ≡ true → (v < length after) × (is_place es rows (get_or b.tokens v no_place) ≡ true) × (next es rows (get_or b.tokens v no_place) ≡ Some (get_or after v no_place)))
      → Known es rows (awaited es rows ws (spots rows after)) b
      → ((stepped_all es rows b ws).tokens ≡ after) × Known es rows (spots rows after) (stepped_all es rows b ws)
  all-step [] b unlike size stays goes k = (ext_get_or no_place b.tokens after size (λ v h. stays v (omega arith) refl), k)
  all-step (w ∷ ws) b (new, unlike) size stays goes k =
      let (l, here, e) = goes w (listed-first w ws) in
      let (tokens, known) = one-steps w ws b l new size here e k in
      let at_other : (v : ℕ) → (v ≡ w → ⊥) → get_or (stepped es rows b w).tokens v no_place ≡ get_or b.tokens v no_place
      = λ v other. ap (λ ts. get_or ts v no_place) tokens ∙ get_or-set_other b.tokens w v _ no_place other in
      all-step ws (stepped es rows b w) unlike (ap length tokens ∙ length-set b.tokens w _ ∙ size)
      (λ v h no_more. ⊎_elim
      (λ same. ap (λ u. get_or (stepped es rows b w).tokens u no_place) same ∙ ap (λ ts. get_or ts w no_place) tokens ∙ get_or-set_same b.tokens w _ no_place (omega arith) ∙ ap (λ u. get_or after u no_place) (sym same))
      (λ other. at_other v other ∙ stays v h (or_from _ _ (ne_eqb w v (λ s. other (sym s))) no_more))
      (cases_eq v w))
      (λ v more.
      let other : v ≡ w → ⊥ = λ same. both_ways _ new (ap (λ u. listed u ws) (sym same) ∙ more) in
      let (h, place, f) = goes v (or_right (eqb w v) _ more) in
      (h, ap (is_place es rows) (at_other v other) ∙ place, ap (next es rows) (at_other v other) ∙ f))
      known
