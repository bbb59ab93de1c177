-- A complete run leaves each token where next leads from its start: known before anything moves.
use Rattle.std.proofs.Common.{◌≡◌, ℕ, zero, suc, ◌<◌, ◌≤◌, true, false, List, map, Some, None, Option, sym, refl, ap, ◌∙◌, subst, ⊎_elim, arith}
use Rattle.std.proofs.lemmas.List.{ext_get_or, length-map, get_or-map}
use Rattle.std.proofs.lemmas.Bool.{cases_Bool}
use Rattle.derivation.specs.declared.types.TypeEntry.{TypeEntry}
use Rattle.derivation.specs.declared.rows.Row.{Row}
use Rattle.derivation.specs.declared.rows.Place.{Place}
use Rattle.derivation.specs.Accepted.{Accepted}
use Rattle.derivation.specs.Places.{wires, moves}
use Rattle.theory.specs.Ports.{next, starts, is_end}
use Rattle.theory.specs.Tokens.{Fired, no_place}
use Rattle.theory.specs.Runs.{Reached, begun, moved}
use Rattle.theory.specs.Laws.{PortLaws, StartLaws, Count}
use Rattle.theory.specs.Finals.{followed, finals, Foreseen}
use Rattle.theory.proofs.Progress.{machine, placed, move_moves, next_advance, reached-length, tokens-here, marked}

module _ (es : List TypeEntry) (rows : List Row) where
  -- next leads from p to q in k steps
  abbrev Leads : ℕ → Place → Place → Type 0
  Leads zero p q = p ≡ q
  Leads (suc k) p q = (m : Place) × (next es rows p ≡ Some m) × Leads k m q

  leads_on : (k : ℕ) (p q r : Place) → Leads k p q → next es rows q ≡ Some r → Leads (suc k) p r
  leads_on zero p q r l e = (r, ap (next es rows) l ∙ e, refl)
  leads_on (suc k) p q r (m, f, l) e = (m, f, leads_on k m q r l e)

  -- one step of following, by where next leads
  abbrev followed-by : ℕ → Place → Option Place → Place
  followed-by n p o = elim o [ Some q ↦ followed es rows n q | None ↦ p ]

  -- where next ends it is followed as far as wanted
  pub followed_end : (n : ℕ) (p : Place) → next es rows p ≡ None → followed es rows n p ≡ p
  followed_end zero p e = refl
  followed_end (suc n) p e = ap (followed-by n p) e

  followed_leads : (k n : ℕ) (p q : Place) → k ≤ n → Leads k p q → next es rows q ≡ None → followed es rows n p ≡ q
  followed_leads zero n p q h l e = followed_end n p (ap (next es rows) l ∙ e) ∙ l
  followed_leads (suc k) zero p q h l e = absurd (omega arith)
  followed_leads (suc k) (suc n) p q h (m, f, l) e = ap (followed-by n p) f ∙ followed_leads k n m q (omega arith) l e

  module _ (a : Accepted es rows) (ports : PortLaws es rows) (begin : StartLaws es rows) where
    -- what moves with a place is no end
    no_end : (p q : Place) → (machine es rows).with p q ≡ true → is_end es rows q ≡ false
    no_end p q y = (marked es rows a ports begin).with_end p q y

    -- each token has gone at most as many steps as there were moves
    gone : {tokens : List Place} {n : ℕ} {fired : List Fired} → Reached es rows tokens n fired → (v : ℕ) → v < wires es rows → (k : ℕ) × (k ≤ n) × Leads k (placed (starts es rows) v) (placed tokens v)
    gone begun v h = (0, omega arith, refl)
    gone (moved {tokens = before} r w m e) v h =
        let (k, le, l) = gone r v h in
        let s = move_moves es rows before (reached-length es rows begin r) w m e in
        ⊎_elim
        (λ y.
        let far = next_advance es rows ports (placed before v) (tokens-here es rows a ports begin r v h) (no_end (placed before w) (placed before v) y) in
        (suc k, omega arith, subst (Leads (suc k) (placed (starts es rows) v)) (sym (s.goes v h y)) (leads_on k _ _ _ l far)))
        (λ no. (k, omega arith, subst (Leads k (placed (starts es rows) v)) (sym (s.stays v h no)) l))
        (cases_Bool ((machine es rows).with (placed before w) (placed before v)))

    pub foreseen : Count es rows → Foreseen es rows
    unfolding finals
    foreseen count tokens n fired r home =
        let len = reached-length es rows begin r in
        let all = (count tokens n fired r).0.0 home in
        ext_get_or no_place tokens (map (followed es rows (moves es rows)) (starts es rows)) (len ∙ sym (length-map (starts es rows) (followed es rows (moves es rows)) ∙ begin.count))
        (λ w h.
        let l = subst (λ k. w < k) len h in
        let (k, le, leads) = gone r w l in
        sym (get_or-map (followed es rows (moves es rows)) (starts es rows) w no_place no_place (subst (λ j. w < j) (sym begin.count) l)
        ∙ followed_leads k (moves es rows) _ _ (omega arith) leads (ports.at_end _ (home w l))))
