-- Each wire has one way through the places, the same in all runs: only one wire comes to a place, and a wire comes to one end.
use Rattle.std.proofs.Common.{ℕ, ◌<◌, List, sym, refl, ◌∙◌, subst, arith}
use Rattle.std.proofs.lemmas.List.{ext_get_or}
use Rattle.derivation.specs.declared.types.TypeEntry.{TypeEntry}
use Rattle.derivation.specs.declared.rows.Row.{Row}
use Rattle.derivation.specs.declared.rows.Place.{Place}
use Rattle.derivation.specs.Places.{wires}
use Rattle.derivation.specs.Accepted.{Accepted}
use Rattle.theory.specs.Tokens.{Fired, no_place}
use Rattle.theory.specs.Runs.{Reached, begun, moved}
use Rattle.theory.specs.Laws.{PortLaws, StartLaws, Determined}
use Rattle.theory.proofs.Marked.{Comes, comes-after, comes-once, one_end}
use Rattle.theory.proofs.Progress.{machine, placed, move_moves, marked, left_by, reached-length, run_fact}

module _ (es : List TypeEntry) (rows : List Row) (a : Accepted es rows) (ports : PortLaws es rows) (begin : StartLaws es rows) where
  -- a wire's token is on the wire's way
  pub comes : {tokens : List Place} {n : ℕ} {fired : List Fired} → Reached es rows tokens n fired → (w : ℕ) → w < wires es rows → Comes (machine es rows) w (placed tokens w)
  comes begun v h = (0, (λ j l. absurd (omega arith)), refl)
  comes (moved {tokens = before} r w m e) v h =
      let k = move_moves es rows before (reached-length es rows begin r) w m e in
      comes-after (machine es rows) (marked es rows a ports begin) (placed before) (left_by es rows r) (run_fact es rows a ports begin r) (placed before w) k.enabled
      (placed m.tokens) k.goes k.stays v h (comes r v h)

  -- the ends are determined, and the wire that comes to a place
  pub determined : Determined es rows
  determined = record {
    same_ends = λ s t m n fs gs r q s-home t-home.
        let len = reached-length es rows begin r in
        ext_get_or no_place s t (len ∙ sym (reached-length es rows begin q))
        (λ w h.
        let l = subst (λ k. w < k) len h in
        one_end (machine es rows) (marked es rows a ports begin) w (placed s w) (placed t w) (comes r w l) (comes q w l) (s-home w l) (t-home w l));
    same_wire = λ s t m n fs gs r q w v hw hv same.
        comes-once (machine es rows) (marked es rows a ports begin) w v (placed s w) (placed t v) hw hv (comes r w hw) (comes q v hv) same;
  }
