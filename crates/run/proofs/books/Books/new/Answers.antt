-- One step: the next wire settles, and the rest are left to settle. A derivation that passed all checks has at most 32 wires.
use Rattle.std.proofs.Common.{◌≡◌, ◌+◌, ◌≤◌, List, length, get_or, drop, replicate, vec_items, sym, refl, ap, ◌∙◌, subst, arith}
use Rattle.theory.specs.Tokens.{no_place}
use Rattle.machine.proofs.StartTables.{starts-few}
use Rattle.run.specs.declared.books.Waiting.{Waiting}
use Rattle.run.specs.Books.{Fit, Kept, books_of, nobody, settled_from}
use Rattle.run.proofs.BookSteps.{fresh_fit, settled_fit, settled_next}
use Rattle.run.proofs.books.Books.new.Goals as goal
use Rattle.run.proofs.books.Books.new.Goals.{In_ok-waiting}

few : (c : In_ok-waiting) → length c.starts-starts.result.now ≤ 32
few c =
    let m = c.args.machine.now in
    omega (arith, ap length c.starts-starts.ensures, starts-few (vec_items m.types) (vec_items m.rows) m.accepted)

nobody_waits : (c : In_ok-waiting) → vec_items c.in_ok-waiting.waiting ≡ replicate (length (vec_items c.args.machine.now.rows)) nobody
nobody_waits c = c.in_ok-waiting.ensures.items_if_clones_equal (λ y e. e) ∙ ap (λ n. replicate n nobody) c.requires

pub overflow_cast-w : goal.overflow_cast-w
overflow_cast-w c = omega (arith, few (goal.at.overflow_cast-w c).In_ok-waiting)

pub settle-requires-clause-wire : goal.settle-requires-clause-wire
settle-requires-clause-wire c = omega (arith, few (goal.at.settle-requires-clause-wire c).In_ok-waiting)

pub loop-w-init : goal.loop-w-init
loop-w-init c =
    let m = c.args.machine.now in
    let ps = vec_items c.in_ok-places.places in (
      refl,
      subst (λ (ws : List Waiting). Fit (vec_items m.types) (vec_items m.rows) (record { tokens = ps; waiting = ws; ready = 0 })) (sym (nobody_waits c))
          (fresh_fit (vec_items m.types) (vec_items m.rows) ps (omega (arith, few c, ap length c.in_ok-places.ensures.items))),
    )

pub loop-w-preserved : goal.loop-w-preserved
loop-w-preserved c =
    let es = vec_items c.args.machine.now.types in
    let rows = vec_items c.args.machine.now.rows in
    let b = books_of c.loop-w.books in
    let ps = c.starts-starts.result.now in
    let w = c.loop-w.w in (
      ap (λ (k : Kept). settled_from es rows k (w + 1) (drop (w + 1) ps)) c.settle.ensures
          ∙ sym (settled_next es rows b ps w no_place c.loop-w-test.true)
          ∙ c.loop-w.invariant.0,
      subst (λ (k : Kept). Fit es rows k) (sym c.settle.ensures) (settled_fit es rows b w (get_or ps w no_place) c.loop-w.invariant.1),
    )
