-- Each row adds the atoms that it holds and those of its type.
use Rattle.std.proofs.Common.{refl, ◌∙◌, arith}
use Rattle.std.proofs.lemmas.List.{length-set}
use Rattle.derivation.proofs.HeldLaws.{held_more, places_none, places-all, row_adds}
use Rattle.derivation.proofs.count.Measured.places.Goals as goal

pub loop-r-init : goal.loop-r-init
loop-r-init c =
    let m = c.args.self.now in
    record { long = refl; known = λ p l. absurd (omega arith); counted = places_none m.types.now m.rows.now; small = omega arith }

pub overflow_add-count : goal.overflow_add-count
overflow_add-count c =
    let m = c.args.self.now in
    omega (arith, (row_adds m.types.now m.rows.now c.requires c.loop-r.r c.loop-r-test.true _ c.held-in_env.ensures _ c.size.ensures).1)

pub overflow_add-count-in-loop-r : goal.overflow_add-count-in-loop-r
overflow_add-count-in-loop-r c =
    let m = c.args.self.now in
    omega (arith, m.few, (row_adds m.types.now m.rows.now c.requires c.loop-r.r c.loop-r-test.true _ c.held-in_env.ensures _ c.size.ensures).1)

pub loop-r-preserved : goal.loop-r-preserved
loop-r-preserved c =
    let m = c.args.self.now in
    let h = row_adds m.types.now m.rows.now c.requires c.loop-r.r c.loop-r-test.true _ c.held-in_env.ensures _ c.size.ensures in
    record {
      long = length-set c.loop-r.held c.loop-r.r c.held-in_env.result ∙ c.loop-r.invariant.long;
      known = held_more m.types.now m.rows.now c.loop-r.held c.loop-r.r c.held-in_env.result (omega (arith, m.few)) c.held-in_env.ensures c.loop-r.invariant.known;
      counted = omega (arith, h.0);
      small = omega (arith, h.1);
    }

pub returns : goal.returns
returns c = let m = c.args.self.now in c.loop-r.invariant.counted ∙ places-all m.types.now m.rows.now c.loop-r.r (omega arith)
