-- The rows that are not left are below their premises; the last one left is put below its own.
use Rattle.std.proofs.Common.{◌≡◌, ℕ, length, get_or, drop, Some, None, sym, refl, ap, ◌∙◌, ap₂, arith}
use Rattle.std.specs.Slice.Iter.{iter_rest}
use Rattle.std.proofs.lemmas.List.{take_all}
use Rattle.derivation.specs.declared.rows.Row.{Row}
use Rattle.derivation.specs.Rows.{no_row, premises}
use Rattle.derivation.specs.Judgements.{rule_at}
use Rattle.machine.specs.Facts.{marked, row_of}
use Rattle.theory.specs.Ports.{below_from}
use Rattle.machine.proofs.FactLaws.{below_none, below_more, left_count, left_more, length_marked}
use Rattle.machine.proofs.tables.below_rows.Goals as goal

pub loop-r-init : goal.loop-r-init
loop-r-init c =
    let rows = c.args.rows.now in
    let all : iter_rest c.into_iter-r-iterator.result.iter.iter ≡ rows = cc in
    record {
      size = refl;
      from = cc;
      few = omega (arith, ap length all);
      left = all ∙ sym (take_all _ rows (omega (arith, ap length all)));
      under = λ q h. below_none rows 128 q h ∙ ap (λ n. row_of (length rows) (below_from n (drop n rows) q)) (sym (ap length all));
    }

pub loop-r-preserved : goal.loop-r-preserved
loop-r-preserved c =
    let rows = c.args.rows.now in
    let rest = iter_rest c.loop-r.r-iterator.iter.iter in
    let others = iter_rest c.next.new.self.iter.iter in
    let inv = c.loop-r.invariant in
    let step = c.in-Some.ensures.steps in
    let r : c.in-Some.r ≡ length others = omega (arith, step.1.1, inv.from) in
    let count = left_count rows rest others c.in-Some.row.now inv.left inv.few step.1.0 in
    let more = left_more rows rest others c.in-Some.row.now inv.left inv.few step.1.0 in
    let put = λ (row : Row) (k : ℕ). marked c.loop-r.below (premises row.rule) (Some (record { 0 = k })) in
    let made : c.mark.new.below ≡ put (get_or rows (length others) no_row) (length others) = c.mark.ensures ∙ ap₂ put more.1 r in
    record {
      size = ap length made ∙ length_marked c.loop-r.below (premises (rule_at rows (length others))) (Some (record { 0 = length others })) ∙ inv.size;
      from = step.0 ∙ inv.from;
      few = omega (arith, inv.few);
      left = more.0;
      under = λ q h. ap (λ l. get_or l q None) made ∙ below_more rows c.loop-r.below (length others) (length rest) q count (omega (arith, inv.few)) (omega (arith, inv.size)) (inv.under q h);
    }
