-- The loop over a table: the first fault ends it.
use Rattle.std.proofs.Common.{take, sym, ◌∙◌, eqb-true, eq-eqb, arith}
use Rattle.std.proofs.lemmas.Bool.{true≢false}
use Rattle.derivation.proofs.FaultLaws.{first-end}
use Rattle.channel_map.specs.Channels.{entry_fault}
use Rattle.channel_map.specs.ChannelLaws.{entry_good, entry_high, entry_repeats}
use Rattle.channel_map.proofs.channels.check_table.Goals as goal
use Rattle.channel_map.proofs.channels.check_table.Goals.{then-entry-gt-LAST-via-then-entry-gt-LAST, then-entry-gt-LAST-via-else-entry-gt-LAST+then-contains}

pub returns-then-entry-gt-LAST : goal.returns-then-entry-gt-LAST
returns-then-entry-gt-LAST c =
    let xs = c.args.table.now in
    let i = c.loop-i.i in
    let h = c.loop-i-test.true in
    elim c.then-entry-gt-LAST.branch [
      | then-entry-gt-LAST-via-then-entry-gt-LAST w ↦ c.loop-i.invariant ∙ entry_high xs i h w.if-entry-gt-LAST.true
      | then-entry-gt-LAST-via-else-entry-gt-LAST+then-contains w ↦
          let p = w.if-contains.ensures.cases in
          c.loop-i.invariant ∙ entry_repeats xs i h p.0 p.1 (eqb-true _ _ (p.2 0))
    ]

pub loop-i-preserved : goal.loop-i-preserved
loop-i-preserved c =
    let xs = c.args.table.now in
    let i = c.loop-i.i in
    let p = c.if-contains.ensures.cases in
    c.loop-i.invariant
    ∙ entry_good xs i c.loop-i-test.true c.if-entry-gt-LAST.false
    (λ k l e. true≢false (sym (eq-eqb _ _ e) ∙ p k 0 (omega arith) l))

pub returns : goal.returns
returns c = c.loop-i.invariant ∙ first-end entry_fault (λ e. e) c.args.table.now c.loop-i.i (take c.loop-i.i c.args.table.now) c.loop-i-test.false
