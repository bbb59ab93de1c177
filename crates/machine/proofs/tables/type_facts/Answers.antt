-- The loop over the table: the parts of an entry are lower, so their facts are known.
use Rattle.std.proofs.Common.{[], ◌∷◌, ◌++◌, vec_items, ap, ◌∙◌, arith}
use Rattle.derivation.specs.Growth.{grown}
use Rattle.derivation.specs.Trees.{trees}
use Rattle.machine.specs.declared.tables.TypeFacts.{TypeFacts}
use Rattle.machine.proofs.FactLaws.{left_known, right_known, some_right, few-both, within-right, facts-more}
use Rattle.machine.proofs.tables.type_facts.Goals as goal

pub loop-entry-init : goal.loop-entry-init
unfolding trees grown
loop-entry-init c = c.in_ok-push.ensures.items ∙ ap (λ l. l ++ (record { width = 1; signs = 1 } ∷ [])) c.new-facts.ensures.items

pub index-left-requires : goal.index-left-requires
index-left-requires c = omega (arith, c.loop-entry.facts.ok.0, left_known c.args.types.now c.requires c.loop-entry.entry-index c.loop-entry-test.true (vec_items c.loop-entry.facts) c.loop-entry.invariant)

pub index-right-requires : goal.index-right-requires
index-right-requires c = omega (arith, c.loop-entry.facts.ok.0, right_known c.args.types.now c.requires c.loop-entry.entry-index c.loop-entry-test.true (vec_items c.loop-entry.facts) c.loop-entry.invariant)

pub joined-requires : goal.joined-requires
joined-requires c =
    let es = c.args.types.now in
    let i = c.loop-entry.entry-index in
    let h = c.loop-entry-test.true in
    let fs = vec_items c.loop-entry.facts in
    let l = c.index-left.result.now in
    let r = c.index-right.result.now in
    record {
      some = some_right es c.requires i h fs c.loop-entry.invariant l r c.index-left.ensures c.index-right.ensures;
      few = few-both es c.requires i h fs c.loop-entry.invariant l r c.index-left.ensures c.index-right.ensures;
      within = within-right es c.requires i h fs c.loop-entry.invariant l r c.index-left.ensures c.index-right.ensures;
    }

pub loop-entry-preserved : goal.loop-entry-preserved
loop-entry-preserved c =
    c.in_ok-push-2.ensures.items
    ∙ ap (λ (f : TypeFacts). vec_items c.loop-entry.facts ++ (f ∷ [])) c.joined.ensures
    ∙ facts-more c.args.types.now c.requires c.loop-entry.entry-index c.loop-entry-test.true (vec_items c.loop-entry.facts) c.loop-entry.invariant
    c.index-left.result.now c.index-right.result.now c.index-left.ensures c.index-right.ensures
