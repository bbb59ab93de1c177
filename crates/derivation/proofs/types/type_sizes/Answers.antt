-- The loop over the table: each entry adds its size, and the first fault ends it.
use Rattle.std.proofs.Common.{◌+◌, List, [], ◌∷◌, ◌++◌, map, take, drop, sym, refl, ap, ◌∙◌, ap₂, inl, arith}
use Rattle.std.proofs.lemmas.List.{take_more, take_all}
use Rattle.std.proofs.lemmas.Result.{err_from_is_err_and}
use Rattle.derivation.specs.Faults.{first_fault}
use Rattle.derivation.specs.Growth.{grown}
use Rattle.derivation.specs.declared.types.Size.{Size}
use Rattle.derivation.specs.Trees.{trees, type_fault, no_entry}
use Rattle.derivation.specs.Weights.{size_of}
use Rattle.derivation.proofs.FaultLaws.{first-at, first-after, first-end}
use Rattle.derivation.proofs.TypeChecks.{sizes_more}
use Rattle.derivation.proofs.types.type_sizes.Goals as goal

pub loop-i-init : goal.loop-i-init
unfolding trees grown
loop-i-init c = record {
  within = omega arith;
  sized = c.in_ok-push.ensures.items ∙ ap (λ l. l ++ (record { atoms = 1; positive = 1 } ∷ [])) c.new-sizes.ensures.items;
  faultless = refl;
}

pub returns-in_err-size : goal.returns-in_err-size
returns-in_err-size c =
    let p = err_from_is_err_and c.from_residual-in_err-size.result c.from_residual-in_err-size.ensures.1 in
    let es = c.args.types.now in
    let i = c.loop-i.i in
    rw (p.1, p.2)
    (inl (c.loop-i.invariant.faultless ∙ first-at type_fault (λ x. x) es i no_entry (take i es) c.in_err-size.field-0.0 c.loop-i-test.true c.in_err-size.ensures))

pub loop-i-preserved : goal.loop-i-preserved
loop-i-preserved c =
    let e = c.in_ok-size.ensures in
    let es = c.args.types.now in
    let i = c.loop-i.i in
    let h = c.loop-i-test.true in
    record {
      within = omega arith;
      sized = c.in_ok-push-2.ensures.items ∙ ap₂ (λ (l : List Size) (s : Size). l ++ (s ∷ [])) c.loop-i.invariant.sized e.1 ∙ sym (sizes_more es i no_entry h);
      faultless =
          c.loop-i.invariant.faultless
          ∙ first-after type_fault (λ x. x) es i no_entry (take i es) h e.0
          ∙ ap (λ l. first_fault type_fault (λ x. x) l (drop (i + 1) es)) (sym (take_more es i no_entry h));
    }

pub returns : goal.returns
returns c =
    let es = c.args.types.now in (
      c.loop-i.invariant.faultless ∙ first-end type_fault (λ x. x) es c.loop-i.i (take c.loop-i.i es) c.loop-i-test.false,
      c.loop-i.invariant.sized ∙ ap (λ l. map size_of (trees l)) (take_all c.loop-i.i es c.loop-i-test.false),
    )
