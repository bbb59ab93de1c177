-- Each check in turn: the first that fails is the fault.
use Rattle.std.proofs.Common.{Err, sym, ap, ◌∙◌}
use Rattle.std.proofs.lemmas.Result.{err_from_is_err_and}
use Rattle.basics.specs.declared.refusal.Refusal.TheVariants.{PremiseTaken, NotFree}
use Rattle.derivation.specs.Rows.{numbers, releasing, taking}
use Rattle.derivation.proofs.RowChecks.{err_if_none, not_lower, below_all, not_free, not_held, stands}
use Rattle.derivation.proofs.check.Checked.step.Goals as goal

pub returns-then-not-all_lower : goal.returns-then-not-all_lower
returns-then-not-all_lower c =
    not_lower c.args.self.now.rows.items c.next-k.result c.next-k.ensures c.args.own c.args.premises.now c.args.bound.now (sym c.if-not-all_lower.ensures)

pub taking-requires : goal.taking-requires
taking-requires c =
    below_all c.args.self.now.rows.items c.next-k.result c.next-k.ensures c.args.own c.args.premises.now c.args.bound.now (sym c.if-not-all_lower.ensures) c.args.self.now.few

pub returns-in_err-taken : goal.returns-in_err-taken
returns-in_err-taken c =
    let p = err_from_is_err_and c.from_residual.result c.from_residual.ensures.1 in
    let none = ap (λ m. taking m (numbers c.args.premises.now)) (sym c.args.self.now.used) ∙ sym c.taking.ensures ∙ c.in_err-taken.ensures.ok_part in
    let fault = not_free c.args.self.now.rows.items c.next-k.result c.next-k.ensures c.args.own c.args.premises.now c.args.bound.now (sym c.if-not-all_lower.ensures) none in
    let e = err_if_none c.taking.result (PremiseTaken c.next-k.result) c.in_err-taken.field-0.0 c.in_err-taken.ensures.ok_part c.in_err-taken.ensures.value in
    rw (p.1, p.2) (ap Err e ∙ fault)

pub returns-in_err-env : goal.returns-in_err-env
returns-in_err-env c =
    let p = err_from_is_err_and c.from_residual-in_err-env.result c.from_residual-in_err-env.ensures.1 in
    let some = ap (λ m. taking m (numbers c.args.premises.now)) (sym c.args.self.now.used) ∙ sym c.taking.ensures ∙ c.in_ok-taken.ensures.ok_part in
    let none = ap (λ m. releasing m (numbers c.args.bound.now)) (sym c.gathered.ensures) ∙ sym c.releasing.ensures ∙ c.in_err-env.ensures.ok_part in
    let fault = not_held c.args.self.now.rows.items c.next-k.result c.next-k.ensures c.args.own c.args.premises.now c.args.bound.now (sym c.if-not-all_lower.ensures) c.in_ok-taken.taken some none in
    let e = err_if_none c.releasing.result (NotFree c.next-k.result) c.in_err-env.field-0.0 c.in_err-env.ensures.ok_part c.in_err-env.ensures.value in
    rw (p.1, p.2) (ap Err e ∙ fault)

pub returns : goal.returns
returns c =
    let some = ap (λ m. taking m (numbers c.args.premises.now)) (sym c.args.self.now.used) ∙ sym c.taking.ensures ∙ c.in_ok-taken.ensures.ok_part in
    let env = ap (λ m. releasing m (numbers c.args.bound.now)) (sym c.gathered.ensures) ∙ sym c.releasing.ensures ∙ c.in_ok-env.ensures.ok_part in
    stands c.args.self.now.rows.items c.next-k.result c.next-k.ensures c.args.own c.args.premises.now c.args.bound.now (sym c.if-not-all_lower.ensures) c.in_ok-taken.taken some c.in_ok-env.env env
