-- Nothing but a derivation's own bytes is read as it.
use Rattle.std.proofs.Common.{Ok, Err, vec_items}
use Rattle.std.proofs.lemmas.Result.{err_from_is_err_and}
use Rattle.derivation.proofs.ReadLaws.{read_exact}
use Rattle.derivation.proofs.holder.Holder.read.Goals as goal

pub returns-in_err-self-clause-exact : goal.returns-in_err-self-clause-exact
returns-in_err-self-clause-exact c =
    let p = err_from_is_err_and c.from_residual.result c.from_residual.ensures.1 in
    let h = c.in_err-self.ensures in
    rw (p.1, p.2)
    (read_exact c.args.bytes.now (λ i l. (c.type_inv.bytes i).fits) (vec_items c.args.self.now.types) (vec_items c.args.self.now.rows) (Err c.in_err-self.field-0.0) h)

pub returns-clause-exact : goal.returns-clause-exact
returns-clause-exact c =
    let holder = c.in_ok-self.field-0 in
    read_exact c.args.bytes.now (λ i l. (c.type_inv.bytes i).fits) (vec_items holder.types) (vec_items holder.rows) (Ok tt) c.in_ok-self.ensures
