-- What was parsed is accepted, or its first fault is the answer.
use Rattle.std.proofs.Common.{vec_items, inl, inr, ⊎_elim}
use Rattle.std.proofs.lemmas.Result.{err_from_is_err_and}
use Rattle.derivation.proofs.ReadLaws.{parsed_refused, accepted_gives}
use Rattle.derivation.proofs.holder.decoded.Goals as goal

pub returns-in_err-parse : goal.returns-in_err-parse
returns-in_err-parse c =
    let p = err_from_is_err_and c.from_residual.result c.from_residual.ensures.1 in
    rw (p.1, p.2) (⊎_elim (λ h. inl (parsed_refused c.args.bytes.now _ h)) (λ h. inr h) c.in_err-parse.ensures)

pub returns : goal.returns
returns c = accepted_gives c.args.bytes.now _ c.in_ok-parse.ensures (λ h. vec_items h.types) (λ h. vec_items h.rows) c.accept.result c.accept.ensures
