-- The theory holds of every derivation.
use Rattle.text.proofs.ForecastLaws.{promised}
use Rattle.text.proofs.forecast.forecast.Goals as goal

pub returns-in_err-holder-clause-theory : goal.returns-in_err-holder-clause-theory
returns-in_err-holder-clause-theory c = promised c.args.bytes.now (λ i l. (c.type_inv.bytes i).fits)

pub returns-in-Ok-clause-theory : goal.returns-in-Ok-clause-theory
returns-in-Ok-clause-theory c = promised c.args.bytes.now (λ i l. (c.type_inv.bytes i).fits)
