use Rattle.std.proofs.Common.{◌∙◌, rules, tests}
use Rattle.std.proofs.lemmas.Iterator.{YieldsList-from_slice}
use Rattle.std.proofs.lemmas.Iterator.Search.{all_from_yields_List}
use Rattle.basics.specs.Sets.{has}
use Rattle.register.specs.RegisterLaws.{all_one-list}
use Rattle.register.proofs.Register.all_one.Goals as goal

pub returns : goal.returns
returns c =
    all_from_yields_List (λ w. has c.args.self.now.bits w.0) _ _ c.all.result c.all.ensures.ran (YieldsList-from_slice c.args.wires.now cc) (λ x b q k. search (rules, tests))
    ∙ all_one-list c.args.self.now.bits c.args.wires.now
