-- A row holds what its premises hold and what it introduces, less what it binds.
use Rattle.std.proofs.Common.{sym, ◌∙◌, arith}
use Rattle.derivation.proofs.HeldLaws.{Bound, BothBound, Joined, held_le, held-variable, held_none, held-lambda, held-pair-lambda, held_both}
use Rattle.derivation.proofs.count.Measured.held.Goals as goal
use Rattle.derivation.proofs.count.Measured.held.Goals.{In-Lambda, In-PairLambda, In-Apply}

pub returns-in-Variable : goal.returns-in-Variable
returns-in-Variable c =
    c.atoms.ensures ∙ sym (held-variable c.args.self.now.types.now c.args.self.now.rows.now c.requires.accepted c.args.r c.requires.within c.in-Variable.is)

pub returns-in-Zero : goal.returns-in-Zero
returns-in-Zero c = held_none c.args.self.now.types.now c.args.self.now.rows.now c.requires.accepted c.args.r c.requires.within c.in-Zero.is

lambda : (c : In-Lambda) → Bound c.args.self.now.types.now c.args.self.now.rows.now c.args.before.now c.args.r c.in-Lambda.premise c.in-Lambda.x
lambda c =
    held-lambda c.args.self.now.types.now c.args.self.now.rows.now c.requires.accepted c.args.r c.requires.within c.args.before.now c.requires.known
    c.in-Lambda.premise c.in-Lambda.x c.in-Lambda.is

pub bounds-before-premise : goal.bounds-before-premise
bounds-before-premise c = omega (arith, (lambda (goal.at.bounds-before-premise c).In-Lambda).premise)

pub atoms-requires-in-Lambda : goal.atoms-requires-in-Lambda
atoms-requires-in-Lambda c = (lambda (goal.at.atoms-requires-in-Lambda c).In-Lambda).within

pub overflow_sub-result : goal.overflow_sub-result
overflow_sub-result c = omega (arith, (lambda (goal.at.overflow_sub-result c).In-Lambda).total, c.atoms-in-Lambda.ensures)

pub returns-in-Lambda : goal.returns-in-Lambda
returns-in-Lambda c = omega (arith, (lambda (goal.at.returns-in-Lambda c).In-Lambda).total, c.atoms-in-Lambda.ensures)

pair-lambda : (c : In-PairLambda) → BothBound c.args.self.now.types.now c.args.self.now.rows.now c.args.before.now c.args.r c.in-PairLambda.premise c.in-PairLambda.x c.in-PairLambda.y
pair-lambda c =
    held-pair-lambda c.args.self.now.types.now c.args.self.now.rows.now c.requires.accepted c.args.r c.requires.within c.args.before.now c.requires.known
    c.in-PairLambda.premise c.in-PairLambda.x c.in-PairLambda.y c.in-PairLambda.is

pub bounds-before-premise-in-PairLambda : goal.bounds-before-premise-in-PairLambda
bounds-before-premise-in-PairLambda c = omega (arith, (pair-lambda (goal.at.bounds-before-premise-in-PairLambda c).In-PairLambda).premise)

pub atoms-requires-in-PairLambda : goal.atoms-requires-in-PairLambda
atoms-requires-in-PairLambda c = (pair-lambda (goal.at.atoms-requires-in-PairLambda c).In-PairLambda).within_x

pub overflow_sub-result-in-PairLambda : goal.overflow_sub-result-in-PairLambda
overflow_sub-result-in-PairLambda c = omega (arith, (pair-lambda (goal.at.overflow_sub-result-in-PairLambda c).In-PairLambda).total, c.atoms-in-PairLambda.ensures)

pub atoms-requires-in-PairLambda-2 : goal.atoms-requires-in-PairLambda-2
atoms-requires-in-PairLambda-2 c = (pair-lambda (goal.at.atoms-requires-in-PairLambda-2 c).In-PairLambda).within_y

pub overflow_sub-result-in-PairLambda-2 : goal.overflow_sub-result-in-PairLambda-2
overflow_sub-result-in-PairLambda-2 c =
    omega (arith, (pair-lambda (goal.at.overflow_sub-result-in-PairLambda-2 c).In-PairLambda).total, c.atoms-in-PairLambda.ensures, c.atoms-in-PairLambda-2.ensures)

pub returns-in-PairLambda : goal.returns-in-PairLambda
returns-in-PairLambda c =
    omega (arith, (pair-lambda (goal.at.returns-in-PairLambda c).In-PairLambda).total, c.atoms-in-PairLambda.ensures, c.atoms-in-PairLambda-2.ensures)

-- an application or a pair
both : (c : In-Apply) → Joined c.args.self.now.types.now c.args.self.now.rows.now c.args.before.now c.args.r c.in-Apply.p c.in-Apply.q
both c =
    held_both c.args.self.now.types.now c.args.self.now.rows.now c.requires.accepted c.args.r c.requires.within c.args.before.now c.requires.known
    c.in-Apply.p c.in-Apply.q c.in-Apply.is

pub bounds-before-p : goal.bounds-before-p
bounds-before-p c = omega (arith, (both (goal.at.bounds-before-p c).In-Apply).left)

pub bounds-before-q : goal.bounds-before-q
bounds-before-q c = omega (arith, (both (goal.at.bounds-before-q c).In-Apply).right)

pub overflow_add-result : goal.overflow_add-result
overflow_add-result c = omega (arith, (both (goal.at.overflow_add-result c).In-Apply).total, held_le c.args.self.now.types.now c.args.self.now.rows.now c.requires.accepted c.args.r)

pub returns-in-Apply : goal.returns-in-Apply
returns-in-Apply c = omega (arith, (both (goal.at.returns-in-Apply c).In-Apply).total)
