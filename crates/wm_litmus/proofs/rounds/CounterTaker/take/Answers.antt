use Rattle.std.proofs.Common.{◌<◌, Ok, arith, length, refl, subst}
use Rattle.std.proofs.lemmas.Fn.{says_at}
use Rattle.wm_litmus.specs.Rounds.{IsJudged}
use Rattle.wm_litmus.specs.Rounds.AnswersRounds.{too_large}
use Rattle.wm_litmus.proofs.Gathering.{made_more}
use Rattle.wm_litmus.proofs.rounds.CounterTaker.take.Goals as goal

pub returns-in-None-clause-taken : goal.returns-in-None-clause-taken
returns-in-None-clause-taken g c = λ taken counted small.
    let counter = c.args.self.now in
    let judged = c.requires.takes.judged (Ok c.in_ok-judge.field-0) (says_at g.J.Fn c.in_ok-judge.ensures refl) in
    let allowed = subst (IsJudged counter.module.now counter.rounds.now c.args.run) c.in-None.is judged in
    made_more counter.module.now counter.rounds.now.plan taken counter.table.counts c.count.new.self.counts c.args.run small (counted (omega (arith, small))) allowed c.in_ok-count-in-None.ensures

pub returns-clause-taken : goal.returns-clause-taken
returns-clause-taken g c = λ taken counted module_bytes modules.
    let counter = c.args.self.now in
    let judged = c.requires.takes.judged (Ok c.in_ok-judge.field-0) (says_at g.J.Fn c.in_ok-judge.ensures refl) in
    let prints = subst (IsJudged counter.module.now counter.rounds.now c.args.run) c.in-Some.is judged module_bytes modules in
    let before = c.requires.fewer in
    let made = before.is_taken (omega (arith, before.fewer, before.may.1)) in
    let few : length made.runs < counter.rounds.now.count = omega (arith, made.many, before.fewer, before.may.0) in
    too_large counter.module.now made.runs c.args.run modules few made.allowed prints.is_too_large prints.status_is prints.text_is
