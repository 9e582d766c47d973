use Rattle.std.proofs.Common.{inl, inr}
use Rattle.clap.specs.Words.{found_of}
use Rattle.wm_command.proofs.Entered.{no_value, value_is}
use Rattle.wm_command.proofs.command.two_words.Goals as goal

pub returns-in_err-one-clause-none : goal.returns-in_err-one-clause-none
returns-in_err-one-clause-none c = λ _. inl (no_value (found_of c.args.words.now) c.args.first.now c.get_str.result c.in_err-one.was c.get_str.ensures)

pub returns-in_err-two-clause-none : goal.returns-in_err-two-clause-none
returns-in_err-two-clause-none c = λ _. inr (inl (no_value (found_of c.args.words.now) c.args.second.now c.get_str-2.result c.in_err-two.was c.get_str-2.ensures))

pub returns-clause-some : goal.returns-clause-some
returns-clause-some c =
    let f = found_of c.args.words.now in
    let one = value_is f c.args.first.now c.get_str.result c.in_ok-one.one c.in_ok-one.was c.get_str.ensures in
    let two = value_is f c.args.second.now c.get_str-2.result c.in_ok-two.two c.in_ok-two.was c.get_str-2.ensures in
    (one, (two, tt))
