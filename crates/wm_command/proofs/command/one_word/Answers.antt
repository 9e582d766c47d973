use Rattle.std.proofs.Common.{inl}
use Rattle.clap.specs.Words.{found_of}
use Rattle.wm_command.proofs.Entered.{no_value, some_value}
use Rattle.wm_command.proofs.command.one_word.Goals as goal

pub returns-clause-some : goal.returns-clause-some
returns-clause-some c = some_value (found_of c.args.words.now) c.args.name.now c.get_str.result c.get_str.ensures

pub returns-clause-none : goal.returns-clause-none
returns-clause-none c = λ is. inl (no_value (found_of c.args.words.now) c.args.name.now c.get_str.result is c.get_str.ensures)
