use Rattle.std.proofs.Common.{◌≡◌, false, rules}
use Rattle.wm_machine.specs.Inside.{waits}
use Rattle.wm_machine.proofs.NeverStuck.{advances}
use Rattle.wm_machine.proofs.thread.Thread.advance.Goals as goal

pub returns-in-Ok-clause-never_stuck : goal.returns-in-Ok-clause-never_stuck
returns-in-Ok-clause-never_stuck c = advances _ c.args.self.now c.args.reply c.self.invariant c.self.view_is c.requires

pub returns-in-Err-clause-never_stuck : goal.returns-in-Err-clause-never_stuck
returns-in-Err-clause-never_stuck c = advances _ c.args.self.now c.args.reply c.self.invariant c.self.view_is c.requires

pub returns-in-Ok-clause-moves : goal.returns-in-Ok-clause-moves
returns-in-Ok-clause-moves c =
    let made : waits c.in-Ok.field-0 ≡ false = search rules in
    c.in-Ok.ensures.moves made
