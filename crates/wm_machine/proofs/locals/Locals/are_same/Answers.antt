use Rattle.std.proofs.Common.{sym, ◌∙◌}
use Rattle.wm_machine.proofs.SameLists.{same_until}
use Rattle.wm_machine.proofs.locals.Locals.are_same.Goals as goal

pub returns-in-None-None : goal.returns-in-None-None
returns-in-None-None c _ =
    same_until c.args.self.now c.args.other.now c.loop-index.index (sym c.get.ensures ∙ c.in-None-None.is-0) (sym c.get-in-loop-index.ensures ∙ c.in-None-None.is-1) c.loop-index.invariant.same
