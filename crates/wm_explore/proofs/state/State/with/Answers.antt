use Rattle.std.proofs.Common.{sym, ap, ◌∙◌}
use Rattle.std.specs.Prelude.{slice_get}
use Rattle.wm_explore.proofs.Lists.{extended_other}
use Rattle.wm_explore.proofs.state.State.with.Goals as goal

pub returns-clause-known : goal.returns-clause-known
returns-clause-known c m are k t next at_t at_next =
    let other = c.in_ok-known.ensures k next at_next in
    are.each k t next (sym (extended_other c.args.thread c.args.event c.args.self.now.log k other.0) ∙ ap (λ ts. slice_get ts k) (sym c.in_ok-log.ensures) ∙ at_t) other.1
