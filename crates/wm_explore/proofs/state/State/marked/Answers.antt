use Rattle.wm_explore.proofs.state.State.marked.Goals as goal

pub returns-clause-known : goal.returns-clause-known
returns-clause-known c m are k t next at_t at_next = are.each k t next at_t (c.in_ok-all.ensures k next at_next)
