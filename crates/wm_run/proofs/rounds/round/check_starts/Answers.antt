use Rattle.wm_run.proofs.Refusing.{all_start}
use Rattle.wm_run.proofs.rounds.round.check_starts.Goals as goal

pub returns-clause-ok : goal.returns-clause-ok
returns-clause-ok c = all_start c.args.module.now c.args.starts.now c.in_ok-_runners._runners.items c.in_ok-_runners.ensures.launched
