use Rattle.wm_witness.proofs.step.judged_with.Goals as goal

pub returns-in-None : goal.returns-in-None
returns-in-None c = c.some_split.ensures c.args.wanted.now
