use Rattle.std.proofs.Common.{sym, ◌∙◌}
use Rattle.std.proofs.lemmas.Result.{IfOk-weaker}
use Rattle.wm_litmus.proofs.RaceTexts.{more_of}
use Rattle.wm_litmus.proofs.races.more_line.Goals as goal

pub returns : goal.returns
returns c = IfOk-weaker c.format.result _ _ (λ text is. is ∙ sym (more_of c.args.count c.if-count-eq0.false)) c.format.ensures.ok
