use Rattle.std.proofs.Common.{codes, sym, ◌∙◌}
use Rattle.std.proofs.lemmas.Result.{IfOk-weaker}
use Rattle.wm_event.specs.Texts.{key_text}
use Rattle.wm_litmus.proofs.RaceTexts.{ended_4}
use Rattle.wm_litmus.proofs.races.RacingPairRaceLine.line.Goals as goal

pub returns : goal.returns
returns c =
    let pair = c.args.self.now in
    IfOk-weaker c.format.result _ _
    (λ text is. is ∙ sym (ended_4 (codes "race ") (key_text pair.event) (codes " with ") (key_text pair.write)))
    c.format.ensures.ok
