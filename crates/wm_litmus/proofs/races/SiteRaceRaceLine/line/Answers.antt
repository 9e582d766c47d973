use Rattle.std.proofs.Common.{codes, sym, ◌∙◌}
use Rattle.std.proofs.lemmas.Result.{IfOk-weaker}
use Rattle.std.specs.Fmt.{decimal}
use Rattle.wm_event.specs.Texts.{key_text}
use Rattle.wm_litmus.specs.Races.{site_text}
use Rattle.wm_litmus.proofs.RaceTexts.{ended_8}
use Rattle.wm_litmus.proofs.races.SiteRaceRaceLine.line.Goals as goal

pub returns : goal.returns
returns c =
    let race = c.args.self.now in
    IfOk-weaker c.format.result _ _
    (λ text is. is
    ∙ sym (ended_8 (codes "race ") (key_text race.event) (codes " with ") (key_text race.write) (codes " times=") (decimal race.count) (site_text race.site) (site_text race.other)))
    c.format.ensures.ok
