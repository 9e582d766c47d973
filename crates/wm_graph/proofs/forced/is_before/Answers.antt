use Rattle.std.proofs.Common.{◌∙◌, sym}
use Rattle.wm_graph.proofs.CycleLaws.{forced_by_found}
use Rattle.wm_graph.proofs.forced.is_before.Goals as goal

pub returns : goal.returns
returns c = λ there.
    let found = c.way_between.ensures in
    forced_by_found c.args.candidate.now c.args.from c.args.to c.way_between.result found.way found.from found.to (sym c.is_some.ensures ∙ there)
