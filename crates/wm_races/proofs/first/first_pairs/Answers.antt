use Rattle.std.proofs.Common.{◌∙◌, ap, map}
use Rattle.std.proofs.lemmas.List.{take_all}
use Rattle.wm_races.specs.Groups.{first_pair}
use Rattle.wm_races.proofs.ListLemmas.{map_pushed}
use Rattle.wm_races.proofs.first.first_pairs.Goals as goal

pub loop-group-preserved : goal.loop-group-preserved
loop-group-preserved c = map_pushed first_pair c.args.groups.now c.loop-group.group-index _ _ _ c.loop-group-test.true c.loop-group.invariant c.in_ok-push.ensures.items

pub returns : goal.returns
returns c = c.from_vec.ensures ∙ c.loop-group.invariant ∙ ap (map first_pair) (take_all _ _ c.loop-group-test.false)
