use Rattle.std.proofs.Common.{Some, rules, sym}
use Rattle.std.proofs.lemmas.Option.{none-some}
use Rattle.wm_sites.proofs.Pushed.{length_pushed, nones_pushed}
use Rattle.wm_sites.proofs.code_map.unread.Goals as goal

pub returns : goal.returns
returns c = record {
  count = search rules;
  none = λ f map at. none-some map (sym (c.loop-func.invariant.unread f (Some map) at));
}

pub loop-func-preserved : goal.loop-func-preserved
loop-func-preserved c =
    let pushed = c.in_ok-push.ensures.items in
    record { unread = nones_pushed _ _ c.loop-func.invariant.unread pushed; count = length_pushed _ _ _ _ c.loop-func.invariant.count pushed }
