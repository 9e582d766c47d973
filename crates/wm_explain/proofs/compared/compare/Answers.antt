use Rattle.std.proofs.Common.{◌≡◌, List, slice_get, subst}
use Rattle.wm_event.specs.declared.event.Event.{Event}
use Rattle.wm_explain.specs.Compared.{next_by_log}
use Rattle.wm_replay.specs.Following.{FollowsLog}
use Rattle.wm_replay.specs.Positions.{HasPositions, HasReached}
use Rattle.wm_explain.proofs.compared.compare.Goals as goal

pub returns : goal.returns
returns c =
    let followed = subst (FollowsLog c.args.module.now c.args.number c.args.stated.now 1000000) c.in-Ok-Ok.field-0-is c.in-Ok-Ok.ensures.runs in
    let logged =
    subst (λ (events : List Event). c.log_next.result ≡ next_by_log (slice_get events c.in-Ok-Ok.followed.events)) c.as_slice.ensures c.log_next.ensures
    in
    record {
      thread = c.in-Ok-Ok.followed.thread;
      runs = followed.0;
      logged = logged;
      made = λ read. c.module_next.ensures read;
      position = c.position.ensures;
      reached = subst (HasReached c.args.module.now c.args.number c.args.stated.now) c.in-Ok-Ok.field-0-is c.in-Ok-Ok.ensures.reached;
      positions = subst (HasPositions c.args.module.now c.args.number c.args.stated.now) c.in-Ok-Ok.field-0-is c.in-Ok-Ok.ensures.positions;
    }
