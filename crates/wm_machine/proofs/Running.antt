-- A thread that may be advanced hasn't ended.
use Rattle.std.proofs.Common.{◌≡◌, Option, Some, None, refl}
use Rattle.wm_event.specs.declared.log.End.{End}
use Rattle.wm_event.specs.declared.op.Reply.{Reply}
use Rattle.wm_machine.specs.State.{State, need_in, need_of, RepliesTo}

not_ended_in : (e : Option End) (s : State) (reply : Option Reply) → RepliesTo (need_in e 0 s) reply → e ≡ None
not_ended_in (Some end) s reply h = absurd h
not_ended_in None s reply h = refl

pub not_ended : (s : State) (reply : Option Reply) → RepliesTo (need_of 0 s) reply → s.ended ≡ None
not_ended s reply h = not_ended_in s.ended s reply h
