-- A worker's thread calls its memory: the calls so far are those of its steps.
use Rattle.std.proofs.Common.{◌≡◌, ℕ, ◌+◌, [], ◌∷◌, ◌++◌, length, unwrap_or, refl, ap, ◌∙◌}
use Rattle.std.specs.Prelude.{Some}
use Rattle.wm_event.specs.declared.op.OpFields.{OpFields}
use Rattle.wm_event.specs.declared.op.Reply.{Reply}
use Rattle.wm_event.specs.Op.{kind_finds}
use Rattle.wm_event.specs.Reply.{ReadAnswers}
use Rattle.wm_machine.specs.declared.thread.Need.TheVariants as need
use Rattle.wm_machine.specs.State.{State, config_of, need_of, read_in}
use Rattle.wm_machine.specs.Step.{next_config, step}
use Rattle.wm_machine.specs.Term.{Config}
use Rattle.wm_recorder.specs.Calls.{Called, CallsAccess, CallsNothing, event_called}
use Rattle.wm_run.specs.Reached.{LeadsTo}
use Rattle.wm_run.proofs.Leading.{leads_by_reply, or_zero}

-- an access for which capacity was reserved, with its reply
pub leads_by_call : (s : State) (k : ℕ) (first new : Config) (old reserved called : Called) (n : ℕ) (a : OpFields) (reply : Reply)
    → CallsNothing old reserved → CallsAccess k a reply.read reserved called → LeadsTo s.module k first old.events n (config_of s)
    → ((r : ℕ) → need_of r s ≡ need.Access a) → ReadAnswers (kind_finds a.kind) a.width reply.read → next_config (step s.module (read_in (Some reply)) (config_of s)) ≡ Some new
    → LeadsTo s.module k first called.events (n + 1) new
leads_by_call s k first new old reserved called n a reply nothing call so asks answers next =
    leads_by_reply s k first new old.events called.events n a reply (event_called k (length old.events) a reply.read) (unwrap_or reply.read 0) so asks answers (or_zero reply.read) refl
    (call.events ∙ ap (λ es. es ++ event_called k (length es) a reply.read ∷ []) nothing.events) next
