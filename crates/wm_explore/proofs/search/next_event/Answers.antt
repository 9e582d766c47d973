use Rattle.std.proofs.Common.{◌≡◌, ◌+◌, length, sym, ap, subst, ◌∙◌, arith}
use Rattle.wm_event.specs.Log.{IsEvent}
use Rattle.wm_event.specs.Op.{event_made}
use Rattle.wm_explore.proofs.Beginnings.{count_at}
use Rattle.wm_explore.proofs.Making.{log_extended, made_is_event}
use Rattle.wm_explore.proofs.Turning.{item_within}
use Rattle.wm_explore.proofs.search.next_event.Goals as goal

pub returns-clause-event : goal.returns-clause-event
returns-clause-event c = c.event.ensures ∙ ap (λ n. event_made (record { thread = c.args.thread; number = n }) c.args.op c.args.read) c.event_count-number.ensures.count

pub returns-clause-log : goal.returns-clause-log
returns-clause-log c =
    let k = c.args.thread in
    let log = c.args.state.now.log in
    let t = item_within log k c.requires.thread in
    let count : c.event_count-number.result ≡ length t.0.events = c.event_count-number.ensures.count ∙ count_at log k t.0 t.1 in
    let made : IsEvent k c.event_count-number.result c.event.result =
    subst (IsEvent k c.event_count-number.result) (sym c.event.ensures) (made_is_event k c.event_count-number.result c.args.op c.args.read c.fields.ensures.op) in
    let zero : k ≡ 0 + k = omega arith in
    log_extended 0 k log t.0 c.event.result c.event_count-number.ensures.log t.1 (subst (λ j. IsEvent j (length t.0.events) c.event.result) zero (subst (λ n. IsEvent k n c.event.result) count made))
