use Rattle.std.proofs.Common.{◌≡◌, IsSome, Some, refl, sym, ap, ◌∙◌, subst, slice_get}
use Rattle.std.specs.Prelude.{option_copied}
use Rattle.std.proofs.lemmas.Option.{slice_get-get_or}
use Rattle.wm_event.specs.declared.event.EventKey.{EventKey}
use Rattle.wm_event.specs.Log.{HasKeys, event_in}
use Rattle.wm_hb.specs.Cycle.{next_key}
use Rattle.wm_hb.proofs.CycleLaws.{next-there}
use Rattle.wm_hb.proofs.cycle.next_event.Goals as goal

pub returns : goal.returns
returns c =
    let log = c.args.candidate.now.log in
    let t = c.args.thread in
    let lookup = c.in_ok-log.ensures.lookup in
    let at_t : slice_get log t ≡ Some c.in_ok-log.log.now =
    subst (λ threads. slice_get threads t ≡ Some c.in_ok-log.log.now) (c.threads.ensures.value ∙ c.log.ensures.value)
    (slice_get-get_or c.threads.result.now t c.in_ok-log.log.now lookup.3.0 ∙ ap Some (sym lookup.1)) in
    let keys : HasKeys log = subst HasKeys c.log.ensures.value c.threads.ensures.keys in
    let at_n : slice_get c.in_ok-log.log.now.events c.count_of.result ≡ Some c.in_ok-event.event.now = sym c.get-2.ensures ∙ ap option_copied (c.in_ok-event.was) in
    let there = next-there log keys t c.count_of.result c.in_ok-log.log.now c.in_ok-event.event.now at_t at_n in
    let named : c.key.result ≡ next_key c.args.scheduled.now t = c.key.ensures ∙ there.0 ∙ ap (λ n. record { thread = t; number = n }) c.count_of.ensures in
    let some : IsSome (event_in log c.key.result) = subst (λ (key : EventKey). IsSome (event_in log key)) (sym (c.key.ensures ∙ there.0)) (subst IsSome (sym there.1) refl) in
    (named, some)
