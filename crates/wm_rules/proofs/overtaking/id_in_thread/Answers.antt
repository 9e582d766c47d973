use Rattle.std.proofs.Common.{◌≡◌, ◌∙◌, List, IsSome, Some, ap, sym, subst, slice_get, refl}
use Rattle.std.specs.Prelude.{option_and_then}
use Rattle.std.proofs.lemmas.Option.{slice_get-get_or}
use Rattle.wm_event.specs.declared.event.Event.{Event}
use Rattle.wm_event.specs.declared.event.EventKey.{EventKey}
use Rattle.wm_event.specs.declared.log.ThreadLog.{ThreadLog}
use Rattle.wm_event.specs.Event.{key_of}
use Rattle.wm_event.specs.Log.{event_in}
use Rattle.wm_hb.proofs.FaultLemmas.{some_of}
use Rattle.wm_rules.proofs.overtaking.id_in_thread.Goals as goal

pub returns-in-Some-get-clause-there : goal.returns-in-Some-get-clause-there
returns-in-Some-get-clause-there c =
    let log = c.args.candidate.now.log in
    let t = c.args.thread in
    let n = c.args.write.place in
    let thread = c.in-Some.thread.now in
    let e = c.in-Some-get.event.now in
    let name : EventKey = record { thread = t; number = n } in
    let h = c.in-Some.ensures.lookup in
    let i = c.in-Some-get.ensures.lookup in
    let in_log : slice_get log t ≡ Some thread = subst (λ (ts : List ThreadLog). slice_get ts t ≡ Some thread) (c.threads.ensures.value ∙ c.log.ensures.value) (slice_get-get_or c.threads.result.now t thread h.3.0 ∙ ap Some (sym h.1)) in
    let in_thread : slice_get thread.events n ≡ Some e = subst (λ (es : List Event). slice_get es n ≡ Some e) c.as_slice.ensures (slice_get-get_or c.as_slice.result.now n e i.3.0 ∙ ap Some (sym i.1)) in
    let there : event_in log name ≡ Some e = ap (option_and_then (λ (th : ThreadLog). slice_get th.events n)) in_log ∙ in_thread in
    let keys = c.log.ensures.shape.keys name e there in
    let same : key_of e ≡ name = rw (keys.0, keys.1) refl in
    subst (λ (key : EventKey). IsSome (event_in log key)) (sym (c.key.ensures ∙ same)) (some_of (event_in log name) e there)
