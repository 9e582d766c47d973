use Rattle.std.proofs.Common.{◌≡◌, ◌++◌, Option, None, Some, ap, codes, string_bytes, sym, ◌∙◌}
use Rattle.std.proofs.lemmas.Result.{IfOk-weaker}
use Rattle.std.specs.Prelude.{option_copied}
use Rattle.wm_event.specs.declared.event.Event.{Event}
use Rattle.wm_event.specs.Log.{event_in}
use Rattle.wm_event.specs.Texts.{key_text}
use Rattle.wm_event.specs.Witness.{writers_in}
use Rattle.wm_litmus.specs.Trace.{before_text, event_text, from_text, kind_event_text}
use Rattle.wm_litmus.proofs.TraceTexts.{event_is, joined_3, joined_4}
use Rattle.wm_litmus.proofs.trace.access_of.Goals as goal

pub returns-in-Some : goal.returns-in-Some
returns-in-Some c =
    let run = c.args.run.now in
    let key = c.args.key in
    let e = c.in-Some.event.now in
    let before = before_text c.args.drained in
    let writers = from_text (writers_in run.witness key) in
    let there : event_in run.log key ≡ Some e = event_is c.event.result c.log.result.now run.log key (Some e) c.event.ensures c.log.ensures (ap option_copied c.in-Some.is) in
    let from : string_bytes c.in_ok-writers.writers ≡ writers = c.in_ok-writers.ensures ∙ ap from_text (c.writers.ensures ∙ ap (λ w. writers_in w key) c.witness.ensures.same) in
    IfOk-weaker c.format.result _ _
    (λ text is. is
    ∙ ap (λ w. kind_event_text e.kind e ++ (w ++ before)) from
    ∙ sym (joined_3 (kind_event_text e.kind e) writers before)
    ∙ sym (ap (λ (o : Option Event). event_text o key ++ writers ++ before) there))
    c.format.ensures.ok

pub returns : goal.returns
returns c =
    let run = c.args.run.now in
    let key = c.args.key in
    let before = before_text c.args.drained in
    let writers = from_text (writers_in run.witness key) in
    let there : event_in run.log key ≡ None = event_is c.event.result c.log.result.now run.log key None c.event.ensures c.log.ensures (ap option_copied c.in-None.is) in
    let from : string_bytes c.in_ok-writers.writers ≡ writers = c.in_ok-writers.ensures ∙ ap from_text (c.writers.ensures ∙ ap (λ w. writers_in w key) c.witness.ensures.same) in
    IfOk-weaker c.format-in-None.result _ _
    (λ text is. is
    ∙ ap (λ w. codes "access " ++ (key_text key ++ (w ++ before))) from
    ∙ sym (joined_4 (codes "access ") (key_text key) writers before)
    ∙ sym (ap (λ (o : Option Event). event_text o key ++ writers ++ before) there))
    c.format-in-None.ensures.ok
