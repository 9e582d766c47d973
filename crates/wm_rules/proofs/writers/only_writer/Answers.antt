use Rattle.std.proofs.Common.{◌≡◌, ◌<◌, ◌≤◌, ◌∙◌, Some, List, slice_get, get_or, length, arith, rules, sym, ap, ⊎_elim}
use Rattle.std.proofs.lemmas.Bool.{cases_lt}
use Rattle.std.proofs.lemmas.Option.{slice_get-get_or, slice_get_within, same_Some}
use Rattle.wm_event.specs.declared.event.EventId.{EventId}
use Rattle.wm_event.specs.declared.event.EventId.TheVariants.{Init}
use Rattle.wm_event.specs.Event.{key_of}
use Rattle.wm_event.specs.Witness.{writers_in}
use Rattle.wm_rules.proofs.writers.only_writer.Goals as goal

pub returns-clause-only : goal.returns-clause-only
returns-clause-only c = λ k v reads.
    let items : c.writers-writers.result.now ≡ writers_in c.args.candidate.now.witness (key_of c.args.event.now) = search rules in
    let at : slice_get c.writers-writers.result.now k ≡ Some v = ap (λ (ws : List EventId). slice_get ws k) items ∙ reads in
    let inside : k < length c.writers-writers.result.now = slice_get_within c.writers-writers.result.now k v at in
    c.loop-writer.invariant k v (omega arith) at

pub loop-writer-preserved : goal.loop-writer-preserved
loop-writer-preserved c = λ j v less at.
    let same : get_or c.writers-writers.result.now c.loop-writer.writer-index Init ≡ c.in_ok-first.field-0.now = search rules in
    ⊎_elim
    (λ (h : j < c.loop-writer.writer-index). c.loop-writer.invariant j v h at)
    (λ (h : c.loop-writer.writer-index ≤ j).
    let e : j ≡ c.loop-writer.writer-index = omega arith in
    same_Some v (get_or c.writers-writers.result.now c.loop-writer.writer-index Init)
    (sym at ∙ ap (slice_get c.writers-writers.result.now) e ∙ slice_get-get_or c.writers-writers.result.now c.loop-writer.writer-index Init (omega arith)) ∙ same)
    (cases_lt j c.loop-writer.writer-index)
