use Rattle.std.proofs.Common.{◌≡◌, List, [], ◌∷◌, ◌++◌, map, take, take_all, Some, refl, sym, ap, subst, ◌∙◌}
use Rattle.std.specs.Prelude.{slice_get}
use Rattle.wm_event.specs.declared.log.End.TheVariants.{Cut}
use Rattle.wm_event.specs.declared.event.Event.{Event}
use Rattle.wm_event.specs.declared.log.Start.{Start}
use Rattle.wm_event.specs.Log.{IsLog}
use Rattle.wm_explore.proofs.Items.{item_at}
use Rattle.wm_explore.proofs.Starts.{fresh, fresh_log, fresh_next, no_mark}
use Rattle.wm_explore.proofs.search.first_state.Goals as goal

pub loop-start-preserved : goal.loop-start-preserved
loop-start-preserved c =
    let n = c.loop-start.start-index in
    let start = c.start-item.result in
    let is = item_at c.args.starts.now c.args.starts.now n start refl c.loop-start-test.true c.start-item.is in record {
      threads = c.in_ok-push.ensures.ok
          ∙ ap (λ (s : Start). c.loop-start.threads ++ record { start = s; end = Cut; steps = 0; events = c.new.result } ∷ []) c.in_ok-start.ensures
          ∙ ap (λ (es : List Event). c.loop-start.threads ++ record { start = start; end = Cut; steps = 0; events = es } ∷ []) c.new.ensures
          ∙ ap (λ xs. xs ++ fresh start ∷ []) c.loop-start.invariant.threads ∙ sym (fresh_next c.args.starts.now n start is);
      marks = λ k mark at. no_mark c.loop-start.marks c.loop-start.invariant.marks k mark (subst (λ xs. slice_get xs k ≡ Some mark) c.in_ok-push-2.ensures.ok at);
    }

pub new-requires-2 : goal.new-requires-2
new-requires-2 c =
    let all : take c.loop-start.start-index c.args.starts.now ≡ c.args.starts.now = take_all c.loop-start.start-index c.args.starts.now c.loop-start-test.false in
    subst IsLog (sym (c.loop-start.invariant.threads ∙ ap (map fresh) all)) (fresh_log 0 c.args.starts.now)
