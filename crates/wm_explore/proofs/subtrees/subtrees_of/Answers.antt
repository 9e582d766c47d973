use Rattle.std.proofs.Common.{◌≡◌, ℕ, List, Result, IfOk, ap, subst, sym, ◌∙◌}
use Rattle.std.specs.List.{AllZip}
use Rattle.std.specs.declared.alloc.AllocError.{AllocError}
use Rattle.std.proofs.lemmas.Result.{MatchResult-weaker}
use Rattle.rayon.specs.Lists.{vec_items}
use Rattle.wm_ast.specs.declared.module.Module.{Module}
use Rattle.wm_event.specs.declared.log.Start.{Start}
use Rattle.wm_explore.specs.Subtrees.{AreSubtrees, ComesOf}
use Rattle.wm_explore.specs.declared.state.State.{State}
use Rattle.wm_explore.specs.declared.subtrees.Subtree.{Subtree}
use Rattle.wm_explore.proofs.Beside.{all_oks}
use Rattle.wm_explore.proofs.subtrees.subtrees_of.Goals as goal

pub collect-requires-clause-ready : goal.collect-requires-clause-ready
collect-requires-clause-ready g c κs within =
    rw (c.map.ensures.base, c.map.ensures.f, c.with_min_len.ensures.base, c.into_par_iter.ensures) (λ k d lt. ((c.requires.few, c.requires.states k d lt), λ y p. tt))

pub returns : goal.returns
returns g c =
    let h = c.in_ok-collect.ensures in
    let base : c.map.result.base.base ≡ c.into_par_iter.result = (λ i. (c.map.ensures.base i).base) ∙ c.with_min_len.ensures.base in
    let items : h.1.0 ≡ c.args.states.items = h.1.1 ∙ ap (λ it. vec_items it) base ∙ c.into_par_iter.ensures in
    let m : c.map.result.f.1.now ≡ c.args.module.now = λ i. (c.map.ensures.f i).1.now in
    let starts : c.map.result.f.2.now ≡ c.args.starts.now = λ i. (c.map.ensures.f i).2.now in
    let events : c.map.result.f.3.now.events ≡ c.args.limits.events = λ i. (c.map.ensures.f i).3.now.events in
    let R = λ (n : Module) (ss : List Start) (most : ℕ) (s : State) (t : Subtree). ComesOf n ss most s t.progress in
    let P = λ (n : Module) (ss : List Start) (most : ℕ) (xs : List State) (rs : List (Result Subtree AllocError)). AllZip (λ s r. IfOk r (R n ss most s)) xs rs in
    let zipped : P c.map.result.f.1.now c.map.result.f.2.now c.map.result.f.3.now.events h.1.0 h.0 = h.1.2 in
    let moved : P c.args.module.now c.args.starts.now c.args.limits.events c.args.states.items h.0 =
    subst (λ xs. P c.args.module.now c.args.starts.now c.args.limits.events xs h.0) items
    (subst (λ most. P c.args.module.now c.args.starts.now most h.1.0 h.0) events
    (subst (λ ss. P c.args.module.now ss c.map.result.f.3.now.events h.1.0 h.0) starts
    (subst (λ n. P n c.map.result.f.2.now c.map.result.f.3.now.events h.1.0 h.0) m zipped))) in
    MatchResult-weaker c.in_ok-collect.field-0 h.2
    (λ v p.
    let all = all_oks AllocError (R c.args.module.now c.args.starts.now c.args.limits.events) c.args.states.items p.0 (subst (P c.args.module.now c.args.starts.now c.args.limits.events c.args.states.items) p.1 moved) in
    subst (AreSubtrees c.args.module.now c.args.starts.now c.args.limits.events c.args.states.items) (sym p.2) all)
    (λ e q. tt)
