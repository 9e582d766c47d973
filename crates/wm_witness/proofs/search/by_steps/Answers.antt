use Rattle.std.proofs.Common.{◌≡◌, ◌≤◌, true, List, [], ◌∷◌, ◌++◌, length, take, sym, ap, ◌∙◌, subst, arith}
use Rattle.wm_event.specs.LoggedRun.{LoggedRun}
use Rattle.wm_witness.specs.declared.assumption.Assumption.{Assumption}
use Rattle.wm_witness.specs.declared.step.Step.{Step}
use Rattle.wm_witness.specs.declared.step.Step.TheVariants.{Closed, Split, Stays}
use Rattle.wm_witness.specs.declared.stack.Frame.{Frame}
use Rattle.wm_witness.specs.declared.stack.Stack.{Stack}
use Rattle.wm_witness.specs.Always.{IsClosed}
use Rattle.wm_witness.specs.Search.{IsBack, IsLeftOpen, IsNewSplit, NothingIsNew, Searched, alternatives}
use Rattle.wm_witness.specs.Search.Searched.{start}
use Rattle.wm_witness.specs.Steps.{IsStep}
use Rattle.wm_witness.proofs.Frames.{AreStacked}
use Rattle.wm_witness.proofs.SearchKept.{closed-searched, closed-stacked, left-open, none-left-now, split-searched, split-stacked, stays-open}
use Rattle.wm_witness.proofs.search.by_steps.Goals as goal
use Rattle.wm_witness.proofs.search.by_steps.Goals.{in-Split+in_ok-split-in-Split, in-Closed+in_ok-back-in-Closed+else-not-branch}

-- what a step that closes says of what was assumed
closed-by : (run : LoggedRun) (wanted xs ys : List Assumption) (s : Step) → ys ≡ xs → s ≡ Closed → IsStep run wanted ys s → IsClosed run xs
closed-by run wanted xs ys s same is step = subst (IsClosed run) same (subst (IsStep run wanted ys) is step)

pub loop-begun-init : goal.loop-begun-init
loop-begun-init c = rw (c.in_ok-stack.ensures.assumed, c.in_ok-stack.ensures.frames) (record { searched = start; stacked = omega arith })

pub returns-then-not-branch-clause-none : goal.returns-then-not-branch-clause-none
returns-then-not-branch-clause-none c =
    none-left-now c.args.start.now c.args.wanted.now c.loop-begun.begun c.loop-begun.stack.assumed.items c.loop-begun.stack.frames.items c.loop-begun.invariant.searched c.loop-begun.invariant.stacked
    (subst (IsBack c.loop-begun.stack c.back.new.self) c.if-not-branch.true c.in_ok-back-in-Closed.ensures)
    (closed-by c.args.start.now c.args.wanted.now c.loop-begun.stack.assumed.items c.as_slice.result.now c.in_ok-witness.field-0 c.as_slice.ensures.value c.in-Closed.is c.in_ok-witness.ensures)

-- what a step that splits says
split-by : (run : LoggedRun) (wanted xs ys : List Assumption) (s : Step) (a b : Assumption) → ys ≡ xs → s ≡ Split a b → IsStep run wanted ys s → IsNewSplit run.log xs a b
split-by run wanted xs ys s a b same is step = subst (λ zs. IsNewSplit run.log zs a b) same (subst (IsStep run wanted ys) is step)

-- what a step that leaves the alternative says
stays-by : (run : LoggedRun) (wanted xs ys : List Assumption) (s : Step) → ys ≡ xs → s ≡ Stays → IsStep run wanted ys s → NothingIsNew run.log xs
stays-by run wanted xs ys s same is step = subst (NothingIsNew run.log) same (subst (IsStep run wanted ys) is step)

pub loop-begun-preserved : goal.loop-begun-preserved
loop-begun-preserved c = elim c.match-branch-3.branch [
  | in-Split+in_ok-split-in-Split w ↦
      let run : LoggedRun = c.args.start.now in
      let xs : List Assumption = c.loop-begun.stack.assumed.items in
      let fs : List Frame = c.loop-begun.stack.frames.items in
      let searched : Searched run c.args.wanted.now c.loop-begun.begun (alternatives xs fs) = c.loop-begun.invariant.searched in
      let stacked : AreStacked 0 fs (length xs) = c.loop-begun.invariant.stacked in
      let ys : c.match-branch-3.stack.assumed.items ≡ xs ++ w.in-Split.last ∷ [] = ap (λ (s : Stack). s.assumed.items) w.stack-is ∙ w.in_ok-split-in-Split.ensures.assumed in
      let gs : c.match-branch-3.stack.frames.items ≡ fs ++ record { mark = length xs; last = w.in-Split.other } ∷ [] =
      ap (λ (s : Stack). s.frames.items) w.stack-is ∙ w.in_ok-split-in-Split.ensures.frames in
      let new = split-by run c.args.wanted.now xs c.as_slice.result.now c.in_ok-witness.field-0 w.in-Split.last w.in-Split.other c.as_slice.ensures.value w.in-Split.is c.in_ok-witness.ensures in
      record {
        searched = split-searched run c.args.wanted.now c.loop-begun.begun xs fs searched stacked w.in-Split.last w.in-Split.other c.match-branch-3.stack.assumed.items c.match-branch-3.stack.frames.items ys gs new;
        stacked = split-stacked run c.args.wanted.now c.loop-begun.begun xs fs searched stacked w.in-Split.last w.in-Split.other c.match-branch-3.stack.assumed.items c.match-branch-3.stack.frames.items ys gs new;
      }
  | in-Closed+in_ok-back-in-Closed+else-not-branch w ↦
      let run : LoggedRun = c.args.start.now in
      let xs : List Assumption = c.loop-begun.stack.assumed.items in
      let fs : List Frame = c.loop-begun.stack.frames.items in
      let searched : Searched run c.args.wanted.now c.loop-begun.begun (alternatives xs fs) = c.loop-begun.invariant.searched in
      let stacked : AreStacked 0 fs (length xs) = c.loop-begun.invariant.stacked in
      let back : IsBack c.loop-begun.stack w.back.new.self true = subst (IsBack c.loop-begun.stack w.back.new.self) w.if-not-branch.false w.in_ok-back-in-Closed.ensures in
      let gs : fs ≡ c.match-branch-3.stack.frames.items ++ back.0 ∷ [] = back.1 ∙ ap (λ (s : Stack). s.frames.items ++ back.0 ∷ []) (sym w.stack-is) in
      let ys : c.match-branch-3.stack.assumed.items ≡ take back.0.mark xs ++ back.0.last ∷ [] = ap (λ (s : Stack). s.assumed.items) w.stack-is ∙ back.2 in
      let closed = closed-by run c.args.wanted.now xs c.as_slice.result.now c.in_ok-witness.field-0 c.as_slice.ensures.value w.in-Closed.is c.in_ok-witness.ensures in
      record {
        searched = closed-searched run c.args.wanted.now c.loop-begun.begun xs fs searched stacked back.0 c.match-branch-3.stack.assumed.items c.match-branch-3.stack.frames.items gs ys closed;
        stacked = closed-stacked run c.args.wanted.now c.loop-begun.begun xs fs searched stacked back.0 c.match-branch-3.stack.assumed.items c.match-branch-3.stack.frames.items gs ys;
      }
]

pub returns-clause-gave_up : goal.returns-clause-gave_up
returns-clause-gave_up c =
    let all : c.loop-begun.begun ≡ c.args.nodes = omega arith in
    subst (IsLeftOpen c.args.start.now c.args.wanted.now) all
    (left-open c.args.start.now c.args.wanted.now c.loop-begun.begun c.loop-begun.stack.assumed.items c.loop-begun.stack.frames.items c.loop-begun.invariant.searched c.loop-begun.invariant.stacked)

pub returns-in-Stays-clause-gave_up : goal.returns-in-Stays-clause-gave_up
returns-in-Stays-clause-gave_up c =
    let run : LoggedRun = c.args.start.now in
    let xs : List Assumption = c.loop-begun.stack.assumed.items in
    let under : c.loop-begun.begun ≤ c.args.nodes = omega (arith, c.loop-begun-test.true) in
    stays-open run c.args.wanted.now c.loop-begun.begun xs c.loop-begun.stack.frames.items c.loop-begun.invariant.searched c.loop-begun.invariant.stacked
    (stays-by run c.args.wanted.now xs c.as_slice.result.now c.in_ok-witness.field-0 c.as_slice.ensures.value c.in-Stays.is c.in_ok-witness.ensures) c.args.nodes under
