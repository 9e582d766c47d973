use Rattle.std.proofs.Common.{◌<◌, ◌≤◌, ℕ, List, subst, sym, ◌∙◌}
use Rattle.wm_event.specs.Shape.{IsWellShaped}
use Rattle.wm_races.specs.Parts.{AreInSequenceAt, AreParted, IsBeforeAt, IsNotBeforeAt}
use Rattle.wm_races.proofs.ClassLemmas.{class_sequence, part_read, part_write}
use Rattle.wm_races.proofs.part.part_of.Goals as goal
use Rattle.wm_races.proofs.part.part_of.Goals.{After-as_slice-places}

shape : (c : After-as_slice-places) → IsWellShaped c.args.before.now
shape c = subst IsWellShaped c.candidate-candidate.ensures.value c.log-log.ensures.shape

sequence : (c : After-as_slice-places) → AreInSequenceAt c.args.before.now c.as_slice-places.result.now
sequence c = subst (AreInSequenceAt c.args.before.now) (sym c.as_slice-places.ensures)
    (class_sequence c.args.before.now (shape c).order (shape c).keys c.candidate-candidate.ensures.agrees c.args.address c.args.class.now c.requires.class)

pub count_before-low-requires : goal.count_before-low-requires
count_before-low-requires c = sequence (goal.at.count_before-low-requires c).After-as_slice-places

pub count_not_after-requires : goal.count_not_after-requires
count_not_after-requires c = sequence (goal.at.count_not_after-requires c).After-as_slice-places

pub returns-then-writes : goal.returns-then-writes
returns-then-writes c =
    let a = (goal.at.returns-then-writes c).After-as_slice-places in
    let run = c.args.before.now in
    let j = c.args.place in
    let first = subst (λ (os : List ℕ). AreParted (λ o. IsBeforeAt run o j) (λ o. IsNotBeforeAt run o j) os c.count_before-low.result) c.as_slice-places.ensures c.count_before-low.ensures in
    let last = subst (λ (os : List ℕ). AreParted (λ o. o < j) (λ o. j ≤ o) os c.count_below-here.result) c.as_slice-places.ensures c.count_below-here.ensures in
    part_write run (shape a).order (shape a).keys c.candidate-candidate.ensures.agrees c.args.address c.args.class.now c.requires.class c.args.event.now j c.requires.listed c.requires.place
    c.count_before-low.result c.count_below-here.result (sym c.writes.ensures ∙ c.if-writes.true) first last

pub returns-else-writes : goal.returns-else-writes
returns-else-writes c =
    let a = (goal.at.returns-else-writes c).After-as_slice-places in
    let run = c.args.before.now in
    let j = c.args.place in
    let first = subst (λ (os : List ℕ). AreParted (λ o. IsBeforeAt run o j) (λ o. IsNotBeforeAt run o j) os c.count_before-low.result) c.as_slice-places.ensures c.count_before-low.ensures in
    let last = subst (λ (os : List ℕ). AreParted (λ o. IsNotBeforeAt run j o) (λ o. IsBeforeAt run j o) os c.count_not_after.result) c.as_slice-places.ensures c.count_not_after.ensures in
    part_read run (shape a).order (shape a).keys c.candidate-candidate.ensures.agrees c.args.address c.args.class.now c.requires.class c.args.event.now j c.requires.listed c.requires.place
    c.count_before-low.result c.count_not_after.result (sym c.writes.ensures ∙ c.if-writes.false) first last
