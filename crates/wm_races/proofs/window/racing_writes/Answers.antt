use Rattle.std.proofs.Common.{◌<◌, length, sym, ap, subst, ◌∙◌, rules}
use Rattle.std.proofs.lemmas.Bool.{both_ways}
use Rattle.std.specs.List.{filter}
use Rattle.wm_event.specs.declared.event.EventKey.{EventKey}
use Rattle.wm_event.specs.declared.event.EventId.TheVariants.{At}
use Rattle.wm_event.specs.LoggedRun.{LoggedRun}
use Rattle.wm_event.specs.Writes.{writes_from}
use Rattle.wm_event.specs.Shape.{ListsEachOnce}
use Rattle.wm_hb.specs.Between.{Rises, stands_between}
use Rattle.wm_races.specs.Bounds.{IsStart}
use Rattle.wm_races.specs.Window.{AreRacingWrites}
use Rattle.wm_races.proofs.BoundLemmas.{racing_between}
use Rattle.wm_races.proofs.WindowLemmas.{racing_all, racing_none}
use Rattle.wm_races.proofs.window.racing_writes.Goals as goal

pub returns-then-not-contains : goal.returns-then-not-contains
returns-then-not-contains c =
    let run = c.args.before.now in
    let once : ListsEachOnce run.log run.witness.order = search rules in
    racing_none run once c.args.event.now c.args.place c.requires.listed c.requires.place c.args.begins.now c.args.address c.requires.begins
    (λ s. c.if-address-from.true (s ∙ sym c.from.ensures)) (λ h. both_ways c.contains.result c.if-not-contains.true (c.contains.ensures.1 h))

pub returns-then-writes-le-FEW : goal.returns-then-writes-le-FEW
returns-then-writes-le-FEW c =
    let run = c.args.before.now in
    let once : ListsEachOnce run.log run.witness.order = search rules in
    let all = c.byte_writes-writes.ensures ∙ ap (λ (x : LoggedRun). writes_from x.log c.args.address 0 x.witness.order) c.candidate-candidate.ensures.value in
    subst (AreRacingWrites run c.args.place c.args.address) (sym all) (racing_all run once c.args.place c.args.address)

pub part_between-requires : goal.part_between-requires
part_between-requires c =
    let run = c.args.before.now in
    let once : ListsEachOnce run.log run.witness.order = search rules in
    let all = c.byte_writes-writes.ensures ∙ ap (λ (x : LoggedRun). writes_from x.log c.args.address 0 x.witness.order) c.candidate-candidate.ensures.value in
    subst Rises (sym all) (racing_all run once c.args.place c.args.address).rises

pub returns : goal.returns
returns c =
    let run = c.args.before.now in
    let once : ListsEachOnce run.log run.witness.order = search rules in
    let all = c.byte_writes-writes.ensures ∙ ap (λ (x : LoggedRun). writes_from x.log c.args.address 0 x.witness.order) c.candidate-candidate.ensures.value in
    let part = c.part_between.ensures ∙ ap (filter (stands_between c.start_of-start.result c.end_for.result)) all in
    let start = subst (λ (k : EventKey). IsStart run (λ t. t < length run.log) c.args.address (At k) c.start_of-start.result) c.key.ensures c.start_of-start.ensures in
    subst (AreRacingWrites run c.args.place c.args.address) (sym part)
    (racing_between run once c.args.event.now c.args.place c.requires.listed c.requires.place c.args.address c.start_of-start.result c.end_for.result start c.end_for.ensures)
