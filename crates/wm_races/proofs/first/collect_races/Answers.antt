use Rattle.std.proofs.Common.{◌+◌, ◌++◌, ◌<◌, ◌≤◌, length, ap, subst, sym, ◌∙◌, arith, ◌⊎◌, inl, inr}
use Rattle.wm_event.specs.LoggedRun.{LoggedRun, execution}
use Rattle.wm_event.specs.Shape.{ListsEachOnce}
use Rattle.wm_races.specs.First.{IsRaceCount}
use Rattle.wm_races.specs.Listing.{Lists, event_place}
use Rattle.wm_races.proofs.FirstRaceLaws.{first-taken, lists-below}
use Rattle.wm_races.proofs.first.collect_races.Goals as goal
use Rattle.wm_races.proofs.first.collect_races.Goals.{then-loop-place-test+then-len-limit+else-len-total, then-loop-place-test+else-len-limit, else-loop-place-test}

pub loop-place-preserved : goal.loop-place-preserved
loop-place-preserved c =
    let run = c.args.before.now in
    let less = c.loop-place-test.true in
    record {
      within = omega (arith, less);
      lists = subst (Lists run (λ p. event_place run p < c.loop-place.place + 1)) (sym (c.in_ok-extend_from_slice.ensures.items ∙ ap (λ more. c.loop-place.pairs.items ++ more) c.as_slice.ensures))
          (lists-below run c.loop-place.place c.loop-place.pairs.items c.in_ok-more.more c.loop-place.invariant.lists c.in_ok-more.ensures);
    }

pub returns : goal.returns
returns c =
    let run = c.args.before.now in
    let counted : IsRaceCount (execution run) c.args.total = c.requires.total in
    let once : ListsEachOnce run.log run.witness.order = subst (λ (x : LoggedRun). ListsEachOnce x.log x.witness.order) c.candidate-candidate.ensures.value c.witness.ensures.order in
    let order = ap (λ (x : LoggedRun). length x.witness.order) c.candidate-candidate.ensures.value in
    let witness = ap (λ w. length w.order) c.witness.ensures.value in
    let events = c.len-events.ensures in
    let pairs = c.loop-place.pairs.items in
    let total = counted.total in
    let end : (length run.witness.order ≤ c.loop-place.place) ⊎ ((c.args.limit ≤ length pairs) ⊎ (length counted.races ≤ length pairs)) = elim c.loop-place-test.branch [
      | then-loop-place-test+then-len-limit+else-len-total w ↦
          let size = w.len-then-len-limit.ensures in
          let enough = w.if-len-total.false in
          let whole : length counted.races ≤ length pairs = omega (arith, size, enough, total) in
          inr (inr whole)
      | then-loop-place-test+else-len-limit w ↦
          let size = w.len.ensures in
          let enough = w.if-len-limit.false in
          let most : c.args.limit ≤ length pairs = omega (arith, size, enough) in
          inr (inl most)
      | else-loop-place-test w ↦
          let past = w.loop-place-test.false in
          let all : length run.witness.order ≤ c.loop-place.place = omega (arith, past, events, witness, order) in
          inl all
    ] in
    record {
      races = counted.races;
      list = counted.list;
      first = c.from_vec.ensures ∙ c.truncate.ensures.items ∙ first-taken run counted.races counted.list c.loop-place.place c.args.limit pairs once c.loop-place.invariant.lists end;
      total = total;
    }
