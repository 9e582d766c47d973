use Rattle.std.proofs.Common.{◌≤◌, List, get_or, length, sym, subst, arith}
use Rattle.std.specs.Prelude.{All}
use Rattle.wm_event.specs.declared.event.EventKey.{EventKey}
use Rattle.wm_event.specs.declared.event.EventId.TheVariants.{Init}
use Rattle.wm_writers.proofs.ListLemmas.{all-taken}
use Rattle.wm_witness.specs.Steps.{AreBytesSpent, IsPairSpent}
use Rattle.wm_witness.proofs.NewSplitLaw.{none-holds, take-whole}
use Rattle.wm_witness.proofs.new_split.new_split_on_event.Goals as goal

pub loop-second-preserved : goal.loop-second-preserved
loop-second-preserved c =
    let log = c.args.start.now.log in
    let assumed = c.args.assumed.now in
    let none : EventKey = record { thread = 0; number = 0 } in
    let second : EventKey = get_or c.args.events.now c.loop-second.second-index none in
    all-taken (IsPairSpent log assumed c.args.first) c.args.events.now c.loop-second.second-index none c.loop-second-test.true c.loop-second.invariant
    (none-holds c.new_split_on_pair-found.result (IsPairSpent log assumed c.args.first second) (sym c.if-is_some-2.ensures) c.new_split_on_pair-found.ensures.none)

pub returns-clause-none : goal.returns-clause-none
returns-clause-none c =
    let log = c.args.start.now.log in
    let assumed = c.args.assumed.now in
    let events : List EventKey = c.args.events.now in
    let P : EventKey → Type 0 = IsPairSpent log assumed c.args.first in
    let over : length events ≤ c.loop-second.second-index = omega (arith, c.loop-second-test.false) in
    record {
      from_init = none-holds c.new_split_on_bytes-init.result (AreBytesSpent log assumed c.args.first Init) (sym c.if-is_some.ensures) c.new_split_on_bytes-init.ensures.none;
      pairs = subst (All P) (take-whole events c.loop-second.second-index over) c.loop-second.invariant;
    }
