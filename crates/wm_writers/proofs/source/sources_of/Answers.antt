use Rattle.std.proofs.Common.{subst, sym, arith}
use Rattle.std.specs.Prelude.{All}
use Rattle.std.proofs.lemmas.Grind.{common_steps}
use Rattle.wm_writers.specs.Answer.{IsSource}
use Rattle.wm_writers.specs.declared.source.Source.{Source}
use Rattle.wm_writers.proofs.ListLemmas.{all-more}
use Rattle.wm_writers.proofs.source.sources_of.Goals as goal

pub loop-need-preserved : goal.loop-need-preserved
loop-need-preserved c =
    let run = c.args.candidate.now in
    let s : Source = c.in_ok-source_of.field-0 in
    let more = c.in_ok-push.ensures.ok in
    let old = c.loop-need.invariant.needs in
    let need = c.in_ok-source_of.ensures.need in
    record {
      needs = grind (arith, common_steps);
      sources = subst (All (IsSource run)) (sym more) (all-more (IsSource run) c.loop-need.sources s c.loop-need.invariant.sources c.in_ok-source_of.ensures.source);
    }
