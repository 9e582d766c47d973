use Rattle.std.proofs.Common.{◌≡◌, subst}
use Rattle.wm_event.specs.Event.{key_of}
use Rattle.wm_event.specs.declared.event.EventId.TheVariants.{At}
use Rattle.wm_graph.specs.Edges.{HasReads}
use Rattle.wm_graph.specs.declared.edges.EdgeKind.TheVariants.{Sequenced}
use Rattle.wm_graph.proofs.EdgeLaws.{kept_edge, keeps_after}
use Rattle.wm_graph.proofs.edges.add_event.Goals as goal

pub returns-clause-kept : goal.returns-clause-kept
returns-clause-kept c =
    keeps_after c.args.edges.now c.add_sequenced.new.edges c.add_reads.new.edges c.in_ok-add_sequenced.ensures.kept c.in_ok-add_reads.ensures.kept

pub returns-clause-complete : goal.returns-clause-complete
returns-clause-complete c =
    let key = key_of c.args.event.now in (
      λ a next. kept_edge c.args.candidate.now c.add_sequenced.new.edges c.add_reads.new.edges (λ kind. kind ≡ Sequenced) (At a) key c.in_ok-add_reads.ensures.kept (c.in_ok-add_sequenced.ensures.sequenced a next),
      subst (HasReads c.args.candidate.now c.add_reads.new.edges) c.key.ensures c.in_ok-add_reads.ensures.reads,
    )
