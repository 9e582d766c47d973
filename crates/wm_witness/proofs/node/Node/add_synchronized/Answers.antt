use Rattle.wm_witness.specs.declared.relation.Kind.TheVariants.{Stands}
use Rattle.wm_witness.specs.Relations.{IsPair, IsSynchronized}
use Rattle.wm_witness.proofs.NodeLaw.{all-pushed}
use Rattle.wm_witness.proofs.RelationLaw.{synchronized-pair}
use Rattle.wm_witness.proofs.node.Node.add_synchronized.Goals as goal

pub returns : goal.returns
returns c =
    let run = c.args.start.now in
    let assumed = c.args.assumed.now in
    let node = c.requires.node in
    let old = c.args.self.now in
    record {
      of_happens = node.of_happens;
      of_stands = node.of_stands;
      happens = node.happens;
      stands = node.stands;
      synchronized = all-pushed (IsSynchronized run assumed) old.synchronized.items c.push.new.self.items c.args.pair c.in_ok-push.ensures.items node.synchronized c.requires.pair;
      ordered = all-pushed (IsPair run assumed Stands) old.ordered.items c.push-2.new.self.items c.args.pair c.in_ok-push-2.ensures.items node.ordered
          (synchronized-pair run assumed Stands c.args.pair c.requires.pair);
      taken = node.taken;
    }
