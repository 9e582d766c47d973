use Rattle.wm_witness.specs.declared.relation.Kind.TheVariants.{Stands}
use Rattle.wm_witness.specs.Choice.{IsTaken}
use Rattle.wm_witness.specs.Relations.{IsPair, IsSynchronized}
use Rattle.wm_witness.proofs.NodeLaw.{all-none-is}
use Rattle.wm_witness.proofs.node.Node.new.Goals as goal

pub returns : goal.returns
returns c =
    let run = c.args.start.now in
    let assumed = c.args.assumed.now in
    record {
      of_happens = c.in_ok-happens.ensures.kind;
      of_stands = c.in_ok-stands.ensures.kind;
      happens = c.in_ok-happens.ensures.rows assumed;
      stands = c.in_ok-stands.ensures.rows assumed;
      synchronized = all-none-is (IsSynchronized run assumed) c.new-3.result.items c.new-3.ensures.items;
      ordered = all-none-is (IsPair run assumed Stands) c.new-4.result.items c.new-4.ensures.items;
      taken = all-none-is (IsTaken run assumed) c.new-5.result.items c.new-5.ensures.items;
    }
