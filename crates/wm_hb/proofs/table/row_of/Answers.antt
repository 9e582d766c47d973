use Rattle.std.proofs.Common.{length, ◌+◌, Some, None}
use Rattle.wm_hb.specs.Table.{IsBestOfThread}
use Rattle.wm_hb.proofs.TableLaws.{bounds_chains, through_edges, unequal}
use Rattle.wm_hb.proofs.table.row_of.Goals as goal

pub returns-in-Some : goal.returns-in-Some
returns-in-Some c =
    let x = c.args.candidate.now in
    let thread : IsBestOfThread x c.args.table.now c.args.from c.args.key c.from_thread-earlier.result = c.from_thread-earlier.ensures c.args.from c.requires.table in
    record {
      earlier = thread;
      reach = c.in-Some.ensures.hop;
      least = bounds_chains x c.args.from c.args.key (Some c.in-Some.hop.links) (unequal c.args.from c.args.key c.if-eq.ensures)
          (through_edges x c.args.from c.args.key (Some c.in-Some.hop.links)
          (λ k s links leads. c.in-Some.ensures.thread (length links + 1) (thread.least k s links leads))
          (λ k s. c.in-Some.ensures.writers c.args.from k c.requires.table s));
    }

pub returns-in-None : goal.returns-in-None
returns-in-None c =
    let x = c.args.candidate.now in
    let thread : IsBestOfThread x c.args.table.now c.args.from c.args.key c.from_thread-earlier.result = c.from_thread-earlier.ensures c.args.from c.requires.table in
    record {
      earlier = thread;
      reach = tt;
      least = bounds_chains x c.args.from c.args.key None (unequal c.args.from c.args.key c.if-eq.ensures)
          (through_edges x c.args.from c.args.key None
          (λ k s links leads. c.in-None.ensures.thread (length links + 1) (thread.least k s links leads))
          (λ k s. c.in-None.ensures.writers c.args.from k c.requires.table s));
    }
