use Rattle.std.proofs.Common.{◌≡◌, ◌∙◌, ap}
use Rattle.std.specs.BTreeMap.{get_by_text}
use Rattle.std.specs.Prelude.{string_bytes}
use Rattle.wm_litmus.specs.Counts.{next_count}
use Rattle.wm_litmus.proofs.Counting.{counts_more}
use Rattle.wm_litmus.proofs.table.Table.add.Goals as goal

pub returns : goal.returns
returns c = λ came h small.
    let text : c.as_str.result.now ≡ string_bytes c.args.outcome = c.as_str.ensures.value in
    let count = c.next_count-count.ensures came h small ∙ ap (λ k. next_count (get_by_text c.args.self.now.counts k)) text in
    counts_more came (string_bytes c.args.outcome) c.args.self.now.counts c.insert.new.self c.next_count-count.result h c.in_ok-insert.ensures.ordered c.in_ok-insert.ensures.updates count
