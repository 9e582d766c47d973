use Rattle.std.proofs.Common.{◌≡◌, ◌+◌, ◌≤◌, ◌∙◌, length, sym, ap, arith}
use Rattle.wm_litmus.specs.Counts.{next_count}
use Rattle.wm_litmus.proofs.Counting.{count_small}
use Rattle.wm_litmus.proofs.table.Table.next_count.Goals as goal

pub returns-in-Some : goal.returns-in-Some
returns-in-Some c = λ came h small.
    let most : c.in-Some.count.now ≤ length came = count_small came c.args.outcome.now c.args.self.now.counts c.in-Some.count.now h (sym c.in-Some.ensures.value) in
    let grown : c.saturating_add.result ≡ c.in-Some.count.now + 1 = omega (arith, c.saturating_add.ensures) in
    grown ∙ ap next_count c.in-Some.ensures.value

pub returns-in-None : goal.returns-in-None
returns-in-None c = λ came h small. ap next_count c.in-None.ensures.value
