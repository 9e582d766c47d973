use Rattle.std.proofs.Common.{map}
use Rattle.std.proofs.lemmas.Result.{IfOk-weaker}
use Rattle.wm_litmus.specs.Counts.{row_of}
use Rattle.wm_litmus.proofs.Tabling.{rows_are_table}
use Rattle.wm_litmus.proofs.table.Table.text.Goals as goal

pub returns : goal.returns
returns c =
    let counts = c.args.self.now.counts in
    IfOk-weaker c.lines.result _ _ (λ text is came h. record { rows = map row_of counts.entries; table = rows_are_table came counts h; text_is = is }) c.lines.ensures
