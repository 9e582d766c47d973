use Rattle.std.proofs.Common.{◌≡◌, ◌++◌}
use Rattle.wm_logfile.proofs.Writings.{front_tokens}
use Rattle.wm_logfile.proofs.text.write_list.Given as goal

abbrev pub invariant-loop-item : goal.invariant-loop-item
invariant-loop-item g l =
    (l.out.before ≡ l.initial.out.before) × (l.out.tokens ≡ l.initial.out.tokens ++ front_tokens (g.W.ItemWriter.spells l.writer) l.items l.item-index)
