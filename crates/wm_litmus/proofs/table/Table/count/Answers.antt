use Rattle.std.proofs.Common.{[], ◌∷◌, ◌++◌, subst}
use Rattle.std.proofs.lemmas.Result.{on_ok_weaker}
use Rattle.wm_litmus.specs.Counts.{Counts}
use Rattle.wm_litmus.proofs.table.Table.count.Goals as goal

pub returns : goal.returns
returns c =
    on_ok_weaker c.add.result
    (λ add came h few. subst (λ outcome. Counts (came ++ outcome ∷ []) c.add.new.self.counts) c.in_ok-outcome.ensures (add came h few))
    c.add.ensures
