use Rattle.std.proofs.Common.{length, subst}
use Rattle.wm_valid.proofs.Initial.{one_init}
use Rattle.wm_run.specs.Run.{over}
use Rattle.wm_run.specs.Own.{IsAllowedOver}
use Rattle.wm_run.proofs.own.own_runs_are_allowed.Goals as goal

pub returns : goal.returns
returns c m run initial own is_init =
    let same = one_init m own.initial initial own.is_init is_init in
    let law = c.legal_histories_are_valid.ensures in
    subst (λ init. IsAllowedOver m init run) same (record {
      shape = law.shape (length run.log) own.initial own.history (over own.initial run) own.bytes own.legal own.records;
      runs = own.runs;
      valid = law.valid (length run.log) own.initial own.history (over own.initial run) own.bytes own.legal own.records;
    })
