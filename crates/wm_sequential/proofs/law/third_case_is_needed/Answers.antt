use Rattle.wm_sequential.proofs.StoreBuffering.{third-case-is-needed}
use Rattle.wm_sequential.proofs.law.third_case_is_needed.Goals as goal

pub returns : goal.returns
returns c = third-case-is-needed
