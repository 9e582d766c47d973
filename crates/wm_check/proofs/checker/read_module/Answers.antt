use Rattle.std.proofs.Common.{rules}
use Rattle.std.specs.Prelude.{◌≢◌}
use Rattle.wm_valid.specs.declared.fault.ValidFault.TheVariants.{OutOfMemory}
use Rattle.wm_check.proofs.Invalid.{is_invalid}
use Rattle.wm_check.proofs.checker.read_module.Goals as goal

pub returns-in-Err-validate-clause-refused : goal.returns-in-Err-validate-clause-refused
returns-in-Err-validate-clause-refused c =
    let no_want : c.in-Err-validate.fault ≢ OutOfMemory = search rules in
    record {
      «module» = c.in-Ok.module;
      spelled = c.in-Ok.ensures.found;
      invalid = is_invalid c.in-Ok.module c.in-Err-validate.fault no_want c.in-Err-validate.ensures.breaks;
      breaks = c.in-Err-validate.ensures.breaks;
      no_want = no_want;
    }
