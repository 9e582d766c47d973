use Rattle.std.proofs.Common.{rules}
use Rattle.std.specs.Prelude.{◌≢◌}
use Rattle.wm_event.specs.declared.shape_fault.ShapeFault.TheVariants.{OutOfMemory}
use Rattle.wm_check.proofs.verified.verify_pair.Goals as goal

pub returns-in-Err : goal.returns-in-Err
returns-in-Err c = λ module_bytes document_bytes is_module is_document.
    let no_want : c.in-Err.fault ≢ OutOfMemory = search rules in
    record {
      «module» = c.args.module.now;
      run = record { log = c.args.log; witness = c.args.witness; initial = c.initial.result.now };
      is_run = record {
        modules = is_module;
        document = is_document;
        initial = c.initial.ensures;
      };
      first = c.in-Err.ensures.fault no_want;
      no_want = no_want;
    }
