use Rattle.std.proofs.Common.{arith}
use Rattle.serde_json.specs.View.{view}
use Rattle.std.proofs.Common.{Ok}
use Rattle.wm_logfile.proofs.Answer.{taken, spelled, within, only, refused}
use Rattle.wm_logfile.proofs.Causes.{faults_of}
use Rattle.wm_logfile.proofs.document.read_document.Goals as goal

pub returns-in-Ok-clause-spelled : goal.returns-in-Ok-clause-spelled
returns-in-Ok-clause-spelled c = spelled c.args.bytes.now c.in-Ok.ensures.value (Ok c.in-Ok.pair) (taken c.args.bytes.now c.in-Ok.pair c.in-Ok.ensures)

pub returns-in-Ok-clause-within : goal.returns-in-Ok-clause-within
returns-in-Ok-clause-within c = within c.args.bytes.now c.in-Ok.ensures.value (Ok c.in-Ok.pair) (omega arith) (taken c.args.bytes.now c.in-Ok.pair c.in-Ok.ensures)

pub returns-in-Ok-clause-only : goal.returns-in-Ok-clause-only
returns-in-Ok-clause-only c = only c.args.bytes.now c.in-Ok.ensures.value (Ok c.in-Ok.pair) (taken c.args.bytes.now c.in-Ok.pair c.in-Ok.ensures)

pub returns-in-Ok-from_slice-clause-spelled : goal.returns-in-Ok-from_slice-clause-spelled
returns-in-Ok-from_slice-clause-spelled c =
    spelled c.args.bytes.now (view c.in-Ok-from_slice.value) c.document_of.result (record { utf8 = c.in-Ok-from_slice.ensures.ok.0; text = c.in-Ok-from_slice.ensures.ok.1; given = c.document_of.ensures.given })

pub returns-in-Ok-from_slice-clause-within : goal.returns-in-Ok-from_slice-clause-within
returns-in-Ok-from_slice-clause-within c =
    within c.args.bytes.now (view c.in-Ok-from_slice.value) c.document_of.result (omega arith) (record { utf8 = c.in-Ok-from_slice.ensures.ok.0; text = c.in-Ok-from_slice.ensures.ok.1; given = c.document_of.ensures.given })

pub returns-in-Ok-from_slice-clause-only : goal.returns-in-Ok-from_slice-clause-only
returns-in-Ok-from_slice-clause-only c =
    only c.args.bytes.now (view c.in-Ok-from_slice.value) c.document_of.result (record { utf8 = c.in-Ok-from_slice.ensures.ok.0; text = c.in-Ok-from_slice.ensures.ok.1; given = c.document_of.ensures.given })

pub returns-in-Ok-from_slice-clause-refused : goal.returns-in-Ok-from_slice-clause-refused
returns-in-Ok-from_slice-clause-refused c =
    refused c.args.bytes.now (view c.in-Ok-from_slice.value) c.document_of.result (omega arith) (record { utf8 = c.in-Ok-from_slice.ensures.ok.0; text = c.in-Ok-from_slice.ensures.ok.1; given = c.document_of.ensures.given }) (faults_of (view c.in-Ok-from_slice.value) c.document_of.result c.document_of.ensures.fault)
