use Rattle.std.proofs.Common.{[], ◌∷◌, ap, codes, refl}
use Rattle.clap.specs.Words.{found_of, rows_of}
use Rattle.wm_command.specs.Commands.{required_of}
use Rattle.wm_command.proofs.Entered.{no_command}
use Rattle.wm_command.proofs.command.command_of.Goals as goal

pub returns-in_err-module-in-stream-clause-none : goal.returns-in_err-module-in-stream-clause-none
returns-in_err-module-in-stream-clause-none c = λ _.
    no_command c.args.name.now (rows_of (found_of c.args.words.now)) (codes "file" ∷ []) (ap required_of c.in-stream.is) (c.in_err-module-in-stream.ensures.none refl)

pub returns-in_err-module-in-decide-clause-none : goal.returns-in_err-module-in-decide-clause-none
returns-in_err-module-in-decide-clause-none c = λ _.
    no_command c.args.name.now (rows_of (found_of c.args.words.now)) (codes "file" ∷ []) (ap required_of c.in-decide.is) (c.in_err-module-in-decide.ensures.none refl)

pub returns-in_err-module-in-drive-clause-none : goal.returns-in_err-module-in-drive-clause-none
returns-in_err-module-in-drive-clause-none c = λ _.
    no_command c.args.name.now (rows_of (found_of c.args.words.now)) (codes "file" ∷ codes "turns" ∷ []) (ap required_of c.in-drive.is) (c.in_err-module-in-drive.ensures.none refl)

pub returns-in_err-module-in-trace-clause-none : goal.returns-in_err-module-in-trace-clause-none
returns-in_err-module-in-trace-clause-none c = λ _.
    no_command c.args.name.now (rows_of (found_of c.args.words.now)) (codes "file" ∷ codes "turns" ∷ []) (ap required_of c.in-trace.is) (c.in_err-module-in-trace.ensures.none refl)

pub returns-in_err-module-in-run-clause-none : goal.returns-in_err-module-in-run-clause-none
returns-in_err-module-in-run-clause-none c = λ _.
    no_command c.args.name.now (rows_of (found_of c.args.words.now)) (codes "file" ∷ codes "rounds" ∷ []) (ap required_of c.in-run.is) (c.in_err-module-in-run.ensures.none refl)

pub document_command-requires-clause-named : goal.document_command-requires-clause-named
document_command-requires-clause-named c = c.in-rules.is

pub document_command-requires-clause-file : goal.document_command-requires-clause-file
document_command-requires-clause-file c = ap required_of c.in-rules.is

pub document_command-requires-clause-none_optional : goal.document_command-requires-clause-none_optional
document_command-requires-clause-none_optional c = refl

pub document_command-requires-in-migrate-clause-named : goal.document_command-requires-in-migrate-clause-named
document_command-requires-in-migrate-clause-named c = c.in-migrate.is

pub document_command-requires-in-migrate-clause-file : goal.document_command-requires-in-migrate-clause-file
document_command-requires-in-migrate-clause-file c = ap required_of c.in-migrate.is

pub document_command-requires-in-migrate-clause-none_optional : goal.document_command-requires-in-migrate-clause-none_optional
document_command-requires-in-migrate-clause-none_optional c = refl

pub run_command-requires-clause-named : goal.run_command-requires-clause-named
run_command-requires-clause-named c = c.in-check.is

pub run_command-requires-clause-both : goal.run_command-requires-clause-both
run_command-requires-clause-both c = ap required_of c.in-check.is

pub run_command-requires-in-complete-clause-named : goal.run_command-requires-in-complete-clause-named
run_command-requires-in-complete-clause-named c = c.in-complete.is

pub run_command-requires-in-complete-clause-both : goal.run_command-requires-in-complete-clause-both
run_command-requires-in-complete-clause-both c = ap required_of c.in-complete.is

pub run_command-requires-in-verify-clause-named : goal.run_command-requires-in-verify-clause-named
run_command-requires-in-verify-clause-named c = c.in-verify.is

pub run_command-requires-in-verify-clause-both : goal.run_command-requires-in-verify-clause-both
run_command-requires-in-verify-clause-both c = ap required_of c.in-verify.is

pub log_command-requires-clause-run_named : goal.log_command-requires-clause-run_named
log_command-requires-clause-run_named c = c.in-races.is

pub log_command-requires-clause-document_named : goal.log_command-requires-clause-document_named
log_command-requires-clause-document_named c = c.in-races.is

pub log_command-requires-clause-file : goal.log_command-requires-clause-file
log_command-requires-clause-file c = ap required_of c.in-races.is

pub log_command-requires-in-explain-clause-run_named : goal.log_command-requires-in-explain-clause-run_named
log_command-requires-in-explain-clause-run_named c = c.in-explain.is

pub log_command-requires-in-explain-clause-document_named : goal.log_command-requires-in-explain-clause-document_named
log_command-requires-in-explain-clause-document_named c = c.in-explain.is

pub log_command-requires-in-explain-clause-file : goal.log_command-requires-in-explain-clause-file
log_command-requires-in-explain-clause-file c = ap required_of c.in-explain.is

pub log_command-requires-in-graph-clause-run_named : goal.log_command-requires-in-graph-clause-run_named
log_command-requires-in-graph-clause-run_named c = c.in-graph.is

pub log_command-requires-in-graph-clause-document_named : goal.log_command-requires-in-graph-clause-document_named
log_command-requires-in-graph-clause-document_named c = c.in-graph.is

pub log_command-requires-in-graph-clause-file : goal.log_command-requires-in-graph-clause-file
log_command-requires-in-graph-clause-file c = ap required_of c.in-graph.is

pub witness_command-requires-clause-named : goal.witness_command-requires-clause-named
witness_command-requires-clause-named c = c.in-witness.is

pub witness_command-requires-clause-file : goal.witness_command-requires-clause-file
witness_command-requires-clause-file c = ap required_of c.in-witness.is

pub returns-in-witness-clause-some : goal.returns-in-witness-clause-some
returns-in-witness-clause-some c = c.witness_command.ensures.some

pub returns-in-witness-clause-none : goal.returns-in-witness-clause-none
returns-in-witness-clause-none c = c.witness_command.ensures.none

pub returns-in-rules-clause-some : goal.returns-in-rules-clause-some
returns-in-rules-clause-some c = c.document_command.ensures.some

pub returns-in-rules-clause-none : goal.returns-in-rules-clause-none
returns-in-rules-clause-none c = c.document_command.ensures.none

pub returns-in-check-clause-some : goal.returns-in-check-clause-some
returns-in-check-clause-some c = c.run_command.ensures.some

pub returns-in-check-clause-none : goal.returns-in-check-clause-none
returns-in-check-clause-none c = c.run_command.ensures.none

pub returns-in-migrate-clause-some : goal.returns-in-migrate-clause-some
returns-in-migrate-clause-some c = c.document_command-in-migrate.ensures.some

pub returns-in-migrate-clause-none : goal.returns-in-migrate-clause-none
returns-in-migrate-clause-none c = c.document_command-in-migrate.ensures.none

pub returns-in-complete-clause-some : goal.returns-in-complete-clause-some
returns-in-complete-clause-some c = c.run_command-in-complete.ensures.some

pub returns-in-complete-clause-none : goal.returns-in-complete-clause-none
returns-in-complete-clause-none c = c.run_command-in-complete.ensures.none

pub returns-in-verify-clause-some : goal.returns-in-verify-clause-some
returns-in-verify-clause-some c = c.run_command-in-verify.ensures.some

pub returns-in-verify-clause-none : goal.returns-in-verify-clause-none
returns-in-verify-clause-none c = c.run_command-in-verify.ensures.none

pub returns-in-races-clause-some : goal.returns-in-races-clause-some
returns-in-races-clause-some c = c.log_command.ensures.some

pub returns-in-races-clause-none : goal.returns-in-races-clause-none
returns-in-races-clause-none c = c.log_command.ensures.none

pub returns-in-explain-clause-some : goal.returns-in-explain-clause-some
returns-in-explain-clause-some c = c.log_command-in-explain.ensures.some

pub returns-in-explain-clause-none : goal.returns-in-explain-clause-none
returns-in-explain-clause-none c = c.log_command-in-explain.ensures.none

pub returns-in-graph-clause-some : goal.returns-in-graph-clause-some
returns-in-graph-clause-some c = c.log_command-in-graph.ensures.some

pub returns-in-graph-clause-none : goal.returns-in-graph-clause-none
returns-in-graph-clause-none c = c.log_command-in-graph.ensures.none

pub returns-in_ok-module-in-stream-clause-some : goal.returns-in_ok-module-in-stream-clause-some
returns-in_ok-module-in-stream-clause-some c = (c.in-stream.is, (c.in_ok-module-in-stream.ensures.some, tt), tt)

pub returns-in_ok-module-in-decide-clause-some : goal.returns-in_ok-module-in-decide-clause-some
returns-in_ok-module-in-decide-clause-some c = (c.in-decide.is, (c.in_ok-module-in-decide.ensures.some, tt), tt)

pub returns-in_ok-module-in-drive-clause-some : goal.returns-in_ok-module-in-drive-clause-some
returns-in_ok-module-in-drive-clause-some c = (c.in-drive.is, c.in_ok-module-in-drive.ensures.some, tt)

pub returns-in_ok-module-in-trace-clause-some : goal.returns-in_ok-module-in-trace-clause-some
returns-in_ok-module-in-trace-clause-some c = (c.in-trace.is, c.in_ok-module-in-trace.ensures.some, tt)

pub returns-in_ok-module-in-run-clause-some : goal.returns-in_ok-module-in-run-clause-some
returns-in_ok-module-in-run-clause-some c = (c.in-run.is, c.in_ok-module-in-run.ensures.some, tt)
