use Rattle.std.proofs.Common.{None, Some, ◌∙◌, ap, lit<, sym}
use Rattle.wm_command.specs.declared.fault.WordFault.TheVariants.{Start}
use Rattle.wm_command.specs.Each.{each}
use Rattle.wm_command.specs.Faults.{Misses}
use Rattle.wm_command.specs.Numbers.{pieces}
use Rattle.wm_command.specs.Starts.{argument_of, start_of, start_with}
use Rattle.wm_command.proofs.Missing.{handed_on, misses_on}
use Rattle.wm_command.proofs.Parting.{cut_once}
use Rattle.wm_command.proofs.Spelling.{start_alone, start_pair}
use Rattle.wm_command.proofs.start.read_start.Goals as goal

pub returns-in_err-args-in-Some-clause-fault : goal.returns-in_err-args-in-Some-clause-fault
returns-in_err-args-in-Some-clause-fault c =
    let cut = cut_once 58 c.args.word.now (Some (c.in-Some.name, c.in-Some.arguments)) c.in-Some.ensures.cases (lit< tt) in
    handed_on c.from_residual-in_err-args-in-Some.result c.in_err-args-in-Some.field-0.0 (Misses Start (start_of c.args.word.now)) c.from_residual-in_err-args-in-Some.ensures.1
    (misses_on Start (each argument_of (pieces 58 c.in-Some.arguments.now)) (start_of c.args.word.now) c.in_err-args-in-Some.field-0.0
    (λ none. start_pair c.args.word.now c.in-Some.name.now c.in-Some.arguments.now None cut none)
    c.in_err-args-in-Some.ensures.fault)

pub returns-in_ok-start_with_args-in-None-clause-spelled : goal.returns-in_ok-start_with_args-in-None-clause-spelled
returns-in_ok-start_with_args-in-None-clause-spelled c =
    let whole = cut_once 58 c.args.word.now None c.in-None.ensures.cases (lit< tt) in
    start_alone c.args.word.now whole ∙ ap (λ args. Some (start_with c.args.word.now args)) (sym c.new.ensures) ∙ ap Some (sym c.in_ok-start_with_args-in-None.ensures)

pub returns-in_ok-start_with_args-in-Some-clause-spelled : goal.returns-in_ok-start_with_args-in-Some-clause-spelled
returns-in_ok-start_with_args-in-Some-clause-spelled c =
    let cut = cut_once 58 c.args.word.now (Some (c.in-Some.name, c.in-Some.arguments)) c.in-Some.ensures.cases (lit< tt) in
    start_pair c.args.word.now c.in-Some.name.now c.in-Some.arguments.now (Some c.in_ok-args-in-Some.args) cut c.in_ok-args-in-Some.ensures.spelled
    ∙ ap Some (sym c.in_ok-start_with_args-in-Some.ensures)
