use Rattle.std.proofs.Common.{None, Some, ◌∙◌, refl, sym, lit<}
use Rattle.wm_command.proofs.Parting.{cut_once}
use Rattle.wm_command.proofs.Spelling.{drain_alone, drain_pair}
use Rattle.wm_command.proofs.turns.read_drain.Goals as goal

pub returns-in_err-small_decimal-in-None : goal.returns-in_err-small_decimal-in-None
returns-in_err-small_decimal-in-None c =
    c.from_residual.ensures ∙ sym (drain_alone c.args.word.now None (cut_once 47 c.args.word.now None c.in-None.ensures.cases (lit< tt)) (sym c.in_err-small_decimal-in-None.was ∙ c.small_decimal.ensures))

pub returns-in_ok-small_decimal-in-None : goal.returns-in_ok-small_decimal-in-None
returns-in_ok-small_decimal-in-None c =
    sym (drain_alone c.args.word.now (Some c.in_ok-small_decimal-in-None.field-0) (cut_once 47 c.args.word.now None c.in-None.ensures.cases (lit< tt)) (sym c.in_ok-small_decimal-in-None.was ∙ c.small_decimal.ensures))

pub returns-in_err-small_decimal-in-Some : goal.returns-in_err-small_decimal-in-Some
returns-in_err-small_decimal-in-Some c =
    let cut = cut_once 47 c.args.word.now (Some (c.in-Some.thread, c.in-Some.index)) c.in-Some.ensures.cases (lit< tt) in
    c.from_residual-in_err-small_decimal-in-Some.ensures
    ∙ sym (drain_pair c.args.word.now c.in-Some.thread.now c.in-Some.index.now None _ cut (sym c.in_err-small_decimal-in-Some.was ∙ c.small_decimal-in-Some.ensures) refl)

pub returns-in_err-small_decimal-in-Some-2 : goal.returns-in_err-small_decimal-in-Some-2
returns-in_err-small_decimal-in-Some-2 c =
    let cut = cut_once 47 c.args.word.now (Some (c.in-Some.thread, c.in-Some.index)) c.in-Some.ensures.cases (lit< tt) in
    c.from_residual-in_err-small_decimal-in-Some-2.ensures
    ∙ sym (drain_pair c.args.word.now c.in-Some.thread.now c.in-Some.index.now (Some c.in_ok-small_decimal-in-Some.field-0) None cut
    (sym c.in_ok-small_decimal-in-Some.was ∙ c.small_decimal-in-Some.ensures) (sym c.in_err-small_decimal-in-Some-2.was ∙ c.small_decimal-in-Some-2.ensures))

pub returns-in_ok-small_decimal-in-Some-2 : goal.returns-in_ok-small_decimal-in-Some-2
returns-in_ok-small_decimal-in-Some-2 c =
    let cut = cut_once 47 c.args.word.now (Some (c.in-Some.thread, c.in-Some.index)) c.in-Some.ensures.cases (lit< tt) in
    sym (drain_pair c.args.word.now c.in-Some.thread.now c.in-Some.index.now (Some c.in_ok-small_decimal-in-Some.field-0) (Some c.in_ok-small_decimal-in-Some-2.field-0) cut
    (sym c.in_ok-small_decimal-in-Some.was ∙ c.small_decimal-in-Some.ensures) (sym c.in_ok-small_decimal-in-Some-2.was ∙ c.small_decimal-in-Some-2.ensures))
