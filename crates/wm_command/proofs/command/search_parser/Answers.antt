use Rattle.std.proofs.Common.{ap, ap₂, Bool, ◌∙◌, ◌||◌}
use Rattle.std.proofs.lemmas.Result.{IfOk-weaker}
use Rattle.clap.specs.Words.{App, app_of, with_rule, with_subcommand}
use Rattle.wm_command.proofs.command.search_parser.Goals as goal

pub returns : goal.returns
returns c =
    let either : Bool → Bool → Bool = λ a b. a || b in
    let one_is = c.in_ok-arg.ensures.shape c.word.ensures.own ∙ ap₂ with_rule c.new.ensures.app c.word.ensures.rule in
    let one_local = c.in_ok-arg.ensures.globals ∙ ap₂ either c.new.ensures.local c.word.ensures.own in
    let two_are = c.in_ok-arg-2.ensures.shape c.optional_word.ensures.own ∙ ap₂ with_rule one_is c.optional_word.ensures.rule in
    let two_local = c.in_ok-arg-2.ensures.globals ∙ ap₂ either one_local c.optional_word.ensures.own in
    IfOk-weaker c.arg-3.result _ _ (λ parser made old more adds.
    adds.shape (made.globals ∙ ap₂ either two_local c.optional_word-2.ensures.own)
    ∙ ap (λ (s : App). with_subcommand (app_of old) s.top) (made.shape c.optional_word-2.ensures.own ∙ ap₂ with_rule two_are c.optional_word-2.ensures.rule)) c.arg-3.ensures
