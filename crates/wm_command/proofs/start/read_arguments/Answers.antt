use Rattle.std.proofs.Common.{[], ◌∷◌, ◌∙◌, ap, lit<, map, refl, sym, Some}
use Rattle.std.proofs.lemmas.Iterator.Consumers.{YieldsList-end, YieldsList-turn}
use Rattle.std.proofs.lemmas.Iterator.Splits.{YieldsList-from_str_split}
use Rattle.std.proofs.lemmas.List.{map-append}
use Rattle.wm_command.specs.Each.{each}
use Rattle.wm_command.specs.Numbers.{pieces}
use Rattle.wm_command.specs.Starts.{argument_of}
use Rattle.wm_command.proofs.Every.{each_more, each_none}
use Rattle.wm_command.proofs.start.read_arguments.Goals as goal

pub returns-in_default-clause-fault : goal.returns-in_default-clause-fault
unfolding pieces
returns-in_default-clause-fault c =
    let road = YieldsList-turn (YieldsList-from_str_split 58 c.args.words.now (lit< tt) (cc) (cc) (cc)) c.loop-word.yielded _ c.loop-word.yielded_by _ _ c.in-Some.word c.in-Some.is c.next.ensures.steps in
    (refl, each_none argument_of (pieces 58 c.args.words.now) _ c.in-Some.word.now road.0 road.1 (sym c.decimal.ensures ∙ c.in_default.is))

pub loop-word-preserved : goal.loop-word-preserved
loop-word-preserved c =
    ap (each argument_of) (map-append (λ x. x.now) c.loop-word.yielded (c.in-Some.word ∷ []))
    ∙ each_more argument_of (map (λ x. x.now) c.loop-word.yielded) c.loop-word.args.items c.in-Some.word.now c.in-Some-decimal.argument c.loop-word.invariant (sym c.decimal.ensures ∙ c.in-Some-decimal.is)
    ∙ ap Some (sym c.in_ok-push.ensures.items)

pub returns-clause-spelled : goal.returns-clause-spelled
unfolding pieces
returns-clause-spelled c =
    let end = YieldsList-end (YieldsList-from_str_split 58 c.args.words.now (lit< tt) (cc) (cc) (cc)) c.loop-word.yielded _ c.loop-word.yielded_by _ _ c.in-None.is c.next.ensures.steps in
    sym (ap (each argument_of) end.0) ∙ c.loop-word.invariant ∙ ap Some (sym c.from_vec.ensures)
