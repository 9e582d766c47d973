use Rattle.std.proofs.Common.{◌≡◌, ◌≤◌, ℕ, length, rules, subst, [], ◌∷◌, ◌∙◌, ap, lit<, map, refl, sym, Some}
use Rattle.std.proofs.lemmas.Iterator.Consumers.{YieldsList-end, YieldsList-turn}
use Rattle.std.proofs.lemmas.Iterator.Splits.{YieldsList-from_str_split}
use Rattle.std.proofs.lemmas.List.{map-append}
use Rattle.std.specs.Option.{option_map}
use Rattle.std.specs.Prelude.{vec_len}
use Rattle.wm_command.specs.Numbers.{pieces}
use Rattle.wm_command.specs.Turns.{item_turns, turns_of}
use Rattle.wm_command.proofs.Every.{each_none}
use Rattle.wm_command.proofs.Keeping.{joined, kept_more, kept_of, kept_within}
use Rattle.wm_command.proofs.turns.read_turns.Goals as goal

pub returns-in_default-clause-fault : goal.returns-in_default-clause-fault
unfolding turns_of pieces
returns-in_default-clause-fault c =
    let road = YieldsList-turn (YieldsList-from_str_split 44 c.args.word.now (lit< tt) (cc) (cc) (cc)) c.loop-item.yielded _ c.loop-item.yielded_by _ _ c.in-Some.item c.in-Some.is c.next.ensures.steps in
    (refl, ap (option_map joined) (each_none item_turns (pieces 44 c.args.word.now) _ c.in-Some.item.now road.0 road.1 c.in_default.ensures))

pub push_item-requires : goal.push_item-requires
push_item-requires c =
    let within : length c.loop-item.turns.items ≤ 1000001 = kept_within _ c.loop-item.turns.items c.loop-item.invariant in
    let long : length c.loop-item.turns.items ≡ vec_len c.loop-item.turns = search rules in
    subst (λ (n : ℕ). n ≤ 1000001) long within

pub loop-item-preserved : goal.loop-item-preserved
loop-item-preserved c =
    ap kept_of (map-append (λ x. x.now) c.loop-item.yielded (c.in-Some.item ∷ []))
    ∙ kept_more (map (λ x. x.now) c.loop-item.yielded) c.loop-item.turns.items c.in-Some.item.now _ c.loop-item.invariant c.in-Some-read_item.ensures
    ∙ ap Some (sym c.in_ok-push_item.ensures)

pub returns-clause-spelled : goal.returns-clause-spelled
unfolding turns_of pieces
returns-clause-spelled c =
    let end = YieldsList-end (YieldsList-from_str_split 44 c.args.word.now (lit< tt) (cc) (cc) (cc)) c.loop-item.yielded _ c.loop-item.yielded_by _ _ c.in-None.is c.next.ensures.steps in
    sym (ap kept_of end.0) ∙ c.loop-item.invariant ∙ ap Some (sym c.from_vec.ensures)
