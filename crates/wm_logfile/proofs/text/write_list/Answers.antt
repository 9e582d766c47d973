use Rattle.std.proofs.Common.{◌≡◌, ◌++◌, ◌∷◌, [], List, ap, sym, ◌∙◌, append_assoc, map}
use Rattle.std.proofs.lemmas.Result.{on_ok_weaker}
use Rattle.json.specs.Token.{Token, begin_array, end_array}
use Rattle.wm_logfile.specs.Tokens.{cells_tokens, tokens_of}
use Rattle.wm_logfile.proofs.Writings.{one_more, all_done, list_tokens, front_tokens}
use Rattle.wm_logfile.proofs.text.write_list.Goals as goal

pub loop-item-preserved : goal.loop-item-preserved
loop-item-preserved g c =
    let spell = g.W.ItemWriter.spells c.args.writer.now in
    let old : List Token = c.begin_array.new.self.tokens in
    let here = c.loop-item.invariant in
    let new = c.in_ok-write.ensures in
    let x = c.item-item.result in (
      new.0 ∙ here.0,
      new.1 ∙ ap (λ (ts : List Token). ts ++ tokens_of (spell x)) here.1 ∙ append_assoc old (front_tokens spell c.args.items.now c.loop-item.item-index) (tokens_of (spell x))
          ∙ ap (λ (ts : List Token). old ++ ts) (sym (one_more spell c.args.items.now c.loop-item.item-index x c.loop-item-test.true c.item-item.is)),
    )

pub returns : goal.returns
returns g c =
    let spell = g.W.ItemWriter.spells c.args.writer.now in
    let old : List Token = c.args.out.now.tokens in
    let cells = map spell c.args.items.now in
    let tokens = cells_tokens cells in
    let here = c.loop-item.invariant in
    let begun = c.in_ok-begin_array.ensures in
    let front : c.loop-item.out.tokens ≡ old ++ begin_array ∷ tokens =
    here.1 ∙ ap (λ (ts : List Token). c.begin_array.new.self.tokens ++ ts) (all_done spell c.args.items.now c.loop-item.item-index c.loop-item-test.false)
    ∙ ap (λ (ts : List Token). ts ++ tokens) begun.ok ∙ append_assoc old (begin_array ∷ []) tokens in
    on_ok_weaker c.end_array.result
    (λ ended. (
      c.end_array.ensures.room.0 ∙ here.0 ∙ begun.room.0,
      ended ∙ ap (λ (ts : List Token). ts ++ end_array ∷ []) front ∙ append_assoc old (begin_array ∷ tokens) (end_array ∷ []) ∙ ap (λ (ts : List Token). old ++ ts) (sym (list_tokens cells)),
    ))
    c.end_array.ensures.ok
