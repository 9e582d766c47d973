use Rattle.std.proofs.Common.{Some, sym, ap, ◌∙◌, rules}
use Rattle.std.proofs.lemmas.Bool.{ltb-true}
use Rattle.wm_explore.proofs.Items.{item_at}
use Rattle.wm_explore.proofs.cache.Cache.entry_of.Goals as goal

pub returns : goal.returns
returns c =
    let lookup = c.in-Some-Some.ensures.lookup in
    record {
      place = c.place_of.result;
      at = item_at c.args.self.now.entries.items c.deref.result.now c.place_of.result c.in-Some-Some.field-0.now c.deref.ensures.value (ltb-true _ _ (sym lookup.0)) lookup.1
          ∙ ap Some c.in-Some-Some.field-0-is;
      number = search rules;
      made = search rules;
    }
