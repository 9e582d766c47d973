use Rattle.std.proofs.Common.{◌∙◌, ap, map, sym}
use Rattle.std.proofs.lemmas.List.{map-append, take_more}
use Rattle.wm_event.specs.Event.{key_of}
use Rattle.wm_run.proofs.scripts.tracing.keys_of.Goals as goal

pub loop-store-preserved : goal.loop-store-preserved
loop-store-preserved c =
    let stores = c.args.stores.now in
    rw (c.in_ok-push.ensures.items, c.loop-store.invariant, c.key.ensures)
    (sym (ap (map key_of) (take_more stores c.loop-store.store-index _ c.loop-store-test.true) ∙ map-append key_of _ _))
