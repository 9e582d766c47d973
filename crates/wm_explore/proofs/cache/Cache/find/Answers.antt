use Rattle.std.proofs.Common.{sym, subst}
use Rattle.wm_explore.specs.Cache.{IsEntryOf}
use Rattle.wm_explore.specs.Moved.{IsMovedBy}
use Rattle.wm_explore.specs.declared.cache.Entry.{Entry}
use Rattle.wm_explore.proofs.Recalling.{entry_right}
use Rattle.wm_explore.proofs.cache.Cache.find.Goals as goal

pub returns : goal.returns
returns c m recalls =
    let k = c.args.number in
    let t = c.args.stated.now in
    let cache = c.args.self.now in
    let entry = c.in_ok-entry.entry.now in
    let is = entry_right m k t cache entry recalls (subst (λ es. IsEntryOf k es cache entry) c.as_slice.ensures c.in_ok-entry.ensures) in
    subst (λ (e : Entry). IsMovedBy m k t e.moved) (sym c.deref.ensures) is.moved
