use Rattle.std.proofs.Common.{◌≡◌, sym, subst, ◌∙◌, rules}
use Rattle.std.proofs.lemmas.Option.{same_Some}
use Rattle.wm_explore.specs.declared.cache.Entry.{Entry}
use Rattle.wm_explore.proofs.Moving.{same_moved}
use Rattle.wm_explore.proofs.Recalling.{IsRight, replaced}
use Rattle.wm_explore.proofs.cache.Cache.keep.Goals as goal

pub returns-in-Some : goal.returns-in-Some
returns-in-Some c m starts recalls started moves run =
    replaced m starts c.args.self.now.entries.items c.place_of.result c.in_ok-entry.entry recalls (subst (IsRight m starts) (sym c.in_ok-entry.ensures.ok) right)
  where
    kept : Entry
    kept = record { events = c.from_vec.result; moved = c.args.moved.now; followed = c.args.followed }

    copied : c.from_vec.result ≡ c.args.stated.now.events
    copied = search rules

    right : IsRight m starts kept
    right t start events =
        let same : c.args.stated.now.start ≡ t.start = same_Some c.args.stated.now.start t.start (sym started ∙ start) in
        let all : c.args.stated.now.events ≡ t.events = sym (events ∙ copied) in record {
          moved = same_moved m c.args.moved.now.number c.args.stated.now t (sym same) (sym all) c.args.moved.now moves;
          run = (c.args.stated.now, same, all, run);
        }
