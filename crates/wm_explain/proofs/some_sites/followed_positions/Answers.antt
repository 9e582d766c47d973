use Rattle.std.proofs.Common.{subst, sym}
use Rattle.wm_replay.specs.Following.{HasPlaces}
use Rattle.wm_explain.proofs.FirstEvents.{places_taken}
use Rattle.wm_explain.proofs.some_sites.followed_positions.Goals as goal

pub follow-followed-requires : goal.follow-followed-requires
follow-followed-requires c =
    subst (HasPlaces c.args.number) (sym c.in_ok-first.ensures) (places_taken c.args.number c.args.count c.args.stated.now.events c.requires)
