use Rattle.std.proofs.Common.{◌≡◌, length}
use Rattle.wm_sites.specs.Sites.{AreSitesOf}
use Rattle.wm_sites.proofs.sites.position_sites.Given as goal

-- the first positions have their sites
abbrev pub invariant-loop-position : goal.invariant-loop-position
invariant-loop-position l = record { count : length l.sites ≡ l.position-index; sites : AreSitesOf l.map l.positions l.sites; same : l.map ≡ l.initial.map }
