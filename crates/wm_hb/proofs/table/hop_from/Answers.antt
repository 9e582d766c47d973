use Rattle.std.proofs.Common.{◌≤◌, None, arith, refl}
use Rattle.wm_hb.specs.declared.table.Reach.TheVariants.{Never, First, By}
use Rattle.wm_hb.proofs.TableLaws.{reached_at, bounds_at}
use Rattle.wm_hb.proofs.table.hop_from.Goals as goal

pub overflow_add-result : goal.overflow_add-result
overflow_add-result c =
    let range = c.ranges.previous in
    let small : c.in-By.hop.links ≤ c.args.previous = c.requires.small c.args.previous c.in-By.hop.links
    (reached_at c.args.table.now c.args.previous (record { reach = Never; earlier = None }) (By c.in-By.hop) c.requires.there c.in-By.is c.in-By.hop.links refl) in
    omega (arith, small)

pub returns-in-Never-clause-least : goal.returns-in-Never-clause-least
returns-in-Never-clause-least c x a p is at links leads =
    bounds_at x c.args.table.now a p c.args.previous (record { reach = Never; earlier = None }) Never c.requires.there c.in-Never.is is at links leads

pub returns-in-First-clause-hop : goal.returns-in-First-clause-hop
returns-in-First-clause-hop c x p b at edge = record {
  from = p;
  fewer = 0;
  stands = at;
  edge = edge;
  reached = reached_at c.args.table.now c.args.previous (record { reach = Never; earlier = None }) First c.requires.there c.in-First.is 0 refl;
  links = refl;
}

pub returns-in-By-clause-hop : goal.returns-in-By-clause-hop
returns-in-By-clause-hop c x p b at edge = record {
  from = p;
  fewer = c.in-By.hop.links;
  stands = at;
  edge = edge;
  reached = reached_at c.args.table.now c.args.previous (record { reach = Never; earlier = None }) (By c.in-By.hop) c.requires.there c.in-By.is c.in-By.hop.links refl;
  links = refl;
}

pub returns-in-By-clause-least : goal.returns-in-By-clause-least
returns-in-By-clause-least c x a p is at links leads =
    let l = bounds_at x c.args.table.now a p c.args.previous (record { reach = Never; earlier = None }) (By c.in-By.hop) c.requires.there c.in-By.is is at links leads in omega (arith, l)
