use Rattle.std.proofs.Common.{◌≡◌, ◌+◌, ◌<◌, [], ◌∷◌, ◌++◌, ap, ◌∙◌, arith, get_or, length, length-append, None, reverse, slice_get, Some, subst, sym}
use Rattle.std.proofs.lemmas.Option.{slice_get-get_or, same_Some}
use Rattle.wm_event.specs.declared.event.EventKey.{EventKey}
use Rattle.wm_event.specs.declared.event.EventId.TheVariants.{At}
use Rattle.wm_event.specs.declared.witness.Witness.{Witness}
use Rattle.wm_event.specs.LoggedRun.{execution}
use Rattle.wm_hb.specs.Chain.{IsEdge, Leads}
use Rattle.wm_hb.specs.Table.{IsHop, StandsAt, links_at, links_of}
use Rattle.wm_hb.specs.declared.chain.Link.{Link}
use Rattle.wm_hb.specs.declared.table.Reach.TheVariants.{Never}
use Rattle.wm_hb.specs.declared.table.Row.{Row}
use Rattle.wm_hb.proofs.TableLaws.{previous_inside}
use Rattle.wm_hb.proofs.ChainLaws.{first_at, hop_at, is_first, reached_links, reverse_more}
use Rattle.wm_hb.proofs.chain.links_back.Goals as goal

pub loop-place-smaller : goal.loop-place-smaller
loop-place-smaller c =
    let x = c.args.candidate.now in
    let table = c.args.table.now in
    let place = c.loop-place.place in
    let all = c.requires.all in
    let low = c.loop-place.invariant.inside in
    let inside : place < length x.witness.order = omega (arith, all, low) in
    let key : EventKey = get_or x.witness.order place (record { thread = 0; number = 0 }) in
    let stands : StandsAt x place key = slice_get-get_or x.witness.order place (record { thread = 0; number = 0 }) inside in
    let row : Row = get_or table place (record { reach = Never; earlier = None }) in
    let get : slice_get table place ≡ Some row = slice_get-get_or table place (record { reach = Never; earlier = None }) c.loop-place.invariant.inside in
    let hop : IsHop x table key c.in-By.hop = hop_at x c.requires.table.0 key table place row c.in-By.hop c.requires.table.1 stands get c.in-By.is in
    let here : links_at table place ≡ c.in-By.hop.links = reached_links table place c.in-By.hop.links (row, get, ap links_of c.in-By.is) in
    let there : links_at table c.in-By.hop.previous ≡ hop.fewer = reached_links table c.in-By.hop.previous hop.fewer hop.reached in
    let one = hop.links in
    let less : links_at table c.in-By.hop.previous < links_at table place = omega (arith, here, there, one) in
    less

pub loop-place-preserved : goal.loop-place-preserved
loop-place-preserved c =
    let x = c.args.candidate.now in
    let table = c.args.table.now in
    let place = c.loop-place.place in
    let links = c.loop-place.links.items in
    let all = c.requires.all in
    let low = c.loop-place.invariant.inside in
    let blank : EventKey = record { thread = 0; number = 0 } in
    let inside : place < length x.witness.order = omega (arith, all, low) in
    let same : c.as_slice-order.result.now ≡ x.witness.order = c.as_slice-order.ensures ∙ ap (λ (w : Witness). w.order) c.witness.ensures.value in
    let key : EventKey = get_or c.as_slice-order.result.now place blank in
    let stands : StandsAt x place key = subst (λ o. slice_get x.witness.order place ≡ Some (get_or o place blank)) (sym same) (slice_get-get_or x.witness.order place blank inside) in
    let row : Row = get_or table place (record { reach = Never; earlier = None }) in
    let get : slice_get table place ≡ Some row = slice_get-get_or table place (record { reach = Never; earlier = None }) c.loop-place.invariant.inside in
    let hop : IsHop x table key c.in-By.hop = hop_at x c.requires.table.0 key table place row c.in-By.hop c.requires.table.1 stands get c.in-By.is in
    let here : links_at table place ≡ c.in-By.hop.links = reached_links table place c.in-By.hop.links (row, get, ap links_of c.in-By.is) in
    let there : links_at table c.in-By.hop.previous ≡ hop.fewer = reached_links table c.in-By.hop.previous hop.fewer hop.reached in
    let link : Link = record { kind = c.in-By.hop.kind; event = key } in
    let pushed : c.push.new.self.items ≡ links ++ link ∷ [] = c.in_ok-push.ensures.items in
    let more : length c.push.new.self.items ≡ length links + 1 = ap length pushed ∙ length-append links (link ∷ []) in
    let turned : reverse c.push.new.self.items ≡ link ∷ reverse links = ap reverse pushed ∙ reverse_more links link in
    record {
      inside = previous_inside table c.in-By.hop.previous hop.fewer hop.reached;
      reached = (hop.fewer, hop.reached);
      size = (let one = hop.links in let size = c.loop-place.invariant.size in omega (arith, here, there, one, more, size));
      leads = λ a b d is at_b at_d.
          let from : hop.from ≡ d = same_Some hop.from d (sym hop.stands ∙ at_d) in
          let edge : IsEdge (execution x) c.in-By.hop.kind (At d) key = subst (λ k. IsEdge (execution x) c.in-By.hop.kind (At k) key) from hop.edge in
          let rest : Leads (execution x) (At key) (reverse links) (At b) = c.loop-place.invariant.leads a b key is at_b stands in
          let whole : Leads (execution x) (At d) (link ∷ reverse links) (At b) = (edge, rest) in
          subst (λ ls. Leads (execution x) (At d) ls (At b)) (sym turned) whole;
    }

pub returns : goal.returns
returns c =
    let x = c.args.candidate.now in
    let table = c.args.table.now in
    let place = c.loop-place.place in
    let all = c.requires.all in
    let low = c.loop-place.invariant.inside in
    let blank : EventKey = record { thread = 0; number = 0 } in
    let inside : place < length x.witness.order = omega (arith, all, low) in
    let key : EventKey = get_or x.witness.order place blank in
    let stands : StandsAt x place key = slice_get-get_or x.witness.order place blank inside in
    let r = c.loop-place.invariant.reached in
    let same : get_or table place (record { reach = Never; earlier = None }) ≡ r.1.0 = same_Some (get_or table place (record { reach = Never; earlier = None })) r.1.0 (sym (slice_get-get_or table place (record { reach = Never; earlier = None }) c.loop-place.invariant.inside) ∙ r.1.1) in
    let first = is_first r.1.0.reach r.0 (λ hop e. c.in_default.not-By hop (ap (λ (w : Row). w.reach) same ∙ e)) r.1.2 in
    let none : links_at table place ≡ 0 = reached_links table place r.0 r.1 ∙ first.1 in
    record {
      leads = λ a b is at_b.
          let start : a ≡ key = first_at x a key table place r.1.0 is stands r.1.1 first.0 in
          subst (λ k. Leads (execution x) (At k) (reverse c.loop-place.links.items) (At b)) (sym start) (c.loop-place.invariant.leads a b key is at_b stands);
      size = (let size = c.loop-place.invariant.size in omega (arith, none, size));
    }
