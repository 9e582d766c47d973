use Rattle.std.proofs.Common.{◌≡◌, ◌+◌, ◌<◌, ◌≤◌, ap, ◌∙◌, arith, length, reverse, slice_get, Some, subst, sym}
use Rattle.std.proofs.lemmas.List.{length-reverse}
use Rattle.std.proofs.lemmas.Option.{slice_get-get_or, slice_get_within}
use Rattle.wm_event.specs.declared.event.EventId.TheVariants.{At}
use Rattle.wm_event.specs.LoggedRun.{execution}
use Rattle.wm_hb.specs.Chain.{Leads}
use Rattle.wm_hb.specs.Table.{IsHop, IsTable, StandsAt, links_at, links_of}
use Rattle.wm_hb.proofs.ChainLaws.{absent, hop_at, none_shorter, reached_links, unreached}
use Rattle.wm_hb.proofs.chain.chain_between.Goals as goal

pub returns-in_default : goal.returns-in_default
returns-in_default c = absent c.args.candidate.now (At c.args.from) c.args.to c.in_default.ensures.there

pub index-requires : goal.index-requires
index-requires c =
    let inside = slice_get_within c.args.candidate.now.witness.order c.in-Some.end c.args.to c.in-Some.ensures.listed in
    let all = c.in_ok-table.ensures.all in
    let whole = c.in_ok-table.table.ok.0 in
    omega (arith, inside, all, whole)

pub returns-in-Never : goal.returns-in-Never
returns-in-Never c =
    let x = c.args.candidate.now in
    let inside = slice_get_within x.witness.order c.in-Some.end c.args.to c.in-Some.ensures.listed in
    let all = c.in_ok-table.ensures.all in
    let l : c.in-Some.end < length c.in_ok-table.table.items = omega (arith, inside, all) in
    let get : slice_get c.in_ok-table.table.items c.in-Some.end ≡ Some c.index.result.now = slice_get-get_or c.in_ok-table.table.items c.in-Some.end c.index.result.now l ∙ ap Some (sym c.index.ensures) in
    unreached x c.args.from c.args.to c.in_ok-table.table.items c.in-Some.end c.index.result.now c.requires c.in_ok-table.ensures.table c.in-Some.ensures.listed get c.in-Never.is

pub links_back-requires-clause-table : goal.links_back-requires-clause-table
links_back-requires-clause-table c = (c.args.from, subst (IsTable c.args.candidate.now c.args.from) (sym c.as_slice.ensures.value) c.in_ok-table.ensures.table)

pub links_back-requires-clause-reached : goal.links_back-requires-clause-reached
links_back-requires-clause-reached c =
    let x = c.args.candidate.now in
    let inside = slice_get_within x.witness.order c.in-Some.end c.args.to c.in-Some.ensures.listed in
    let all = c.in_ok-table.ensures.all in
    let l : c.in-Some.end < length c.in_ok-table.table.items = omega (arith, inside, all) in
    let get : slice_get c.in_ok-table.table.items c.in-Some.end ≡ Some c.index.result.now = slice_get-get_or c.in_ok-table.table.items c.in-Some.end c.index.result.now l ∙ ap Some (sym c.index.ensures) in
    (c.in-By.field-0.links, (c.index.result.now, subst (λ t. slice_get t c.in-Some.end ≡ Some c.index.result.now) (sym c.as_slice.ensures.value) get, ap links_of c.in-By.is))

pub returns : goal.returns
returns c =
    let x = c.args.candidate.now in
    let rows = c.in_ok-table.table.items in
    let inside = slice_get_within x.witness.order c.in-Some.end c.args.to c.in-Some.ensures.listed in
    let all = c.in_ok-table.ensures.all in
    let l : c.in-Some.end < length rows = omega (arith, inside, all) in
    let get : slice_get rows c.in-Some.end ≡ Some c.index.result.now = slice_get-get_or rows c.in-Some.end c.index.result.now l ∙ ap Some (sym c.index.ensures) in
    let listed : StandsAt x c.in-Some.end c.args.to = c.in-Some.ensures.listed in
    let value = c.as_slice.ensures.value in
    let table : IsTable x c.args.from c.as_slice.result.now = subst (IsTable x c.args.from) (sym value) c.in_ok-table.ensures.table in
    let back : Leads (execution x) (At c.args.from) (reverse c.in_ok-links-in-By.links.items) (At c.args.to) = c.in_ok-links-in-By.ensures.leads c.args.from c.args.to table listed in
    let turned : c.from_vec.result ≡ reverse c.in_ok-links-in-By.links.items = c.from_vec.ensures ∙ c.reverse.ensures.items in
    let hop : IsHop x rows c.args.to c.in-By.field-0 = hop_at x c.args.from c.args.to rows c.in-Some.end c.index.result.now c.in-By.field-0 c.in_ok-table.ensures.table listed get c.in-By.is in
    let count : links_at rows c.in-Some.end ≡ c.in-By.field-0.links = reached_links rows c.in-Some.end c.in-By.field-0.links (c.index.result.now, get, ap links_of c.in-By.is) in
    let size : length c.from_vec.result ≡ c.in-By.field-0.links =
    ap length turned ∙ length-reverse c.in_ok-links-in-By.links.items ∙ c.in_ok-links-in-By.ensures.size ∙ ap (λ t. links_at t c.in-Some.end) value ∙ count in
    record {
      leads = subst (λ ls. Leads (execution x) (At c.args.from) ls (At c.args.to)) (sym turned) back;
      some = (let one = hop.links in omega (arith, one, size));
      shortest = λ between h.
          let least : c.in-By.field-0.links ≤ length between + 1 = none_shorter x c.args.from c.args.to rows c.in-Some.end c.index.result.now c.in-By.field-0 c.in_ok-table.ensures.table listed get c.in-By.is between h in
          omega (arith, least, size);
    }
