use Rattle.std.proofs.Common.{◌≡◌, ◌<◌, arith, get_or, length, string_bytes, sym, ◌∙◌}
use Rattle.std.proofs.lemmas.Option.{get_or_from_slice_get, slice_get-get_or}
use Rattle.wm_races.specs.declared.site.Site.{Site}
use Rattle.wm_litmus.specs.Trace.{lines_text}
use Rattle.wm_litmus.proofs.TraceTexts.{all_lines, line_added}
use Rattle.wm_litmus.proofs.trace.turn_lines.Goals as goal

abbrev default : Site
default = record { function = 0; instruction = 0; offset = 0 }

pub loop-number-preserved : goal.loop-number-preserved
loop-number-preserved c =
    let run = c.args.run.now in
    let entries = c.args.entries.now in
    let sites = c.args.sites.now in
    let n = c.loop-number.number in
    let below : n < length sites = omega (arith, c.loop-number-test.true, c.requires) in
    let site : Site = get_or sites n default in
    let read : site ≡ get_or sites n site = sym (get_or_from_slice_get sites n site site (slice_get-get_or sites n default below)) in
    line_added run entries sites n c.index-entries-number.result site (string_bytes c.loop-number.text) c.as_str.result.now (string_bytes c.push_str.new.self)
    (lines_text run entries sites) c.loop-number-test.true c.requires c.index-entries-number.is read (c.as_str.ensures.value ∙ c.in_ok-row.ensures) c.in_ok-push_str.ensures.bytes c.loop-number.invariant

pub returns : goal.returns
returns c = all_lines c.args.run.now c.args.entries.now c.args.sites.now c.loop-number.number (string_bytes c.loop-number.text) c.loop-number-test.false c.loop-number.invariant
