use Rattle.std.proofs.Common.{◌≡◌, Some, length, refl, slice_get, arith, rules}
use Rattle.std.proofs.lemmas.Option.{slice_get_read, slice_get_within}
use Rattle.wm_sites.proofs.Noting.{none_more, places_more}
use Rattle.wm_sites.proofs.opcode_numbers.no_numbers.Goals as goal

pub loop-block-preserved : goal.loop-block-preserved
loop-block-preserved c =
    let blocks = c.args.blocks.now in
    let n = c.loop-block.block-index in
    let table = c.loop-block.table.items in
    let row = c.in_ok-places_of.field-0 in
    let before = c.loop-block.invariant in
    let is : slice_get blocks n ≡ Some c.block-item.result = slice_get_read blocks (length blocks) n c.block-item.result refl c.loop-block-test.true c.block-item.is in
    record {
      none = none_more table c.push.new.self.items row before.none c.in_ok-push.ensures.items c.in_ok-places_of.ensures.none;
      count = search rules;
      places = places_more blocks table c.push.new.self.items n c.block-item.result row before.count before.places is c.in_ok-push.ensures.items c.in_ok-places_of.ensures.room;
    }

pub returns-clause-places : goal.returns-clause-places
returns-clause-places c q body is within =
    c.loop-block.invariant.places q body is (omega (arith, slice_get_within c.args.blocks.now q.block body is, c.loop-block-test.false)) within
