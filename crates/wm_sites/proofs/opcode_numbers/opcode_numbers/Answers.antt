use Rattle.std.proofs.Common.{◌≡◌, ◌∷◌, [], ◌++◌, List, length, refl, sym, ap, ◌∙◌, arith}
use Rattle.std.proofs.lemmas.Option.{slice_get_past, slice_get_read}
use Rattle.std.specs.Prelude.{Some, slice_get}
use Rattle.wm_sites.specs.Numbering.{begin_of}
use Rattle.wm_sites.specs.declared.opcode_numbers.BlockPosition.{BlockPosition}
use Rattle.wm_sites.proofs.AllNumbered.{all_left, below_at_most, below_more, below_none, late_left, missing_left, no_items, none_left, noted_or_left_more}
use Rattle.wm_sites.proofs.Unnumbered.{numbering_begun, numbering_more}
use Rattle.wm_sites.proofs.opcode_numbers.opcode_numbers.Goals as goal

pub loop-number-init : goal.loop-number-init
loop-number-init c =
    let one = ap (λ (xs : List BlockPosition). xs ++ begin_of 0 ∷ []) c.new-open_blocks.ensures.items in
    let stack = c.in_ok-push.ensures.items ∙ one in
    let begun = numbering_begun c.args.blocks.now c.in_ok-numbers.numbers.items c.push.new.self.items c.in_ok-numbers.ensures.none stack in
    record { noted = begun.0; left = begun.1; places = c.in_ok-numbers.ensures.places; below = below_none c.in_ok-numbers.numbers.items c.in_ok-numbers.ensures.none; all = all_left c.args.blocks.now c.in_ok-numbers.numbers.items c.push.new.self.items stack }

pub loop-number-preserved : goal.loop-number-preserved
loop-number-preserved c =
    let here = c.in-Some.here in
    let body = c.in-Some-get.block.now in
    let found = c.in-Some-get.ensures.lookup in
    let is : slice_get c.args.blocks.now here.block ≡ Some body = slice_get_read c.args.blocks.now (length c.args.blocks.now) here.block body refl found.3.0 found.1 in
    let more =
    numbering_more c.args.blocks.now c.loop-number.numbers.items c.note.new.table.items c.loop-number.number c.loop-number.open_blocks.items c.pop.new.self.items c.go_past.new.open_blocks.items here body
    c.loop-number.invariant.noted c.loop-number.invariant.left c.in-Some.ensures.items is c.note.ensures c.in_ok-go_past.ensures
    in
    let before = c.loop-number.invariant in
    record {
      noted = more.0;
      left = more.1;
      places = λ q other at within. c.note.ensures.places q (before.places q other at within);
      below = below_more c.loop-number.numbers.items c.note.new.table.items c.loop-number.number here before.below c.note.ensures;
      all = noted_or_left_more c.args.blocks.now c.loop-number.numbers.items c.note.new.table.items c.loop-number.number c.loop-number.open_blocks.items c.pop.new.self.items c.go_past.new.open_blocks.items here body
          before.all before.places c.in-Some.ensures.items is c.note.ensures c.in_ok-go_past.ensures;
    }

pub returns-in_default : goal.returns-in_default
returns-in_default c = record {
  right = c.loop-number.invariant.noted;
  below = c.loop-number.invariant.below;
  all = none_left c.args.blocks.now c.loop-number.number c.loop-number.numbers.items c.loop-number.open_blocks.items c.loop-number.invariant.all (no_items c.loop-number.open_blocks.items (sym c.loop-number.open_blocks.ok.0 ∙ c.in_default.ensures.cases.0));
}

pub returns-in_default-get : goal.returns-in_default-get
returns-in_default-get c = record {
  right = c.loop-number.invariant.noted;
  below = c.loop-number.invariant.below;
  all = missing_left c.args.blocks.now c.loop-number.number c.loop-number.numbers.items c.loop-number.open_blocks.items c.pop.new.self.items c.in-Some.here c.loop-number.invariant.all c.in-Some.ensures.items (slice_get_past c.args.blocks.now c.in-Some.here.block c.in_default-get.ensures.lookup.3);
}

pub returns : goal.returns
returns c = record {
  right = c.loop-number.invariant.noted;
  below = below_at_most c.loop-number.numbers.items c.loop-number.number 1048576 c.loop-number.invariant.below (omega arith);
  all = late_left c.args.blocks.now c.loop-number.number c.loop-number.numbers.items c.loop-number.open_blocks.items c.loop-number.invariant.all c.loop-number-test.false;
}
