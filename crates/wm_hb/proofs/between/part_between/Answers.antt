use Rattle.std.proofs.Common.{◌≡◌, ◌∙◌, List, ap, sym, take, subst, ltb, not, true, false, drop}
use Rattle.std.specs.List.Sorted.{IsNonDecreasingBy, IsPartitionPoint}
use Rattle.wm_event.specs.declared.writes.ByteWrite.{ByteWrite}
use Rattle.wm_event.proofs.WritesLemmas.{block_between, whole_rest}
use Rattle.std.specs.List.{filter}
use Rattle.wm_hb.specs.Between.{stands_between}
use Rattle.wm_hb.proofs.BetweenLemmas.{rises_places, rises_drop}
use Rattle.wm_hb.proofs.between.part_between.Goals as goal

pub count_below-skipped-requires : goal.count_below-skipped-requires
count_below-skipped-requires c = rises_places c.args.writes.now c.requires

pub count_below-count-requires : goal.count_below-count-requires
count_below-count-requires c =
    subst (λ (xs : List ByteWrite). IsNonDecreasingBy (λ (b : ByteWrite). b.place) xs) (sym (whole_rest c.args.writes.now c.count_below-skipped.result))
    (rises_drop c.args.writes.now c.count_below-skipped.result (rises_places c.args.writes.now c.requires))

pub returns : goal.returns
returns c =
    let parted = subst (λ (xs : List ByteWrite). IsPartitionPoint (λ (b : ByteWrite). ltb b.place c.args.end ≡ true) (λ (b : ByteWrite). ltb b.place c.args.end ≡ false) xs c.count_below-count.result)
    (whole_rest c.args.writes.now c.count_below-skipped.result) c.count_below-count.ensures.parted in
    let first = c.count_below-skipped.ensures.parted in
    let part : take c.count_below-count.result (drop c.count_below-skipped.result c.args.writes.now) ≡ filter (stands_between c.args.start c.args.end) c.args.writes.now = (block_between (λ (b : ByteWrite). not (ltb b.place c.args.start)) (λ (b : ByteWrite). ltb b.place c.args.end) c.args.writes.now c.count_below-skipped.result c.count_below-count.result
    (λ k d l h. ap not (first.0 k d l h)) (λ k d l h. ap not (first.1 k d l h)) parted.0 parted.1) in
    ap (take c.count_below-count.result) (whole_rest c.args.writes.now c.count_below-skipped.result) ∙ part
