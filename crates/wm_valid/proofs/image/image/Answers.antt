use Rattle.std.proofs.Common.{◌≡◌, ℕ, ◌<◌, ◌≤◌, ◌++◌, Bool, true, false, ltb, List, ap, refl, sym, ◌∙◌, take, drop, length, get_or, arith}
use Rattle.std.proofs.lemmas.Bool.{ltb-true, ltb-false}
use Rattle.std.proofs.lemmas.List.{take_all}
use Rattle.wm_ast.specs.declared.module.DataSegment.{DataSegment}
use Rattle.wm_event.specs.Initial.{with_zeros}
use Rattle.wm_event.proofs.ZeroLemmas.{length_with_zeros, item_there, item_behind}
use Rattle.wm_valid.specs.Memory.{covered}
use Rattle.wm_valid.proofs.DataEnds.{nothing_behind}
use Rattle.wm_valid.proofs.Laid.{written, byte_goes}
use Rattle.wm_valid.proofs.image.image.Goals as goal

pub loop-segment-preserved : goal.loop-segment-preserved
loop-segment-preserved c =
    let new-long : length c.lay.new.bytes ≡ c.loop-segment.bytes.len = c.lay.auto.bytes ∙ ap length c.as_mut_slice.ensures.value ∙ sym c.loop-segment.bytes.ok.0 in
    let rest = drop (length c.lay.new.bytes) c.loop-segment.bytes.items in
    let back : take c.loop-segment.bytes.len (c.lay.new.bytes ++ rest) ≡ c.lay.new.bytes = written c.loop-segment.bytes.len c.lay.new.bytes rest (sym new-long) in
    let size-is : length c.lay.new.bytes ≡ c.data_end-end.result = c.lay.auto.bytes ∙ ap length c.as_mut_slice.ensures.value ∙ c.loop-segment.invariant.size in
    record {
      size = ap length back ∙ size-is;
      bytes = λ k h.
          let fits : k < length c.lay.new.bytes = omega (arith, h, size-is) in
          ap (λ (l : List ℕ). get_or l k 0) back
          ∙ byte_goes c.args.segments.now c.loop-segment.segment-index c.segment-item.result c.lay.new.bytes c.as_mut_slice.result.now k c.loop-segment-test.true c.segment-item.is (c.lay.ensures k fits)
          (ap (λ (l : List ℕ). get_or l k 0) c.as_mut_slice.ensures.value ∙ c.loop-segment.invariant.bytes k h);
    }

pub returns-clause-size : goal.returns-clause-size
returns-clause-size c =
    let fits : length c.loop-segment.bytes.items ≤ c.args.size = grind (arith, c.loop-segment.invariant.size, c.data_end-end.ensures.bound) in
    ap length c.with_zeros.ensures ∙ length_with_zeros c.loop-segment.bytes.items c.args.size fits

pub returns-clause-bytes : goal.returns-clause-bytes
returns-clause-bytes c = λ k lt. ap (λ (l : List ℕ). get_or l k 0) c.with_zeros.ensures ∙ go k lt (ltb k c.data_end-end.result) refl
  where
    ended : length c.args.segments.now ≤ c.loop-segment.segment-index
    ended = c.loop-segment-test.false

    all : take c.loop-segment.segment-index c.args.segments.now ≡ c.args.segments.now
    all = take_all c.loop-segment.segment-index c.args.segments.now ended

    size : length c.loop-segment.bytes.items ≡ c.data_end-end.result
    size = c.loop-segment.invariant.size

    go : (k : ℕ) → k < c.args.size → (p : Bool) → ltb k c.data_end-end.result ≡ p → get_or (with_zeros c.loop-segment.bytes.items c.args.size) k 0 ≡ covered c.args.segments.now 0 k
    go k lt true p =
        let before : k < c.data_end-end.result = ltb-true k c.data_end-end.result p in
        item_there c.loop-segment.bytes.items c.args.size k (omega (arith, before, size))
        ∙ c.loop-segment.invariant.bytes k before ∙ ap (λ (l : List DataSegment). covered l 0 k) all
    go k lt false p =
        let behind : c.data_end-end.result ≤ k = ltb-false k c.data_end-end.result p in
        item_behind c.loop-segment.bytes.items c.args.size k (omega (arith, behind, size)) lt
        ∙ sym (nothing_behind c.args.segments.now 0 c.data_end-end.result k c.data_end-end.ensures.within behind)
