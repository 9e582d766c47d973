use Rattle.std.proofs.Common.{◌≡◌, true, Some, refl, ap, ◌∙◌}
use Rattle.wm_event.specs.declared.op.OpFields.{OpFields}
use Rattle.wm_event.specs.Op.{kind_finds}
use Rattle.wm_explore.specs.Turns.{WaitsFor}
use Rattle.wm_explore.proofs.Items.{all_below, item_at, one_more}
use Rattle.wm_replay.specs.declared.continuing.Next.TheVariants.{Access}
use Rattle.wm_explore.proofs.turn.first_read.Goals as goal

pub loop-number-preserved : goal.loop-number-preserved
loop-number-preserved c =
    let n = c.loop-number.number in
    let next = c.index-nexts-number.result in
    let is = item_at c.args.nexts.now c.args.nexts.now n next refl c.loop-number-test.true c.index-nexts-number.is in record {
      waits = λ i op lt at reads.
          one_more (λ j x. (o : OpFields) → x ≡ Access o → kind_finds o.kind ≡ true → WaitsFor c.args.state.now j o) c.args.nexts.now n next is
          (λ o access finds. c.read_of.ensures.none c.in-None.is o access finds)
          (λ j x below at_x o access finds. c.loop-number.invariant.waits j o below (at_x ∙ ap Some access) finds) i (Access op) lt at op refl reads;
    }

pub returns : goal.returns
returns c k op at reads =
    all_below (λ j x. (o : OpFields) → x ≡ Access o → kind_finds o.kind ≡ true → WaitsFor c.args.state.now j o) c.args.nexts.now c.loop-number.number c.loop-number-test.false
    (λ j x below at_x o access finds. c.loop-number.invariant.waits j o below (at_x ∙ ap Some access) finds) k (Access op) at op refl reads
