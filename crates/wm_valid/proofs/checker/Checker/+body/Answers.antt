use Rattle.std.proofs.Common.{◌≡◌, ◌+◌, ap, sym, refl, ◌∙◌, ◌∷◌, [], Some, None, take, drop, slice_get, subst, arith}
use Rattle.std.proofs.lemmas.List.{drop_all, take_all}
use Rattle.std.proofs.lemmas.Result.{err_from_is_err_and}
use Rattle.wm_ast.specs.declared.instr.Instr.TheVariants.{Block, Loop, If}
use Rattle.wm_valid.specs.InstrTypes.{Context, Labels, listed}
use Rattle.wm_valid.specs.Typing.{ElsePart}
use Rattle.wm_valid.specs.Stacks.{Stack, empty, give_all}
use Rattle.wm_valid.specs.Implements.{LocatedElse, Reaches, StopsElse}
use Rattle.wm_valid.specs.Locations.{number_of}
use Rattle.wm_valid.proofs.ParamLaws.{unless_then}
use Rattle.wm_valid.proofs.BodyLaws.{given_checked, plain_refused, plain_turned, end_decides, is_plain, block_turned, loop_turned, if_turned, if_first_refused, if_other_refused, starts, SoFar}
use Rattle.wm_valid.proofs.PlaceLaws.{counted_none, counts, counts_block, plain_counted, plain_located, one_part, stops_located, first_located, if_first_located, if_counted, if_else_located}
use Rattle.wm_valid.proofs.StopLaws.{reaches_none, reaches_item, item_stops, end_stops, plain_stops, test_stops, block_stops, loop_stops, if_first_stops, if_else_stops, given_stops}
use Rattle.wm_valid.proofs.LoopLaws.{stepped, counted_item, located_item, counted_whole}
use Rattle.wm_valid.proofs.checker.Checker.+body.Goals as goal

pub block-loop-instr-init : goal.block-loop-instr-init
block-loop-instr-init t c = record {
  so = subst (λ (s : Stack). SoFar c.args.self.now c.args.number c.args.labels.now c.as_slice-instr-items.result.now c.as_slice-instr-items.result.now s) (sym c.new-stack.ensures) (starts c.args.self.now c.args.number c.args.labels.now c.as_slice-instr-items.result.now);
  same = refl;
  counted = counted_none c.args.self.now.blocks c.args.position.now (omega arith);
  reaches = subst (λ (s : Stack). Reaches c.args.self.now c.args.number c.args.labels.now [] s) (sym c.new-stack.ensures) (reaches_none c.args.self.now c.args.number c.args.labels.now);
}

pub block-loop-instr-preserved : goal.block-loop-instr-preserved
block-loop-instr-preserved t c = record {
  so = stepped c.args.self.now c.args.number c.loop-instr.labels c.instr.new.labels c.as_slice-instr-items.result.now c.loop-instr.instr-index c.instr-item.result c.loop-instr.stack c.instr.new.stack c.loop-instr-test.true c.instr-item.is c.in_ok-instr.ensures.same c.loop-instr.invariant.so c.in_ok-instr.ensures.checked;
  same = c.in_ok-instr.ensures.same ∙ c.loop-instr.invariant.same;
  counted = counted_item c.args.self.now.blocks c.as_slice-instr-items.result.now c.loop-instr.instr-index c.instr-item.result c.args.position.now c.loop-instr.position c.instr.new.position c.loop-instr-test.true c.instr-item.is c.loop-instr.invariant.counted c.in_ok-instr.ensures.place;
  reaches = reaches_item c.args.self.now c.args.number c.args.labels.now c.loop-instr.labels c.as_slice-instr-items.result.now c.loop-instr.instr-index c.instr-item.result c.loop-instr.stack c.instr.new.stack c.loop-instr-test.true c.instr-item.is c.loop-instr.invariant.same c.loop-instr.invariant.reaches c.in_ok-instr.ensures.checked;
}

pub block-returns-in_err-instr-clause-place : goal.block-returns-in_err-instr-clause-place
block-returns-in_err-instr-clause-place t c =
    let there : slice_get c.args.self.now.blocks c.args.number ≡ Some c.as_slice-instr-items.result.now =
    ap (λ (C : Context). slice_get C.blocks c.args.number) (sym c.self.view_is) ∙ sym c.in-Some.ensures ∙ ap Some (sym c.as_slice-instr-items.ensures) in
    let p = err_from_is_err_and c.from_residual.result c.from_residual.ensures.1 in
    rw (p.1, p.2) (located_item c.in_err-instr.field-0.0 c.args.self.now c.args.labels.now c.loop-instr.labels c.args.number c.as_slice-instr-items.result.now c.loop-instr.instr-index c.instr-item.result c.args.position.now c.loop-instr.position c.instr.new.position
    c.loop-instr-test.true c.instr-item.is c.loop-instr.invariant.same there c.loop-instr.invariant.counted c.in_err-instr.ensures.place)

pub block-returns-clause-decides : goal.block-returns-clause-decides
block-returns-clause-decides t c =
    let there : slice_get c.args.self.now.blocks c.args.number ≡ Some c.as_slice-instr-items.result.now =
    ap (λ (C : Context). slice_get C.blocks c.args.number) (sym c.self.view_is) ∙ sym c.in-Some.ensures ∙ ap Some (sym c.as_slice-instr-items.ensures) in
    let so = subst (λ (l : Labels). SoFar c.args.self.now c.args.number l c.as_slice-instr-items.result.now (drop c.loop-instr.instr-index c.as_slice-instr-items.result.now) c.loop-instr.stack) c.loop-instr.invariant.same c.loop-instr.invariant.so in
    end_decides c.end.result c.args.self.now c.args.number c.args.labels.now c.as_slice-instr-items.result.now (drop c.loop-instr.instr-index c.as_slice-instr-items.result.now) c.loop-instr.stack c.args.result_type there so
    (drop_all c.loop-instr.instr-index c.as_slice-instr-items.result.now c.loop-instr-test.false) c.end.ensures.maps

pub block-returns-clause-place : goal.block-returns-clause-place
block-returns-clause-place t c =
    let there : slice_get c.args.self.now.blocks c.args.number ≡ Some c.as_slice-instr-items.result.now =
    ap (λ (C : Context). slice_get C.blocks c.args.number) (sym c.self.view_is) ∙ sym c.in-Some.ensures ∙ ap Some (sym c.as_slice-instr-items.ensures) in
    counts_block c.end.result c.args.self.now c.args.labels.now c.args.number c.args.position.now c.loop-instr.position c.end.ensures.kind
    (counted_whole c.args.self.now c.args.number c.as_slice-instr-items.result.now c.loop-instr.instr-index c.args.position.now c.loop-instr.position c.loop-instr-test.false there c.loop-instr.invariant.counted)

pub instr-returns-in_err-nested-in-Block-clause-place : goal.instr-returns-in_err-nested-in-Block-clause-place
instr-returns-in_err-nested-in-Block-clause-place t c =
    let p = err_from_is_err_and c.from_residual.result c.from_residual.ensures.1 in
    rw (p.1, p.2, c.in-Block.is) (first_located c.in_err-nested-in-Block.field-0.0 c.args.self.now c.args.labels.now (Block c.in-Block.t c.in-Block.block) c.in-Block.t c.in-Block.block [] c.args.position.now c.nested.new.position (omega arith) refl ((λ z. z), (λ z. z), (λ z. z), (λ p z. z)) c.in_err-nested-in-Block.ensures.place)

pub instr-returns-in_err-nested-in-Loop-clause-place : goal.instr-returns-in_err-nested-in-Loop-clause-place
instr-returns-in_err-nested-in-Loop-clause-place t c =
    let p = err_from_is_err_and c.from_residual-in_err-nested-in-Loop.result c.from_residual-in_err-nested-in-Loop.ensures.1 in
    rw (p.1, p.2, c.in-Loop.is) (first_located c.in_err-nested-in-Loop.field-0.0 c.args.self.now c.args.labels.now (Loop c.in-Loop.t c.in-Loop.block) None c.in-Loop.block [] c.args.position.now c.nested-in-Loop.new.position (omega arith) refl ((λ z. z), (λ z. z), (λ z. z), (λ p z. z)) c.in_err-nested-in-Loop.ensures.place)

pub instr-returns-in_err-take-in-If-clause-place : goal.instr-returns-in_err-take-in-If-clause-place
instr-returns-in_err-take-in-If-clause-place t c =
    let p = err_from_is_err_and c.from_residual-in_err-take-in-If.result c.from_residual-in_err-take-in-If.ensures.1 in
    rw (p.1, p.2, c.in-If.is) (stops_located c.in_err-take-in-If.field-0.0 c.args.self.now c.args.labels.now (If c.in-If.t c.in-If.first c.in-If.second c.in-If.part) c.args.position.now c.args.position.now (omega arith) ((λ z. z), (λ z. z), (λ z. z), (λ p z. z)) (c.in_err-take-in-If.ensures.kind, refl))

pub instr-returns-in_err-nested-in-If-clause-checked : goal.instr-returns-in_err-nested-in-If-clause-checked
instr-returns-in_err-nested-in-If-clause-checked t c =
    let p = err_from_is_err_and c.from_residual-in_err-nested-in-If.result c.from_residual-in_err-nested-in-If.ensures.1 in
    rw (p.1, p.2, c.in-If.is) (unless_then c.in_err-nested-in-If.field-0.0
    (if_first_refused c.args.self.now c.args.number c.in-If.first c.in-If.second c.in-If.part c.args.labels.now c.in-If.t c.args.stack.now) c.in_err-nested-in-If.ensures.decides)

pub instr-returns-in_err-nested-in-If-clause-place : goal.instr-returns-in_err-nested-in-If-clause-place
instr-returns-in_err-nested-in-If-clause-place t c =
    let p = err_from_is_err_and c.from_residual-in_err-nested-in-If.result c.from_residual-in_err-nested-in-If.ensures.1 in
    rw (p.1, p.2, c.in-If.is) (if_first_located c.in_err-nested-in-If.field-0.0 c.args.self.now c.args.labels.now c.in-If.t c.in-If.first c.in-If.second c.in-If.part c.args.position.now c.nested-in-If.new.position (omega arith) c.in_err-nested-in-If.ensures.place)

pub instr-returns-in_err-else_part-in-If-clause-checked : goal.instr-returns-in_err-else_part-in-If-clause-checked
instr-returns-in_err-else_part-in-If-clause-checked t c =
    let p = err_from_is_err_and c.from_residual-in_err-else_part-in-If.result c.from_residual-in_err-else_part-in-If.ensures.1 in
    let same-labels = c.in_ok-nested-in-If.ensures.same in
    rw (p.1, p.2, c.in-If.is) (unless_then c.in_err-else_part-in-If.field-0.0
    (λ not. if_other_refused c.args.self.now c.args.number c.in-If.first c.in-If.second c.in-If.part c.args.labels.now c.in-If.t c.args.stack.now
    (λ n. not (subst (λ (l : Labels). ElsePart c.args.self.now c.args.number c.in-If.second l c.in-If.t c.in-If.part) (sym same-labels) n)))
    c.in_err-else_part-in-If.ensures.decides)

pub instr-returns-in_err-else_part-in-If-clause-place : goal.instr-returns-in_err-else_part-in-If-clause-place
instr-returns-in_err-else_part-in-If-clause-place t c =
    let p = err_from_is_err_and c.from_residual-in_err-else_part-in-If.result c.from_residual-in_err-else_part-in-If.ensures.1 in
    rw (p.1, p.2, c.in-If.is) (if_else_located c.in_err-else_part-in-If.field-0.0 c.args.self.now c.args.labels.now c.in-If.t c.in-If.first c.in-If.second c.in-If.part c.args.position.now c.nested-in-If.new.position c.else_part.new.position c.in_ok-nested-in-If.ensures.place
    (subst (λ (l : Labels). LocatedElse c.args.self.now l c.in-If.second c.in-If.t c.in-If.part c.nested-in-If.new.position c.else_part.new.position c.in_err-else_part-in-If.field-0.0) c.in_ok-nested-in-If.ensures.same c.in_err-else_part-in-If.ensures.place))

pub instr-returns-in_err-plain-in_default-clause-checked : goal.instr-returns-in_err-plain-in_default-clause-checked
instr-returns-in_err-plain-in_default-clause-checked t c =
    let p = err_from_is_err_and c.from_residual-in_err-plain-in_default.result c.from_residual-in_err-plain-in_default.ensures.1 in
    rw (p.1, p.2) (unless_then c.in_err-plain-in_default.field-0.0
    (plain_refused c.args.self.now c.args.number c.args.labels.now c.args.instr.now c.args.stack.now (is_plain c.args.instr.now c.in_default.not-Block c.in_default.not-Loop c.in_default.not-If)) c.in_err-plain-in_default.ensures.maps)

pub instr-returns-in_err-plain-in_default-clause-place : goal.instr-returns-in_err-plain-in_default-clause-place
instr-returns-in_err-plain-in_default-clause-place t c =
    let p = err_from_is_err_and c.from_residual-in_err-plain-in_default.result c.from_residual-in_err-plain-in_default.ensures.1 in
    rw (p.1, p.2) (plain_located c.in_err-plain-in_default.field-0.0 c.args.self.now c.args.labels.now c.args.instr.now c.args.position.now (omega arith) c.in_err-plain-in_default.ensures.breaks)

pub instr-returns-in_ok-plain-in_default-clause-checked : goal.instr-returns-in_ok-plain-in_default-clause-checked
instr-returns-in_ok-plain-in_default-clause-checked t c =
    plain_turned c.args.self.now c.args.number c.args.labels.now c.args.instr.now c.args.stack.now c.plain.new.stack c.in_ok-plain-in_default.ensures.maps

pub instr-returns-in_ok-plain-in_default-clause-place : goal.instr-returns-in_ok-plain-in_default-clause-place
instr-returns-in_ok-plain-in_default-clause-place t c =
    plain_counted c.args.self.now.blocks c.args.instr.now c.args.position.now c.next_number-in_default.result (is_plain c.args.instr.now c.in_default.not-Block c.in_default.not-Loop c.in_default.not-If) c.next_number-in_default.ensures

pub instr-returns-in_ok-nested-in-Block-clause-checked : goal.instr-returns-in_ok-nested-in-Block-clause-checked
instr-returns-in_ok-nested-in-Block-clause-checked t c =
    rw c.in-Block.is (given_checked c.give.result c.args.self.now c.args.number c.args.labels.now (Block c.in-Block.t c.in-Block.block) c.args.stack.now (give_all (listed c.in-Block.t) c.args.stack.now) c.give.new.self
    (block_turned c.args.self.now c.args.number c.in-Block.block c.args.labels.now c.in-Block.t c.args.stack.now c.give.new.self c.in_ok-nested-in-Block.ensures.decides) c.give.ensures.maps)

pub instr-returns-in_ok-nested-in-Block-clause-place : goal.instr-returns-in_ok-nested-in-Block-clause-place
instr-returns-in_ok-nested-in-Block-clause-place t c =
    rw c.in-Block.is (counts c.give.result c.args.self.now c.args.labels.now (Block c.in-Block.t c.in-Block.block ∷ []) c.args.position.now c.next_number.result c.give.ensures.want
    (one_part c.args.self.now (Block c.in-Block.t c.in-Block.block) c.in-Block.t c.in-Block.block c.args.position.now (number_of (c.args.position.now + 1)) c.nested.new.position c.next_number.result refl refl c.in_ok-nested-in-Block.ensures.place c.next_number.ensures))

pub instr-returns-in_ok-nested-in-Loop-clause-checked : goal.instr-returns-in_ok-nested-in-Loop-clause-checked
instr-returns-in_ok-nested-in-Loop-clause-checked t c =
    rw c.in-Loop.is (given_checked c.give-in-Loop.result c.args.self.now c.args.number c.args.labels.now (Loop c.in-Loop.t c.in-Loop.block) c.args.stack.now (give_all (listed c.in-Loop.t) c.args.stack.now) c.give-in-Loop.new.self
    (loop_turned c.args.self.now c.args.number c.in-Loop.block c.args.labels.now c.in-Loop.t c.args.stack.now c.give-in-Loop.new.self c.in_ok-nested-in-Loop.ensures.decides) c.give-in-Loop.ensures.maps)

pub instr-returns-in_ok-nested-in-Loop-clause-place : goal.instr-returns-in_ok-nested-in-Loop-clause-place
instr-returns-in_ok-nested-in-Loop-clause-place t c =
    rw c.in-Loop.is (counts c.give-in-Loop.result c.args.self.now c.args.labels.now (Loop c.in-Loop.t c.in-Loop.block ∷ []) c.args.position.now c.next_number-in-Loop.result c.give-in-Loop.ensures.want
    (one_part c.args.self.now (Loop c.in-Loop.t c.in-Loop.block) None c.in-Loop.block c.args.position.now (number_of (c.args.position.now + 1)) c.nested-in-Loop.new.position c.next_number-in-Loop.result refl refl c.in_ok-nested-in-Loop.ensures.place c.next_number-in-Loop.ensures))

pub instr-returns-in_ok-else_part-in-If-clause-checked : goal.instr-returns-in_ok-else_part-in-If-clause-checked
instr-returns-in_ok-else_part-in-If-clause-checked t c =
    let second = subst (λ (l : Labels). ElsePart c.args.self.now c.args.number c.in-If.second l c.in-If.t c.in-If.part) c.in_ok-nested-in-If.ensures.same c.in_ok-else_part-in-If.ensures.decides in
    rw c.in-If.is (given_checked c.give-in-If.result c.args.self.now c.args.number c.args.labels.now (If c.in-If.t c.in-If.first c.in-If.second c.in-If.part) c.args.stack.now (give_all (listed c.in-If.t) c.take.new.self) c.give-in-If.new.self
    (if_turned c.args.self.now c.args.number c.in-If.first c.in-If.second c.in-If.part c.args.labels.now c.in-If.t c.args.stack.now c.take.new.self c.give-in-If.new.self c.in_ok-take-in-If.ensures.maps c.in_ok-nested-in-If.ensures.decides second) c.give-in-If.ensures.maps)

pub instr-returns-in_ok-else_part-in-If-clause-place : goal.instr-returns-in_ok-else_part-in-If-clause-place
instr-returns-in_ok-else_part-in-If-clause-place t c =
    rw c.in-If.is (counts c.give-in-If.result c.args.self.now c.args.labels.now (If c.in-If.t c.in-If.first c.in-If.second c.in-If.part ∷ []) c.args.position.now c.next_number-in-If.result c.give-in-If.ensures.want
    (if_counted c.args.self.now c.in-If.t c.in-If.first c.in-If.second c.in-If.part c.args.position.now (number_of (c.args.position.now + 1)) c.nested-in-If.new.position c.else_part.new.position c.next_number-in-If.result
    refl c.in_ok-nested-in-If.ensures.place c.in_ok-else_part-in-If.ensures.place c.next_number-in-If.ensures))

pub block-returns-in_err-instr-clause-stops : goal.block-returns-in_err-instr-clause-stops
block-returns-in_err-instr-clause-stops t c =
    let there : slice_get c.args.self.now.blocks c.args.number ≡ Some c.as_slice-instr-items.result.now =
    ap (λ (C : Context). slice_get C.blocks c.args.number) (sym c.self.view_is) ∙ sym c.in-Some.ensures ∙ ap Some (sym c.as_slice-instr-items.ensures) in
    let p = err_from_is_err_and c.from_residual.result c.from_residual.ensures.1 in
    rw (p.1, p.2) (item_stops c.in_err-instr.field-0.0 c.args.self.now c.args.labels.now c.loop-instr.labels c.args.number c.args.result_type c.as_slice-instr-items.result.now c.loop-instr.instr-index c.instr-item.result c.loop-instr.stack c.args.position.now c.loop-instr.position c.instr.new.position
    c.loop-instr-test.true c.instr-item.is c.loop-instr.invariant.same there c.loop-instr.invariant.reaches c.loop-instr.invariant.counted c.in_err-instr.ensures.stops)

pub block-returns-clause-stops : goal.block-returns-clause-stops
block-returns-clause-stops t c =
    let there : slice_get c.args.self.now.blocks c.args.number ≡ Some c.as_slice-instr-items.result.now =
    ap (λ (C : Context). slice_get C.blocks c.args.number) (sym c.self.view_is) ∙ sym c.in-Some.ensures ∙ ap Some (sym c.as_slice-instr-items.ensures) in
    end_stops c.end.result c.args.self.now c.args.labels.now c.args.number c.args.result_type c.as_slice-instr-items.result.now (take c.loop-instr.instr-index c.as_slice-instr-items.result.now) c.loop-instr.stack empty c.args.position.now c.loop-instr.position there
    (take_all c.loop-instr.instr-index c.as_slice-instr-items.result.now c.loop-instr-test.false) c.loop-instr.invariant.reaches c.loop-instr.invariant.counted c.end.ensures.maps

pub instr-returns-in_err-nested-in-Block-clause-stops : goal.instr-returns-in_err-nested-in-Block-clause-stops
instr-returns-in_err-nested-in-Block-clause-stops t c =
    let p = err_from_is_err_and c.from_residual.result c.from_residual.ensures.1 in
    rw (p.1, p.2, c.in-Block.is) (block_stops c.in_err-nested-in-Block.field-0.0 c.args.self.now c.args.number c.args.labels.now c.in-Block.t c.in-Block.block c.args.stack.now c.args.position.now c.nested.new.position c.in_err-nested-in-Block.ensures.stops)

pub instr-returns-in_err-nested-in-Loop-clause-stops : goal.instr-returns-in_err-nested-in-Loop-clause-stops
instr-returns-in_err-nested-in-Loop-clause-stops t c =
    let p = err_from_is_err_and c.from_residual-in_err-nested-in-Loop.result c.from_residual-in_err-nested-in-Loop.ensures.1 in
    rw (p.1, p.2, c.in-Loop.is) (loop_stops c.in_err-nested-in-Loop.field-0.0 c.args.self.now c.args.number c.args.labels.now c.in-Loop.t c.in-Loop.block c.args.stack.now c.args.position.now c.nested-in-Loop.new.position c.in_err-nested-in-Loop.ensures.stops)

pub instr-returns-in_err-take-in-If-clause-stops : goal.instr-returns-in_err-take-in-If-clause-stops
instr-returns-in_err-take-in-If-clause-stops t c =
    let p = err_from_is_err_and c.from_residual-in_err-take-in-If.result c.from_residual-in_err-take-in-If.ensures.1 in
    rw (p.1, p.2, c.in-If.is) (test_stops c.in_err-take-in-If.field-0.0 c.args.self.now c.args.number c.args.labels.now c.in-If.t c.in-If.first c.in-If.second c.in-If.part c.args.stack.now c.args.position.now c.in_err-take-in-If.ensures.maps)

pub instr-returns-in_err-nested-in-If-clause-stops : goal.instr-returns-in_err-nested-in-If-clause-stops
instr-returns-in_err-nested-in-If-clause-stops t c =
    let p = err_from_is_err_and c.from_residual-in_err-nested-in-If.result c.from_residual-in_err-nested-in-If.ensures.1 in
    rw (p.1, p.2, c.in-If.is) (if_first_stops c.in_err-nested-in-If.field-0.0 c.args.self.now c.args.number c.args.labels.now c.in-If.t c.in-If.first c.in-If.second c.in-If.part c.args.stack.now c.take.new.self c.args.position.now c.nested-in-If.new.position c.in_ok-take-in-If.ensures.maps c.in_err-nested-in-If.ensures.stops)

pub instr-returns-in_err-else_part-in-If-clause-stops : goal.instr-returns-in_err-else_part-in-If-clause-stops
instr-returns-in_err-else_part-in-If-clause-stops t c =
    let p = err_from_is_err_and c.from_residual-in_err-else_part-in-If.result c.from_residual-in_err-else_part-in-If.ensures.1 in
    rw (p.1, p.2, c.in-If.is) (if_else_stops c.in_err-else_part-in-If.field-0.0 c.args.self.now c.args.number c.args.labels.now c.in-If.t c.in-If.first c.in-If.second c.in-If.part c.args.stack.now c.take.new.self c.args.position.now c.nested-in-If.new.position c.else_part.new.position
    c.in_ok-take-in-If.ensures.maps c.in_ok-nested-in-If.ensures.decides c.in_ok-nested-in-If.ensures.place
    (subst (λ (l : Labels). StopsElse c.args.self.now c.args.number c.in-If.second l c.in-If.t c.in-If.part c.nested-in-If.new.position c.else_part.new.position c.in_err-else_part-in-If.field-0.0) c.in_ok-nested-in-If.ensures.same c.in_err-else_part-in-If.ensures.stops))

pub instr-returns-in_err-plain-in_default-clause-stops : goal.instr-returns-in_err-plain-in_default-clause-stops
instr-returns-in_err-plain-in_default-clause-stops t c =
    let p = err_from_is_err_and c.from_residual-in_err-plain-in_default.result c.from_residual-in_err-plain-in_default.ensures.1 in
    let is-plain = is_plain c.args.instr.now c.in_default.not-Block c.in_default.not-Loop c.in_default.not-If in
    rw (p.1, p.2) (plain_stops c.in_err-plain-in_default.field-0.0 c.args.self.now c.args.number c.args.labels.now c.args.instr.now c.args.stack.now c.args.position.now is-plain
    (unless_then c.in_err-plain-in_default.field-0.0 (plain_refused c.args.self.now c.args.number c.args.labels.now c.args.instr.now c.args.stack.now is-plain) c.in_err-plain-in_default.ensures.maps))

pub instr-returns-in_ok-nested-in-Block-clause-stops : goal.instr-returns-in_ok-nested-in-Block-clause-stops
instr-returns-in_ok-nested-in-Block-clause-stops t c =
    given_stops c.give.result c.args.self.now c.args.number c.args.labels.now c.args.instr.now c.args.stack.now c.args.position.now c.next_number.result c.give.ensures.want

pub instr-returns-in_ok-nested-in-Loop-clause-stops : goal.instr-returns-in_ok-nested-in-Loop-clause-stops
instr-returns-in_ok-nested-in-Loop-clause-stops t c =
    given_stops c.give-in-Loop.result c.args.self.now c.args.number c.args.labels.now c.args.instr.now c.args.stack.now c.args.position.now c.next_number-in-Loop.result c.give-in-Loop.ensures.want

pub instr-returns-in_ok-else_part-in-If-clause-stops : goal.instr-returns-in_ok-else_part-in-If-clause-stops
instr-returns-in_ok-else_part-in-If-clause-stops t c =
    given_stops c.give-in-If.result c.args.self.now c.args.number c.args.labels.now c.args.instr.now c.args.stack.now c.args.position.now c.next_number-in-If.result c.give-in-If.ensures.want
