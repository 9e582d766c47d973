use Rattle.std.proofs.Common.{refl}
use Rattle.wm_ast.specs.declared.instr.Instr.TheVariants.{Binary, Compare, Eqz, I32Const, LocalGet, LocalSet, LocalTee}
use Rattle.wm_machine.proofs.AtOnce.{effect_asks, effect_steps}
use Rattle.wm_machine.proofs.Leading.{effect_moves}
use Rattle.wm_machine.proofs.perform.follow.Goals as goal

pub returns-in-LocalGet-clause-stepped : goal.returns-in-LocalGet-clause-stepped
returns-in-LocalGet-clause-stepped c =
    let stands = rw c.in-LocalGet.is at c.requires.stands in
    effect_steps c.args.code.now.module (LocalGet c.in-LocalGet.index) c.args.given c.args.globals.now c.args.running.now c.get_local.new.running c.get_local.result stands c.get_local.ensures

pub returns-in-LocalGet-clause-asks : goal.returns-in-LocalGet-clause-asks
returns-in-LocalGet-clause-asks c =
    let stands = rw c.in-LocalGet.is at c.requires.stands in
    effect_asks c.args.code.now.module (LocalGet c.in-LocalGet.index) c.args.given c.args.globals.now c.args.running.now c.get_local.new.running c.get_local.result stands refl c.get_local.ensures

pub returns-in-LocalSet-clause-stepped : goal.returns-in-LocalSet-clause-stepped
returns-in-LocalSet-clause-stepped c =
    let stands = rw c.in-LocalSet.is at c.requires.stands in
    effect_steps c.args.code.now.module (LocalSet c.in-LocalSet.index) c.args.given c.args.globals.now c.args.running.now c.set_local.new.running c.set_local.result stands c.set_local.ensures

pub returns-in-LocalSet-clause-asks : goal.returns-in-LocalSet-clause-asks
returns-in-LocalSet-clause-asks c =
    let stands = rw c.in-LocalSet.is at c.requires.stands in
    effect_asks c.args.code.now.module (LocalSet c.in-LocalSet.index) c.args.given c.args.globals.now c.args.running.now c.set_local.new.running c.set_local.result stands refl c.set_local.ensures

pub returns-in-LocalTee-clause-stepped : goal.returns-in-LocalTee-clause-stepped
returns-in-LocalTee-clause-stepped c =
    let stands = rw c.in-LocalTee.is at c.requires.stands in
    effect_steps c.args.code.now.module (LocalTee c.in-LocalTee.index) c.args.given c.args.globals.now c.args.running.now c.tee_local.new.running c.tee_local.result stands c.tee_local.ensures

pub returns-in-LocalTee-clause-asks : goal.returns-in-LocalTee-clause-asks
returns-in-LocalTee-clause-asks c =
    let stands = rw c.in-LocalTee.is at c.requires.stands in
    effect_asks c.args.code.now.module (LocalTee c.in-LocalTee.index) c.args.given c.args.globals.now c.args.running.now c.tee_local.new.running c.tee_local.result stands refl c.tee_local.ensures

pub returns-in-I32Const-clause-stepped : goal.returns-in-I32Const-clause-stepped
returns-in-I32Const-clause-stepped c =
    let stands = rw c.in-I32Const.is at c.requires.stands in
    effect_steps c.args.code.now.module (I32Const c.in-I32Const.number) c.args.given c.args.globals.now c.args.running.now c.push_i32.new.running c.push_i32.result stands c.push_i32.ensures

pub returns-in-I32Const-clause-asks : goal.returns-in-I32Const-clause-asks
returns-in-I32Const-clause-asks c =
    let stands = rw c.in-I32Const.is at c.requires.stands in
    effect_asks c.args.code.now.module (I32Const c.in-I32Const.number) c.args.given c.args.globals.now c.args.running.now c.push_i32.new.running c.push_i32.result stands refl c.push_i32.ensures

pub returns-in-Eqz-clause-stepped : goal.returns-in-Eqz-clause-stepped
returns-in-Eqz-clause-stepped c =
    let stands = rw c.in-Eqz.is at c.requires.stands in
    effect_steps c.args.code.now.module (Eqz c.in-Eqz.width) c.args.given c.args.globals.now c.args.running.now c.test_zero.new.running c.test_zero.result stands c.test_zero.ensures

pub returns-in-Eqz-clause-asks : goal.returns-in-Eqz-clause-asks
returns-in-Eqz-clause-asks c =
    let stands = rw c.in-Eqz.is at c.requires.stands in
    effect_asks c.args.code.now.module (Eqz c.in-Eqz.width) c.args.given c.args.globals.now c.args.running.now c.test_zero.new.running c.test_zero.result stands refl c.test_zero.ensures

pub returns-in-Compare-clause-stepped : goal.returns-in-Compare-clause-stepped
returns-in-Compare-clause-stepped c =
    let stands = rw c.in-Compare.is at c.requires.stands in
    effect_steps c.args.code.now.module (Compare c.in-Compare.op c.in-Compare.width) c.args.given c.args.globals.now c.args.running.now c.compare_operands.new.running c.compare_operands.result stands c.compare_operands.ensures

pub returns-in-Compare-clause-asks : goal.returns-in-Compare-clause-asks
returns-in-Compare-clause-asks c =
    let stands = rw c.in-Compare.is at c.requires.stands in
    effect_asks c.args.code.now.module (Compare c.in-Compare.op c.in-Compare.width) c.args.given c.args.globals.now c.args.running.now c.compare_operands.new.running c.compare_operands.result stands refl c.compare_operands.ensures

pub returns-in-Binary-clause-stepped : goal.returns-in-Binary-clause-stepped
returns-in-Binary-clause-stepped c =
    let stands = rw c.in-Binary.is at c.requires.stands in
    effect_steps c.args.code.now.module (Binary c.in-Binary.op c.in-Binary.width) c.args.given c.args.globals.now c.args.running.now c.calculate.new.running c.calculate.result stands c.calculate.ensures

pub returns-in-Binary-clause-asks : goal.returns-in-Binary-clause-asks
returns-in-Binary-clause-asks c =
    let stands = rw c.in-Binary.is at c.requires.stands in
    effect_asks c.args.code.now.module (Binary c.in-Binary.op c.in-Binary.width) c.args.given c.args.globals.now c.args.running.now c.calculate.new.running c.calculate.result stands refl c.calculate.ensures

pub returns-in-Br-clause-stepped : goal.returns-in-Br-clause-stepped
returns-in-Br-clause-stepped c = c.branch_by.ensures.stepped c.args.given c.args.globals.now

pub returns-in-Br-clause-asks : goal.returns-in-Br-clause-asks
returns-in-Br-clause-asks c = c.branch_by.ensures.asks c.args.given c.args.globals.now

pub returns-in-LocalGet-clause-moves : goal.returns-in-LocalGet-clause-moves
returns-in-LocalGet-clause-moves c =
    let stands = rw c.in-LocalGet.is at c.requires.stands in
    effect_moves c.args.code.now.module (LocalGet c.in-LocalGet.index) c.args.running.now c.get_local.new.running c.get_local.result (λ _ _ _ _ _ _. refl) stands c.get_local.ensures

pub returns-in-LocalSet-clause-moves : goal.returns-in-LocalSet-clause-moves
returns-in-LocalSet-clause-moves c =
    let stands = rw c.in-LocalSet.is at c.requires.stands in
    effect_moves c.args.code.now.module (LocalSet c.in-LocalSet.index) c.args.running.now c.set_local.new.running c.set_local.result (λ _ _ _ _ _ _. refl) stands c.set_local.ensures

pub returns-in-LocalTee-clause-moves : goal.returns-in-LocalTee-clause-moves
returns-in-LocalTee-clause-moves c =
    let stands = rw c.in-LocalTee.is at c.requires.stands in
    effect_moves c.args.code.now.module (LocalTee c.in-LocalTee.index) c.args.running.now c.tee_local.new.running c.tee_local.result (λ _ _ _ _ _ _. refl) stands c.tee_local.ensures

pub returns-in-I32Const-clause-moves : goal.returns-in-I32Const-clause-moves
returns-in-I32Const-clause-moves c =
    let stands = rw c.in-I32Const.is at c.requires.stands in
    effect_moves c.args.code.now.module (I32Const c.in-I32Const.number) c.args.running.now c.push_i32.new.running c.push_i32.result (λ _ _ _ _ _ _. refl) stands c.push_i32.ensures

pub returns-in-Eqz-clause-moves : goal.returns-in-Eqz-clause-moves
returns-in-Eqz-clause-moves c =
    let stands = rw c.in-Eqz.is at c.requires.stands in
    effect_moves c.args.code.now.module (Eqz c.in-Eqz.width) c.args.running.now c.test_zero.new.running c.test_zero.result (λ _ _ _ _ _ _. refl) stands c.test_zero.ensures

pub returns-in-Compare-clause-moves : goal.returns-in-Compare-clause-moves
returns-in-Compare-clause-moves c =
    let stands = rw c.in-Compare.is at c.requires.stands in
    effect_moves c.args.code.now.module (Compare c.in-Compare.op c.in-Compare.width) c.args.running.now c.compare_operands.new.running c.compare_operands.result (λ _ _ _ _ _ _. refl) stands c.compare_operands.ensures

pub returns-in-Binary-clause-moves : goal.returns-in-Binary-clause-moves
returns-in-Binary-clause-moves c =
    let stands = rw c.in-Binary.is at c.requires.stands in
    effect_moves c.args.code.now.module (Binary c.in-Binary.op c.in-Binary.width) c.args.running.now c.calculate.new.running c.calculate.result (λ _ _ _ _ _ _. refl) stands c.calculate.ensures
