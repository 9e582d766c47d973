use Rattle.wm_valid.specs.Blame.{HasType}
use Rattle.wm_valid.proofs.SectionFacts.{item_good, item_there}
use Rattle.wm_valid.proofs.FuncLaws.{func_breaks}
use Rattle.wm_valid.proofs.valid.funcs.Goals as goal

pub func-requires : goal.func-requires
func-requires c = item_good (HasType c.args.module.now) c.args.module.now.funcs c.as_slice-one-items.result.now c.loop-number.number c.one-item.result c.as_slice-one-items.ensures c.loop-number-test.true c.one-item.is c.requires

pub returns-in-Err-clause-bad : goal.returns-in-Err-clause-bad
returns-in-Err-clause-bad c =
    func_breaks c.in-Err.fault c.args.module.now c.one-item.result c.loop-number.number
    (item_there c.args.module.now.funcs c.as_slice-one-items.result.now c.loop-number.number c.one-item.result c.as_slice-one-items.ensures c.loop-number-test.true c.one-item.is) c.in-Err.ensures
