use Rattle.std.proofs.Common.{refl}
use Rattle.wm_logfile.proofs.Lists.{data_list-items_of}
use Rattle.wm_logfile.proofs.fields.list_of.Goals as goal

pub returns-in-Some-clause-given : goal.returns-in-Some-clause-given
returns-in-Some-clause-given c =
    let e = c.in-Some.ensures in
    rw (← e, data_list-items_of, c.as_slice.ensures.value) refl
