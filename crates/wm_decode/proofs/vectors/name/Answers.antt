use Rattle.wm_decode.proofs.Names.{name_found, name_bad}
use Rattle.wm_decode.proofs.vectors.name.Goals as goal

pub returns-in-Ok-from_utf8 : goal.returns-in-Ok-from_utf8
returns-in-Ok-from_utf8 c =
    rw c.in-Ok-from_utf8.ensures.cases.0
    (name_found c.args.bytes.now c.in-Ok.found.0.now c.in-Ok.found.1.now c.in-Ok.ensures c.in-Ok-from_utf8.ensures.cases.1)

pub returns-in-Err-from_utf8 : goal.returns-in-Err-from_utf8
returns-in-Err-from_utf8 c = name_bad c.args.bytes.now c.in-Ok.found.0.now c.in-Ok.found.1.now c.in-Ok.ensures c.in-Err-from_utf8.ensures.cases.0
