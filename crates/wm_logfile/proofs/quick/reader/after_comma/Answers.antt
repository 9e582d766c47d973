use Rattle.std.proofs.Common.{◌-◌, length, take, drop, refl}
use Rattle.wm_logfile.proofs.Bytes.{comma_left, cut}
use Rattle.wm_logfile.proofs.quick.reader.after_comma.Goals as goal

pub returns-then-begins_with : goal.returns-then-begins_with
returns-then-begins_with c =
    let at = c.after_blanks-rest.result.now in
    comma_left c.args.text.now at (take (length at - 1) (drop 1 at)) c.after_blanks-rest.ensures (cut at 44 (c.if-begins_with.ensures.first refl))
