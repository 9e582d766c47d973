use Rattle.wm_litmus.proofs.Telling.{front_of_either}
use Rattle.wm_litmus.proofs.program.tell.Goals as goal

pub returns : goal.returns
returns g c =
    front_of_either (g.E.Write.contents c.args.err.now) (g.E.Write.contents c.write_text.new.out) c.args.text.now c.write_text.result
    c.write_text.ensures.written c.write_text.ensures.stopped
