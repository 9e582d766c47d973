use Rattle.wm_logfile.proofs.TakingDocuments.{whole_taken}
use Rattle.wm_logfile.proofs.quick.document.take_whole.Goals as goal

pub returns : goal.returns
returns c =
    whole_taken c.args.reader.now c.open_list.new.reader c.take_format.new.reader c.in_ok-version.version c.take_version.new.reader c.in_ok-log.log c.in_ok-log.witness c.take_pair.new.reader c.close_list.new.reader
    c.in_ok-open_list.ensures c.in_ok-take_format.ensures c.in_ok-version.ensures c.in_ok-log.ensures c.in_ok-close_list.ensures
