use Rattle.wm_sites.proofs.MadeAtOpcodes.{sites_made}
use Rattle.wm_sites.proofs.law.made_events_have_sites.Goals as goal

pub returns : goal.returns
returns c = sites_made
