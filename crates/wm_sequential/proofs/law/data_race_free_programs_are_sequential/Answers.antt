use Rattle.wm_sequential.proofs.ModuleProgramsLaw.{data-race-free-programs-are-sequential}
use Rattle.wm_sequential.proofs.law.data_race_free_programs_are_sequential.Goals as goal

pub returns : goal.returns
returns c = data-race-free-programs-are-sequential
