use Rattle.wm_logfile.proofs.DocumentPlaces.{shape_placed, range_placed, number_placed}
use Rattle.wm_logfile.proofs.law.fault_paths_lead_to_values.Goals as goal

pub returns-clause-shape : goal.returns-clause-shape
returns-clause-shape c = shape_placed

pub returns-clause-range : goal.returns-clause-range
returns-clause-range c = range_placed

pub returns-clause-number : goal.returns-clause-number
returns-clause-number c = number_placed
