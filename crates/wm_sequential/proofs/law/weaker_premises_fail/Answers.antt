use Rattle.wm_sequential.proofs.ReceptiveFail.{any-value-fails, kinds-fail}
use Rattle.wm_sequential.proofs.WeakerFail.{any-order-fails, plain-races-fail, races-at-once-fail, standard-executions-fail, standard-races-fail, two-cases-fail}
use Rattle.wm_sequential.proofs.law.weaker_premises_fail.Goals as goal

pub returns-clause-plain_races : goal.returns-clause-plain_races
returns-clause-plain_races c = plain-races-fail

pub returns-clause-standard_races : goal.returns-clause-standard_races
returns-clause-standard_races c = standard-races-fail

pub returns-clause-two_cases : goal.returns-clause-two_cases
returns-clause-two_cases c = two-cases-fail

pub returns-clause-any_order : goal.returns-clause-any_order
returns-clause-any_order c = any-order-fails

pub returns-clause-standard_executions : goal.returns-clause-standard_executions
returns-clause-standard_executions c = standard-executions-fail

pub returns-clause-at_once : goal.returns-clause-at_once
returns-clause-at_once c = races-at-once-fail

pub returns-clause-any_value : goal.returns-clause-any_value
returns-clause-any_value c = any-value-fails

pub returns-clause-kinds : goal.returns-clause-kinds
returns-clause-kinds c = kinds-fail
