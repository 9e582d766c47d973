use Rattle.wm_litmus.proofs.task.run_task_answer.Goals as goal

pub returns-in-Check : goal.returns-in-Check
returns-in-Check g c = rw c.in-Check.is c.check_answer.ensures

pub returns-in-Complete : goal.returns-in-Complete
returns-in-Complete g c = rw c.in-Complete.is c.completion_answer.ensures

pub returns-in-Verify : goal.returns-in-Verify
returns-in-Verify g c = rw c.in-Verify.is c.verify_answer.ensures

pub returns-in-Races : goal.returns-in-Races
returns-in-Races g c = rw c.in-Races.is c.races_answer.ensures

pub returns-in-Explain : goal.returns-in-Explain
returns-in-Explain g c = rw c.in-Explain.is c.explain_answer.ensures

pub returns-in-Graph : goal.returns-in-Graph
returns-in-Graph g c = rw c.in-Graph.is c.graph_answer.ensures
