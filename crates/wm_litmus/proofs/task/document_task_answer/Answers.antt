use Rattle.wm_litmus.proofs.task.document_task_answer.Goals as goal

pub returns-in-Rules : goal.returns-in-Rules
returns-in-Rules g c = rw c.in-Rules.is c.rules_answer.ensures

pub returns-in-Migrate : goal.returns-in-Migrate
returns-in-Migrate g c = rw c.in-Migrate.is c.migrate_answer.ensures

pub returns-in-Races : goal.returns-in-Races
returns-in-Races g c = rw c.in-Races.is c.event_races_answer.ensures

pub returns-in-Explain : goal.returns-in-Explain
returns-in-Explain g c = rw c.in-Explain.is c.explain_events_answer.ensures

pub returns-in-Graph : goal.returns-in-Graph
returns-in-Graph g c = rw c.in-Graph.is c.graph_events_answer.ensures
