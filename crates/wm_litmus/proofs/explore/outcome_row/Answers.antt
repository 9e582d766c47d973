use Rattle.std.proofs.Common.{◌∙◌, ap}
use Rattle.wm_litmus.specs.Outcomes.{outcome_text}
use Rattle.wm_litmus.proofs.explore.outcome_row.Goals as goal

pub returns : goal.returns
returns c = record {
  outcome_is = c.in_ok-outcome.ensures ∙ ap outcome_text c.threads.ensures.value;
  document_is = c.in_ok-document.ensures.text;
}
