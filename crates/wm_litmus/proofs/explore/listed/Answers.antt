use Rattle.std.proofs.Common.{◌++◌, ◌∙◌, ap, ap₂, subst, string_bytes, sym}
use Rattle.std.specs.List.{flat_map}
use Rattle.wm_litmus.specs.Explore.{AreRows, document_line, listing_text, outcome_line}
use Rattle.wm_litmus.proofs.explore.listed.Goals.{in-Documents+in_ok-text-in-Documents, in-Outcomes+in_ok-text-in-Outcomes+in_ok-last-in-Outcomes+in_ok-push_str-in-Outcomes}
use Rattle.wm_litmus.proofs.explore.listed.Goals as goal

pub returns : goal.returns
returns c =
    let e = c.args.exploration.now in
    let rows = c.in_ok-rows.rows.items in
    record {
      rows = rows;
      are_rows = subst (λ finished. AreRows finished rows) c.as_slice.ensures c.in_ok-rows.ensures;
      status_is = c.exit_status-status.ensures;
      text_is = elim c.match-listing.branch [
        | in-Documents+in_ok-text-in-Documents w ↦
            ap (λ text. string_bytes text) w.text-is ∙ w.in_ok-text-in-Documents.ensures ∙ ap (flat_map document_line) w.as_slice-in-Documents.ensures.value
            ∙ sym (ap (λ listing. listing_text listing e c.args.coverage rows) w.in-Documents.is)
        | in-Outcomes+in_ok-text-in-Outcomes+in_ok-last-in-Outcomes+in_ok-push_str-in-Outcomes w ↦
            ap (λ text. string_bytes text) w.text-is ∙ w.in_ok-push_str-in-Outcomes.ensures.bytes
            ∙ ap₂ (λ a b. a ++ b) (w.in_ok-text-in-Outcomes.ensures ∙ ap (flat_map outcome_line) w.as_slice-in-Outcomes.ensures.value) (w.as_str.ensures.value ∙ w.in_ok-last-in-Outcomes.ensures)
            ∙ sym (ap (λ listing. listing_text listing e c.args.coverage rows) w.in-Outcomes.is)
      ];
    }
