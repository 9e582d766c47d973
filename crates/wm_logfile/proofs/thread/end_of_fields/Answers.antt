use Rattle.std.proofs.Common.{arith}
use Rattle.std.proofs.lemmas.Grind.{common_steps}
use Rattle.serde_json.specs.Find.{as_str}
use Rattle.serde_json.specs.View.{view}
use Rattle.wm_logfile.specs.Grammar.{result}
use Rattle.wm_logfile.specs.Reading.{end_from}
use Rattle.wm_logfile.proofs.EndWords.{IsOther, other_text, no_text, one_is_no_end, fault_of_one, two_are_no_end, fault_of_two}
use Rattle.wm_logfile.proofs.thread.end_of_fields.Goals.{in_default-as_str-via-in-Some+in_default-as_str, in_default-as_str-via-in_default, in_default-as_str-2-via-in-Some+in_default-as_str-2, in_default-as_str-2-via-in_default}
use Rattle.wm_logfile.proofs.thread.end_of_fields.Goals as goal

other_in_one : (c : goal.After-child) → IsOther (as_str (view c.word-item.result))
other_in_one c = elim c.in_default-as_str.branch [
  | in_default-as_str-via-in-Some+in_default-as_str w ↦ let at = w.in_default-as_str in
      other_text c.as_str.result at.field-0 (view c.word-item.result) c.as_str.ensures at.is (λ same. at.not-done (cc same)) (λ same. at.not-trap (cc same)) (λ same. at.not-cut (cc same))
  | in_default-as_str-via-in_default w ↦ no_text c.as_str.result (view c.word-item.result) c.as_str.ensures w.in_default-as_str.is
]

pub returns-in_default-as_str-clause-given : goal.returns-in_default-as_str-clause-given
returns-in_default-as_str-clause-given c = one_is_no_end c.args.fields.now c.word-item.result (grind arith) c.word-item.is (other_in_one c)

pub returns-in_default-as_str-clause-fault : goal.returns-in_default-as_str-clause-fault
returns-in_default-as_str-clause-fault c = rw c.child.ensures.is (fault_of_one c.args.fields.now c.word-item.result c.args.path.now (grind arith) c.word-item.is (other_in_one c))

other_in_two : (c : goal.After-child-in_default-as_str-2) → IsOther (as_str (view c.word-item-then-fields-lt3.result))
other_in_two c = elim c.in_default-as_str-2.branch [
  | in_default-as_str-2-via-in-Some+in_default-as_str-2 w ↦ let at = w.in_default-as_str-2 in
      other_text c.as_str-in-len2.result at.field-0 (view c.word-item-then-fields-lt3.result) c.as_str-in-len2.ensures at.is (λ same. at.not-done (cc same)) (λ same. at.not-trap (cc same)) (λ same. at.not-cut (cc same))
  | in_default-as_str-2-via-in_default w ↦ no_text c.as_str-in-len2.result (view c.word-item-then-fields-lt3.result) c.as_str-in-len2.ensures w.in_default-as_str-2.is
]

pub returns-in_default-as_str-2-clause-given : goal.returns-in_default-as_str-2-clause-given
returns-in_default-as_str-2-clause-given c =
    two_are_no_end c.args.fields.now c.word-item-then-fields-lt3.result (grind arith) c.word-item-then-fields-lt3.is (other_in_two c)

pub returns-in_default-as_str-2-clause-fault : goal.returns-in_default-as_str-2-clause-fault
returns-in_default-as_str-2-clause-fault c =
    rw c.child-in_default-as_str-2.ensures.is (fault_of_two c.args.fields.now c.word-item-then-fields-lt3.result c.args.path.now (grind arith) c.word-item-then-fields-lt3.is (other_in_two c))

pub returns-in_err-values-in-Some-done-as_str-clause-given : goal.returns-in_err-values-in-Some-done-as_str-clause-given
unfolding end_from result
returns-in_err-values-in-Some-done-as_str-clause-given c = grind (arith, common_steps)

pub returns-in_err-values-in-Some-done-as_str-clause-fault : goal.returns-in_err-values-in-Some-done-as_str-clause-fault
unfolding end_from result
returns-in_err-values-in-Some-done-as_str-clause-fault c = grind (arith, common_steps)

pub returns-in_err-value-in-Some-done-as_str-clause-given : goal.returns-in_err-value-in-Some-done-as_str-clause-given
unfolding end_from result
returns-in_err-value-in-Some-done-as_str-clause-given c = grind (arith, common_steps)

pub returns-in_err-value-in-Some-done-as_str-clause-fault : goal.returns-in_err-value-in-Some-done-as_str-clause-fault
unfolding end_from result
returns-in_err-value-in-Some-done-as_str-clause-fault c = grind (arith, common_steps)

pub returns-in_err-kind-in-Some-trap-clause-given : goal.returns-in_err-kind-in-Some-trap-clause-given
unfolding end_from result
returns-in_err-kind-in-Some-trap-clause-given c = grind (arith, common_steps)

pub returns-in_err-kind-in-Some-trap-clause-fault : goal.returns-in_err-kind-in-Some-trap-clause-fault
unfolding end_from result
returns-in_err-kind-in-Some-trap-clause-fault c = grind (arith, common_steps)

pub returns-in-Some-cut-clause-given : goal.returns-in-Some-cut-clause-given
unfolding end_from result
returns-in-Some-cut-clause-given c = grind (arith, common_steps)

pub returns-in-Some-cut-clause-fault : goal.returns-in-Some-cut-clause-fault
unfolding end_from result
returns-in-Some-cut-clause-fault c = grind (arith, common_steps)

pub returns-in-Some-done-clause-given : goal.returns-in-Some-done-clause-given
unfolding end_from result
returns-in-Some-done-clause-given c = grind (arith, common_steps)

pub returns-in-Some-done-clause-fault : goal.returns-in-Some-done-clause-fault
unfolding end_from result
returns-in-Some-done-clause-fault c = grind (arith, common_steps)

pub returns-in_ok-value-in-Some-done-as_str-clause-given : goal.returns-in_ok-value-in-Some-done-as_str-clause-given
unfolding end_from result
returns-in_ok-value-in-Some-done-as_str-clause-given c = grind (arith, common_steps)

pub returns-in_ok-value-in-Some-done-as_str-clause-fault : goal.returns-in_ok-value-in-Some-done-as_str-clause-fault
unfolding end_from result
returns-in_ok-value-in-Some-done-as_str-clause-fault c = grind (arith, common_steps)

pub returns-in_ok-kind-in-Some-trap-clause-given : goal.returns-in_ok-kind-in-Some-trap-clause-given
unfolding end_from result
returns-in_ok-kind-in-Some-trap-clause-given c = grind (arith, common_steps)

pub returns-in_ok-kind-in-Some-trap-clause-fault : goal.returns-in_ok-kind-in-Some-trap-clause-fault
unfolding end_from result
returns-in_ok-kind-in-Some-trap-clause-fault c = grind (arith, common_steps)

pub returns-in-Some-cut-as_str-clause-given : goal.returns-in-Some-cut-as_str-clause-given
unfolding end_from result
returns-in-Some-cut-as_str-clause-given c = grind (arith, common_steps)

pub returns-in-Some-cut-as_str-clause-fault : goal.returns-in-Some-cut-as_str-clause-fault
unfolding end_from result
returns-in-Some-cut-as_str-clause-fault c = grind (arith, common_steps)

pub returns-in_default-clause-given : goal.returns-in_default-clause-given
unfolding end_from result
returns-in_default-clause-given c = grind (arith, common_steps)

pub returns-in_default-clause-fault : goal.returns-in_default-clause-fault
unfolding end_from result
returns-in_default-clause-fault c = grind (arith, common_steps)
