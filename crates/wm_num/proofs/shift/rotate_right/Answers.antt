use Rattle.std.proofs.Common.{◌∙◌, ap}
use Rattle.wm_num.specs.Binary.{rotated_right}
use Rattle.wm_num.proofs.Rotation.{rotated_right_is}
use Rattle.wm_num.proofs.shift.rotate_right.Goals as goal

pub returns-in-W32-clause-value : goal.returns-in-W32-clause-value
returns-in-W32-clause-value c =
    let operand = rw c.in-W32.is at c.requires in
    let places = rw c.in-W32.is at c.places-places.ensures.value in
    let within = rw c.in-W32.is at c.places-places.ensures.bound in
    rw c.in-W32.is
    (c.from.ensures ∙ c.rotate_right.ensures
    ∙ rotated_right_is 32 c.args.operand c.places-places.result operand within
    ∙ ap (rotated_right 32 c.args.operand) places)

pub returns-in-W64-clause-value : goal.returns-in-W64-clause-value
returns-in-W64-clause-value c =
    let operand = rw c.in-W64.is at c.requires in
    let places = rw c.in-W64.is at c.places-places.ensures.value in
    let within = rw c.in-W64.is at c.places-places.ensures.bound in
    rw c.in-W64.is
    (c.rotate_right-in-W64.ensures
    ∙ rotated_right_is 64 c.args.operand c.places-places.result operand within
    ∙ ap (rotated_right 64 c.args.operand) places)
