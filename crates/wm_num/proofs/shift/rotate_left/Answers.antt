use Rattle.std.proofs.Common.{◌∙◌, ap}
use Rattle.wm_num.specs.Binary.{rotated_left}
use Rattle.wm_num.proofs.Rotation.{rotated_left_is}
use Rattle.wm_num.proofs.shift.rotate_left.Goals as goal

pub returns-in-W32-clause-value : goal.returns-in-W32-clause-value
returns-in-W32-clause-value c =
    let operand = rw c.in-W32.is at c.requires in
    let places = rw c.in-W32.is at c.places-places.ensures.value in
    let within = rw c.in-W32.is at c.places-places.ensures.bound in
    rw c.in-W32.is
    (c.from.ensures ∙ c.rotate_left.ensures
    ∙ rotated_left_is 32 c.args.operand c.places-places.result operand within
    ∙ ap (rotated_left 32 c.args.operand) places)

pub returns-in-W64-clause-value : goal.returns-in-W64-clause-value
returns-in-W64-clause-value c =
    let operand = rw c.in-W64.is at c.requires in
    let places = rw c.in-W64.is at c.places-places.ensures.value in
    let within = rw c.in-W64.is at c.places-places.ensures.bound in
    rw c.in-W64.is
    (c.rotate_left-in-W64.ensures
    ∙ rotated_left_is 64 c.args.operand c.places-places.result operand within
    ∙ ap (rotated_left 64 c.args.operand) places)
