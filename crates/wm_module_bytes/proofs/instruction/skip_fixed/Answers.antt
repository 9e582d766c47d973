use Rattle.std.proofs.Common.{◌++◌, refl, sym, subst, List, ℕ, length}
use Rattle.wm_module_bytes.specs.Reading.{Moves}
use Rattle.wm_module_bytes.proofs.Steps.{always, moves_both, next_front, next_parts, next_past}
use Rattle.wm_module_bytes.proofs.instruction.skip_fixed.Goals as goal

pub returns-in_err-skip_numbers : goal.returns-in_err-skip_numbers
returns-in_err-skip_numbers c text next has =
    let start = c.args.reader.now in
    absurd (always (c.skip_numbers.ensures has.numbers (next_front start has.numbers has.bytes (next_parts start text (has.numbers ++ has.bytes) has.parts next)) has.are_numbers) c.in_err-skip_numbers.was)

pub returns : goal.returns
returns c text next has =
    let start = c.args.reader.now in
    let both = next_parts start text (has.numbers ++ has.bytes) has.parts next in
    let first = c.skip_numbers.ensures has.numbers (next_front start has.numbers has.bytes both) has.are_numbers in
    let second = c.skip.ensures.moves has.bytes (next_past start c.skip_numbers.new.self has.numbers has.bytes both first.moves) has.count in
    let moves = moves_both start c.skip_numbers.new.self c.skip.new.self has.numbers has.bytes first.moves (subst (Moves c.skip_numbers.new.self c.skip.new.self) (sym has.count) second) in
    record { gives = refl; moves = subst (λ (t : List ℕ). Moves start c.skip.new.self (length t)) (sym has.parts) moves }
