use Rattle.std.proofs.Common.{◌≡◌, ◌∙◌, ℕ, IfSome, Option, Some, ap, subst, sym}
use Rattle.std.specs.Prelude.{unwrap_or}
use Rattle.std.proofs.lemmas.Option.{IfSome_then}
use Rattle.wm_sites.proofs.FunctionMaps.{map_at, offset_in_map, opcode_in_map}
use Rattle.wm_sites.proofs.code_map.opcode_at.Goals as goal

pub returns-in-Some-Some-clause-some : goal.returns-in-Some-Some-clause-some
returns-in-Some-Some-clause-some c =
    let map = c.in-Some-Some.map in
    let found = c.in-Some-Some.ensures.lookup in
    let at = map_at c.args.functions.now c.args.position.func _ map found.3.0 found.1 c.in-Some-Some.field-0-is in
    subst (λ (o : Option ℕ). IfSome c.opcode.result (λ (x : ℕ × ℕ). o ≡ Some x.0)) (sym (opcode_in_map c.args.functions.now c.args.position map at)) c.opcode.ensures.some

pub returns-in-Some-Some-clause-none : goal.returns-in-Some-Some-clause-none
returns-in-Some-Some-clause-none c none =
    let map = c.in-Some-Some.map in
    let found = c.in-Some-Some.ensures.lookup in
    let at = map_at c.args.functions.now c.args.position.func _ map found.3.0 found.1 c.in-Some-Some.field-0-is in
    opcode_in_map c.args.functions.now c.args.position map at ∙ c.opcode.ensures.none none

pub returns-in-Some-Some-clause-offset : goal.returns-in-Some-Some-clause-offset
returns-in-Some-Some-clause-offset c =
    let map = c.in-Some-Some.map in
    let found = c.in-Some-Some.ensures.lookup in
    let at = map_at c.args.functions.now c.args.position.func _ map found.3.0 found.1 c.in-Some-Some.field-0-is in
    IfSome_then c.opcode.result c.opcode.ensures.offset
    (λ x is. is ∙ ap (λ (o : Option ℕ). unwrap_or o 0) (sym (offset_in_map c.args.functions.now c.args.position map x.0 at)))
