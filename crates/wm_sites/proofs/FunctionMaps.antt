-- The functions of a module that were read.
use Rattle.std.proofs.Common.{◌≡◌, ℕ, ◌<◌, ◌≤◌, List, length, get_or, Option, Some, None, IfSome, inl, inr, refl, sym, ap, subst, ◌∙◌, slice_get, arith}
use Rattle.std.specs.Option.{option_flatten}
use Rattle.std.specs.Prelude.{option_and_then, unwrap_or}
use Rattle.std.proofs.lemmas.Option.{none-some, same_Some, slice_get_read, slice_get_within}
use Rattle.wm_ast.specs.declared.module.Func.{Func}
use Rattle.wm_ast.specs.declared.module.Module.{Module}
use Rattle.wm_machine.specs.declared.thread.CodePosition.{CodePosition}
use Rattle.wm_sites.specs.declared.code_map.FunctionMap.{FunctionMap}
use Rattle.wm_races.specs.declared.site.Site.{Site}
use Rattle.wm_sites.specs.declared.opcode_numbers.BlockPosition.{BlockPosition}
use Rattle.wm_sites.specs.Numbering.{IsNumbered, number_at}
use Rattle.wm_sites.specs.Sites.{AreFunctionMaps, Code, IsFunctionMap, IsNoOpcode, IsRead, IsSiteOf, PutsMap, in_32_bits, in_function, offset_in, opcode_in}

-- a function that was read now
pub read_now : (m : Module) (maps now : List (Option FunctionMap)) (f : ℕ) (read : Option FunctionMap) → length maps ≡ length m.funcs → (f < length maps → slice_get now f ≡ Some read)
    → (read ≡ None → slice_get m.funcs f ≡ None) → IsRead m now f
read_now m maps now f None count puts none func is = absurd (none-some func (sym (none refl) ∙ is))
read_now m maps now f (Some map) count puts none func is =
    let within = slice_get_within m.funcs f func is in
    let lt : f < length maps = omega (arith, within, count) in (map, puts lt)

-- one that was read before
pub read_before : (m : Module) (maps : List (Option FunctionMap)) (f : ℕ) (map : FunctionMap) → slice_get maps f ≡ Some (Some map) → IsRead m maps f
read_before m maps f map at func is = (map, at)

-- one that the module doesn't have
pub no_function : (m : Module) (maps : List (Option FunctionMap)) (f : ℕ) → length maps ≡ length m.funcs → length maps ≤ f → IsRead m maps f
no_function m maps f count past func is =
    let within = slice_get_within m.funcs f func is in absurd (omega (arith, within, count, past))

-- a position without a number in a function that was read is not that of an opcode
pub no_opcode : (c : Code) (maps : List (Option FunctionMap)) (p : CodePosition) → AreFunctionMaps c maps → IsRead c.module maps p.func → opcode_in maps p ≡ None → IsNoOpcode c.module p
no_opcode c maps p are read none n opcode below =
    let found = read opcode.func opcode.is_func in
    let map = found.0 in
    let of_map = are.each p.func map found.1 in
    let numbered : IsNumbered of_map.func.blocks (in_function p) n = subst (λ (f : Func). IsNumbered f.blocks (in_function p) n) (same_Some opcode.func of_map.func (sym opcode.is_func ∙ of_map.is_func)) opcode.numbered in
    let noted = of_map.numbers.all (in_function p) n numbered below in
    none-some noted.0 (sym none ∙ ap (λ (o : Option (Option FunctionMap)). option_and_then (λ (x : FunctionMap). number_at x.numbers (in_function p)) (option_flatten o)) found.1 ∙ noted.1)

-- the map of the position's function, if the position has a number
map_in : (o : Option (Option FunctionMap)) (q : BlockPosition) (n : ℕ) → option_and_then (λ (map : FunctionMap). number_at map.numbers q) (option_flatten o) ≡ Some n
    → (map : FunctionMap) × (o ≡ Some (Some map)) × (number_at map.numbers q ≡ Some n)
map_in None q n is = absurd (none-some n is)
map_in (Some None) q n is = absurd (none-some n is)
map_in (Some (Some map)) q n is = (map, refl, is)

-- the site of a position with a number and an offset
pub found_site : (c : Code) (maps : List (Option FunctionMap)) (p : CodePosition) (n offset : ℕ) (site : Site) → AreFunctionMaps c maps → opcode_in maps p ≡ Some n → offset ≡ unwrap_or (offset_in maps p n) 0
    → site.function ≡ in_32_bits p.func → site.instruction ≡ in_32_bits n → site.offset ≡ in_32_bits offset → IsSiteOf c p site
found_site c maps p n offset site are is place function instruction made =
    let found = map_in (slice_get maps p.func) (in_function p) n is in
    let map = found.0 in
    let of_map = are.each p.func map found.1 in
    record {
      number = n;
      opcode = record { func = of_map.func; is_func = of_map.is_func; numbered = of_map.numbers.right (in_function p) n found.2 };
      function = function;
      instruction = instruction;
      offset = λ at begins.
          let here : slice_get map.offsets.items n ≡ Some at = of_map.offsets n at begins (of_map.numbers.below (in_function p) n found.2) in
          let in_maps : offset_in maps p n ≡ Some at =
          ap (λ (o : Option (Option FunctionMap)). option_and_then (λ (x : FunctionMap). slice_get x.offsets.items n) (option_flatten o)) found.1 ∙ here in
          made ∙ ap in_32_bits (place ∙ ap (λ (o : Option ℕ). unwrap_or o 0) in_maps);
    }

-- none was read
pub unread_maps : (c : Code) (maps : List (Option FunctionMap)) → length maps ≡ length c.module.funcs → ((f : ℕ) (map : FunctionMap) → slice_get maps f ≡ Some (Some map) → ⊥) → AreFunctionMaps c maps
unread_maps c maps count none = record { count = count; each = λ f map at. absurd (none f map at) }

-- a function's map that was put down
pub put_maps : (c : Code) (old new : List (Option FunctionMap)) (f : ℕ) (read : Option FunctionMap) → AreFunctionMaps c old → PutsMap old new f read → IfSome read (IsFunctionMap c f) → AreFunctionMaps c new
put_maps c old new f read are puts is = record {
  count = puts.count ∙ are.count;
  each = λ g map at. elim (puts.from g (Some map) at) [
    | inl before ↦ are.each g map before
    | inr now ↦ subst (λ (h : ℕ). IsFunctionMap c h map) (sym now.0) (subst (λ (o : Option FunctionMap). IfSome o (IsFunctionMap c f)) (sym now.1) is)
  ];
}

-- a position in a function that was read
pub map_at : (maps : List (Option FunctionMap)) (f : ℕ) (place : Option FunctionMap) (map : FunctionMap) → f < length maps → place ≡ get_or maps f place → place ≡ Some map → slice_get maps f ≡ Some (Some map)
map_at maps f place map within found is = slice_get_read maps (length maps) f place refl within found ∙ ap Some is

pub opcode_in_map : (maps : List (Option FunctionMap)) (p : CodePosition) (map : FunctionMap) → slice_get maps p.func ≡ Some (Some map) → opcode_in maps p ≡ number_at map.numbers (in_function p)
opcode_in_map maps p map at = ap (λ (o : Option (Option FunctionMap)). option_and_then (λ (x : FunctionMap). number_at x.numbers (in_function p)) (option_flatten o)) at

pub offset_in_map : (maps : List (Option FunctionMap)) (p : CodePosition) (map : FunctionMap) (n : ℕ) → slice_get maps p.func ≡ Some (Some map) → offset_in maps p n ≡ slice_get map.offsets.items n
offset_in_map maps p map n at = ap (λ (o : Option (Option FunctionMap)). option_and_then (λ (x : FunctionMap). slice_get x.offsets.items n) (option_flatten o)) at
