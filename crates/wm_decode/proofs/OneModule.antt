-- A text spells at most one module.
use Rattle.std.proofs.Common.{◌≡◌, ℕ, ◌-◌, ◌+◌, ◌≤◌, List, [], ◌∷◌, length, Option, Some, None, refl, sym, subst, ◌∙◌, arith}
use Rattle.wm_ast.specs.declared.types.FuncType.{FuncType}
use Rattle.wm_ast.specs.declared.instr.Instr.{Instr}
use Rattle.wm_ast.specs.declared.module.Func.{Func}
use Rattle.wm_ast.specs.declared.module.Memory.{Memory}
use Rattle.wm_ast.specs.declared.module.Module.{Module}
use Rattle.wm_decode.specs.Bounds.{Bounds}
use Rattle.wm_decode.specs.Instructions.{Spells, none, plain, block, loop, if_then, if_else}
use Rattle.wm_decode.specs.Parts.{FunctionBody, Functions, no_function, function}
use Rattle.wm_decode.specs.Module.{params_of, LocalsWithin, SpellsModule, Within, spells}
use Rattle.wm_decode.proofs.Steps.{ok_is}
use Rattle.wm_decode.proofs.SectionLaws.{section_map}
use Rattle.wm_decode.proofs.Spelled.{module_again}

-- a greater depth
more_room : {depth_left next : ℕ} {text : List ℕ} {is : List Instr} {bs : List (List Instr)} → Spells depth_left next text is bs → (k : ℕ) → depth_left ≤ k → Spells k next text is bs
more_room none k le = none
more_room (plain p d) k le = plain p (more_room d k le)
more_room (block {depth_left = depth_left} h d e) k le = block (omega arith) (more_room d (k - 1) (omega arith)) (more_room e k le)
more_room (loop {depth_left = depth_left} h d e) k le = loop (omega arith) (more_room d (k - 1) (omega arith)) (more_room e k le)
more_room (if_then {depth_left = depth_left} h d e) k le = if_then (omega arith) (more_room d (k - 1) (omega arith)) (more_room e k le)
more_room (if_else {depth_left = depth_left} h d g e) k le = if_else (omega arith) (more_room d (k - 1) (omega arith)) (more_room g (k - 1) (omega arith)) (more_room e k le)

body_room : (depth_left k index : ℕ) (text : List ℕ) (f : Func) → depth_left ≤ k → FunctionBody depth_left index text f → FunctionBody k index text f
body_room depth_left k index text f le b = record {
  entries = b.entries;
  first = b.first;
  second = b.second;
  third = b.third;
  body = b.body;
  nested = b.nested;
  parts = b.parts;
  counted = b.counted;
  declared = b.declared;
  spelled = more_room b.spelled k le;
  blocks = b.blocks;
  typed = b.typed;
}

functions_room : {depth_left : ℕ} {indices text : List ℕ} {fs : List Func} (k : ℕ) → depth_left ≤ k → Functions depth_left indices text fs → Functions k indices text fs
functions_room k le no_function = no_function
functions_room {depth_left = depth_left} k le (function {index = index} {f = f} s more) =
    function (record { size = s.size; content = s.content; parts = s.parts; counted = s.counted; spelled = body_room depth_left k index s.content f le s.spelled }) (functions_room k le more)

module_room : (depth_left k : ℕ) (text : List ℕ) (m : Module) → depth_left ≤ k → SpellsModule depth_left text m → SpellsModule k text m
module_room depth_left k text m le s = record {
  custom_text = s.custom_text;
  type_text = s.type_text;
  import_text = s.import_text;
  function_text = s.function_text;
  table_text = s.table_text;
  memory_text = s.memory_text;
  global_text = s.global_text;
  export_text = s.export_text;
  element_text = s.element_text;
  count_text = s.count_text;
  code_text = s.code_text;
  data_text = s.data_text;
  types = s.types;
  imported = s.imported;
  indices = s.indices;
  tables = s.tables;
  defined = s.defined;
  globals = s.globals;
  exports = s.exports;
  elements = s.elements;
  count = s.count;
  funcs = s.funcs;
  segments = s.segments;
  parts = s.parts;
  customs = s.customs;
  type_section = s.type_section;
  import_section = s.import_section;
  function_section = s.function_section;
  table_section = s.table_section;
  memory_section = s.memory_section;
  global_section = s.global_section;
  export_section = s.export_section;
  element_section = s.element_section;
  count_section = s.count_section;
  data_section = s.data_section;
  one_memory = s.one_memory;
  functions_agree = s.functions_agree;
  segments_agree = s.segments_agree;
  module_is = s.module_is;
  code_section = section_map s.code_section (λ t o e v. record { count = v.count; items = v.items; parts = v.parts; counted = v.counted; each = functions_room k le v.each });
}

-- bounds that a module keeps
unfoldable pub pages_in : Option Memory → ℕ
pages_in None = 0
pages_in (Some m) = m.limits.minimum

pub pages_kept : (o : Option Memory) (n : ℕ) → pages_in o ≤ n → (x : Memory) → o ≡ Some x → x.limits.minimum ≤ n
unfolding pages_in
pages_kept None n le x e = absurd cc
pages_kept (Some m) n le x e = let same : m ≡ x = cc in subst (λ (y : Memory). y.limits.minimum ≤ n) same le

pub locals_in : List FuncType → List Func → ℕ
locals_in types [] = 0
locals_in types (f ∷ fs) = (params_of types f.type_index + length f.locals) + locals_in types fs

pub locals_kept : (bounds : Bounds) (types : List FuncType) (fs : List Func) → locals_in types fs ≤ bounds.locals → LocalsWithin bounds types fs
unfolding locals_in
locals_kept bounds types [] le = tt
locals_kept bounds types (f ∷ fs) le = (omega arith, locals_kept bounds types fs (omega arith))

enough : ℕ → Module → Module → Bounds
enough depth_left m n = record {
  pages = pages_in m.memory + pages_in n.memory;
  functions = length m.funcs + length n.funcs;
  locals = locals_in m.types m.funcs + locals_in n.types n.funcs;
  nesting = depth_left;
}

first_kept : (depth_left : ℕ) (m n : Module) → Within (enough depth_left m n) m
unfolding enough
first_kept depth_left m n = record {
  pages = pages_kept m.memory (pages_in m.memory + pages_in n.memory) (omega arith);
  functions = omega arith;
  locals = locals_kept (enough depth_left m n) m.types m.funcs (omega arith);
}

second_kept : (depth_left : ℕ) (m n : Module) → Within (enough depth_left m n) n
unfolding enough
second_kept depth_left m n = record {
  pages = pages_kept n.memory (pages_in m.memory + pages_in n.memory) (omega arith);
  functions = omega arith;
  locals = locals_kept (enough depth_left m n) n.types n.funcs (omega arith);
}

nesting_is : (depth_left : ℕ) (m n : Module) → (enough depth_left m n).nesting ≡ depth_left
unfolding enough
nesting_is depth_left m n = refl

pub one_module : (bytes : List ℕ) (m n : Module) → spells bytes m → spells bytes n → m ≡ n
one_module bytes m n s t =
    let depth_left = s.0 + t.0 in
    let is = sym (nesting_is depth_left m n) in
    let one = subst (λ (k : ℕ). SpellsModule k bytes m) is (module_room s.0 depth_left bytes m (omega arith) s.1) in
    let two = subst (λ (k : ℕ). SpellsModule k bytes n) is (module_room t.0 depth_left bytes n (omega arith) t.1) in
    ok_is m n (sym (module_again (enough depth_left m n) bytes m one (first_kept depth_left m n)) ∙ module_again (enough depth_left m n) bytes n two (second_kept depth_left m n))
