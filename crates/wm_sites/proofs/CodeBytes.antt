-- The bytes of a module, taken apart down to the opcodes of a function.
use Rattle.std.proofs.Common.{◌≡◌, ◌≢◌, ℕ, zero, suc, ◌+◌, ◌<◌, List, [], ◌∷◌, ◌++◌, length, Option, Some, refl, sym, ap, subst, ◌∙◌, slice_get, append_assoc, arith}
use Rattle.std.proofs.lemmas.Option.{none-some, same_Some}
use Rattle.wm_ast.specs.declared.instr.Instr.{Instr}
use Rattle.wm_ast.specs.declared.module.Func.{Func}
use Rattle.wm_ast.specs.declared.module.Module.{Module}
use Rattle.wm_decode.specs.Instructions.{Spells}
use Rattle.wm_decode.specs.Module.{Customs, no_custom, custom, Section, absent, present, SpellsModule, header, items_of}
use Rattle.wm_decode.specs.Numbers.{U32}
use Rattle.wm_decode.specs.Parts.{FunctionBody, Functions, no_function, function, FunctionVector}
use Rattle.wm_sites.specs.Offsets.{SizedItems, no_item, item, OtherSections, no_section, section, HasCode, HasBody}

-- ---- the sections before the code section

sections_append : {first other : List ℕ} → OtherSections first → OtherSections other → OtherSections (first ++ other)
sections_append no_section more = more
sections_append {other = other} (section {id = id} {size = size} {rest = rest} content differs sized others) more =
    subst OtherSections (regrouped id size content rest other) (section content differs sized (sections_append others more))
  where
    regrouped : (i : ℕ) (a b c d : List ℕ) → i ∷ (a ++ (b ++ (c ++ d))) ≡ i ∷ ((a ++ (b ++ c)) ++ d)
    regrouped i a b c d = simp append_assoc

-- the parts of a text that begins with a size
sized_text : (id : ℕ) (text size content rest : List ℕ) → text ≡ size ++ content → id ∷ (text ++ rest) ≡ id ∷ (size ++ (content ++ rest))
sized_text id text size content rest parts = ap (λ (xs : List ℕ). id ∷ (xs ++ rest)) parts ∙ ap (λ (xs : List ℕ). id ∷ xs) (append_assoc size content rest)

customs_other : {text : List ℕ} → Customs text → OtherSections text
customs_other no_custom = no_section
customs_other (custom {text = text} {rest = rest} sized more) =
    let differs : 0 ≢ 10 = λ (h : 0 ≡ 10). omega (arith, h) in
    subst OtherSections (sym (sized_text 0 text sized.size sized.content rest sized.parts)) (section sized.content differs sized.counted (customs_other more))

section_other : {X : Type 0} {Content : List ℕ → X → Type 0} {id : ℕ} {text : List ℕ} {x : Option X} → Section Content id text x → id ≢ 10 → OtherSections text
section_other absent differs = no_section
section_other {id = id} (present {text = text} {customs = customs} sized more) differs =
    subst OtherSections (sym (sized_text id text sized.size sized.content customs sized.parts)) (section sized.content differs sized.counted (customs_other more))

-- ---- the code section

-- the module's bytes have these items in the code section, which spell its functions
pub record Code (depth_left : ℕ) (bytes : List ℕ) (funcs : List Func) : Type 0 where
  pub before : List ℕ
  pub items : List ℕ
  pub section : HasCode bytes before items
  pub indices : List ℕ
  pub each : Functions depth_left indices items funcs
  pub count : section.functions ≡ length funcs

code_parts : (bytes sections text customs rest size content count items : List ℕ) → bytes ≡ header ++ (sections ++ ((10 ∷ (text ++ customs)) ++ rest)) → text ≡ size ++ content → content ≡ count ++ items
    → bytes ≡ (header ++ (sections ++ (10 ∷ (size ++ count)))) ++ (items ++ (customs ++ rest))
code_parts bytes sections text customs rest size content count items parts text_is content_is =
    parts ∙ ap (λ (xs : List ℕ). header ++ (sections ++ (10 ∷ ((xs ++ customs) ++ rest)))) (text_is ∙ ap (λ (xs : List ℕ). size ++ xs) content_is)
    ∙ ap (λ (xs : List ℕ). header ++ (sections ++ (10 ∷ xs))) (regrouped size count items customs rest)
    ∙ ap (λ (xs : List ℕ). header ++ xs) (sym (append_assoc sections (10 ∷ (size ++ count)) (items ++ (customs ++ rest))))
  where
    regrouped : (a b c d e : List ℕ) → ((a ++ (b ++ c)) ++ d) ++ e ≡ (a ++ b) ++ (c ++ (d ++ e))
    regrouped a b c d e = simp append_assoc

code_in : {depth_left : ℕ} {indices text : List ℕ} {funcs : Option (List Func)} → Section (FunctionVector depth_left indices) 10 text funcs → (bytes sections rest : List ℕ)
    → bytes ≡ header ++ (sections ++ (text ++ rest)) → OtherSections sections → 0 < length (items_of funcs) → Code depth_left bytes (items_of funcs)
code_in absent bytes sections rest parts others has = absurd (omega (arith, has))
code_in {indices = indices} (present {text = text} {customs = customs} {x = fs} sized more) bytes sections rest parts others has =
    let vector = sized.spelled in
    record {
      before = header ++ (sections ++ (10 ∷ (sized.size ++ vector.count)));
      items = vector.items;
      section = record {
        sections = sections;
        size = sized.size;
        count = vector.count;
        after = customs ++ rest;
        functions = length fs;
        parts = code_parts bytes sections text customs rest sized.size sized.content vector.count vector.items parts sized.parts vector.parts;
        before_is = refl;
        others = others;
        sized = subst (λ (xs : List ℕ). U32 sized.size (length xs)) vector.parts sized.counted;
        counted = vector.counted;
      };
      indices = indices;
      each = vector.each;
      count = refl;
    }

ten_parts : (a b c d e f g h i j k l : List ℕ) → a ++ (b ++ (c ++ (d ++ (e ++ (f ++ (g ++ (h ++ (i ++ (j ++ (k ++ l)))))))))) ≡ (a ++ (b ++ (c ++ (d ++ (e ++ (f ++ (g ++ (h ++ (i ++ j))))))))) ++ (k ++ l)
ten_parts a b c d e f g h i j k l = simp append_assoc

-- a module that has a function has a code section
pub code_of : (depth_left : ℕ) (bytes : List ℕ) (m : Module) → SpellsModule depth_left bytes m → 0 < length m.funcs → Code depth_left bytes m.funcs
code_of depth_left bytes m s has =
    let funcs_are : m.funcs ≡ items_of s.funcs = ap (λ (x : Module). x.funcs) s.module_is in
    let some : 0 < length (items_of s.funcs) = subst (λ (fs : List Func). 0 < length fs) funcs_are has in
    subst (Code depth_left bytes) (sym funcs_are) (code_in s.code_section bytes sections s.data_text parts_are others some)
  where
    sections : List ℕ
    sections = s.custom_text ++ (s.type_text ++ (s.import_text ++ (s.function_text ++ (s.table_text ++ (s.memory_text ++ (s.global_text ++ (s.export_text ++ (s.element_text ++ s.count_text))))))))

    parts_are : bytes ≡ header ++ (sections ++ (s.code_text ++ s.data_text))
    parts_are = s.parts ∙ ap (λ (xs : List ℕ). header ++ xs)
        (ten_parts s.custom_text s.type_text s.import_text s.function_text s.table_text s.memory_text s.global_text s.export_text s.element_text s.count_text s.code_text s.data_text)

    others : OtherSections sections
    others =
        sections_append (customs_other s.customs) (
        sections_append (section_other s.type_section (λ h. omega (arith, h))) (
        sections_append (section_other s.import_section (λ h. omega (arith, h))) (
        sections_append (section_other s.function_section (λ h. omega (arith, h))) (
        sections_append (section_other s.table_section (λ h. omega (arith, h))) (
        sections_append (section_other s.memory_section (λ h. omega (arith, h))) (
        sections_append (section_other s.global_section (λ h. omega (arith, h))) (
        sections_append (section_other s.export_section (λ h. omega (arith, h))) (
        sections_append (section_other s.element_section (λ h. omega (arith, h)))
        (section_other s.count_section (λ h. omega (arith, h)))))))))))

-- ---- a function's body

-- the items have these opcodes of function f, which spell its blocks and an end
pub record Body (depth_left : ℕ) (items : List ℕ) (f : ℕ) (func : Func) : Type 0 where
  pub before : List ℕ
  pub opcodes : List ℕ
  pub has : HasBody items f before opcodes
  pub text : List ℕ
  pub instrs : List Instr
  pub nested : List (List Instr)
  pub spelled : Spells depth_left 1 text instrs nested
  pub opcodes_are : opcodes ≡ text ++ 0x0B ∷ []
  pub blocks_are : func.blocks ≡ instrs ∷ nested

first_parts : (text size content count locals opcodes rest : List ℕ) → text ≡ size ++ content → content ≡ count ++ (locals ++ opcodes) → text ++ rest ≡ ([] ++ (size ++ (count ++ locals))) ++ (opcodes ++ rest)
first_parts text size content count locals opcodes rest text_is content_is = rw (text_is, content_is) (simp append_assoc)

later_parts : (text items before opcodes after : List ℕ) → items ≡ before ++ (opcodes ++ after) → text ++ items ≡ (text ++ before) ++ (opcodes ++ after)
later_parts text items before opcodes after parts = rw parts (simp append_assoc)

later_before : (text size content before bodies one count locals : List ℕ) → text ≡ size ++ content → before ≡ bodies ++ (one ++ (count ++ locals)) → text ++ before ≡ (size ++ (content ++ bodies)) ++ (one ++ (count ++ locals))
later_before text size content before bodies one count locals text_is before_is = rw (text_is, before_is) (simp append_assoc)

first_body : {depth_left index : ℕ} {content : List ℕ} {func : Func} → FunctionBody depth_left index content func → (text size rest : List ℕ) → text ≡ size ++ content → U32 size (length content)
    → Body depth_left (text ++ rest) 0 func
first_body {content = content} b text size rest text_is counted =
    let opcodes = b.third ++ 0x0B ∷ [] in
    record {
      before = [] ++ (size ++ (b.first ++ b.second));
      opcodes = opcodes;
      has = record {
        bodies = [];
        size = size;
        count = b.first;
        locals = b.second;
        after = rest;
        declarations = b.entries;
        types = _;
        parts = first_parts text size content b.first b.second opcodes rest text_is b.parts;
        before_is = refl;
        earlier = no_item;
        sized = subst (λ (xs : List ℕ). U32 size (length xs)) b.parts counted;
        counted = b.counted;
        declared = b.declared;
      };
      text = b.third;
      instrs = b.body;
      nested = b.nested;
      spelled = b.spelled;
      opcodes_are = refl;
      blocks_are = b.blocks;
    }

later_body : {depth_left f : ℕ} {items : List ℕ} {func : Func} → Body depth_left items f func → (text size content : List ℕ) → text ≡ size ++ content → U32 size (length content) → Body depth_left (text ++ items) (suc f) func
later_body {f = f} {items = items} b text size content text_is counted =
    let same : 1 + f ≡ suc f = omega arith in
    record {
      before = text ++ b.before;
      opcodes = b.opcodes;
      has = record {
        bodies = size ++ (content ++ b.has.bodies);
        size = b.has.size;
        count = b.has.count;
        locals = b.has.locals;
        after = b.has.after;
        declarations = b.has.declarations;
        types = b.has.types;
        parts = later_parts text items b.before b.opcodes b.has.after b.has.parts;
        before_is = later_before text size content b.before b.has.bodies b.has.size b.has.count b.has.locals text_is b.has.before_is;
        earlier = subst (λ (n : ℕ). SizedItems n (size ++ (content ++ b.has.bodies))) same (item content counted b.has.earlier);
        sized = b.has.sized;
        counted = b.has.counted;
        declared = b.has.declared;
      };
      text = b.text;
      instrs = b.instrs;
      nested = b.nested;
      spelled = b.spelled;
      opcodes_are = b.opcodes_are;
      blocks_are = b.blocks_are;
    }

pub body_of : {depth_left : ℕ} {indices items : List ℕ} {funcs : List Func} → Functions depth_left indices items funcs → (f : ℕ) (func : Func) → slice_get funcs f ≡ Some func → Body depth_left items f func
body_of no_function f func is = absurd (none-some func is)
body_of {depth_left} (function {text = text} {rest = rest} {f = one} sized more) zero func is =
    subst (Body depth_left (text ++ rest) 0) (same_Some one func is) (first_body sized.spelled text sized.size rest sized.parts sized.counted)
body_of (function {text = text} sized more) (suc f) func is = later_body (body_of more f func is) text sized.size sized.content sized.parts sized.counted
