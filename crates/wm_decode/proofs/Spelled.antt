-- A module is read exactly where the bytes spell it within the bounds.
use Rattle.std.proofs.Common.{◌≡◌, ℕ, ◌≤◌, Bool, true, List, [], ◌∷◌, ◌++◌, length, Option, Some, None, Result, Ok, refl, sym, ap, subst, ◌∙◌, arith}
use Rattle.std.specs.Prelude.{option_to_list, is_some}
use Rattle.std.specs.Option.{option_flatten}
use Rattle.std.proofs.lemmas.List.{append-nil}
use Rattle.wm_ast.specs.declared.types.FuncType.{FuncType}
use Rattle.wm_ast.specs.declared.types.Limits.{Limits}
use Rattle.wm_ast.specs.declared.module.Func.{Func}
use Rattle.wm_ast.specs.declared.module.Memory.{Memory}
use Rattle.wm_ast.specs.declared.module.DataSegment.{DataSegment}
use Rattle.wm_ast.specs.declared.module.Module.{Module}
use Rattle.wm_decode.specs.declared.module.Front.{Front}
use Rattle.wm_decode.specs.declared.module.Declared.{Declared}
use Rattle.wm_decode.specs.Bounds.{Bounds}
use Rattle.wm_decode.specs.Stop.{Stop}
use Rattle.wm_decode.specs.Numbers.{IsBytes}
use Rattle.wm_decode.specs.Vectors.{Each, no_more, one_more, Vector}
use Rattle.wm_decode.specs.Module.{Section, AtMostOne, header, items_of, memory_of, Agrees, module_of, LocalsWithin, SpellsModule, Within}
use Rattle.wm_decode.specs.Reading.{◌>>=◌}
use Rattle.wm_decode.specs.ReadingModule.{front_at, declared_at, module_at}
use Rattle.wm_decode.proofs.TypeLaws.{Limited, LimitedImport, take_one}
use Rattle.wm_decode.proofs.ContentLaws.{Defined, Indices, Segments}
use Rattle.wm_decode.proofs.CodeLaws.{Code}
use Rattle.wm_decode.proofs.SectionLaws.{StartsIn, starts_section, section_map, section_fact}
use Rattle.wm_decode.proofs.ModuleLaws.{Finished, declared_of, after_declared, tables_from, count_from, declared_steps, module_steps, module_took, front_again, declared_again, rest_again}

-- a fact of each item
abbrev AllOf : {X : Type 0} → (X → Type 0) → List X → Type 0
AllOf P [] = Unit {0}
AllOf P (x ∷ xs) = P x × AllOf P xs

module _ {X : Type 0} {A B : List ℕ → X → Type 0} (P : X → Type 0) (f : (t : List ℕ) (x : X) → P x → A t x → B t x) where
  each_map : {text : List ℕ} {xs : List X} → AllOf P xs → Each A text xs → Each B text xs
  each_map all no_more = no_more
  each_map all (one_more {text = t} {x = x} i d) = one_more (f t x all.0 i) (each_map all.1 d)

  vector_map : {text : List ℕ} {xs : List X} → AllOf P xs → Vector A text xs → Vector B text xs
  vector_map all v = record { count = v.count; items = v.items; parts = v.parts; counted = v.counted; each = each_map all v.each }

no_fact : {X : Type 0} (xs : List X) → AllOf (λ x. Unit {0}) xs
no_fact [] = tt
no_fact (x ∷ xs) = (tt, no_fact xs)

at_most_fact : {X : Type 0} (A : List ℕ → X → Type 0) (text : List ℕ) (o : Option X) → AtMostOne A text o → (x : X) → o ≡ Some x → (item : List ℕ) × A item x
at_most_fact {X} A text o v x e = let one = take_one A text x (subst (λ (p : Option X). AtMostOne A text p) e v) in (one.item, one.spelled)

module _ (bounds : Bounds) where
  one_memory_of : (imported : Option Memory) (defined : Option (Option Limits)) {text : List ℕ} → Section (Defined bounds (is_some imported)) 5 text defined → is_some imported ≡ true → option_flatten defined ≡ None
  one_memory_of imported None s h = refl
  one_memory_of imported (Some x) s h = section_fact s (λ (y : Option Limits). y ≡ None) (λ t y d. d.one h) x refl

  pages_of : (imported : Option (Option Memory)) (defined : Option (Option Limits)) → ((m : Memory) → imported ≡ Some (Some m) → m.limits.minimum ≤ bounds.pages) → ((l : Limits) → defined ≡ Some (Some l) → l.minimum ≤ bounds.pages)
      → (x : Memory) → memory_of (option_flatten imported) (option_flatten defined) ≡ Some x → x.limits.minimum ≤ bounds.pages
  pages_of (Some (Some m)) defined f g x e = let same : m ≡ x = cc in subst (λ (y : Memory). y.limits.minimum ≤ bounds.pages) same (f m refl)
  pages_of (Some None) (Some (Some l)) f g x e = let made : Memory = record { limits = l; import = None } in let same : made ≡ x = cc in subst (λ (y : Memory). y.limits.minimum ≤ bounds.pages) same (g l refl)
  pages_of (Some None) (Some None) f g x e = absurd cc
  pages_of (Some None) None f g x e = absurd cc
  pages_of None (Some (Some l)) f g x e = let made : Memory = record { limits = l; import = None } in let same : made ≡ x = cc in subst (λ (y : Memory). y.limits.minimum ≤ bounds.pages) same (g l refl)
  pages_of None (Some None) f g x e = absurd cc
  pages_of None None f g x e = absurd cc

  import_pages : {text : List ℕ} {imported : Option (Option Memory)} → Section (AtMostOne (LimitedImport bounds)) 2 text imported → (m : Memory) → imported ≡ Some (Some m) → m.limits.minimum ≤ bounds.pages
  import_pages s m e = section_fact s (λ (o : Option Memory). (y : Memory) → o ≡ Some y → y.limits.minimum ≤ bounds.pages) (λ t o v y k. (at_most_fact (LimitedImport bounds) t o v y k).1.within) (Some m) e m refl

  defined_pages : {imported : Bool} {text : List ℕ} {defined : Option (Option Limits)} → Section (Defined bounds imported) 5 text defined → (l : Limits) → defined ≡ Some (Some l) → l.minimum ≤ bounds.pages
  defined_pages s l e = section_fact s (λ (o : Option Limits). (y : Limits) → o ≡ Some y → y.minimum ≤ bounds.pages) (λ t o d y k. (at_most_fact (Limited bounds) t o d.spelled y k).1.within) (Some l) e l refl

  function_count : {text : List ℕ} (indices : Option (List ℕ)) → Section (Indices bounds) 3 text indices → length (items_of indices) ≤ bounds.functions
  function_count None s = omega arith
  function_count (Some is) s = section_fact s (λ (l : List ℕ). length l ≤ bounds.functions) (λ t l d. d.within) is refl

  locals_of_code : (types : List FuncType) (indices : List ℕ) {text : List ℕ} (funcs : Option (List Func)) → Section (Code bounds types indices) 10 text funcs → LocalsWithin bounds types (items_of funcs)
  locals_of_code types indices None s = tt
  locals_of_code types indices (Some fs) s = section_fact s (λ (l : List Func). LocalsWithin bounds types l) (λ t l d. d.small) fs refl

  pub record Spelled (bytes : List ℕ) (m : Module) : Type 0 where
    pub spelled : SpellsModule bounds.nesting bytes m
    pub within : Within bounds m

  pub module_takes : (bytes : List ℕ) (m : Module) → IsBytes bytes → module_at bounds bytes ≡ Ok m → Spelled bytes m
  module_takes bytes m fits e =
      let t = module_took bounds bytes m fits e in
      let b = t.before in
      let f = b.before in
      let front : Front = record { types = items_of f.types; imported = option_flatten f.imported; indices = items_of f.indices } in
      let whole = λ (d : Declared). let k : Module = record { types = d.types; funcs = items_of t.funcs; memory = d.memory; globals = d.globals; exports = d.exports; «data» = items_of t.segments } in k in
      let types-is : t.declared.types ≡ items_of f.types = sym (ap (λ (x : Front). x.types) f.front_is ∙ ap (λ (x : Declared). x.types) b.declared_is) in
      let indices-is : t.declared.indices ≡ items_of f.indices = sym (ap (λ (x : Front). x.indices) f.front_is ∙ ap (λ (x : Declared). x.indices) b.declared_is) in
      let imported-is : b.front.imported ≡ option_flatten f.imported = sym (ap (λ (x : Front). x.imported) f.front_is) in
      let is : m ≡ module_of f.types f.imported b.defined b.globals b.exports t.funcs t.segments =
      sym (ap (λ (x : Front). whole (declared_of bounds x b.defined b.globals b.exports)) f.front_is ∙ ap whole b.declared_is ∙ t.finished.made) in
      let memories : Section (Defined bounds (is_some (option_flatten f.imported))) 5 b.memory_text b.defined = subst (λ (o : Option Memory). Section (Defined bounds (is_some o)) 5 b.memory_text b.defined) imported-is b.memory_section in
      let code : Section (Code bounds (items_of f.types) (items_of f.indices)) 10 t.code_text t.funcs =
      subst (λ (l : List FuncType). Section (Code bounds l (items_of f.indices)) 10 t.code_text t.funcs) types-is (subst (λ (l : List ℕ). Section (Code bounds t.declared.types l) 10 t.code_text t.funcs) indices-is t.code_section) in
      let agree : length (items_of t.funcs) ≡ length (items_of f.indices) = t.finished.functions_agree ∙ ap length indices-is in
      let locals = locals_of_code (items_of f.types) (items_of f.indices) t.funcs code in
      let count = function_count f.indices f.function_section in
      let within : Within bounds (module_of f.types f.imported b.defined b.globals b.exports t.funcs t.segments) =
      record { pages = pages_of f.imported b.defined (import_pages f.import_section) (defined_pages memories); functions = omega (arith, count, agree); locals = locals } in
      record {
        spelled = record {
          custom_text = f.custom_text;
          type_text = f.type_text;
          import_text = f.import_text;
          function_text = f.function_text;
          table_text = b.table_text;
          memory_text = b.memory_text;
          global_text = b.global_text;
          export_text = b.export_text;
          element_text = b.element_text;
          count_text = t.count_text;
          code_text = t.code_text;
          data_text = t.data_text;
          types = f.types;
          imported = f.imported;
          indices = f.indices;
          tables = b.tables;
          defined = b.defined;
          globals = b.globals;
          exports = b.exports;
          elements = b.elements;
          count = t.count;
          funcs = t.funcs;
          segments = t.segments;
          parts = f.parts ∙ ap (λ (l : List ℕ). header ++ (f.custom_text ++ (f.type_text ++ (f.import_text ++ (f.function_text ++ l)))))
              (b.parts ∙ ap (λ (l : List ℕ). b.table_text ++ (b.memory_text ++ (b.global_text ++ (b.export_text ++ (b.element_text ++ l))))) t.parts);
          customs = f.customs;
          type_section = f.type_section;
          import_section = section_map f.import_section (λ x o k v. vector_map (λ y. Unit {0}) (λ x y u i. i.spelled) (no_fact (option_to_list o)) v);
          function_section = section_map f.function_section (λ x o k v. v.spelled);
          table_section = b.table_section;
          memory_section = section_map memories (λ x o k v. vector_map (λ y. Unit {0}) (λ x y u i. i.spelled) (no_fact (option_to_list o)) v.spelled);
          global_section = b.global_section;
          export_section = b.export_section;
          element_section = b.element_section;
          count_section = t.count_section;
          code_section = section_map code (λ x o k v. v.spelled);
          data_section = section_map t.data_section (λ x o k v. v.spelled);
          one_memory = one_memory_of (option_flatten f.imported) b.defined memories;
          functions_agree = agree;
          segments_agree = t.finished.segments_agree;
          module_is = is;
        };
        within = subst (λ (x : Module). Within bounds x) (sym is) within;
      }

  import_all : (imported : Option (Option Memory)) (defined : Option Limits) → ((x : Memory) → memory_of (option_flatten imported) defined ≡ Some x → x.limits.minimum ≤ bounds.pages)
      → (o : Option Memory) → imported ≡ Some o → AllOf (λ (m : Memory). m.limits.minimum ≤ bounds.pages) (option_to_list o)
  import_all None defined w o e = absurd cc
  import_all (Some p) defined w None e = tt
  import_all (Some p) defined w (Some m) e = let same : p ≡ Some m = cc in (w m (ap (λ (q : Option Memory). memory_of q defined) same), tt)

  defined_all : (imported : Option Memory) (defined : Option (Option Limits)) → (is_some imported ≡ true → option_flatten defined ≡ None) → ((x : Memory) → memory_of imported (option_flatten defined) ≡ Some x → x.limits.minimum ≤ bounds.pages)
      → (o : Option Limits) → defined ≡ Some o → AllOf (λ (l : Limits). l.minimum ≤ bounds.pages) (option_to_list o)
  defined_all imported None one w o e = absurd cc
  defined_all imported (Some p) one w None e = tt
  defined_all (Some m) (Some p) one w (Some l) e = let same : p ≡ Some l = cc in let none : p ≡ None = one refl in absurd cc
  defined_all None (Some p) one w (Some l) e = let same : p ≡ Some l = cc in (w (record { limits = l; import = None }) (ap (λ (q : Option Limits). memory_of None q) same), tt)

  defined_one : (imported : Option Memory) (defined : Option (Option Limits)) → (is_some imported ≡ true → option_flatten defined ≡ None) → (o : Option Limits) → defined ≡ Some o → is_some imported ≡ true → o ≡ None
  defined_one imported defined one o e h = sym (ap option_flatten e) ∙ one h

  pub module_again : (bytes : List ℕ) (m : Module) → SpellsModule bounds.nesting bytes m → Within bounds m → module_at bounds bytes ≡ Ok m
  module_again bytes m s v =
      let w : Within bounds (module_of s.types s.imported s.defined s.globals s.exports s.funcs s.segments) = subst (λ (x : Module). Within bounds x) s.module_is v in
      let front : Front = record { types = items_of s.types; imported = option_flatten s.imported; indices = items_of s.indices } in
      let declared = declared_of bounds front s.defined s.globals s.exports in
      let imports : Section (AtMostOne (LimitedImport bounds)) 2 s.import_text s.imported =
      section_map s.import_section (λ t o k i. vector_map (λ (y : Memory). y.limits.minimum ≤ bounds.pages) (λ t y u d. record { spelled = d; within = u }) (import_all s.imported (option_flatten s.defined) w.pages o k) i) in
      let memories : Section (Defined bounds (is_some (option_flatten s.imported))) 5 s.memory_text s.defined =
      section_map s.memory_section (λ t o k i. record {
        spelled = vector_map (λ (y : Limits). y.minimum ≤ bounds.pages) (λ t y u d. record { spelled = d; within = u }) (defined_all (option_flatten s.imported) s.defined s.one_memory w.pages o k) i;
        one = defined_one (option_flatten s.imported) s.defined s.one_memory o k;
      }) in
      let count : length (items_of s.indices) ≤ bounds.functions = omega (arith, w.functions, s.functions_agree) in
      let functions : Section (Indices bounds) 3 s.function_text s.indices = section_map s.function_section (λ t o k i. record { spelled = i; within = subst (λ (p : Option (List ℕ)). length (items_of p) ≤ bounds.functions) k count }) in
      let code : Section (Code bounds (items_of s.types) (items_of s.indices)) 10 s.code_text s.funcs = section_map s.code_section (λ t o k i. record {
        spelled = i;
        small = subst (λ (p : Option (List Func)). LocalsWithin bounds (items_of s.types) (items_of p)) k w.locals;
        counted = sym (ap (λ (p : Option (List Func)). length (items_of p)) k) ∙ s.functions_agree;
      }) in
      let segments : Section (Segments s.count) 11 s.data_text s.segments = section_map s.data_section (λ t o k i. record { spelled = i; agree = subst (λ (p : Option (List DataSegment)). Agrees s.count (length (items_of p))) k s.segments_agree }) in
      let r3 : StartsIn (11 ∷ []) s.data_text = subst (λ (l : List ℕ). StartsIn (11 ∷ []) l) (append-nil s.data_text) (starts_section s.data_section [] [] tt) in
      let r2 = starts_section s.code_section (11 ∷ []) s.data_text r3 in
      let last = s.count_text ++ (s.code_text ++ s.data_text) in
      let r1 = starts_section s.count_section (10 ∷ 11 ∷ []) (s.code_text ++ s.data_text) r2 in
      let q5 = starts_section s.element_section (after_declared bounds) last r1 in
      let q4 = starts_section s.export_section (9 ∷ after_declared bounds) (s.element_text ++ last) q5 in
      let q3 = starts_section s.global_section (7 ∷ 9 ∷ after_declared bounds) (s.export_text ++ (s.element_text ++ last)) q4 in
      let q2 = starts_section s.memory_section (6 ∷ 7 ∷ 9 ∷ after_declared bounds) (s.global_text ++ (s.export_text ++ (s.element_text ++ last))) q3 in
      let q1 = starts_section s.table_section (5 ∷ 6 ∷ 7 ∷ 9 ∷ after_declared bounds) (s.memory_text ++ (s.global_text ++ (s.export_text ++ (s.element_text ++ last)))) q2 in
      let middle = s.table_text ++ (s.memory_text ++ (s.global_text ++ (s.export_text ++ (s.element_text ++ last)))) in
      let one = front_again bounds s.customs s.type_section imports functions middle q1 in
      let two = declared_again bounds front s.table_section memories s.global_section s.export_section s.element_section last r1 in
      let done : Finished bounds declared s.count s.funcs s.segments [] m = record { nothing = refl; functions_agree = s.functions_agree; segments_agree = s.segments_agree; made = sym s.module_is } in
      let three = rest_again bounds declared s.count_section code segments m done in
      let both : declared_at bounds bytes ≡ Ok (declared, last) =
      declared_steps bounds bytes ∙ ap (λ (l : List ℕ). front_at bounds l >>= λ f. tables_from bounds f.0 f.1) s.parts ∙ ap (λ (r : Result (Front × List ℕ) Stop). r >>= λ f. tables_from bounds f.0 f.1) one ∙ two in
      module_steps bounds bytes ∙ ap (λ (r : Result (Declared × List ℕ) Stop). r >>= λ d. count_from bounds d.0 d.1) both ∙ three
