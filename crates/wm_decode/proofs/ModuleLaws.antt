-- A module that is read is spelled by the bytes, and one that they spell is read.
use Rattle.std.proofs.Common.{◌≡◌, ℕ, ◌-◌, ◌^◌, cond, eqb, List, [], ◌∷◌, ◌++◌, length, Option, Result, Ok, Err, refl, sym, ap, subst, ◌∙◌, append_assoc}
use Rattle.std.specs.Prelude.{is_some}
use Rattle.std.specs.Option.{option_flatten}
use Rattle.std.proofs.lemmas.List.{append-nil}
use Rattle.std.proofs.lemmas.Bool.{eqb-true, eq-eqb}
use Rattle.wm_ast.specs.declared.types.FuncType.{FuncType}
use Rattle.wm_ast.specs.declared.types.Limits.{Limits}
use Rattle.wm_ast.specs.declared.exports.Export.{Export}
use Rattle.wm_ast.specs.declared.module.Func.{Func}
use Rattle.wm_ast.specs.declared.module.Global.{Global}
use Rattle.wm_ast.specs.declared.module.Memory.{Memory}
use Rattle.wm_ast.specs.declared.module.DataSegment.{DataSegment}
use Rattle.wm_ast.specs.declared.module.Module.{Module}
use Rattle.wm_decode.specs.declared.module.Front.{Front}
use Rattle.wm_decode.specs.declared.module.Declared.{Declared}
use Rattle.wm_decode.specs.Bounds.{Bounds}
use Rattle.wm_decode.specs.declared.fault.FaultKind.TheVariants.{CountMismatch}
use Rattle.wm_decode.specs.Stop.{Stop, stop}
use Rattle.wm_decode.specs.Numbers.{U32, IsBytes}
use Rattle.wm_decode.specs.Vectors.{Vector}
use Rattle.wm_decode.specs.Parts.{FunctionType, GlobalEntry, ExportVector}
use Rattle.wm_decode.specs.Module.{Customs, Section, AtMostOne, NoItems, header, items_of, memory_of, Agrees}
use Rattle.wm_decode.specs.Reading.{◌>>=◌}
use Rattle.wm_decode.specs.ReadingVectors.{u32_at, vector_at}
use Rattle.wm_decode.specs.ReadingParts.{func_type_at, imports_at, memories_at, indices_at, no_items_at, global_at, exports_at, code_at, segments_at, agrees}
use Rattle.wm_decode.specs.ReadingModule.{agreed_module, customs_in, section_at, header_at, one_at, front_at, definitions_at, declared_at, bodies_at, module_at}
use Rattle.wm_decode.proofs.Steps.{bound, met, ok_is, pair_is, fits_behind, answered}
use Rattle.wm_decode.proofs.Lawful.{Lawful, number_lawful, vector_lawful}
use Rattle.wm_decode.proofs.TypeLaws.{func_type_lawful, LimitedImport}
use Rattle.wm_decode.proofs.ContentLaws.{imports_lawful, Defined, memories_lawful, Indices, indices_lawful, no_items_lawful, global_lawful, exports_lawful, Segments, segments_lawful, agreed, agrees_again}
use Rattle.wm_decode.proofs.CodeLaws.{Code, code_lawful}
use Rattle.wm_decode.proofs.SectionLaws.{customs_in_take, customs_in_again, section_takes, section_again, StartsIn, begins_else, starts_section, header_takes}

u32_lawful : Lawful U32 u32_at
u32_lawful = number_lawful (2 ^ 32 - 1)

types_lawful : Lawful (Vector FunctionType) (vector_at func_type_at)
types_lawful = vector_lawful FunctionType func_type_at func_type_lawful

globals_lawful : Lawful (Vector GlobalEntry) (vector_at global_at)
globals_lawful = vector_lawful GlobalEntry global_at global_lawful

module _ (bounds : Bounds) where
  pub record FrontTook (bytes : List ℕ) (f : Front) (rest : List ℕ) : Type 0 where
    pub custom_text : List ℕ
    pub type_text : List ℕ
    pub import_text : List ℕ
    pub function_text : List ℕ
    pub types : Option (List FuncType)
    pub imported : Option (Option Memory)
    pub indices : Option (List ℕ)
    pub parts : bytes ≡ header ++ (custom_text ++ (type_text ++ (import_text ++ (function_text ++ rest))))
    pub customs : Customs custom_text
    pub type_section : Section (Vector FunctionType) 1 type_text types
    pub import_section : Section (AtMostOne (LimitedImport bounds)) 2 import_text imported
    pub function_section : Section (Indices bounds) 3 function_text indices
    pub front_is : (let k : Front = record { types = items_of types; imported = option_flatten imported; indices = items_of indices } in k) ≡ f

  front_takes : (bytes : List ℕ) (f : Front) (rest : List ℕ) → IsBytes bytes → front_at bounds bytes ≡ Ok (f, rest) → FrontTook bytes f rest
  unfolding front_at
  front_takes bytes f rest fits e =
      let made = λ (ts : Option (List FuncType)) (m : Option (Option Memory)) (is : Option (List ℕ)). let k : Front = record { types = items_of ts; imported = option_flatten m; indices = items_of is } in k in
      let third = λ (ts : Option (List FuncType)) (m : Option (Option Memory)) (is : Option (List ℕ) × List ℕ). answered {X = Front} (made ts m is.0) is.1 in
      let second = λ (ts : Option (List FuncType)) (m : Option (Option Memory) × List ℕ). section_at (indices_at bounds) 3 m.1 >>= third ts m.0 in
      let first = λ (ts : Option (List FuncType) × List ℕ). section_at (imports_at bounds) 2 ts.1 >>= second ts.0 in
      let start = λ (s : List ℕ). section_at (vector_at func_type_at) 1 s >>= first in
      let h = bound (header_at bytes) (λ r. customs_in r >>= start) (f, rest) e in
      let head = header_takes bytes h.0 h.1 in
      let fits0 = fits_behind bytes header h.0 fits head in
      let c = bound (customs_in h.0) start (f, rest) h.2 in
      let t0 = customs_in_take h.0 c.0 fits0 c.1 in
      let fits1 = fits_behind h.0 t0.0 c.0 fits0 t0.1 in
      let a = bound (section_at (vector_at func_type_at) 1 c.0) first (f, rest) c.2 in
      let t1 = section_takes (Vector FunctionType) (vector_at func_type_at) types_lawful 1 c.0 a.0.0 a.0.1 fits1 a.1 in
      let fits2 = fits_behind c.0 t1.0 a.0.1 fits1 t1.1 in
      let b = bound (section_at (imports_at bounds) 2 a.0.1) (second a.0.0) (f, rest) a.2 in
      let t2 = section_takes (AtMostOne (LimitedImport bounds)) (imports_at bounds) (imports_lawful bounds) 2 a.0.1 b.0.0 b.0.1 fits2 b.1 in
      let fits3 = fits_behind a.0.1 t2.0 b.0.1 fits2 t2.1 in
      let d = bound (section_at (indices_at bounds) 3 b.0.1) (third a.0.0 b.0.0) (f, rest) b.2 in
      let t3 = section_takes (Indices bounds) (indices_at bounds) (indices_lawful bounds) 3 b.0.1 d.0.0 d.0.1 fits3 d.1 in
      let is = pair_is {A = Front} (made a.0.0 b.0.0 d.0.0, d.0.1) (f, rest) d.2 in
      record {
        custom_text = t0.0;
        type_text = t1.0;
        import_text = t2.0;
        function_text = t3.0;
        types = a.0.0;
        imported = b.0.0;
        indices = d.0.0;
        parts = head ∙ ap (λ (l : List ℕ). header ++ l) (t0.1 ∙ ap (λ (l : List ℕ). t0.0 ++ l) (t1.1 ∙ ap (λ (l : List ℕ). t1.0 ++ l) (t2.1 ∙ ap (λ (l : List ℕ). t2.0 ++ l) (t3.1 ∙ ap (λ (l : List ℕ). t3.0 ++ l) is.1))));
        customs = t0.2;
        type_section = t1.2;
        import_section = t2.2;
        function_section = t3.2;
        front_is = is.0;
      }

  abbrev pub after_front : List ℕ
  after_front = 4 ∷ 5 ∷ 6 ∷ 7 ∷ 9 ∷ 12 ∷ 10 ∷ 11 ∷ []

  pub front_again : {ct tt1 it ft : List ℕ} {types : Option (List FuncType)} {imported : Option (Option Memory)} {indices : Option (List ℕ)} → Customs ct → Section (Vector FunctionType) 1 tt1 types
      → Section (AtMostOne (LimitedImport bounds)) 2 it imported → Section (Indices bounds) 3 ft indices → (rest : List ℕ) → StartsIn after_front rest
      → front_at bounds (header ++ (ct ++ (tt1 ++ (it ++ (ft ++ rest))))) ≡ Ok (let k : Front = record { types = items_of types; imported = option_flatten imported; indices = items_of indices } in k, rest)
  unfolding front_at header_at one_at
  front_again {ct = ct} {tt1 = t1} {it = t2} {ft = t3} c s1 s2 s3 rest starts =
      let r2 = starts_section s3 after_front rest starts in
      let r1 = starts_section s2 (3 ∷ after_front) (t3 ++ rest) r2 in
      let r0 = starts_section s1 (2 ∷ 3 ∷ after_front) (t2 ++ (t3 ++ rest)) r1 in
      let e0 = customs_in_again c (t1 ++ (t2 ++ (t3 ++ rest))) (begins_else 0 (1 ∷ 2 ∷ 3 ∷ after_front) (t1 ++ (t2 ++ (t3 ++ rest))) r0 refl) in
      let e1 = section_again (Vector FunctionType) (vector_at func_type_at) types_lawful 1 s1 (t2 ++ (t3 ++ rest)) (begins_else 1 (2 ∷ 3 ∷ after_front) (t2 ++ (t3 ++ rest)) r1 refl) (begins_else 0 (2 ∷ 3 ∷ after_front) (t2 ++ (t3 ++ rest)) r1 refl) in
      let e2 = section_again (AtMostOne (LimitedImport bounds)) (imports_at bounds) (imports_lawful bounds) 2 s2 (t3 ++ rest) (begins_else 2 (3 ∷ after_front) (t3 ++ rest) r2 refl) (begins_else 0 (3 ∷ after_front) (t3 ++ rest) r2 refl) in
      let e3 = section_again (Indices bounds) (indices_at bounds) (indices_lawful bounds) 3 s3 rest (begins_else 3 after_front rest starts refl) (begins_else 0 after_front rest starts refl) in
      rw (e0, e1, e2, e3) refl

  pub record DeclaredTook (bytes : List ℕ) (d : Declared) (rest : List ℕ) : Type 0 where
    pub middle : List ℕ
    pub front : Front
    pub before : FrontTook bytes front middle
    pub table_text : List ℕ
    pub memory_text : List ℕ
    pub global_text : List ℕ
    pub export_text : List ℕ
    pub element_text : List ℕ
    pub tables : Option ℕ
    pub defined : Option (Option Limits)
    pub globals : Option (List Global)
    pub exports : Option (List (List ℕ × Export))
    pub elements : Option ℕ
    pub parts : middle ≡ table_text ++ (memory_text ++ (global_text ++ (export_text ++ (element_text ++ rest))))
    pub table_section : Section NoItems 4 table_text tables
    pub memory_section : Section (Defined bounds (is_some front.imported)) 5 memory_text defined
    pub global_section : Section (Vector GlobalEntry) 6 global_text globals
    pub export_section : Section ExportVector 7 export_text exports
    pub element_section : Section NoItems 9 element_text elements
    pub declared_is : (let k : Declared = record { types = front.types; indices = front.indices; memory = memory_of front.imported (option_flatten defined); globals = items_of globals; exports = items_of exports } in k) ≡ d

  -- the steps of reading these sections, one after the other
  elements_from : Front → Option (Option Limits) → Option (List Global) → Option (List (List ℕ × Export)) → List ℕ → Result (Declared × List ℕ) Stop
  elements_from f l gs es bytes = section_at no_items_at 9 bytes >>= λ el.
      answered (let k : Declared = record { types = f.types; indices = f.indices; memory = memory_of f.imported (option_flatten l); globals = items_of gs; exports = items_of es } in k) el.1

  exports_from : Front → Option (Option Limits) → Option (List Global) → List ℕ → Result (Declared × List ℕ) Stop
  exports_from f l gs bytes = section_at exports_at 7 bytes >>= λ es. elements_from f l gs es.0 es.1

  globals_from : Front → Option (Option Limits) → List ℕ → Result (Declared × List ℕ) Stop
  globals_from f l bytes = section_at (vector_at global_at) 6 bytes >>= λ gs. exports_from f l gs.0 gs.1

  memories_from : Front → List ℕ → Result (Declared × List ℕ) Stop
  memories_from f bytes = section_at (memories_at bounds (is_some f.imported)) 5 bytes >>= λ l. globals_from f l.0 l.1

  pub tables_from : Front → List ℕ → Result (Declared × List ℕ) Stop
  tables_from f bytes = section_at no_items_at 4 bytes >>= λ t. memories_from f t.1

  pub declared_steps : (bytes : List ℕ) → declared_at bounds bytes ≡ (front_at bounds bytes >>= λ f. tables_from f.0 f.1)
  unfolding declared_at definitions_at tables_from memories_from globals_from exports_from elements_from
  declared_steps bytes = refl

  tables_step : (f : Front) (bytes : List ℕ) (z : Declared × List ℕ) → tables_from f bytes ≡ Ok z → (x : Option ℕ × List ℕ) × (section_at no_items_at 4 bytes ≡ Ok x) × (memories_from f x.1 ≡ Ok z)
  unfolding tables_from
  tables_step f bytes z e = bound (section_at no_items_at 4 bytes) (λ t. memories_from f t.1) z e

  memories_step : (f : Front) (bytes : List ℕ) (z : Declared × List ℕ) → memories_from f bytes ≡ Ok z → (x : Option (Option Limits) × List ℕ) × (section_at (memories_at bounds (is_some f.imported)) 5 bytes ≡ Ok x) × (globals_from f x.0 x.1 ≡ Ok z)
  unfolding memories_from
  memories_step f bytes z e = bound (section_at (memories_at bounds (is_some f.imported)) 5 bytes) (λ l. globals_from f l.0 l.1) z e

  globals_step : (f : Front) (l : Option (Option Limits)) (bytes : List ℕ) (z : Declared × List ℕ) → globals_from f l bytes ≡ Ok z → (x : Option (List Global) × List ℕ) × (section_at (vector_at global_at) 6 bytes ≡ Ok x) × (exports_from f l x.0 x.1 ≡ Ok z)
  unfolding globals_from
  globals_step f l bytes z e = bound (section_at (vector_at global_at) 6 bytes) (λ gs. exports_from f l gs.0 gs.1) z e

  exports_step : (f : Front) (l : Option (Option Limits)) (gs : Option (List Global)) (bytes : List ℕ) (z : Declared × List ℕ) → exports_from f l gs bytes ≡ Ok z
      → (x : Option (List (List ℕ × Export)) × List ℕ) × (section_at exports_at 7 bytes ≡ Ok x) × (elements_from f l gs x.0 x.1 ≡ Ok z)
  unfolding exports_from
  exports_step f l gs bytes z e = bound (section_at exports_at 7 bytes) (λ es. elements_from f l gs es.0 es.1) z e

  abbrev pub declared_of : Front → Option (Option Limits) → Option (List Global) → Option (List (List ℕ × Export)) → Declared
  declared_of f l gs es = record { types = f.types; indices = f.indices; memory = memory_of f.imported (option_flatten l); globals = items_of gs; exports = items_of es }

  elements_step : (f : Front) (l : Option (Option Limits)) (gs : Option (List Global)) (es : Option (List (List ℕ × Export))) (bytes : List ℕ) (d : Declared) (rest : List ℕ) → elements_from f l gs es bytes ≡ Ok (d, rest)
      → (o : Option ℕ) × (section_at no_items_at 9 bytes ≡ Ok (o, rest)) × (declared_of f l gs es ≡ d)
  unfolding elements_from
  elements_step f l gs es bytes d rest e =
      let y = bound (section_at no_items_at 9 bytes) (λ el. answered (declared_of f l gs es) el.1) (d, rest) e in
      let is = pair_is {A = Declared} (declared_of f l gs es, y.0.1) (d, rest) y.2 in
      let read : section_at no_items_at 9 bytes ≡ Ok (y.0.0, rest) = y.1 ∙ ap (λ (r : List ℕ). answered y.0.0 r) is.1 in
      (y.0.0, read, is.0)

  front_fits : (bytes : List ℕ) (f : Front) (rest : List ℕ) → IsBytes bytes → FrontTook bytes f rest → IsBytes rest
  front_fits bytes f rest fits t =
      let flat : bytes ≡ (header ++ (t.custom_text ++ (t.type_text ++ (t.import_text ++ t.function_text)))) ++ rest = t.parts ∙ simp append_assoc in
      fits_behind bytes (header ++ (t.custom_text ++ (t.type_text ++ (t.import_text ++ t.function_text)))) rest fits flat

  declared_takes : (bytes : List ℕ) (d : Declared) (rest : List ℕ) → IsBytes bytes → declared_at bounds bytes ≡ Ok (d, rest) → DeclaredTook bytes d rest
  declared_takes bytes d rest fits e =
      let p = bound (front_at bounds bytes) (λ f. tables_from f.0 f.1) (d, rest) (sym (declared_steps bytes) ∙ e) in
      let t0 = front_takes bytes p.0.0 p.0.1 fits p.1 in
      let fits0 = front_fits bytes p.0.0 p.0.1 fits t0 in
      let a = tables_step p.0.0 p.0.1 (d, rest) p.2 in
      let t1 = section_takes NoItems no_items_at no_items_lawful 4 p.0.1 a.0.0 a.0.1 fits0 a.1 in
      let fits1 = fits_behind p.0.1 t1.0 a.0.1 fits0 t1.1 in
      let imported = is_some p.0.0.imported in
      let b = memories_step p.0.0 a.0.1 (d, rest) a.2 in
      let t2 = section_takes (Defined bounds imported) (memories_at bounds imported) (memories_lawful bounds imported) 5 a.0.1 b.0.0 b.0.1 fits1 b.1 in
      let fits2 = fits_behind a.0.1 t2.0 b.0.1 fits1 t2.1 in
      let c = globals_step p.0.0 b.0.0 b.0.1 (d, rest) b.2 in
      let t3 = section_takes (Vector GlobalEntry) (vector_at global_at) globals_lawful 6 b.0.1 c.0.0 c.0.1 fits2 c.1 in
      let fits3 = fits_behind b.0.1 t3.0 c.0.1 fits2 t3.1 in
      let x = exports_step p.0.0 b.0.0 c.0.0 c.0.1 (d, rest) c.2 in
      let t4 = section_takes ExportVector exports_at exports_lawful 7 c.0.1 x.0.0 x.0.1 fits3 x.1 in
      let fits4 = fits_behind c.0.1 t4.0 x.0.1 fits3 t4.1 in
      let y = elements_step p.0.0 b.0.0 c.0.0 x.0.0 x.0.1 d rest x.2 in
      let t5 = section_takes NoItems no_items_at no_items_lawful 9 x.0.1 y.0 rest fits4 y.1 in
      record {
        middle = p.0.1;
        front = p.0.0;
        before = t0;
        table_text = t1.0;
        memory_text = t2.0;
        global_text = t3.0;
        export_text = t4.0;
        element_text = t5.0;
        tables = a.0.0;
        defined = b.0.0;
        globals = c.0.0;
        exports = x.0.0;
        elements = y.0;
        parts = t1.1 ∙ ap (λ (l : List ℕ). t1.0 ++ l) (t2.1 ∙ ap (λ (l : List ℕ). t2.0 ++ l) (t3.1 ∙ ap (λ (l : List ℕ). t3.0 ++ l) (t4.1 ∙ ap (λ (l : List ℕ). t4.0 ++ l) t5.1)));
        table_section = t1.2;
        memory_section = t2.2;
        global_section = t3.2;
        export_section = t4.2;
        element_section = t5.2;
        declared_is = y.2;
      }

  abbrev pub after_declared : List ℕ
  after_declared = 12 ∷ 10 ∷ 11 ∷ []

  pub declared_again : {kt mt gt et lt : List ℕ} {tables : Option ℕ} {defined : Option (Option Limits)} {globals : Option (List Global)} {exports : Option (List (List ℕ × Export))} {elements : Option ℕ}
      → (f : Front) → Section NoItems 4 kt tables → Section (Defined bounds (is_some f.imported)) 5 mt defined → Section (Vector GlobalEntry) 6 gt globals → Section ExportVector 7 et exports → Section NoItems 9 lt elements
      → (rest : List ℕ) → StartsIn after_declared rest → tables_from f (kt ++ (mt ++ (gt ++ (et ++ (lt ++ rest))))) ≡ Ok (declared_of f defined globals exports, rest)
  unfolding tables_from memories_from globals_from exports_from elements_from
  declared_again {kt = t1} {mt = t2} {gt = t3} {et = t4} {lt = t5} f s1 s2 s3 s4 s5 rest starts =
      let r4 = starts_section s5 after_declared rest starts in
      let r3 = starts_section s4 (9 ∷ after_declared) (t5 ++ rest) r4 in
      let r2 = starts_section s3 (7 ∷ 9 ∷ after_declared) (t4 ++ (t5 ++ rest)) r3 in
      let r1 = starts_section s2 (6 ∷ 7 ∷ 9 ∷ after_declared) (t3 ++ (t4 ++ (t5 ++ rest))) r2 in
      let imported = is_some f.imported in
      let e1 = section_again NoItems no_items_at no_items_lawful 4 s1 (t2 ++ (t3 ++ (t4 ++ (t5 ++ rest)))) (begins_else 4 (5 ∷ 6 ∷ 7 ∷ 9 ∷ after_declared) (t2 ++ (t3 ++ (t4 ++ (t5 ++ rest)))) r1 refl) (begins_else 0 (5 ∷ 6 ∷ 7 ∷ 9 ∷ after_declared) (t2 ++ (t3 ++ (t4 ++ (t5 ++ rest)))) r1 refl) in
      let e2 = section_again (Defined bounds imported) (memories_at bounds imported) (memories_lawful bounds imported) 5 s2 (t3 ++ (t4 ++ (t5 ++ rest))) (begins_else 5 (6 ∷ 7 ∷ 9 ∷ after_declared) (t3 ++ (t4 ++ (t5 ++ rest))) r2 refl) (begins_else 0 (6 ∷ 7 ∷ 9 ∷ after_declared) (t3 ++ (t4 ++ (t5 ++ rest))) r2 refl) in
      let e3 = section_again (Vector GlobalEntry) (vector_at global_at) globals_lawful 6 s3 (t4 ++ (t5 ++ rest)) (begins_else 6 (7 ∷ 9 ∷ after_declared) (t4 ++ (t5 ++ rest)) r3 refl) (begins_else 0 (7 ∷ 9 ∷ after_declared) (t4 ++ (t5 ++ rest)) r3 refl) in
      let e4 = section_again ExportVector exports_at exports_lawful 7 s4 (t5 ++ rest) (begins_else 7 (9 ∷ after_declared) (t5 ++ rest) r4 refl) (begins_else 0 (9 ∷ after_declared) (t5 ++ rest) r4 refl) in
      let e5 = section_again NoItems no_items_at no_items_lawful 9 s5 rest (begins_else 9 after_declared rest starts refl) (begins_else 0 after_declared rest starts refl) in
      rw (e1, e2, e3, e4, e5) refl

  -- the steps of reading what comes after
  finish : Declared → Option ℕ → Option (List Func) → Option (List DataSegment) → List ℕ → Result Module Stop
  finish d count funcs segments rest = agreed_module d count funcs segments rest

  data_from : Declared → Option ℕ → Option (List Func) → List ℕ → Result Module Stop
  data_from d count funcs bytes = section_at (segments_at count) 11 bytes >>= λ s. finish d count funcs s.0 s.1

  code_from : Declared → Option ℕ → List ℕ → Result Module Stop
  code_from d count bytes = section_at (code_at bounds d.types d.indices) 10 bytes >>= λ c. data_from d count c.0 c.1

  pub count_from : Declared → List ℕ → Result Module Stop
  count_from d bytes = section_at u32_at 12 bytes >>= λ n. code_from d n.0 n.1

  pub module_steps : (bytes : List ℕ) → module_at bounds bytes ≡ (declared_at bounds bytes >>= λ d. count_from d.0 d.1)
  unfolding module_at bodies_at count_from code_from data_from finish
  module_steps bytes = refl

  count_step : (d : Declared) (bytes : List ℕ) (m : Module) → count_from d bytes ≡ Ok m → (x : Option ℕ × List ℕ) × (section_at u32_at 12 bytes ≡ Ok x) × (code_from d x.0 x.1 ≡ Ok m)
  unfolding count_from
  count_step d bytes m e = bound (section_at u32_at 12 bytes) (λ n. code_from d n.0 n.1) m e

  code_step : (d : Declared) (count : Option ℕ) (bytes : List ℕ) (m : Module) → code_from d count bytes ≡ Ok m
      → (x : Option (List Func) × List ℕ) × (section_at (code_at bounds d.types d.indices) 10 bytes ≡ Ok x) × (data_from d count x.0 x.1 ≡ Ok m)
  unfolding code_from
  code_step d count bytes m e = bound (section_at (code_at bounds d.types d.indices) 10 bytes) (λ c. data_from d count c.0 c.1) m e

  data_step : (d : Declared) (count : Option ℕ) (funcs : Option (List Func)) (bytes : List ℕ) (m : Module) → data_from d count funcs bytes ≡ Ok m
      → (x : Option (List DataSegment) × List ℕ) × (section_at (segments_at count) 11 bytes ≡ Ok x) × (finish d count funcs x.0 x.1 ≡ Ok m)
  unfolding data_from
  data_step d count funcs bytes m e = bound (section_at (segments_at count) 11 bytes) (λ s. finish d count funcs s.0 s.1) m e

  pub record Finished (d : Declared) (count : Option ℕ) (funcs : Option (List Func)) (segments : Option (List DataSegment)) (rest : List ℕ) (m : Module) : Type 0 where
    pub nothing : rest ≡ []
    pub functions_agree : length (items_of funcs) ≡ length d.indices
    pub segments_agree : Agrees count (length (items_of segments))
    pub made : (let k : Module = record { types = d.types; funcs = items_of funcs; memory = d.memory; globals = d.globals; exports = d.exports; «data» = items_of segments } in k) ≡ m

  finish_step : (d : Declared) (count : Option ℕ) (funcs : Option (List Func)) (segments : Option (List DataSegment)) (rest : List ℕ) (m : Module) → finish d count funcs segments rest ≡ Ok m → Finished d count funcs segments rest m
  unfolding finish
  finish_step d count funcs segments (id ∷ rest) m e = absurd cc
  finish_step d count funcs segments [] m e =
      let made : Module = record { types = d.types; funcs = items_of funcs; memory = d.memory; globals = d.globals; exports = d.exports; «data» = items_of segments } in
      let third : Result Module Stop = cond (agrees count (length (items_of segments))) (Ok made) (Err (stop CountMismatch 0)) in
      let b = met _ (eqb (length (items_of funcs)) (length d.indices)) third m e in
      let c = met _ (agrees count (length (items_of segments))) (Ok made) m b.1 in
      record {
        nothing = refl;
        functions_agree = eqb-true (length (items_of funcs)) (length d.indices) b.0;
        segments_agree = agreed count (length (items_of segments)) c.0;
        made = ok_is made m c.1;
      }

  pub record ModuleTook (bytes : List ℕ) (m : Module) : Type 0 where
    pub declared : Declared
    pub middle : List ℕ
    pub before : DeclaredTook bytes declared middle
    pub count_text : List ℕ
    pub code_text : List ℕ
    pub data_text : List ℕ
    pub count : Option ℕ
    pub funcs : Option (List Func)
    pub segments : Option (List DataSegment)
    pub parts : middle ≡ count_text ++ (code_text ++ data_text)
    pub count_section : Section U32 12 count_text count
    pub code_section : Section (Code bounds declared.types declared.indices) 10 code_text funcs
    pub data_section : Section (Segments count) 11 data_text segments
    pub finished : Finished declared count funcs segments [] m

  declared_fits : (bytes : List ℕ) (d : Declared) (rest : List ℕ) → IsBytes bytes → DeclaredTook bytes d rest → IsBytes rest
  declared_fits bytes d rest fits t =
      let fits0 = front_fits bytes t.front t.middle fits t.before in
      let flat : t.middle ≡ (t.table_text ++ (t.memory_text ++ (t.global_text ++ (t.export_text ++ t.element_text)))) ++ rest = t.parts ∙ simp append_assoc in
      fits_behind t.middle (t.table_text ++ (t.memory_text ++ (t.global_text ++ (t.export_text ++ t.element_text)))) rest fits0 flat

  pub module_took : (bytes : List ℕ) (m : Module) → IsBytes bytes → module_at bounds bytes ≡ Ok m → ModuleTook bytes m
  module_took bytes m fits e =
      let p = bound (declared_at bounds bytes) (λ d. count_from d.0 d.1) m (sym (module_steps bytes) ∙ e) in
      let t0 = declared_takes bytes p.0.0 p.0.1 fits p.1 in
      let fits0 = declared_fits bytes p.0.0 p.0.1 fits t0 in
      let a = count_step p.0.0 p.0.1 m p.2 in
      let t1 = section_takes U32 u32_at u32_lawful 12 p.0.1 a.0.0 a.0.1 fits0 a.1 in
      let fits1 = fits_behind p.0.1 t1.0 a.0.1 fits0 t1.1 in
      let b = code_step p.0.0 a.0.0 a.0.1 m a.2 in
      let t2 = section_takes (Code bounds p.0.0.types p.0.0.indices) (code_at bounds p.0.0.types p.0.0.indices) (code_lawful bounds p.0.0.types p.0.0.indices) 10 a.0.1 b.0.0 b.0.1 fits1 b.1 in
      let fits2 = fits_behind a.0.1 t2.0 b.0.1 fits1 t2.1 in
      let c = data_step p.0.0 a.0.0 b.0.0 b.0.1 m b.2 in
      let t3 = section_takes (Segments a.0.0) (segments_at a.0.0) (segments_lawful a.0.0) 11 b.0.1 c.0.0 c.0.1 fits2 c.1 in
      let f = finish_step p.0.0 a.0.0 b.0.0 c.0.0 c.0.1 m c.2 in
      record {
        declared = p.0.0;
        middle = p.0.1;
        before = t0;
        count_text = t1.0;
        code_text = t2.0;
        data_text = t3.0;
        count = a.0.0;
        funcs = b.0.0;
        segments = c.0.0;
        parts = t1.1 ∙ ap (λ (l : List ℕ). t1.0 ++ l) (t2.1 ∙ ap (λ (l : List ℕ). t2.0 ++ l) (t3.1 ∙ ap (λ (l : List ℕ). t3.0 ++ l) f.nothing ∙ append-nil t3.0));
        count_section = t1.2;
        code_section = t2.2;
        data_section = t3.2;
        finished = record { nothing = refl; functions_agree = f.functions_agree; segments_agree = f.segments_agree; made = f.made };
      }

  pub rest_again : {nt ct dt : List ℕ} {count : Option ℕ} {funcs : Option (List Func)} {segments : Option (List DataSegment)} → (d : Declared) → Section U32 12 nt count → Section (Code bounds d.types d.indices) 10 ct funcs
      → Section (Segments count) 11 dt segments → (m : Module) → Finished d count funcs segments [] m → count_from d (nt ++ (ct ++ dt)) ≡ Ok m
  unfolding count_from code_from data_from finish
  rest_again {nt = t1} {ct = t2} {dt = t3} {count = count} {funcs = funcs} {segments = segments} d s1 s2 s3 m f =
      let r3 : StartsIn (11 ∷ []) t3 = subst (λ (l : List ℕ). StartsIn (11 ∷ []) l) (append-nil t3) (starts_section s3 [] [] tt) in
      let r2 = starts_section s2 (11 ∷ []) t3 r3 in
      let e1 = section_again U32 u32_at u32_lawful 12 s1 (t2 ++ t3) (begins_else 12 (10 ∷ 11 ∷ []) (t2 ++ t3) r2 refl) (begins_else 0 (10 ∷ 11 ∷ []) (t2 ++ t3) r2 refl) in
      let e2 = section_again (Code bounds d.types d.indices) (code_at bounds d.types d.indices) (code_lawful bounds d.types d.indices) 10 s2 t3 (begins_else 10 (11 ∷ []) t3 r3 refl) (begins_else 0 (11 ∷ []) t3 r3 refl) in
      let e3 : section_at (segments_at count) 11 t3 ≡ Ok (segments, []) = ap (section_at (segments_at count) 11) (sym (append-nil t3)) ∙ section_again (Segments count) (segments_at count) (segments_lawful count) 11 s3 [] tt tt in
      rw (e1, e2, e3, eq-eqb (length (items_of funcs)) (length d.indices) f.functions_agree, agrees_again count (length (items_of segments)) f.segments_agree) (ap (λ (x : Module). let r : Result Module Stop = Ok x in r) f.made)
