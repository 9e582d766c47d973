-- The start of a thread.
use Rattle.std.specs.Prelude.{ℕ, ◌^◌, List, [], ◌∷◌, ◌++◌, map, length, Bool, false, ◌==◌, ◌||◌, nat_le, Result, Ok, Err, Option, Some, None, if◌then◌else◌}
use Rattle.wm_num.specs.Number.{bits_of}
use Rattle.wm_ast.specs.declared.module.Module.{Module}
use Rattle.wm_ast.specs.declared.types.ValType.{ValType}
use Rattle.wm_ast.specs.declared.exports.Export.{Export}
use Rattle.wm_ast.specs.declared.exports.ExportKind.{ExportKind}
use Rattle.wm_ast.specs.declared.exports.ExportKind.TheVariants as export
use Rattle.wm_ast.specs.Types.{width_of}
use Rattle.wm_ast.specs.Exports.{export_at}
use Rattle.wm_machine.specs.declared.fault.StartFault.{StartFault}
use Rattle.wm_machine.specs.declared.fault.StartFault.TheVariants.{NoExport, NotFunction, ArgCount, ArgRange}
use Rattle.wm_machine.specs.declared.value.TypedValue.{TypedValue}
use Rattle.wm_machine.specs.Values.{typed, zero_of, initial_of}
use Rattle.wm_machine.specs.Functions.{Callable, callable}
use Rattle.wm_machine.specs.Term.{Here, Config, Running}

-- the function that an export names
abbrev pub func_at : ExportKind → ℕ → Option ℕ
func_at export.Func index = Some index
func_at export.Memory index = None
func_at export.Global index = None

abbrev pub func_of : Export → Option ℕ
func_of e = func_at e.kind e.index

-- some argument doesn't fit its parameter
abbrev pub any_past : List ValType → List ℕ → Bool
any_past [] args = false
any_past (t ∷ params) [] = false
any_past (t ∷ params) (a ∷ args) = nat_le (2 ^ bits_of (width_of t)) a || any_past params args

-- each argument as a value of its parameter's type
abbrev pub arguments : List ValType → List ℕ → List TypedValue
arguments [] args = []
arguments (t ∷ params) [] = []
arguments (t ∷ params) (a ∷ args) = typed (width_of t) a ∷ arguments params args

abbrev pub started_with : Module → ℕ → Callable → List ℕ → Config
started_with m func f args =
    Running func record { locals = arguments f.params args ++ map zero_of f.locals; globals = map initial_of m.globals } (Here [] f.body)

abbrev pub started_in : Module → ℕ → Option Callable → List ℕ → Result Config StartFault
started_in m func None args = Err NotFunction
started_in m func (Some f) args =
    if length args == length f.params then (if any_past f.params args then Err ArgRange else Ok (started_with m func f args)) else Err ArgCount

abbrev pub started_by : Module → Option ℕ → List ℕ → Result Config StartFault
started_by m None args = Err NotFunction
started_by m (Some func) args = started_in m func (callable m func) args

abbrev pub started_at : Module → Option Export → List ℕ → Result Config StartFault
started_at m None args = Err NoExport
started_at m (Some e) args = started_by m (func_of e) args

-- the first configuration of a thread that starts with the export of this name, or the first fault
abbrev pub started : Module → List ℕ → List ℕ → Result Config StartFault
started m name args = started_at m (export_at name m.exports) args
