-- Runs are not receptive to values that don't fit, nor does a compare-exchange keep its kind.
use Rattle.std.proofs.Common.{◌≡◌, ℕ, zero, suc, ◌^◌, ◌≤◌, Bool, List, [], ◌∷◌, None, Some, false, refl, sym, ap, ◌∙◌, arith, if◌then◌else◌}
use Rattle.std.proofs.lemmas.Bool.{false≢true}
use Rattle.std.proofs.lemmas.Option.{none-some, same_Some}
use Rattle.wm_access.specs.declared.AccessWidth.TheVariants.{Four}
use Rattle.wm_access.specs.declared.MemoryOrder.TheVariants.{SeqCst}
use Rattle.wm_ast.specs.declared.access.AccessKind.TheVariants.{CmpXchg}
use Rattle.wm_ast.specs.declared.exports.ExportKind.TheVariants.{Func}
use Rattle.wm_ast.specs.declared.instr.Instr.TheVariants.{Access, I32Const}
use Rattle.wm_ast.specs.declared.module.Module.{Module}
use Rattle.wm_ast.specs.declared.types.ValType.TheVariants.{I32}
use Rattle.wm_event.specs.declared.event.Event.{Event}
use Rattle.wm_event.specs.declared.event.EventKind.TheVariants.{Read}
use Rattle.wm_event.specs.declared.log.End.{End}
use Rattle.wm_event.specs.declared.log.End.TheVariants.{Cut}
use Rattle.wm_event.specs.declared.log.ThreadLog.{ThreadLog}
use Rattle.wm_event.specs.Event.{writes}
use Rattle.wm_machine.specs.Run.{Outcome, run}
use Rattle.wm_replay.specs.Replay.{IsRun, reads_of}
use Rattle.wm_sequential.specs.Weaker.{AnyValueIsRead, KindsAreKept, with_read}
use Rattle.wm_sequential.proofs.ThreadRuns.{one-access}

-- a function that stores 2 in place of 1 at address 0
abbrev exchange : Module
exchange = record {
  types = record { params = []; result = Some I32 } ∷ [];
  funcs = record { type_index = 0; locals = []; blocks = (I32Const 0 ∷ I32Const 1 ∷ I32Const 2 ∷ Access (CmpXchg I32) record { alignment = 2; offset = 0 } ∷ []) ∷ [] } ∷ [];
  memory = Some record { limits = record { minimum = 1; maximum = 1 }; «import» = None };
  globals = [];
  exports = ([], record { kind = Func; index = 0 }) ∷ [];
  «data» = [];
}

-- it reads 0, so it fails
abbrev fails : Event
fails = record { thread = 0; number = 0; kind = Read; order = SeqCst; address = 0; width = Four; read = 0; written = 0 }

abbrev thread : ThreadLog
thread = record { start = record { name = []; args = [] }; end = Cut; steps = 4; events = fails ∷ [] }

is-run : IsRun exchange 0 thread
is-run = refl

abbrev first_writes : List Event → Bool
first_writes [] = false
first_writes (e ∷ es) = writes e

-- when it reads 1 it writes
reads-one : (n : ℕ) (end : End) → n ≤ 4 → run exchange 0 [] [] (1 ∷ []) n ≡ Some record { events = with_read fails 1 ∷ []; end = end } → ⊥
reads-one zero end l h = none-some _ h
reads-one (suc zero) end l h = none-some _ h
reads-one (suc (suc zero)) end l h = none-some _ h
reads-one (suc (suc (suc zero))) end l h = none-some _ h
reads-one (suc (suc (suc (suc zero)))) end l h = false≢true (sym (ap (λ (o : Outcome). first_writes o.events) (same_Some _ _ h)))
reads-one (suc (suc (suc (suc (suc n))))) end l h = absurd (omega (arith, l))

pub kinds-fail : KindsAreKept → ⊥
kinds-fail kept =
    let c = kept exchange 0 thread 0 fails 1 is-run refl refl refl (omega arith) in
    let start = c.1.start in
    let events = c.1.made in
    reads-one c.0.steps c.0.end c.1.fewer (
    sym (λ i. run exchange 0 (start i).name (start i).args (reads_of (events i)) c.0.steps)
    ∙ c.1.run
    ∙ (λ i. Some record { events = events i; end = c.0.end })
    )

-- it can't read what doesn't fit
reads-misfit : (n : ℕ) (o : Outcome) → n ≤ 4 → run exchange 0 [] [] (2 ^ 32 ∷ []) n ≡ Some o → ⊥
reads-misfit zero o l h = none-some o h
reads-misfit (suc zero) o l h = none-some o h
reads-misfit (suc (suc zero)) o l h = none-some o h
reads-misfit (suc (suc (suc zero))) o l h = none-some o h
reads-misfit (suc (suc (suc (suc zero)))) o l h = none-some o h
reads-misfit (suc (suc (suc (suc (suc n))))) o l h = absurd (omega (arith, l))

pub any-value-fails : AnyValueIsRead → ⊥
any-value-fails any =
    let c = any exchange 0 thread 0 fails (2 ^ 32) is-run refl refl in
    let start = c.3.start in
    let events = c.3.made in
    let one = one-access fails c.1 (2 ^ 32) c.2 refl in
    let read : reads_of (c.1 ∷ []) ≡ 2 ^ 32 ∷ [] = ap (λ b. if b then c.1.read ∷ [] else []) one.does ∙ ap (λ n. n ∷ []) one.read in
    reads-misfit c.0.steps record { events = c.0.events; end = c.0.end } c.3.fewer (
    sym (ap (λ rs. run exchange 0 [] [] rs c.0.steps) read)
    ∙ sym (λ i. run exchange 0 (start i).name (start i).args (reads_of (events i)) c.0.steps)
    ∙ c.3.run
    )
