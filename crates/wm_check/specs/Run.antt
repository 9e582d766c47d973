-- What the bytes of a module and of a document spell.
use Rattle.std.specs.Prelude.{ℕ, List}
use Rattle.wm_ast.specs.declared.module.Module.{Module}
use Rattle.wm_decode.specs.Module.{SpellsWithin}
use Rattle.wm_event.specs.LoggedRun.{LoggedRun}
use Rattle.wm_event.specs.Shape.{IsWellShaped}
use Rattle.wm_logfile.specs.DocumentBytes.{IsDocumentOf}
use Rattle.wm_valid.specs.Valid.{IsInit, Valid}

-- the bytes spell a valid module of the profile
pub record IsModuleOf (module_bytes : List ℕ) («module» : Module) : Type 0 where
  pub spelled : SpellsWithin module_bytes «module»
  pub valid : Valid «module»

-- the bytes spell a valid module, and a log with a witness, over the module's initial memory
pub record IsRunOf (module_bytes document_bytes : List ℕ) («module» : Module) (run : LoggedRun) : Type 0 where
  pub modules : IsModuleOf module_bytes «module»
  pub document : IsDocumentOf document_bytes run.log run.witness
  pub initial : IsInit «module» run.initial

-- the log, the witness and the initial memory are a candidate
pub record IsCandidateOf (module_bytes document_bytes : List ℕ) («module» : Module) (run : LoggedRun) : Type 0 where
  pub is_run : IsRunOf module_bytes document_bytes «module» run
  pub shape : IsWellShaped run
