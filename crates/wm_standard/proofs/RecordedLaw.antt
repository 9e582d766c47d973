-- What one memory records looks back, so it is an execution of ECMA-262.
use Rattle.std.proofs.Common.{◌≡◌, ℕ, ◌<◌, List, [], Some, length, slice_get, sym, ap, ◌∙◌, subst, arith}
use Rattle.std.specs.Option.{option_map_or}
use Rattle.wm_access.specs.AccessWidth.{bytes_of}
use Rattle.wm_event.specs.declared.event.Event.{Event}
use Rattle.wm_event.specs.declared.event.EventId.TheVariants.{At}
use Rattle.wm_event.specs.Log.{event_in}
use Rattle.wm_event.specs.LoggedRun.{LoggedRun, execution}
use Rattle.wm_memory.specs.declared.history_step.HistoryStep.{HistoryStep}
use Rattle.wm_memory.specs.Visibility.{steps}
use Rattle.wm_memory.specs.Legal.{IsLegal}
use Rattle.wm_memory.specs.Recorded.{Records}
use Rattle.wm_memory.proofs.Carried.{Agrees}
use Rattle.wm_memory.proofs.ByKey.{recorded}
use Rattle.wm_memory.proofs.Listed.{agrees, in_threads}
use Rattle.wm_memory.proofs.Main.{legal_is_valid, legal_is_well_shaped}
use Rattle.wm_memory.proofs.Sound.{Sound, sound_steps}
use Rattle.wm_memory.proofs.Valid.{read_before}
use Rattle.wm_standard.specs.Agreement.{UpdatesLookBack}
use Rattle.wm_standard.specs.Recorded.{HasOperations, RecordedIsStandard, RecordedIsStandardByBytes}
use Rattle.wm_standard.specs.Transcribed.{Operation, bytes_from}
use Rattle.wm_standard.proofs.Events.{some_of}
use Rattle.wm_standard.proofs.Agreement.{to-standard}
use Rattle.wm_standard.proofs.ByteAgreement.{to-bytes-standard}
use Rattle.wm_standard.proofs.Ending.{values-end}

module _ (threads : ℕ) (initial : List ℕ) (history : List HistoryStep) (run : LoggedRun) (legal : IsLegal threads initial history) (records : Records threads initial (steps initial history) run) where
  sound : Sound initial (steps initial history)
  sound = sound_steps threads initial history legal

  same : Agrees (recorded initial (steps initial history)) (execution run)
  same = agrees threads initial (steps initial history) run sound (in_threads threads initial history legal) records

  pub look-back : UpdatesLookBack (execution run)
  look-back r u e f k is_r update from is_u other =
      let is_r' = sym (same.events r) ∙ is_r in
      let is_u' = sym (same.events u) ∙ is_u in
      let from' = subst (λ ws. slice_get ws k ≡ Some (At u)) (same.writers r) from in
      let l = read_before initial (steps initial history) r e k (At u) sound is_r' from' in
      let p = same.places r (some_of ((recorded initial (steps initial history)).event_of r) e is_r') in
      let q = same.places u (some_of ((recorded initial (steps initial history)).event_of u) f is_u') in
      omega (arith, l, p, q)

  pub is-large : 8 < length initial → 8 < length run.initial
  is-large l = subst (λ bytes. 8 < length bytes) (sym records.memory) l

pub recorded-is-standard : RecordedIsStandard
recorded-is-standard threads initial history run ops bytes legal records fitting large =
    to-standard run ops (legal_is_well_shaped threads initial history run bytes legal records) fitting (is-large threads initial history run legal records large)
    (legal_is_valid threads initial history run bytes legal records) (values-end (execution run) (look-back threads initial history run legal records))

pub recorded-is-standard-by-bytes : RecordedIsStandardByBytes
recorded-is-standard-by-bytes threads initial history run ops bytes legal records fitting large =
    to-bytes-standard run ops (legal_is_well_shaped threads initial history run bytes legal records) fitting (is-large threads initial history run legal records large)
    (legal_is_valid threads initial history run bytes legal records) (values-end (execution run) (look-back threads initial history run legal records))

-- an update that stores its operand
stores : Event → Operation
stores e = record { modify_op = λ bytes payload. payload; operand = bytes_from e.written 0 (bytes_of e.width) }

nothing : Operation
nothing = record { modify_op = λ bytes payload. payload; operand = [] }

pub has-operations : HasOperations
unfolding stores
has-operations run = (
  λ key. option_map_or stores (event_in run.log key) nothing,
  λ key e there update.
      ap (λ o. (option_map_or stores o nothing).modify_op (bytes_from e.read 0 (bytes_of e.width)) (option_map_or stores o nothing).operand) there,
)
