-- What a legal history records is valid.
use Rattle.std.proofs.Common.{ℕ, List, ◌<◌, All}
use Rattle.wm_event.specs.Rules.{IsValid}
use Rattle.wm_memory.specs.Law.{LegalIsValid, LegalIsWellShaped}
use Rattle.wm_memory.specs.Visibility.{Step, steps}
use Rattle.wm_memory.proofs.ByKey.{recorded}
use Rattle.wm_memory.proofs.Sound.{Sound, sound_steps}
use Rattle.wm_memory.proofs.Known.{keeps_order}
use Rattle.wm_memory.proofs.Valid.{keeps_coherence, keeps_sequential_consistency, keeps_no_tearing}
use Rattle.wm_memory.proofs.Values.{keeps_written_values}
use Rattle.wm_memory.proofs.Carried.{carried}
use Rattle.wm_memory.proofs.Listed.{in_threads, agrees}
use Rattle.wm_memory.proofs.Shape.{well_shaped}

pub steps_valid : (initial : List ℕ) (s : List Step) → All (λ b. b < 256) initial → Sound initial s → IsValid (recorded initial s)
steps_valid initial s bytes g = record {
  keeps_written_values = keeps_written_values initial s bytes g;
  keeps_order = keeps_order initial s g;
  keeps_coherence = keeps_coherence initial s g;
  keeps_no_tearing = keeps_no_tearing initial s g;
  keeps_sequential_consistency = keeps_sequential_consistency initial s g;
}

pub legal_is_valid : LegalIsValid
legal_is_valid = λ threads initial history run bytes legal r. (
    let g = sound_steps threads initial history legal in
    carried (agrees threads initial (steps initial history) run g (in_threads threads initial history legal) r) (steps_valid initial (steps initial history) bytes g))

pub legal_is_well_shaped : LegalIsWellShaped
legal_is_well_shaped = λ threads initial history run bytes legal r.
    well_shaped threads initial history run bytes legal r
