-- The witness of a log fits the completed log too.
use Rattle.std.proofs.Common.{◌≡◌, ℕ, suc, ◌<◌, List, [], ◌∷◌, length, get_or, Some, refl, sym, ap, ap₂, subst, ◌∙◌, arith}
use Rattle.std.specs.Prelude.{All, slice_get}
use Rattle.std.proofs.lemmas.Option.{slice_get-get_or}
use Rattle.wm_ast.specs.declared.module.Module.{Module}
use Rattle.wm_event.specs.declared.log.ThreadLog.{ThreadLog}
use Rattle.wm_event.specs.declared.witness.Witness.{Witness}
use Rattle.wm_event.specs.Fitting.{FitsEvent, FitsLog}
use Rattle.wm_event.specs.Shape.{event_counts}
use Rattle.wm_replay.specs.Complete.{IsCompletion}

-- the threads at the same place have the same events
abbrev pub HaveSameEvents : List ThreadLog → List ThreadLog → Type 0
HaveSameEvents log completed = (k : ℕ) (t c : ThreadLog) → slice_get log k ≡ Some t → slice_get completed k ≡ Some c → c.events ≡ t.events

pub same_counts : (log completed : List ThreadLog) → length completed ≡ length log → HaveSameEvents log completed → event_counts completed ≡ event_counts log
same_counts [] [] e same = refl
same_counts [] (c ∷ completed) e same = absurd (omega (arith, e))
same_counts (t ∷ log) [] e same = absurd (omega (arith, e))
same_counts (t ∷ log) (c ∷ completed) e same =
    ap₂ (λ n ns. n ∷ ns) (ap length (same 0 t c refl refl)) (same_counts log completed (omega (arith, e)) (λ k. same (suc k)))

same_writes : (w : Witness) (log completed : List ThreadLog) → length completed ≡ length log → HaveSameEvents log completed
    → All (λ thread. All (FitsEvent w) thread.events) log → All (λ (thread : ThreadLog). All (FitsEvent w) thread.events) completed
same_writes w log completed e same all k d lt =
    let there : k < length log = omega (arith, lt, e) in
    subst (All (FitsEvent w))
    (sym (same k (get_or log k d) (get_or completed k d) (slice_get-get_or log k d there) (slice_get-get_or completed k d lt)))
    (all k d there)

pub have_same_events : (m : Module) (log completed : List ThreadLog) → IsCompletion m log completed → HaveSameEvents log completed
have_same_events m log completed is = λ k t c at there. (is.threads k t c at there).events

pub completed_fits : (m : Module) (log completed : List ThreadLog) (w : Witness) → IsCompletion m log completed → FitsLog log w → FitsLog completed w
completed_fits m log completed w is fits =
    let same : HaveSameEvents log completed = have_same_events m log completed is in record {
      counts = fits.counts ∙ sym (same_counts log completed is.count same);
      writes = same_writes w log completed is.count same fits.writes;
    }
