-- Data race free programs are sequential.
use Rattle.std.proofs.Common.{◌≡◌, ℕ, ◌<◌, Bool, true, false, length, slice_get, IsTrue, refl, sym, ap, ◌∙◌, arith, if◌then◌else◌}
use Rattle.std.proofs.lemmas.Option.{same_Some, slice_get_within}
use Rattle.wm_access.specs.AccessWidth.{bytes_of}
use Rattle.wm_event.specs.Event.{reads}
use Rattle.wm_event.specs.Execution.{Execution}
use Rattle.wm_event.specs.LoggedRun.{execution}
use Rattle.wm_event.proofs.PlaceLemmas.{position_listed}
use Rattle.wm_sequential.specs.ModulePrograms.{DataRaceFreeProgramsAreSequential, IsExecutionOf}
use Rattle.wm_sequential.specs.Programs.{ReadsItsBytes}
use Rattle.wm_sequential.proofs.CutLaw.{standard-race-freedom-is-enough}
use Rattle.wm_sequential.proofs.Receptive.{receptive}
use Rattle.wm_sequential.proofs.SequentialLaw.{race-free-runs-are-sequential}

read-within : (b : Bool) (n m k : ℕ) → m ≡ (if b then n else 0) → k < m → IsTrue b × (k < n)
read-within true n m k e l = (refl, omega (arith, e, l))
read-within false n m k e l = absurd (omega (arith, e, l))

pub data-race-free-programs-are-sequential : DataRaceFreeProgramsAreSequential
data-race-free-programs-are-sequential p run free is_log initial shape valid =
    race-free-runs-are-sequential run shape valid (standard-race-freedom-is-enough (IsExecutionOf p)
    (λ x r v e g ex valid none is_r is_v does only does_write unordered. receptive p x ex valid none r v e g is_r is_v does only does_write unordered)
    (λ x ex. (counts x ex, ex.places)) free (execution run) itself valid)
  where
    counts : (x : Execution) → IsExecutionOf p x → ReadsItsBytes x
    counts x ex r e k w is_r from = read-within (reads e) (bytes_of e.width) (length (x.writers_of r)) k (ex.writers r e is_r) (slice_get_within (x.writers_of r) k w from)

    itself : IsExecutionOf p (execution run)
    itself = record {
      log = run.log;
      is_log = is_log;
      events = λ key. refl;
      writers = λ key e at. (shape.good key e at).count;
      places = λ a b h k same.
          let p = shape.order.listed a h in
          let q = shape.order.listed b k in
          let s = position_listed run.log run.witness.order shape.order p.0 a p.1 in
          let t = position_listed run.log run.witness.order shape.order q.0 b q.1 in
          let n : p.0 ≡ q.0 = sym s ∙ same ∙ t in
          same_Some a b (sym p.1 ∙ ap (slice_get run.witness.order) n ∙ q.1);
      initial = initial;
    }
