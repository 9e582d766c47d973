-- The answer about a fault.
use Rattle.std.specs.Prelude.{◌≡◌, ℕ, ◌+◌, ◌<◌, ◌⊎◌, List, Some, IsSome, All, map, slice_get}
use Rattle.wm_event.specs.declared.event.Event.{Event}
use Rattle.wm_event.specs.declared.rule.RuleFault.{RuleFault}
use Rattle.wm_event.specs.declared.rule.Judgement.TheVariants.{Broken}
use Rattle.wm_event.specs.Faults.{Breaks, Judges}
use Rattle.wm_event.specs.Log.{event_in}
use Rattle.wm_event.specs.LoggedRun.{LoggedRun, execution}
use Rattle.wm_writers.specs.Fits.{fitting}
use Rattle.wm_writers.specs.Forced.{IsForcedFault, IsNeverValid, Meets}
use Rattle.wm_writers.specs.Lasting.{DependsOnOrder, Lasts}
use Rattle.wm_writers.specs.Needs.{needs}
use Rattle.wm_writers.specs.declared.need.Need.{Need}
use Rattle.wm_writers.specs.declared.source.ByteFit.{ByteFit}
use Rattle.wm_writers.specs.declared.source.Source.{Source}
use Rattle.wm_writers.specs.declared.writers.FaultWriters.{FaultWriters}
use Rattle.wm_writers.specs.declared.writers.Writers.{Writers}
use Rattle.wm_writers.specs.declared.writers.Writers.TheVariants.{Only, Several, Other}

-- the address of a byte of the read e, and all ids that fit the byte
pub record IsByteFit (run : LoggedRun) (e : Event) (b : ByteFit) : Type 0 where
  pub address : b.address ≡ e.address + b.byte
  pub fit : b.fit ≡ fitting run.log run.initial e b.byte

-- the byte satisfies the need, and is listed with its address and all ids that fit it
abbrev pub IsByteOf : LoggedRun → Need → ByteFit → Type 0
IsByteOf run need b = Meets (execution run) need b.byte × ((e : Event) × (event_in run.log need.reader ≡ Some e) × IsByteFit run e b)

-- byte k is listed
abbrev pub HasByte : List ByteFit → ℕ → Type 0
HasByte bytes k = (n : ℕ) × (b : ByteFit) × (slice_get bytes n ≡ Some b) × (b.byte ≡ k)

-- each byte of the read that satisfies the need, once, the lowest first
pub record IsSource (run : LoggedRun) (s : Source) : Type 0 where
  pub each : All (IsByteOf run s.need) s.bytes
  pub all : IsSome (event_in run.log s.need.reader) → (k : ℕ) → Meets (execution run) s.need k → HasByte s.bytes k
  pub rising : (m n : ℕ) (a b : ByteFit) → m < n → slice_get s.bytes m ≡ Some a → slice_get s.bytes n ≡ Some b → a.byte < b.byte

-- chains that show that no order mends the fault, and a source for each thing that it needs, given these chains
pub record AreWriters (run : LoggedRun) (f : RuleFault) (w : FaultWriters) : Type 0 where
  pub lasts : Lasts (execution run) f w.chains
  pub needs : map (λ s. s.need) w.sources ≡ needs f w.chains
  pub sources : All (IsSource run) w.sources

-- Only exactly if these chains show a forced fault; Other only if another order may mend it, or it isn't the run's first fault
abbrev pub IsAnswer : LoggedRun → RuleFault → Writers → Type 0
IsAnswer run f (Only w) = AreWriters run f w × IsForcedFault run f w.chains
IsAnswer run f (Several w) = AreWriters run f w × (IsForcedFault run f w.chains → ⊥)
IsAnswer run f Other = DependsOnOrder (execution run) f.rule ⊎ (Judges (execution run) (Broken f) → ⊥)

-- if a rule is broken as the fault states, and the answer is Only, then no witness mends it
abbrev pub StaysIfOnly : LoggedRun → RuleFault → Writers → Type 0
StaysIfOnly run f (Only w) = Breaks (execution run) f → IsNeverValid run
StaysIfOnly run f (Several w) = Unit {0}
StaysIfOnly run f Other = Unit {0}
