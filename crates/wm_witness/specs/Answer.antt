-- What the answer of a search says of the log, and of its witnesses that keep some assumptions.
use Rattle.std.specs.Prelude.{ℕ, List}
use Rattle.wm_event.specs.LoggedRun.{LoggedRun, execution}
use Rattle.wm_event.specs.Rules.{IsValid}
use Rattle.wm_event.specs.Shape.{IsWellShaped}
use Rattle.wm_writers.specs.Forced.{IsNeverValid, with_witness}
use Rattle.wm_witness.specs.declared.answer.Answer.{Answer}
use Rattle.wm_witness.specs.declared.answer.Answer.TheVariants.{Found, NoWitness, GaveUp}
use Rattle.wm_witness.specs.declared.assumption.Assumption.{Assumption}
use Rattle.wm_witness.specs.Always.{IsClosed, IsValidWith}
use Rattle.wm_witness.specs.Assumptions.{Keeps}
use Rattle.wm_witness.specs.Search.{IsLeftOpen}

-- if a witness was found: the log with it is well shaped and valid
abbrev pub FoundIsValid : LoggedRun → Answer → Type 0
FoundIsValid run (Found witness) = IsWellShaped (with_witness run witness) × IsValid (execution (with_witness run witness))
FoundIsValid run NoWitness = Unit {0}
FoundIsValid run GaveUp = Unit {0}

-- if it is that there is no witness: there is none
abbrev pub NoneIsNever : LoggedRun → Answer → Type 0
NoneIsNever run (Found witness) = Unit {0}
NoneIsNever run NoWitness = IsNeverValid run
NoneIsNever run GaveUp = Unit {0}

-- if a witness was found: the log is valid with it, and it keeps the assumptions
abbrev pub FoundKeeps : LoggedRun → List Assumption → Answer → Type 0
FoundKeeps run wanted (Found witness) = IsValidWith run witness × Keeps (with_witness run witness) wanted
FoundKeeps run wanted NoWitness = Unit {0}
FoundKeeps run wanted GaveUp = Unit {0}

-- if it is that there is no witness: none makes the log valid and keeps the assumptions
abbrev pub NoneKeeps : LoggedRun → List Assumption → Answer → Type 0
NoneKeeps run wanted (Found witness) = Unit {0}
NoneKeeps run wanted NoWitness = IsClosed run wanted
NoneKeeps run wanted GaveUp = Unit {0}

-- if the search gave up: it took exactly so many steps, and some alternative was left
abbrev pub GaveUpAfter : LoggedRun → List Assumption → ℕ → Answer → Type 0
GaveUpAfter run wanted nodes (Found witness) = Unit {0}
GaveUpAfter run wanted nodes NoWitness = Unit {0}
GaveUpAfter run wanted nodes GaveUp = IsLeftOpen run wanted nodes
