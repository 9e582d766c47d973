-- A judgement with what it found of happens-before.
use Rattle.std.specs.Prelude.{⊤}
use Rattle.wm_event.specs.declared.rule.Judgement.{Judgement}
use Rattle.wm_event.specs.declared.rule.Judgement.TheVariants as judgement
use Rattle.wm_event.specs.LoggedRun.{LoggedRun}
use Rattle.wm_hb.specs.Steps.{IsHappensBefore}
use Rattle.wm_rules.specs.declared.scan.Finding.{Finding}
use Rattle.wm_rules.specs.declared.scan.Finding.TheVariants.{Valid, Broken}

abbrev pub judgement_of : Finding → Judgement
judgement_of (Valid closure) = judgement.Valid
judgement_of (Broken fault) = judgement.Broken fault

-- the closure of a valid run is that of its happens-before
abbrev pub HasClosure : LoggedRun → Finding → Type 0
HasClosure run (Valid closure) = IsHappensBefore run closure
HasClosure run (Broken fault) = ⊤
