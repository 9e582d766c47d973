-- Why nothing is spelled, from one value to another.
use Rattle.std.proofs.Common.{◌≡◌, ◌∙◌, Option, None, sym, subst}
use Rattle.std.specs.Prelude.{IfErr, IsErrAnd, OnOk, Result, Ok, Err, is_ok, if◌then◌else◌, List}
use Rattle.wm_command.specs.declared.fault.WordFault.{WordFault}
use Rattle.wm_command.specs.declared.fault.WordFault.TheVariants.{Turns, Rounds, Start, Nodes, Events, OutOfMemory}
use Rattle.wm_command.specs.Faults.{Misses}

-- where the one value is missing, the other is
pub misses_on : {A B : Type 0} (cause : WordFault) (a : Option A) (b : Option B) (fault : WordFault) → (a ≡ None → b ≡ None) → Misses cause a fault → Misses cause b fault
misses_on cause a b Turns on h = (h.0, on h.1)
misses_on cause a b Rounds on h = (h.0, on h.1)
misses_on cause a b Start on h = (h.0, on h.1)
misses_on cause a b Nodes on h = (h.0, on h.1)
misses_on cause a b Events on h = (h.0, on h.1)
misses_on cause a b OutOfMemory on h = tt

-- an error that is handed on
pub handed_on : {A E : Type 0} (r : Result A E) (fault : E) (P : E → Type 0) → IsErrAnd r (λ e. e ≡ fault) → P fault → IfErr r P
handed_on (Ok value) fault P same h = tt
handed_on (Err e) fault P same h = subst P (sym same) h

-- what a list is where a call succeeded
pub where_ok : {A E X : Type 0} (r : Result A E) (new some others target : List X) → new ≡ (if is_ok r then some else others) → some ≡ target → OnOk r (new ≡ target)
where_ok (Ok value) new some others target is same = is ∙ same
where_ok (Err e) new some others target is same = tt
