-- Once no alternative is left, no witness makes the log valid.
use Rattle.std.proofs.Common.{ℕ, List, [], ◌∷◌, ◌++◌, ⊎_elim}
use Rattle.std.specs.Prelude.{All}
use Rattle.std.proofs.lemmas.List.Elements.{All-append, All-cons}
use Rattle.wm_event.specs.LoggedRun.{LoggedRun}
use Rattle.wm_writers.specs.Forced.{IsNeverValid, with_witness}
use Rattle.wm_writers.proofs.AllLemmas.{all-first, all-second, all-head, all-none}
use Rattle.wm_witness.specs.declared.assumption.Assumption.{Assumption}
use Rattle.wm_witness.specs.Assumptions.{Holds}
use Rattle.wm_witness.specs.Always.{IsClosed}
use Rattle.wm_witness.specs.Search.{Replaces, Searched}
use Rattle.wm_witness.specs.Search.Replaces.{closed, split, stays}
use Rattle.wm_witness.specs.Search.Searched.{start, step}
use Rattle.wm_witness.proofs.SplitLaw.{keeps-one}

kept-with : (run : LoggedRun) (node : List Assumption) (a : Assumption) → All (Holds run) node → Holds run a → All (Holds run) (node ++ a ∷ [])
kept-with run node a keeps h = All-append (Holds run) node (a ∷ []) keeps (All-cons (Holds run) a [] h (all-none (Holds run)))

-- an alternative is closed once its parts are
replaced : (run : LoggedRun) (node : List Assumption) (parts : List (List Assumption)) → Replaces run node parts → All (IsClosed run) parts → IsClosed run node
replaced run node parts (closed c) all = c
replaced run node parts (stays none) all = all-head (IsClosed run) node [] all
replaced run node parts (split {a = a} {b = b} new) all = λ witness shape valid keeps.
    let x = with_witness run witness in
    let other = all-head (IsClosed run) (node ++ b ∷ []) ((node ++ a ∷ []) ∷ []) all in
    let this = all-head (IsClosed run) (node ++ a ∷ []) [] (all-second (IsClosed run) ((node ++ b ∷ []) ∷ []) ((node ++ a ∷ []) ∷ []) all) in
    ⊎_elim
    (λ (h : Holds x a). this witness shape valid (kept-with x node a keeps h))
    (λ (h : Holds x b). other witness shape valid (kept-with x node b keeps h))
    (keeps-one x a b shape new.opposite)

-- once all that is left is closed, so is the first alternative
left-closed : (run : LoggedRun) (wanted : List Assumption) (n : ℕ) (waiting : List (List Assumption)) → Searched run wanted n waiting → All (IsClosed run) waiting → IsClosed run wanted
left-closed run wanted n waiting start all = all-head (IsClosed run) wanted [] all
left-closed run wanted n waiting (step m rest node parts before replaces) all =
    left-closed run wanted m (rest ++ node ∷ []) before
    (All-append (IsClosed run) rest (node ∷ []) (all-first (IsClosed run) rest parts all)
    (All-cons (IsClosed run) node [] (replaced run node parts replaces (all-second (IsClosed run) rest parts all)) (all-none (IsClosed run))))

pub none-left : (run : LoggedRun) (wanted : List Assumption) (n : ℕ) → Searched run wanted n [] → IsClosed run wanted
none-left run wanted n searched = left-closed run wanted n [] searched (all-none (IsClosed run))

-- what nothing is wanted of keeps all of it
pub none-at-all : (run : LoggedRun) → IsClosed run [] → IsNeverValid run
none-at-all run none = λ witness shape valid. none witness shape valid (all-none (Holds (with_witness run witness)))
