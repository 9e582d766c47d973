-- A run has done after fewer steps a prefix of what it has done after more.
use Rattle.std.proofs.Common.{◌≡◌, ℕ, suc, zero, ◌+◌, ◌*◌, ◌^◌, Bool, true, false, cond, nat_lt, List, [], ◌∷◌, ◌++◌, length, Option, Some, None, refl, sym, ap, subst, ◌∙◌, append_assoc, arith}
use Rattle.std.proofs.lemmas.Option.{none-some, same_Some}
use Rattle.std.proofs.lemmas.Bool.{ltb-true}
use Rattle.std.proofs.lemmas.List.{append-nil}
use Rattle.wm_access.specs.declared.AccessWidth.{AccessWidth}
use Rattle.wm_access.specs.declared.AccessWidth.TheVariants.{One, Two, Four, Eight}
use Rattle.wm_access.specs.AccessWidth.{bytes_of, Fits}
use Rattle.wm_ast.specs.declared.module.Module.{Module}
use Rattle.wm_event.specs.declared.event.Event.{Event}
use Rattle.wm_event.specs.declared.op.OpFields.{OpFields}
use Rattle.wm_event.specs.Op.{event_made, kind_finds}
use Rattle.wm_machine.specs.Term.{Config, Step, ReducesTo, NoStep}
use Rattle.wm_machine.specs.Step.{access_of, step}
use Rattle.wm_machine.specs.Run.{Ran, Taken, Outcome, and_run_on, end_of, noted, outcome_of, outcome_with, ran_on, ran_with, run_on, steps, take_read, take_where}

-- ---- events are only added

pub grows_on : (k : ℕ) (ran : Ran) (taken : Taken) (s : Step) (ran' : Ran) → ran_on k ran taken s ≡ Some ran' → (es : List Event) × (ran'.events ≡ ran.events ++ es)
grows_on k ran taken NoStep ran' e = absurd (none-some ran' e)
grows_on k ran taken (ReducesTo made c) ran' e =
    (noted k (length ran.events) made taken.read, ap (λ (r : Ran). r.events) (sym (same_Some _ _ e)))

pub grows_with : (m : Module) (k : ℕ) (ran : Ran) (taken : Option Taken) (ran' : Ran) → ran_with m k ran taken ≡ Some ran' → (es : List Event) × (ran'.events ≡ ran.events ++ es)
grows_with m k ran None ran' e = absurd (none-some ran' e)
grows_with m k ran (Some taken) ran' e = grows_on k ran taken (step m taken.read ran.config) ran' e

pub grows : (m : Module) (k : ℕ) (ran ran' : Ran) → run_on m k ran ≡ Some ran' → (es : List Event) × (ran'.events ≡ ran.events ++ es)
grows m k ran ran' e = grows_with m k ran (take_read (access_of (step m 0 ran.config)) ran.reads) ran' e

-- ---- more steps

-- this number of further steps
abbrev pub more : Module → ℕ → ℕ → Option Ran → Option Ran
more m k zero o = o
more m k (suc i) o = and_run_on m k (more m k i o)

pub steps_more : (m : Module) (k : ℕ) (c : Config) (reads : List ℕ) (i j n : ℕ) → n ≡ i + j → steps m k c reads n ≡ more m k i (steps m k c reads j)
steps_more m k c reads zero j n e = let same : n ≡ j = omega (arith, e) in ap (steps m k c reads) same
steps_more m k c reads (suc i) j zero e = absurd (omega (arith, e))
steps_more m k c reads (suc i) j (suc n) e = ap (and_run_on m k) (let same : n ≡ i + j = omega (arith, e) in steps_more m k c reads i j n same)

pub more_none : (m : Module) (k i : ℕ) → more m k i None ≡ None
more_none m k zero = refl
more_none m k (suc i) = ap (and_run_on m k) (more_none m k i)

pub and_some : (m : Module) (k : ℕ) (o : Option Ran) (ran' : Ran) → and_run_on m k o ≡ Some ran' → (ran : Ran) × (o ≡ Some ran) × (run_on m k ran ≡ Some ran')
and_some m k None ran' e = absurd (none-some ran' e)
and_some m k (Some ran) ran' e = (ran, refl, e)

pub more_grows : (m : Module) (k i : ℕ) (ran ran' : Ran) → more m k i (Some ran) ≡ Some ran' → (es : List Event) × (ran'.events ≡ ran.events ++ es)
more_grows m k zero ran ran' e = ([], ap (λ (r : Ran). r.events) (sym (same_Some ran ran' e)) ∙ sym (append-nil ran.events))
more_grows m k (suc i) ran ran' e =
    let last = and_some m k (more m k i (Some ran)) ran' e in
    let before = more_grows m k i ran last.0 last.1 in
    let after = grows m k last.0 ran' last.2 in
    (before.0 ++ after.0, after.1 ∙ ap (λ es. es ++ after.0) before.1 ∙ append_assoc ran.events before.0 after.0)

-- ---- the step of an access

fits_zero : (w : AccessWidth) → Fits w 0
fits_zero One = omega arith
fits_zero Two = omega arith
fits_zero Four = omega arith
fits_zero Eight = omega arith

-- a step that makes this access makes its event
made_event : (k : ℕ) (ran : Ran) (taken : Taken) (a : OpFields) (s : Step) (ran' : Ran) → access_of s ≡ Some a → ran_on k ran taken s ≡ Some ran'
    → ran'.events ≡ ran.events ++ event_made record { thread = k; number = length ran.events } a taken.read ∷ []
made_event k ran taken a NoStep ran' is e = absurd (none-some a is)
made_event k ran taken a (ReducesTo made c) ran' is e =
    ap (λ (r : Ran). r.events) (sym (same_Some _ _ e)) ∙ ap (λ o. ran.events ++ noted k (length ran.events) o taken.read) is

-- the event of one step more that makes the access a
abbrev pub MakesEvent : ℕ → Ran → OpFields → Ran → Type 0
MakesEvent k ran a ran' = (r : ℕ) × Fits a.width r × (ran'.events ≡ ran.events ++ event_made record { thread = k; number = length ran.events } a r ∷ [])

taken_event : (m : Module) (k : ℕ) (ran : Ran) (a : OpFields) (b : Bool) (reads : List ℕ) (ran' : Ran) → ((r : ℕ) → access_of (step m r ran.config) ≡ Some a)
    → ran_with m k ran (take_where b a reads) ≡ Some ran' → MakesEvent k ran a ran'
taken_event m k ran a false reads ran' is e =
    (0, fits_zero a.width, made_event k ran record { read = 0; others = reads } a (step m 0 ran.config) ran' (is 0) e)
taken_event m k ran a true [] ran' is e = absurd (none-some ran' e)
taken_event m k ran a true (r ∷ reads) ran' is e = fitting (nat_lt r (2 ^ (8 * bytes_of a.width))) refl e
  where
    fitting : (b : Bool) → nat_lt r (2 ^ (8 * bytes_of a.width)) ≡ b → ran_with m k ran (cond b (Some record { read = r; others = reads }) None) ≡ Some ran' → MakesEvent k ran a ran'
    fitting false n e' = absurd (none-some ran' e')
    fitting true fits e' = (r, ltb-true _ _ fits, made_event k ran record { read = r; others = reads } a (step m r ran.config) ran' (is r) e')

pub next_event : (m : Module) (k : ℕ) (ran : Ran) (a : OpFields) (ran' : Ran) → ((r : ℕ) → access_of (step m r ran.config) ≡ Some a)
    → run_on m k ran ≡ Some ran' → MakesEvent k ran a ran'
next_event m k ran a ran' is e =
    taken_event m k ran a (kind_finds a.kind) ran.reads ran' is
    (subst (λ o. ran_with m k ran (take_read o ran.reads) ≡ Some ran') (is 0) e)

-- ---- the outcome

outcome_with_some : (reads : List ℕ) (ran : Ran) (out : Outcome) → outcome_with reads ran ≡ Some out → (ran.events ≡ out.events) × (end_of ran.config ≡ out.end)
outcome_with_some [] ran out e = (ap (λ (o : Outcome). o.events) (same_Some _ _ e), ap (λ (o : Outcome). o.end) (same_Some _ _ e))
outcome_with_some (r ∷ reads) ran out e = absurd (none-some out e)

pub outcome_some : (o : Option Ran) (out : Outcome) → outcome_of o ≡ Some out → (ran : Ran) × (o ≡ Some ran) × (ran.events ≡ out.events) × (end_of ran.config ≡ out.end)
outcome_some None out e = absurd (none-some out e)
outcome_some (Some ran) out e = let parts = outcome_with_some ran.reads ran out e in (ran, refl, parts.0, parts.1)
