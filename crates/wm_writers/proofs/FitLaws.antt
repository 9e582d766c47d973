-- In a valid execution each byte's writer fits it.
use Rattle.std.proofs.Common.{◌≡◌, ◌≢◌, ℕ, ◌+◌, ◌<◌, ◌≤◌, ◌==◌, ◌&&◌, not, leb, Bool, true, false, Option, None, Some, IsSome, IsTrue, [], refl, sym, ap, ◌∙◌, arith, inl, ⊎_elim}
use Rattle.std.specs.Prelude.{option_and_then}
use Rattle.std.specs.Option.{option_map_or}
use Rattle.std.proofs.lemmas.Bool.{cases_lt, and_parts, and_from}
use Rattle.std.proofs.lemmas.Bool.Decides.{nat_tests}
use Rattle.wm_event.specs.declared.event.Event.{Event}
use Rattle.wm_event.specs.declared.event.EventKey.{EventKey}
use Rattle.wm_event.specs.declared.event.EventId.{EventId}
use Rattle.wm_event.specs.declared.event.EventId.TheVariants.{Init, At}
use Rattle.wm_event.specs.Byte.{byte_of}
use Rattle.wm_event.specs.Event.{byte_written, key_of}
use Rattle.wm_event.specs.Execution.{ReadsFrom, byte_by}
use Rattle.wm_event.specs.HappensBefore.{HappensBefore}
use Rattle.wm_event.specs.Log.{event_in}
use Rattle.wm_event.specs.LoggedRun.{LoggedRun, execution}
use Rattle.wm_event.specs.Rules.{IsValid}
use Rattle.wm_event.specs.Shape.{IsWellShaped}
use Rattle.wm_hb.proofs.FaultLemmas.{same_key_parts, some_of}
use Rattle.wm_hb.proofs.ThreadLemmas.{named_so}
use Rattle.wm_writers.specs.Fits.{byte_left, fits, is_from, leaves}

-- what an id leaves, by the log and the initial memory
pub left_by : (run : LoggedRun) (w : EventId) (a : ℕ) → byte_by (execution run) w a ≡ byte_left run.log run.initial w a
left_by run Init a = refl
left_by run (At key) a = refl

same-number : (b : ℕ) → (b == b) ≡ true
same-number b = grind (arith, nat_tests)

pub leaves_it : (run : LoggedRun) (w : EventId) (a b : ℕ) → byte_by (execution run) w a ≡ Some b → leaves run.log run.initial w a b ≡ true
leaves_it run w a b h =
    let left : byte_left run.log run.initial w a ≡ Some b = sym (left_by run w a) ∙ h in
    ap (λ o. option_map_or (λ c. c == b) o false) left ∙ same-number b

from-thread : (t s m n : ℕ) → (s == t && leb m n) ≡ true → (s ≡ t) × (m ≤ n)
from-thread t s m n h =
    let p = and_parts (s == t) (leb m n) h in
    (grind (arith, nat_tests), grind (arith, nat_tests))

wrote : (o : Option Event) (a b : ℕ) → option_and_then (λ e. byte_written e a) o ≡ Some b → IsSome o
wrote None a b h = absurd (cc)
wrote (Some e) a b h = refl

-- a writer that isn't the reader, and that the reader doesn't happen before, isn't from it on
pub not_from : (run : LoggedRun) (r : EventKey) (w : EventId) (a b : ℕ) → IsSome (event_in run.log r) → w ≢ At r → byte_by (execution run) w a ≡ Some b
    → (HappensBefore (execution run) (At r) w → ⊥) → is_from r w ≡ false
not_from run r Init a b there other leaves none = refl
not_from run r (At w) a b there other leaves none = by (is_from r (At w)) refl
  where
    by : (t : Bool) → is_from r (At w) ≡ t → is_from r (At w) ≡ false
    by false is = is
    by true is =
        let p = from-thread r.thread w.thread r.number w.number is in
        absurd (⊎_elim
        (λ (l : r.number < w.number). none ([], inl (record { first = there; second = wrote (event_in run.log w) a b leaves; same_thread = sym p.0; earlier = l })))
        (λ (l : w.number ≤ r.number). let n : w.number ≡ r.number = (let m = p.1 in omega (arith, l, m)) in other (ap At (same_key_parts w r p.0 n)))
        (cases_lt r.number w.number))

-- in a valid execution the writer of each byte fits it
pub writer_fits : (run : LoggedRun) → IsWellShaped run → IsValid (execution run) → (r : EventKey) (e : Event) (k : ℕ) (w : EventId)
    → event_in run.log r ≡ Some e → ReadsFrom (execution run) r k w → IsTrue (fits run.log run.initial e k w)
writer_fits run shape valid r e k w at reads =
    let values = valid.keeps_written_values r e k w at reads in
    let before = (valid.keeps_coherence r e k w at reads).0 in
    let left = leaves_it run w (e.address + k) (byte_of e.read k) values.1 in
    let free : is_from r w ≡ false = not_from run r w (e.address + k) (byte_of e.read k) (some_of (event_in run.log r) e at) values.0 values.1 before in
    let named : is_from (key_of e) w ≡ false = ap (λ q. is_from q w) (named_so run.log shape.keys r e at) ∙ free in
    and_from (leaves run.log run.initial w (e.address + k) (byte_of e.read k)) (not (is_from (key_of e) w)) left (ap not named)
