-- What the fourth rule says of the writers of a read in a valid run.
use Rattle.std.proofs.Common.{◌≡◌, ◌≢◌, ◌⊎◌, ℕ, ◌+◌, ◌<◌, ◌≤◌, List, Some, Bool, IsTrue, not, get_or, slice_get, length, sym, ap, ◌∙◌, subst, arith, ⊎_elim}
use Rattle.std.proofs.lemmas.Bool.{cases_lt, false≢true}
use Rattle.std.proofs.lemmas.Option.{same_Some, slice_get-get_or, slice_get_within}
use Rattle.wm_event.specs.declared.event.Event.{Event}
use Rattle.wm_event.specs.declared.event.EventKey.{EventKey}
use Rattle.wm_event.specs.declared.event.EventId.{EventId}
use Rattle.wm_event.specs.declared.event.EventId.TheVariants.{Init, At}
use Rattle.wm_event.specs.Event.{key_of}
use Rattle.wm_event.specs.Execution.{ReadsFrom}
use Rattle.wm_event.specs.Log.{event_in}
use Rattle.wm_event.specs.LoggedRun.{LoggedRun, execution}
use Rattle.wm_event.specs.Rules.{IsTearFree, IsTearFreeLike}
use Rattle.wm_event.specs.Shape.{read_width}
use Rattle.wm_event.specs.Witness.{writers_in}
use Rattle.wm_writers.specs.Fits.{fits, fitting}
use Rattle.wm_writers.specs.Forced.{with_witness}
use Rattle.wm_writers.proofs.FitLaws.{writer_fits}
use Rattle.wm_writers.proofs.FittingLemmas.{fit-listed}
use Rattle.wm_witness.specs.declared.assumption.Assumption.{Assumption}
use Rattle.wm_witness.specs.Assumptions.{Holds, TakesFrom}
use Rattle.wm_witness.specs.Always.{Always, IsClosed}
use Rattle.wm_witness.specs.Choice.{IsEventOf, IsExcluded}
use Rattle.wm_witness.specs.Tearing.{IsNoWriter, IsTearFreeByte, TakesOther}

module _ (run : LoggedRun) (assumed : List Assumption) where
  -- two tear-free writers of a tear-free read
  pub torn : (r v w : EventKey) (e : Event) (j k : ℕ) → event_in run.log r ≡ Some e → IsTearFree e → IsTearFreeLike (execution run) e (At v) → IsTearFreeLike (execution run) e (At w) → v ≢ w
      → Always run assumed (λ x. ReadsFrom (execution x) r j (At v)) → Always run assumed (λ x. ReadsFrom (execution x) r k (At w)) → IsClosed run assumed
  torn r v w e j k is_r free like_v like_w apart first second = λ witness shape valid keeps.
      let same : At v ≡ At w = valid.keeps_no_tearing r e is_r free (At v) (At w) ((j, first witness shape valid keeps), like_v) ((k, second witness shape valid keeps), like_w) in
      apart (cc)

-- P holds of the first n of the ids
abbrev pub AreBefore : (EventId → Type 0) → List EventId → ℕ → Type 0
AreBefore P ids n = (m : ℕ) (id : EventId) → m < n → slice_get ids m ≡ Some id → P id

pub one-more : (P : EventId → Type 0) (ids : List EventId) (n : ℕ) → n < length ids → AreBefore P ids n → P (get_or ids n Init) → AreBefore P ids (n + 1)
one-more P ids n inside before here = λ m id l at. ⊎_elim
    (λ (less : m < n). before m id less at)
    (λ (more : n ≤ m).
    let same : m ≡ n = omega (arith, l, more) in
    let is : get_or ids n Init ≡ id = same_Some (get_or ids n Init) id (sym (slice_get-get_or ids n Init inside) ∙ ap (slice_get ids) (sym same) ∙ at) in
    subst P is here)
    (cases_lt m n)

-- an id is never the writer of byte k of the read e, or is tear-free with the range of the read
abbrev pub IsLikeOrExcluded : LoggedRun → List Assumption → Event → ℕ → EventId → Type 0
IsLikeOrExcluded run assumed e k w = IsExcluded run assumed (key_of e) k w ⊎ IsTearFreeLike (execution run) e w

module _ (run : LoggedRun) (assumed : List Assumption) (e : Event) (is_e : IsEventOf run e) where
  pub all-like : (k : ℕ) → k < read_width e → AreBefore (IsLikeOrExcluded run assumed e k) (fitting run.log run.initial e k) (length (fitting run.log run.initial e k)) → IsTearFreeByte run assumed e k
  all-like k inside all = record {
    is_read = inside;
    from_like = λ witness shape valid keeps w from.
        let fit = writer_fits (with_witness run witness) shape valid (key_of e) e k w is_e from in
        let listed = fit-listed run.log shape.keys run.initial e k w fit in
        ⊎_elim
        (λ (out : IsExcluded run assumed (key_of e) k w). absurd (out witness shape valid keeps from))
        (λ (like : IsTearFreeLike (execution run) e w). like)
        (all listed.0 w (slice_get_within (fitting run.log run.initial e k) listed.0 w listed.1) listed.1);
  }

  -- what doesn't fit a byte isn't its writer
  pub unfit : (k : ℕ) (w : EventId) → IsTrue (not (fits run.log run.initial e k w)) → IsExcluded run assumed (key_of e) k w
  unfit k w misses = λ witness shape valid keeps from.
      let fit = writer_fits (with_witness run witness) shape valid (key_of e) e k w is_e from in
      false≢true (subst (λ (b : Bool). IsTrue (not b)) fit misses)

  module _ (free : IsTearFree e) (w : EventId) (like : IsTearFreeLike (execution run) e w) where
    -- a byte that is from an event like this one, but not from this one, leaves no byte to it
    pub other-byte : (j : ℕ) → IsTearFreeByte run assumed e j → IsExcluded run assumed (key_of e) j w → IsNoWriter run assumed (key_of e) w
    other-byte j byte out = λ k witness shape valid keeps from.
        let x = execution (with_witness run witness) in
        let ids = writers_in witness (key_of e) in
        let count : length ids ≡ read_width e = (shape.good (key_of e) e is_e).count in
        let inside : j < length ids = subst (λ n. j < n) (sym count) byte.is_read in
        let v : EventId = get_or ids j Init in
        let from_v : ReadsFrom x (key_of e) j v = slice_get-get_or ids j Init inside in
        let same : v ≡ w = valid.keeps_no_tearing (key_of e) e is_e free v w ((j, from_v), byte.from_like witness shape valid keeps v from_v) ((k, from), like) in
        out witness shape valid keeps (subst (ReadsFrom x (key_of e) j) same from_v)

    -- nor does an assumption that the read takes a byte from another one
    pub other-assumed : (n : ℕ) (none : Assumption) → n < length assumed → TakesOther run e w (get_or assumed n none) → IsNoWriter run assumed (key_of e) w
    other-assumed n none inside t = λ k witness shape valid keeps from.
        let takes : TakesFrom (execution (with_witness run witness)) (key_of e) t.other = subst (Holds (with_witness run witness)) t.is_taken (keeps n none inside) in
        t.is_other (valid.keeps_no_tearing (key_of e) e is_e free (At t.other) w (takes, t.like) ((k, from), like))
