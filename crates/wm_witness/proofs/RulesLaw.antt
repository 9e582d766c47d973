-- What the fifth rule says of the order of a valid run.
use Rattle.std.proofs.Common.{◌≡◌, ◌≢◌, ◌⊎◌, ◌<◌, ℕ, List, [], Some, IsSome, IsTrue, refl, arith, inl, inr, ⊎_elim}
use Rattle.wm_event.specs.declared.event.Event.{Event}
use Rattle.wm_event.specs.declared.event.EventKey.{EventKey}
use Rattle.wm_event.specs.declared.event.EventId.{EventId}
use Rattle.wm_event.specs.declared.event.EventId.TheVariants.{Init, At}
use Rattle.wm_event.specs.declared.event.Range.{Range}
use Rattle.wm_event.specs.Event.{is_atomic, range_of}
use Rattle.wm_event.specs.Execution.{ReadsFrom, place}
use Rattle.wm_event.specs.HappensBefore.{HappensBefore, SynchronizesWith}
use Rattle.wm_event.specs.Log.{event_in}
use Rattle.wm_event.specs.LoggedRun.{LoggedRun, execution}
use Rattle.wm_event.specs.Rules.{IsAtomicWrite, IsValid}
use Rattle.wm_event.specs.Rules.Overtakes.{read_past, synchronized, written_over}
use Rattle.wm_event.specs.Shape.{IsWellShaped}
use Rattle.wm_hb.proofs.ChainLaws.{chain_there}
use Rattle.wm_writers.specs.Forced.{with_witness}
use Rattle.wm_witness.specs.declared.assumption.Assumption.{Assumption}
use Rattle.wm_witness.specs.declared.relation.Kind.TheVariants.{Happens, Stands}
use Rattle.wm_witness.specs.Assumptions.{TakesFrom}
use Rattle.wm_witness.specs.Always.{Always}
use Rattle.wm_witness.specs.Relations.{AlwaysRelates, Relates}
use Rattle.wm_witness.specs.Rules.{CanSynchronize, IsAtomicWriteOf}
use Rattle.wm_witness.proofs.Steps.{places-differ, some-is, some-of}

-- a pair that can synchronize does so if the read takes a byte from the write
pub synchronizes : (x : LoggedRun) (u r : EventKey) → CanSynchronize x.log u r → TakesFrom (execution x) r u → SynchronizesWith (execution x) u r
synchronizes x u r c reads = record {
  writer = c.writer;
  reader = c.reader;
  is_writer = c.is_writer;
  is_reader = c.is_reader;
  writer_atomic = c.writer_atomic;
  reader_atomic = c.reader_atomic;
  ranges = c.ranges;
  reads = reads;
}

module _ (x : LoggedRun) (shape : IsWellShaped x) (valid : IsValid (execution x)) where
  abbrev Earlier : EventKey → EventKey → Type 0
  Earlier a b = place (execution x) (At a) < place (execution x) (At b)

  writing : (v : EventKey) (range : Range) → IsAtomicWriteOf x.log v range → IsAtomicWrite (execution x) (At v)
  writing v range w = (w.event, w.is_event, w.atomic, w.does_write)

  there : (v : EventKey) (range : Range) → IsAtomicWriteOf x.log v range → IsSome (event_in x.log v)
  there v range w = some-of (event_in x.log v) w.event w.is_event

  pub not-between : (u r v : EventKey) (e : Event) → event_in x.log r ≡ Some e → SynchronizesWith (execution x) u r → IsAtomicWriteOf x.log v (range_of e) → v ≢ u → v ≢ r
      → Earlier v u ⊎ Earlier r v
  not-between u r v e is_r s write other_u other_r =
      let here = there v (range_of e) write in
      ⊎_elim
      (λ (l : Earlier v u). inl l)
      (λ (after : Earlier u v). ⊎_elim
      (λ (l : Earlier v r).
      absurd (valid.keeps_sequential_consistency r e s.reads.0 (At u) is_r s.reads.1 (At v) 1 (writing v (range_of e) write) after l
      (synchronized refl u refl s (write.event, write.is_event, write.same_range))))
      (λ (l : Earlier r v). inr l)
      (places-differ x shape.order v r here (some-of (event_in x.log r) e is_r) other_r))
      (places-differ x shape.order v u here (some-of (event_in x.log u) s.writer s.is_writer) other_u)

  pub not-overwritten : (w r v : EventKey) (f : Event) (k : ℕ) → event_in x.log w ≡ Some f → IsTrue (is_atomic f) → ReadsFrom (execution x) r k (At w) → IsAtomicWriteOf x.log v (range_of f) → v ≢ w
      → HappensBefore (execution x) (At w) (At r) → HappensBefore (execution x) (At v) (At r) → Earlier v w
  not-overwritten w r v f k is_w atomic from write other w_r v_r =
      let e = some-is (event_in x.log r) (chain_there x w_r.0 (At w) r w_r.1) in
      ⊎_elim
      (λ (l : Earlier v w). l)
      (λ (after : Earlier w v).
      absurd (valid.keeps_sequential_consistency r e.0 k (At w) e.1 from (At v) 2 (writing v (range_of f) write) after (valid.keeps_order (At v) (At r) v_r)
      (written_over refl f is_w atomic w_r v_r (write.event, write.is_event, write.same_range))))
      (places-differ x shape.order v w (there v (range_of f) write) (some-of (event_in x.log w) f is_w) other)

  pub not-past : (w : EventId) (r v : EventKey) (e : Event) (k : ℕ) → event_in x.log r ≡ Some e → IsTrue (is_atomic e) → ReadsFrom (execution x) r k w → IsAtomicWriteOf x.log v (range_of e) → v ≢ r
      → HappensBefore (execution x) w (At r) → HappensBefore (execution x) w (At v) → Earlier r v
  not-past w r v e k is_r atomic from write other w_r w_v =
      ⊎_elim
      (λ (l : Earlier v r).
      absurd (valid.keeps_sequential_consistency r e k w is_r from (At v) 3 (writing v (range_of e) write) (valid.keeps_order w (At v) w_v) l
      (read_past refl atomic w_r w_v (write.event, write.is_event, write.same_range))))
      (λ (l : Earlier r v). l)
      (places-differ x shape.order v r (there v (range_of e) write) (some-of (event_in x.log r) e is_r) other)

  pub not-past-init : (r v : EventKey) (e : Event) (k : ℕ) → event_in x.log r ≡ Some e → IsTrue (is_atomic e) → ReadsFrom (execution x) r k Init → IsAtomicWriteOf x.log v (range_of e) → v ≢ r
      → Earlier r v
  not-past-init r v e k is_r atomic from write other =
      not-past Init r v e k is_r atomic from write other ([], some-of (event_in x.log r) e is_r) ([], there v (range_of e) write)

-- the same of all valid runs that keep the assumptions
module _ (run : LoggedRun) (assumed : List Assumption) where
  pub always-synchronized : (u r : EventKey) → CanSynchronize run.log u r → Always run assumed (λ x. TakesFrom (execution x) r u) → Always run assumed (λ x. SynchronizesWith (execution x) u r)
  always-synchronized u r c reads = λ witness shape valid keeps. synchronizes (with_witness run witness) u r c (reads witness shape valid keeps)

  pub before-both : (u r v : EventKey) (e : Event) → event_in run.log r ≡ Some e → Always run assumed (λ x. SynchronizesWith (execution x) u r) → IsAtomicWriteOf run.log v (range_of e) → v ≢ u → v ≢ r
      → AlwaysRelates run assumed Stands v r → AlwaysRelates run assumed Stands v u
  before-both u r v e is_r s write other_u other_r h = λ witness shape valid keeps.
      let x = with_witness run witness in
      let l = h witness shape valid keeps in
      ⊎_elim
      (λ (g : Relates Stands x v u). g)
      (λ (g : Relates Stands x r v). absurd (omega (arith, l, g)))
      (not-between x shape valid u r v e is_r (s witness shape valid keeps) write other_u other_r)

  pub after-both : (u r v : EventKey) (e : Event) → event_in run.log r ≡ Some e → Always run assumed (λ x. SynchronizesWith (execution x) u r) → IsAtomicWriteOf run.log v (range_of e) → v ≢ u → v ≢ r
      → AlwaysRelates run assumed Stands u v → AlwaysRelates run assumed Stands r v
  after-both u r v e is_r s write other_u other_r h = λ witness shape valid keeps.
      let x = with_witness run witness in
      let l = h witness shape valid keeps in
      ⊎_elim
      (λ (g : Relates Stands x v u). absurd (omega (arith, l, g)))
      (λ (g : Relates Stands x r v). g)
      (not-between x shape valid u r v e is_r (s witness shape valid keeps) write other_u other_r)

  pub overwritten : (w r v : EventKey) (f : Event) (k : ℕ) → event_in run.log w ≡ Some f → IsTrue (is_atomic f) → Always run assumed (λ x. ReadsFrom (execution x) r k (At w)) → IsAtomicWriteOf run.log v (range_of f)
      → v ≢ w → AlwaysRelates run assumed Happens w r → AlwaysRelates run assumed Happens v r → AlwaysRelates run assumed Stands v w
  overwritten w r v f k is_w atomic from write other w_r v_r = λ witness shape valid keeps.
      not-overwritten (with_witness run witness) shape valid w r v f k is_w atomic (from witness shape valid keeps) write other (w_r witness shape valid keeps) (v_r witness shape valid keeps)

  pub past : (w r v : EventKey) (e : Event) (k : ℕ) → event_in run.log r ≡ Some e → IsTrue (is_atomic e) → Always run assumed (λ x. ReadsFrom (execution x) r k (At w)) → IsAtomicWriteOf run.log v (range_of e)
      → v ≢ r → AlwaysRelates run assumed Happens w r → AlwaysRelates run assumed Happens w v → AlwaysRelates run assumed Stands r v
  past w r v e k is_r atomic from write other w_r w_v = λ witness shape valid keeps.
      not-past (with_witness run witness) shape valid (At w) r v e k is_r atomic (from witness shape valid keeps) write other (w_r witness shape valid keeps) (w_v witness shape valid keeps)

  pub past-init : (r v : EventKey) (e : Event) (k : ℕ) → event_in run.log r ≡ Some e → IsTrue (is_atomic e) → Always run assumed (λ x. ReadsFrom (execution x) r k Init) → IsAtomicWriteOf run.log v (range_of e) → v ≢ r
      → AlwaysRelates run assumed Stands r v
  past-init r v e k is_r atomic from write other = λ witness shape valid keeps.
      not-past-init (with_witness run witness) shape valid r v e k is_r atomic (from witness shape valid keeps) write other
