-- Runs in which nothing synchronizes, and whose reads take their bytes from Init or from events of other threads and ranges.
use Rattle.std.proofs.Common.{◌≡◌, ◌≢◌, ℕ, ◌+◌, ◌<◌, List, [], ◌∷◌, Some, IsSome, IsTrue, sym, ◌∙◌, arith, ⊎_elim}
use Rattle.std.proofs.lemmas.Option.{none-some}
use Rattle.wm_event.specs.declared.event.Event.{Event}
use Rattle.wm_event.specs.declared.event.EventKey.{EventKey}
use Rattle.wm_event.specs.declared.event.EventId.{EventId}
use Rattle.wm_event.specs.declared.event.EventId.TheVariants.{Init, At}
use Rattle.wm_event.specs.Event.{is_atomic, range_of}
use Rattle.wm_event.specs.Execution.{Execution, ReadsFrom, place}
use Rattle.wm_event.specs.HappensBefore.{Chain, Edge, HappensBefore, SequencedBefore, SynchronizesWith}
use Rattle.wm_event.specs.Rules.{HasRange, IsAtomicWrite, IsTearFreeWriter, IsValid, KeepsCoherence, KeepsNoTearing, KeepsOrder, KeepsSequentialConsistency, KeepsWrittenValues, Overtakes, Writes}
use Rattle.wm_event.specs.Rules.Overtakes.{read_past, synchronized, written_over}

pub record IsUnsynchronized (x : Execution) : Type 0 where
  pub threads : (r u : EventKey) (k : ℕ) → ReadsFrom x r k (At u) → u.thread ≢ r.thread
  pub ranges : (r u : EventKey) (k : ℕ) (e f : Event) → ReadsFrom x r k (At u) → x.event_of r ≡ Some e → x.event_of u ≡ Some f → range_of f ≢ range_of e
  pub values : KeepsWrittenValues x
  pub places : (a b : EventKey) → SequencedBefore x a b → x.place_of a < x.place_of b
  -- no earlier event of the read's thread writes the byte
  pub own : (r v : EventKey) (e : Event) (k : ℕ) (w : EventId) → x.event_of r ≡ Some e → ReadsFrom x r k w → SequencedBefore x v r → Writes x (At v) (e.address + k) → ⊥

module _ (x : Execution) (u : IsUnsynchronized x) where
  pub nothing-synchronizes : (a b : EventKey) → SynchronizesWith x a b → ⊥
  nothing-synchronizes a b s = u.ranges b a s.reads.0 s.reader s.writer s.reads.1 s.is_reader s.is_writer s.ranges

  -- what is left of happens-before
  abbrev pub Earlier : EventId → EventId → Type 0
  Earlier Init (At b) = IsSome (x.event_of b)
  Earlier (At a) (At b) = SequencedBefore x a b
  Earlier a Init = ⊥

  edge-earlier : (a b : EventId) → Edge x a b → Earlier a b
  edge-earlier Init Init h = absurd h
  edge-earlier Init (At b) h = h
  edge-earlier (At a) Init h = absurd h
  edge-earlier (At a) (At b) h = ⊎_elim (λ (s : SequencedBefore x a b). s) (λ (s : SynchronizesWith x a b). absurd (nothing-synchronizes a b s)) h

  earlier-join : (a m b : EventId) → Earlier a m → Earlier m b → Earlier a b
  earlier-join Init Init b h k = absurd h
  earlier-join (At a) Init b h k = absurd h
  earlier-join Init (At m) Init h k = absurd k
  earlier-join (At a) (At m) Init h k = absurd k
  earlier-join Init (At m) (At b) h k = k.second
  earlier-join (At a) (At m) (At b) h k =
      let l = h.earlier in
      let n = k.earlier in
      record { first = h.first; second = k.second; same_thread = h.same_thread ∙ k.same_thread; earlier = omega (arith, l, n) }

  chain-earlier : (ms : List EventId) (a b : EventId) → Chain x a ms b → Earlier a b
  chain-earlier [] a b h = edge-earlier a b h
  chain-earlier (m ∷ ms) a b h = earlier-join a m b (edge-earlier a m h.0) (chain-earlier ms m b h.1)

  pub before-earlier : (a b : EventId) → HappensBefore x a b → Earlier a b
  before-earlier a b h = chain-earlier h.0 a b h.1

  earlier-places : (a b : EventId) → Earlier a b → place x a < place x b
  earlier-places Init Init h = absurd h
  earlier-places (At a) Init h = absurd h
  earlier-places Init (At b) h = omega arith
  earlier-places (At a) (At b) h = let l = u.places a b h in omega (arith, l)

  pub keeps-order : KeepsOrder x
  keeps-order a b h = earlier-places a b (before-earlier a b h)

  pub keeps-coherence : KeepsCoherence x
  keeps-coherence r e k w is from = (λ h. future w from (before-earlier (At r) w h), λ v writes h j. between v writes (before-earlier w v h) (before-earlier v (At r) j))
    where
      future : (w : EventId) → ReadsFrom x r k w → Earlier (At r) w → ⊥
      future Init from h = h
      future (At a) from h = u.threads r a k from (sym h.same_thread)

      between : (v : EventId) → Writes x v (e.address + k) → Earlier w v → Earlier v (At r) → ⊥
      between Init writes h j = by w h
        where
          by : (w : EventId) → Earlier w Init → ⊥
          by Init h = h
          by (At a) h = h
      between (At v) writes h j = u.own r v e k w is from j writes

  pub keeps-no-tearing : KeepsNoTearing x
  keeps-no-tearing r e is whole v w is_v is_w = absurd (by v is_v)
    where
      by : (v : EventId) → IsTearFreeWriter x r e v → ⊥
      by Init is_v = none-some is_v.1.0 is_v.1.1
      by (At a) is_v = u.ranges r a is_v.0.0 e is_v.1.0 is_v.0.1 is is_v.1.1 is_v.1.3

  -- what a read takes a byte from doesn't happen before it, unless it is Init
  pub writer-initial : (r a : EventKey) (k : ℕ) → ReadsFrom x r k (At a) → HappensBefore x (At a) (At r) → ⊥
  writer-initial r a k from h = u.threads r a k from (before-earlier (At a) (At r) h).same_thread

  pub keeps-other-cases : (r : EventKey) (e : Event) (k : ℕ) (w v : EventId) (c : ℕ) → ReadsFrom x r k w → Overtakes x w v r e c → c ≢ 3 → ⊥
  keeps-other-cases r e k w v c from (synchronized is a at s h) other = nothing-synchronizes a r s
  keeps-other-cases r e k Init v c from (written_over is f at atomic first second h) other = none-some f at
  keeps-other-cases r e k (At a) v c from (written_over is f at atomic first second h) other = writer-initial r a k from first
  keeps-other-cases r e k w v c from (read_past is atomic first second h) other = other is

  -- the third case: no atomic write with the read's range is before the read
  pub keeps-atomics : ((r : EventKey) (e : Event) (k : ℕ) (w v : EventId) → x.event_of r ≡ Some e → ReadsFrom x r k w → IsTrue (is_atomic e) → IsAtomicWrite x v → HasRange x v e → place x v < place x (At r) → ⊥)
      → KeepsSequentialConsistency x
  keeps-atomics past r e k w is from v c writing after before o = by o
    where
      by : Overtakes x w v r e c → ⊥
      by (synchronized is' a at s h) = nothing-synchronizes a r s
      by (written_over is' f at atomic first second h) = keeps-other-cases r e k w v c from (written_over is' f at atomic first second h) (λ s. let t : 2 ≡ 3 = sym is' ∙ s in omega (arith, t))
      by (read_past is' atomic first second h) = past r e k w v is from atomic writing h before

  pub is-valid : KeepsSequentialConsistency x → IsValid x
  is-valid atomics = record {
    keeps_written_values = u.values;
    keeps_order = keeps-order;
    keeps_coherence = keeps-coherence;
    keeps_no_tearing = keeps-no-tearing;
    keeps_sequential_consistency = atomics;
  }
