-- What is found of the next event of a state holds in each execution that has it.
use Rattle.std.proofs.Common.{◌≡◌, ℕ, ◌+◌, ◌<◌, ◌≤◌, true, List, [], ◌∷◌, ◌++◌, length, inl, inr, Option, None, Some, IsSome, IsTrue, refl, sym, ap, subst, ◌∙◌, arith}
use Rattle.std.specs.Prelude.{◌≢◌, ◌⊎◌, option_and_then, slice_get, if◌then◌else◌}
use Rattle.std.proofs.lemmas.Bool.{cases_lt}
use Rattle.std.proofs.lemmas.Option.{slice_get_within}
use Rattle.wm_access.specs.AccessWidth.{bytes_of}
use Rattle.wm_access.specs.declared.AccessWidth.{AccessWidth}
use Rattle.wm_access.specs.declared.AccessWidth.TheVariants.{One, Two, Four, Eight}
use Rattle.wm_event.specs.Event.{byte_written, is_atomic, key_of, reads}
use Rattle.wm_event.specs.Execution.{Execution, ReadsFrom, byte_by, event_at, place}
use Rattle.wm_event.specs.HappensBefore.{Chain, HappensBefore}
use Rattle.wm_event.specs.Log.{event_in}
use Rattle.wm_event.specs.LoggedRun.{LoggedRun, execution}
use Rattle.wm_event.specs.Rules.{IsTearFreeLike}
use Rattle.wm_event.specs.declared.event.Event.{Event}
use Rattle.wm_event.specs.declared.event.EventId.{EventId}
use Rattle.wm_event.specs.declared.event.EventId.TheVariants.{Init, At}
use Rattle.wm_event.specs.declared.event.EventKey.{EventKey}
use Rattle.wm_explore.specs.Clocks.{Counts}
use Rattle.wm_explore.specs.States.{HasArrived}
use Rattle.wm_explore.specs.Past.{AreApart, AreGained, BreaksMark, CannotBegin, CannotGive, CannotTake, FindsCommon, FindsFor, HasNoSource, Hides, IsAfter, IsAhead, IsBefore, IsEarlier, IsFrom, IsGained, IsLike, IsOnly, IsOvertaken, IsPast, IsSource, IsStanding, IsTaken, IsThreadPast, KeepsMark, KnowsPast, Overwrites, StandsAfter, Synchronizes, TakesNext, WouldSynchronize, left_by}
use Rattle.wm_explore.specs.declared.clock.Clock.{Clock}
use Rattle.wm_explore.specs.declared.past.Past.{Past}
use Rattle.wm_explore.specs.declared.state.State.{State}
use Rattle.wm_explore.proofs.Beginnings.{some_of}
use Rattle.wm_explore.proofs.Ranges.{read_byte, written_bytes}
use Rattle.wm_explore.proofs.Places.{source_before, stands_before}
use Rattle.wm_explore.proofs.Turning.{item_within}

before_join : (x : Execution) (a b c : EventId) → HappensBefore x a b → HappensBefore x b c → HappensBefore x a c
before_join x a b c h k = (h.0 ++ b ∷ k.0, join h.0 a h.1)
  where
    join : (ms : List EventId) (a : EventId) → Chain x a ms b → Chain x a (ms ++ b ∷ k.0) c
    join [] a e = (e, k.1)
    join (m ∷ ms) a e = (e.0, join ms m e.1)

some_bytes : (w : AccessWidth) → 0 < bytes_of w
some_bytes One = omega arith
some_bytes Two = omega arith
some_bytes Four = omega arith
some_bytes Eight = omega arith

-- what a clock counts beside another one, if it counts b too
abbrev pub CountsToo : Clock → Clock → EventKey → Type 0
CountsToo own c b = (a : EventKey) → Counts own a → Counts c a ⊎ ((a.thread ≡ b.thread) × (a.number ≤ b.number))

module _ (initial : List ℕ) (s : State) (e : Event) (knows : KnowsPast initial s) (x : LoggedRun) (takes : TakesNext initial s e x) where
  abbrev b : EventKey
  b = key_of e

  pub arrived_there : (i : ℕ) (key : EventKey) → slice_get s.arrived i ≡ Some key → IsSome (event_in x.log key)
  arrived_there i key at =
      let f = some_of (event_in s.log key) (takes.has.there i key at) in
      subst (λ o. IsSome o) (sym (takes.has.events key f.0 f.1)) refl

  next_there : IsSome (event_in x.log b)
  next_there = subst (λ o. IsSome o) (sym takes.next) refl

  pub not_next : (key : EventKey) (f : Event) → event_in s.log key ≡ Some f → key ≢ b
  not_next key f at same = takes.new (subst (λ k. IsSome (event_in s.log k)) same (subst (λ o. IsSome o) (sym at) refl))

  -- what e would synchronize with in the state, in the execution
  pub like_there : (g : Event) (w : EventId) → WouldSynchronize s.log g w → WouldSynchronize x.log g w
  like_there g Init like = tt
  like_there g (At u) like = (like.0, takes.has.events u like.0 like.1, like.2, like.3)

  -- ---- by the order of the thread

  thread_edge : (p : Past) (is : IsEarlier s b p) → HappensBefore (execution x) (At is.key) (At b)
  thread_edge p is = ([], inl (record { first = arrived_there is.place is.key is.at; second = next_there; same_thread = is.same; earlier = is.less }))

  pub thread_past : (p : Past) → IsThreadPast s b p → IsBefore x b p.clock
  thread_past p (inl none) a counts there = absurd (none.0 a counts)
  thread_past p (inr is) a counts there = by ((knows.past x takes.has is.place is.key p is.at is.at_past).0 a counts there)
    where
      by : (a ≡ is.key) ⊎ HappensBefore (execution x) (At a) (At is.key) → HappensBefore (execution x) (At a) (At b)
      by (inl same) = subst (λ k. HappensBefore (execution x) (At k) (At b)) (sym same) (thread_edge p is)
      by (inr hb) = before_join (execution x) (At a) (At is.key) (At b) hb (thread_edge p is)

  pub thread_order : (p : Past) → IsThreadPast s b p → IsAhead x b p.order
  thread_order p (inl none) a counts there = absurd (none.1 a counts)
  thread_order p (inr is) a counts there = by ((knows.past x takes.has is.place is.key p is.at is.at_past).1 a counts there)
    where
      edge : place (execution x) (At is.key) < place (execution x) (At b)
      edge = takes.has.valid.keeps_order (At is.key) (At b) (thread_edge p is)

      by : (a ≡ is.key) ⊎ (place (execution x) (At a) < place (execution x) (At is.key)) → place (execution x) (At a) < place (execution x) (At b)
      by (inl same) = subst (λ k. place (execution x) (At k) < place (execution x) (At b)) (sym same) edge
      by (inr less) = omega (arith, less, edge)

  -- ---- the writers of its bytes

  pub source : (k : ℕ) (w : EventId) → ReadsFrom (execution x) b k w → IsSource s w
  source k Init from = tt
  source k (At u) from = takes.from k u from

  left_there : (w : EventId) → IsSource s w → (a : ℕ) → byte_by (execution x) w a ≡ left_by initial s.log w a
  left_there Init src a = ap (λ i. slice_get i a) takes.has.memory
  left_there (At w) src a =
      let f = some_of (event_in s.log w) (takes.has.there src.0 w src.2) in
      ap (option_and_then (λ e. byte_written e a)) (takes.has.events w f.0 f.1 ∙ sym f.1)

  -- what comes after a source
  after : (place : ℕ) (key : EventKey) → slice_get s.arrived place ≡ Some key → (w : EventId) → IsSource s w → IsAfter s place key w → HappensBefore (execution x) w (At key)
  after place key at Init src is = ([], arrived_there place key at)
  after place key at (At u) src is = by ((knows.past x takes.has place key is.1 at is.2).0 u is.3 (arrived_there src.0 u src.2))
    where
      by : (u ≡ key) ⊎ HappensBefore (execution x) (At u) (At key) → HappensBefore (execution x) (At u) (At key)
      by (inl same) = absurd (is.0 same)
      by (inr hb) = hb

  -- and what stands after it
  pub stands : (i : ℕ) (key : EventKey) → slice_get s.arrived i ≡ Some key → (w : EventId) → IsSource s w → StandsAfter s i key w → place (execution x) w < place (execution x) (At key)
  stands i key at Init src is = takes.has.valid.keeps_order Init (At key) ([], arrived_there i key at)
  stands i key at (At u) src is = by ((knows.past x takes.has i key is.1 at is.2).1 u is.3 (arrived_there src.0 u src.2))
    where
      by : (u ≡ key) ⊎ (place (execution x) (At u) < place (execution x) (At key)) → place (execution x) (At u) < place (execution x) (At key)
      by (inl same) = absurd (is.0 same)
      by (inr less) = less

  -- e would synchronize with w, which comes after u and writes what e takes from u
  overwritten : (w u : EventId) (i k : ℕ) → Overwrites s e w u → ReadsFrom (execution x) b i w → ReadsFrom (execution x) b k u → ⊥
  overwritten w u i k o first second = (takes.has.valid.keeps_coherence b e k u takes.next second).1 (At v) left (after o.place v o.later.at u (source k u second) o.later.after) edge
    where
      v : EventKey
      v = o.later.key

      from : ReadsFrom (execution x) b i (At v)
      from = subst (ReadsFrom (execution x) b i) o.later.is first

      like : WouldSynchronize x.log e (At v)
      like = like_there e (At v) (subst (WouldSynchronize s.log e) o.later.is o.like)

      edge : HappensBefore (execution x) (At v) (At b)
      edge = source_before x takes.has.shaped takes.has.valid b e i (At v) takes.next o.atomic like from

      some_left : IsSome (byte_written like.0 (e.address + i))
      some_left =
          subst (λ o. IsSome o) (sym (takes.has.valid.keeps_written_values b e i (At v) takes.next from).1 ∙ ap (option_and_then (λ f. byte_written f (e.address + i))) like.1) refl

      within : k < bytes_of e.width
      within = read_byte (reads e) (bytes_of e.width) (length ((execution x).writers_of b)) k (takes.has.shaped.good b e takes.next).count (slice_get_within ((execution x).writers_of b) k u second)

      left : IsSome (byte_by (execution x) (At v) (e.address + k))
      left = subst (λ o. IsSome o) (sym (ap (option_and_then (λ f. byte_written f (e.address + k))) like.1)) (written_bytes like.0 e i k like.3 some_left within)

  module _ (before : Clock) (is_before : IsBefore x b before) where
    hidden : (k : ℕ) (w : EventId) → IsSource s w → ReadsFrom (execution x) b k w → (place : ℕ) → Hides s before place w (e.address + k) → ⊥
    hidden k w src from place h = (takes.has.valid.keeps_coherence b e k w takes.next from).1 (At h.key) writes (after place h.key h.at w src h.after) (is_before h.key h.counted (arrived_there place h.key h.at))
      where
        writes : IsSome (byte_by (execution x) (At h.key) (e.address + k))
        writes = subst (λ o. IsSome o) (sym (left_there (At h.key) (place, slice_get_within s.arrived place h.key h.at, h.at) (e.address + k))) h.writes

    cannot : (k : ℕ) (w : EventId) → ReadsFrom (execution x) b k w → CannotGive initial s before e k w → ⊥
    cannot k w from (inl value) = value (sym (left_there w (source k w from) (e.address + k)) ∙ (takes.has.valid.keeps_written_values b e k w takes.next from).1)
    cannot k w from (inr h) = hidden k w (source k w from) from h.0 h.1

    like : (w : EventId) → IsLike s.log e w → IsTearFreeLike (execution x) e w
    like w l = (l.event, ap (event_at (execution x)) l.is ∙ takes.has.events l.key l.event l.at, l.free, l.same)

    apart : (w u : EventId) (i k : ℕ) → AreApart s e w u → ReadsFrom (execution x) b i w → ReadsFrom (execution x) b k u → ⊥
    apart w u i k (inl tears) first second = tears.other (takes.has.valid.keeps_no_tearing b e takes.next tears.free u w ((k, second), like u tears.second) ((i, first), like w tears.first))
    apart w u i k (inr (inl o)) first second = overwritten w u i k o first second
    apart w u i k (inr (inr o)) first second = overwritten u w k i o second first

    -- two updates don't take from one source
    taken : (w : EventId) → ReadsFrom (execution x) b 0 w → IsTaken s e w → ⊥
    taken w from t = omega (arith, less, more)
      where
        u : EventKey
        u = t.rival.key

        f : Event
        f = t.rival.like.event

        at_u : event_in x.log u ≡ Some f
        at_u = takes.has.events u f t.rival.like.at_event

        from_u : ReadsFrom (execution x) u 0 w
        from_u = subst (IsFrom x u) t.rival.from (knows.past x takes.has t.place u t.rival.past t.rival.at t.rival.at_past).2

        like_of : (w : EventId) → WouldSynchronize x.log e w → WouldSynchronize x.log f w
        like_of Init is = tt
        like_of (At v) is = (is.0, is.1, is.2, is.3 ∙ sym t.rival.like.same)

        like_e : WouldSynchronize x.log e w
        like_e = like_there e w t.source

        apart_from : b ≢ u
        apart_from same = not_next u f t.rival.like.at_event (sym same)

        source_first : (r : EventKey) (g : Event) → event_in x.log r ≡ Some g → IsTrue (is_atomic g) → WouldSynchronize x.log g w → ReadsFrom (execution x) r 0 w → place (execution x) w < place (execution x) (At r)
        source_first r g at atomic is read = takes.has.valid.keeps_order w (At r) (source_before x takes.has.shaped takes.has.valid r g 0 w at atomic is read)

        less : place (execution x) (At u) < place (execution x) (At b)
        less =
            stands_before x takes.has.shaped takes.has.valid u b f e 0 w at_u t.rival.like.atomic (like_of w like_e) from_u takes.next t.atomic t.writing (sym t.rival.like.same) apart_from
            (source_first b e takes.next t.atomic like_e from)

        more : place (execution x) (At b) < place (execution x) (At u)
        more =
            stands_before x takes.has.shaped takes.has.valid b u e f 0 w takes.next t.atomic like_e from at_u t.rival.like.atomic t.rival.like.writing t.rival.like.same (not_next u f t.rival.like.at_event)
            (source_first u f at_u t.rival.like.atomic (like_of w like_e) from_u)

    -- no atomic write stands between it and its source
    overtaken : (order : Clock) → IsAhead x b order → (w : EventId) → ReadsFrom (execution x) b 0 w → IsOvertaken s order e w → ⊥
    overtaken order ahead w from o = omega (arith, less, more)
      where
        v : EventKey
        v = o.write.key

        f : Event
        f = o.write.like.event

        at_v : event_in x.log v ≡ Some f
        at_v = takes.has.events v f o.write.like.at_event

        less : place (execution x) (At v) < place (execution x) (At b)
        less = ahead v o.write.counted (arrived_there o.place v o.write.at)

        more : place (execution x) (At b) < place (execution x) (At v)
        more =
            stands_before x takes.has.shaped takes.has.valid b v e f 0 w takes.next o.atomic (like_there e w o.source) from at_v o.write.like.atomic o.write.like.writing o.write.like.same
            (not_next v f o.write.like.at_event) (stands o.place v o.write.at w (source 0 w from) o.write.after)

    module _ (reading : reads e ≡ true) where
      count : length ((execution x).writers_of b) ≡ bytes_of e.width
      count = (takes.has.shaped.good b e takes.next).count ∙ ap (λ r. if r then bytes_of e.width else 0) reading

      writer : (k : ℕ) → k < bytes_of e.width → (u : EventId) × ReadsFrom (execution x) b k u
      writer k lt = item_within ((execution x).writers_of b) k (subst (λ n. k < n) (sym count) lt)

      -- byte k isn't from nothing, if byte i is from w
      not_alone : (w : EventId) (i k : ℕ) → ReadsFrom (execution x) b i w → k < bytes_of e.width → HasNoSource initial s before e w k → ⊥
      not_alone w i k from lt none = by (none u.0 (source k u.0 u.1))
        where
          u : (v : EventId) × ReadsFrom (execution x) b k v
          u = writer k lt

          by : AreApart s e w u.0 ⊎ CannotGive initial s before e k u.0 → ⊥
          by (inl are) = apart w u.0 i k are from u.1
          by (inr c) = cannot k u.0 u.1 c

      not_taken : (w : EventId) (k : ℕ) → ReadsFrom (execution x) b k w → CannotTake initial s before e k w → ⊥
      not_taken w k from (inl c) = cannot k w from c
      not_taken w k from (inr (j, lt, none)) = not_alone w k j from lt none

      -- the mark of its thread is not kept
      pub breaks_mark : BreaksMark initial s before e → KeepsMark s e x → ⊥
      breaks_mark (n, marked, nothing) keeps = by (cases_lt arrived.0 n)
        where
          new : (k : ℕ) × (w : EventKey) × ReadsFrom (execution x) b k (At w) × (HasArrived s.arrived n w → ⊥)
          new = keeps n marked

          arrived : HasArrived s.arrived (length s.arrived) new.1
          arrived = takes.from new.0 new.1 new.2

          by : (arrived.0 < n) ⊎ (n ≤ arrived.0) → ⊥
          by (inl less) = new.3 (arrived.0, less, arrived.2)
          by (inr most) =
              let lt = subst (λ m. new.0 < m) count (slice_get_within ((execution x).writers_of b) new.0 (At new.1) new.2) in
              not_taken (At new.1) new.0 new.2 (nothing arrived.0 new.1 most arrived.2 new.0 lt)

  module _ (before : Past) (is_before : IsBefore x b before.clock) (is_ahead : IsAhead x b before.order) (reading : reads e ≡ true) where
    not_begin : (w : EventId) → ReadsFrom (execution x) b 0 w → CannotBegin initial s before e w → ⊥
    not_begin w from (inl c) = cannot before.clock is_before 0 w from c
    not_begin w from (inr (inl t)) = taken before.clock is_before w from t
    not_begin w from (inr (inr (inl o))) = overtaken before.clock is_before before.order is_ahead w from o
    not_begin w from (inr (inr (inr (k, lt, none)))) = not_alone before.clock is_before reading w 0 k from lt none

    -- the writer of the lowest byte
    first : (w : EventId) × ReadsFrom (execution x) b 0 w
    first = writer before.clock is_before reading 0 (some_bytes e.width)

    pub finds_none : FindsCommon initial s before e None → ⊥
    finds_none none = not_begin first.0 first.1 (none first.0 (source 0 first.0 first.1))

    -- the past of the source was gained
    common : (p : Past) → FindsCommon initial s before e (Some p) → AreGained s e first.0 p × IsOnly first.0 p.source
    common p finds = by (finds first.0 (source 0 first.0 first.1))
      where
        by : CannotBegin initial s before e first.0 ⊎ (AreGained s e first.0 p × IsOnly first.0 p.source) → AreGained s e first.0 p × IsOnly first.0 p.source
        by (inl not) = absurd (not_begin first.0 first.1 not)
        by (inr is) = is

    pub common_from : (p : Past) → FindsCommon initial s before e (Some p) → IsFrom x b p.source
    common_from p finds = given p.source (common p finds).1
      where
        given : (o : Option EventId) → IsOnly first.0 o → IsFrom x b o
        given None only = tt
        given (Some w) only = subst (ReadsFrom (execution x) b 0) only first.1

    edge : (i : ℕ) (key : EventKey) (p : Past) → first.0 ≡ At key → Synchronizes s e i key p → HappensBefore (execution x) (At key) (At b)
    edge i key p is g =
        source_before x takes.has.shaped takes.has.valid b e 0 (At key) takes.next g.reader (g.event, takes.has.events key g.event g.at_event, g.writer, g.ranges) (subst (ReadsFrom (execution x) b 0) is first.1)

    pub common_before : (p : Past) → FindsCommon initial s before e (Some p) → IsBefore x b p.clock
    common_before p finds a counts there = by ((common p finds).0.clock a counts)
      where
        by : IsGained (λ q. q.clock) s e first.0 a → HappensBefore (execution x) (At a) (At b)
        by (i, key, is, at, q, g, counted) = through ((knows.past x takes.has i key q at g.at_past).0 a counted there)
          where
            through : (a ≡ key) ⊎ HappensBefore (execution x) (At a) (At key) → HappensBefore (execution x) (At a) (At b)
            through (inl same) = subst (λ k. HappensBefore (execution x) (At k) (At b)) (sym same) (edge i key q is g)
            through (inr hb) = before_join (execution x) (At a) (At key) (At b) hb (edge i key q is g)

    pub common_ahead : (p : Past) → FindsCommon initial s before e (Some p) → IsAhead x b p.order
    common_ahead p finds a counts there = by ((common p finds).0.order a counts)
      where
        by : IsGained (λ q. q.order) s e first.0 a → place (execution x) (At a) < place (execution x) (At b)
        by (i, key, is, at, q, g, counted) = through ((knows.past x takes.has i key q at g.at_past).1 a counted there)
          where
            less : place (execution x) (At key) < place (execution x) (At b)
            less = takes.has.valid.keeps_order (At key) (At b) (edge i key q is g)

            through : (a ≡ key) ⊎ (place (execution x) (At a) < place (execution x) (At key)) → place (execution x) (At a) < place (execution x) (At b)
            through (inl same) = subst (λ k. place (execution x) (At k) < place (execution x) (At b)) (sym same) less
            through (inr before) = omega (arith, before, less)

  -- ---- with the event itself

  pub own_past : (c own : Clock) → IsBefore x b c → CountsToo own c b → IsPast x b own
  own_past c own is with_own a counts there = by (with_own a counts)
    where
      number : (a.thread ≡ b.thread) → (a.number < b.number) ⊎ (b.number ≤ a.number) → a.number ≤ b.number → (a ≡ b) ⊎ HappensBefore (execution x) (At a) (At b)
      number same (inl less) le = inr ([], inl (record { first = there; second = next_there; same_thread = same; earlier = less }))
      number same (inr most) le = inl (ap (λ i. record { thread = i; number = a.number }) same ∙ ap (λ n. record { thread = b.thread; number = n }) (omega (arith, most, le)))

      by : Counts c a ⊎ ((a.thread ≡ b.thread) × (a.number ≤ b.number)) → (a ≡ b) ⊎ HappensBefore (execution x) (At a) (At b)
      by (inl counted) = inr (is a counted there)
      by (inr own) = number own.0 (cases_lt a.number b.number) own.1

  pub own_order : (c own : Clock) → IsAhead x b c → CountsToo own c b → IsStanding x b own
  own_order c own is with_own a counts there = by (with_own a counts)
    where
      number : (a.thread ≡ b.thread) → (a.number < b.number) ⊎ (b.number ≤ a.number) → a.number ≤ b.number → (a ≡ b) ⊎ (place (execution x) (At a) < place (execution x) (At b))
      number same (inl less) le = inr (takes.has.valid.keeps_order (At a) (At b) ([], inl (record { first = there; second = next_there; same_thread = same; earlier = less })))
      number same (inr most) le = inl (ap (λ i. record { thread = i; number = a.number }) same ∙ ap (λ n. record { thread = b.thread; number = n }) (omega (arith, most, le)))

      by : Counts c a ⊎ ((a.thread ≡ b.thread) × (a.number ≤ b.number)) → (a ≡ b) ⊎ (place (execution x) (At a) < place (execution x) (At b))
      by (inl counted) = inr (is a counted there)
      by (inr own) = number own.0 (cases_lt a.number b.number) own.1

-- a source that the lowest byte isn't from changes nothing
pub cannot_for : (initial : List ℕ) (s : State) (before : Past) (e : Event) (common : Option Past) (w : EventId) → CannotBegin initial s before e w → FindsFor initial s before e common w
cannot_for initial s before e None w cannot = cannot
cannot_for initial s before e (Some p) w cannot = inl cannot
