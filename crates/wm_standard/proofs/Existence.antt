-- A valid execution of ECMA-262 is one with the order of some witness.
use Rattle.std.proofs.Common.{◌≡◌, ℕ, zero, suc, ◌+◌, ◌<◌, ◌≤◌, ◌⊎◌, List, [], ◌∷◌, Bool, true, false, length, slice_get, Some, IsSome, IsTrue, refl, sym, ap, ◌∙◌, subst, subst₂, arith, inl, inr, ⊎_elim}
use Rattle.std.specs.Prelude.{nat_lt, if◌then◌else◌}
use Rattle.std.proofs.lemmas.Bool.{cases_lt, false≢true}
use Rattle.std.proofs.lemmas.Option.{same_Some, none-some}
use borrow.Author.Tests.{tests}
use Rattle.wm_event.specs.declared.event.EventKey.{EventKey}
use Rattle.wm_event.specs.declared.event.EventId.{EventId}
use Rattle.wm_event.specs.declared.event.EventId.TheVariants.{Init, At}
use Rattle.wm_event.specs.Execution.{place}
use Rattle.wm_event.specs.Log.{event_in}
use Rattle.wm_event.specs.LoggedRun.{LoggedRun, execution}
use Rattle.wm_event.specs.Rules.{IsValid}
use Rattle.wm_event.specs.Shape.{IsWellShaped, ListsEachOnce}
use Rattle.wm_event.proofs.PlaceLemmas.{position_listed}
use Rattle.wm_standard.specs.SharedEvents.{HaveOverlappingRanges}
use Rattle.wm_standard.specs.CandidateExecution.{CandidateExecution, IsEvent}
use Rattle.wm_standard.specs.Relations.{HappensBefore, SynchronizesWith}
use Rattle.wm_standard.specs.Relations.HappensBefore.{in_agent, initial, synchronized, through}
use Rattle.wm_standard.specs.Relations.SynchronizesWith.{of_agent, of_host, of_memory}
use Rattle.wm_standard.specs.ValidExecution.{IsValidExecution}
use Rattle.wm_standard.specs.Transcribed.{AreOperations, Operation, candidate_of, order_of}
use Rattle.wm_standard.specs.Agreement.{AgreesInSomeOrder, Ends, IsStandardExecution, IsValidInSomeOrder, ValuesEnd, with_order}
use Rattle.wm_standard.specs.Agreement.Ends.{ends}
use Rattle.wm_standard.proofs.Events.{some_of, is-event, some-is}
use Rattle.wm_standard.proofs.Orders.{before-from, no-agent-pairs}
use Rattle.wm_standard.proofs.Agreement.{Member, from-standard, member, to-standard, total}
use Rattle.wm_standard.proofs.Agreement.Member.{is_at, is_init}

-- ---- sorting by a test

module _ {X : Type 0} (less : X → X → Bool) where
  abbrev insert_by : X → List X → List X
  insert_by a [] = a ∷ []
  insert_by a (b ∷ bs) = if less a b then a ∷ b ∷ bs else b ∷ insert_by a bs

  abbrev pub sort_by : List X → List X
  sort_by [] = []
  sort_by (a ∷ as') = insert_by a (sort_by as')

  abbrev pub Has : List X → X → Type 0
  Has xs a = (i : ℕ) × (slice_get xs i ≡ Some a)

  has-none : (a : X) → Has [] a → ⊥
  has-none a h = none-some a h.1

  has-cases : (b : X) (xs : List X) (a : X) → Has (b ∷ xs) a → (b ≡ a) ⊎ Has xs a
  has-cases b xs a (zero, at) = inl (same_Some b a at)
  has-cases b xs a (suc i, at) = inr (i, at)

  has-first : (b : X) (xs : List X) (a : X) → b ≡ a → Has (b ∷ xs) a
  has-first b xs a h = (0, ap Some h)

  has-later : (b : X) (xs : List X) (a : X) → Has xs a → Has (b ∷ xs) a
  has-later b xs a h = (suc h.0, h.1)

  inserted-has : (a : X) (xs : List X) (c : X) → Has (insert_by a xs) c → (a ≡ c) ⊎ Has xs c
  inserted-has a [] c h = has-cases a [] c h
  inserted-has a (b ∷ bs) c h = by (less a b) h (inserted-has a bs c)
    where
      by : (t : Bool) → Has (if t then a ∷ b ∷ bs else b ∷ insert_by a bs) c → (Has (insert_by a bs) c → (a ≡ c) ⊎ Has bs c) → (a ≡ c) ⊎ Has (b ∷ bs) c
      by true h rest = has-cases a (b ∷ bs) c h
      by false h rest = ⊎_elim (λ (e : b ≡ c). inr (has-first b bs c e)) (λ (k : Has (insert_by a bs) c). ⊎_elim (λ (e : a ≡ c). inl e) (λ (m : Has bs c). inr (has-later b bs c m)) (rest k)) (has-cases b (insert_by a bs) c h)

  has-inserted : (a : X) (xs : List X) (c : X) → (a ≡ c) ⊎ Has xs c → Has (insert_by a xs) c
  has-inserted a [] c h = ⊎_elim (λ (e : a ≡ c). has-first a [] c e) (λ (k : Has [] c). absurd (has-none c k)) h
  has-inserted a (b ∷ bs) c h = by (less a b) (has-inserted a bs c)
    where
      by : (t : Bool) → ((a ≡ c) ⊎ Has bs c → Has (insert_by a bs) c) → Has (if t then a ∷ b ∷ bs else b ∷ insert_by a bs) c
      by true rest = ⊎_elim (λ (e : a ≡ c). has-first a (b ∷ bs) c e) (λ (k : Has (b ∷ bs) c). has-later a (b ∷ bs) c k) h
      by false rest = ⊎_elim (λ (e : a ≡ c). has-later b (insert_by a bs) c (rest (inl e)))
          (λ (k : Has (b ∷ bs) c). ⊎_elim (λ (e : b ≡ c). has-first b (insert_by a bs) c e) (λ (m : Has bs c). has-later b (insert_by a bs) c (rest (inr m))) (has-cases b bs c k)) h

  pub sorted-has : (xs : List X) (c : X) → Has (sort_by xs) c → Has xs c
  sorted-has [] c h = h
  sorted-has (a ∷ xs) c h = ⊎_elim (λ (e : a ≡ c). has-first a xs c e) (λ (k : Has (sort_by xs) c). has-later a xs c (sorted-has xs c k)) (inserted-has a (sort_by xs) c h)

  pub has-sorted : (xs : List X) (c : X) → Has xs c → Has (sort_by xs) c
  has-sorted [] c h = h
  has-sorted (a ∷ xs) c h = has-inserted a (sort_by xs) c (⊎_elim (λ (e : a ≡ c). inl e) (λ (k : Has xs c). inr (has-sorted xs c k)) (has-cases a xs c h))

  -- the first is less than each later one, and so on
  abbrev pub Rises : List X → Type 0
  Rises [] = Unit {0}
  Rises (a ∷ xs) = ((c : X) → Has xs c → IsTrue (less a c)) × Rises xs

  -- on the items of P the test is a strict total order
  module _ (P : X → Type 0) (transitive : (a b c : X) → P a → P b → P c → IsTrue (less a b) → IsTrue (less b c) → IsTrue (less a c))
      (total : (a b : X) → P a → P b → (a ≡ b) ⊎ (IsTrue (less a b) ⊎ IsTrue (less b a))) where
    abbrev AllP : List X → Type 0
    AllP xs = (c : X) → Has xs c → P c

    inserted-rises : (a : X) (xs : List X) → P a → AllP xs → (Has xs a → ⊥) → Rises xs → Rises (insert_by a xs)
    inserted-rises a [] is all new up = (λ c h. absurd (has-none c h), tt)
    inserted-rises a (b ∷ bs) is all new up = by (less a b) refl (inserted-rises a bs is (λ c h. all c (has-later b bs c h)) (λ h. new (has-later b bs a h)) up.1)
      where
        is_b : P b
        is_b = all b (has-first b bs b refl)

        after : IsTrue (less a b) → (c : X) → Has (b ∷ bs) c → IsTrue (less a c)
        after l c h = ⊎_elim (λ (e : b ≡ c). subst (λ c. IsTrue (less a c)) e l) (λ (k : Has bs c). transitive a b c is is_b (all c h) l (up.0 c k)) (has-cases b bs c h)

        turned : less a b ≡ false → IsTrue (less b a)
        turned f = ⊎_elim (λ (e : a ≡ b). absurd (new (has-first b bs a (sym e))))
            (λ (o : IsTrue (less a b) ⊎ IsTrue (less b a)). ⊎_elim (λ (t : IsTrue (less a b)). absurd (false≢true (sym f ∙ t))) (λ (t : IsTrue (less b a)). t) o)
            (total a b is is_b)

        by : (t : Bool) → less a b ≡ t → Rises (insert_by a bs) → Rises (if t then a ∷ b ∷ bs else b ∷ insert_by a bs)
        by true l rest = (after l, up)
        by false l rest = (λ c h. ⊎_elim (λ (e : a ≡ c). subst (λ c. IsTrue (less b c)) e (turned l)) (λ (k : Has bs c). up.0 c k) (inserted-has a bs c h), rest)

    pub sorted-rises : (xs : List X) → AllP xs → ((m n : ℕ) (c : X) → slice_get xs m ≡ Some c → slice_get xs n ≡ Some c → m ≡ n) → Rises (sort_by xs)
    sorted-rises [] all once = tt
    sorted-rises (a ∷ xs) all once = inserted-rises a (sort_by xs) (all a (has-first a xs a refl)) (λ c h. all c (has-later a xs c (sorted-has xs c h)))
        (λ h. let k = sorted-has xs a h in let e : suc k.0 ≡ 0 = once (suc k.0) 0 a k.1 refl in omega (arith, e))
        (sorted-rises xs (λ c h. all c (has-later a xs c h)) (λ m n c p q. let e : suc m ≡ suc n = once (suc m) (suc n) c p q in omega (arith, e)))

  pub rises-at : (xs : List X) → Rises xs → (m n : ℕ) (a b : X) → m < n → slice_get xs m ≡ Some a → slice_get xs n ≡ Some b → IsTrue (less a b)
  rises-at [] up m n a b l at_a at_b = absurd (none-some a at_a)
  rises-at (x ∷ xs) up zero zero a b l at_a at_b = absurd (omega (arith, l))
  rises-at (x ∷ xs) up zero (suc n) a b l at_a at_b = subst (λ a. IsTrue (less a b)) (same_Some x a at_a) (up.0 b (n, at_b))
  rises-at (x ∷ xs) up (suc m) zero a b l at_a at_b = absurd (omega (arith, l))
  rises-at (x ∷ xs) up (suc m) (suc n) a b l at_a at_b = rises-at xs up.1 m n a b (omega (arith, l)) at_a at_b

nat_less : (a b : ℕ) → nat_lt a b ≡ true → a < b
nat_less a b h = grind (arith, tests)

less_nat : (a b : ℕ) → a < b → nat_lt a b ≡ true
less_nat a b h = grind (arith, tests)

ends-same : (run : LoggedRun) (order : List EventKey) {r : EventKey} → Ends (execution run) r → Ends (execution (with_order run order)) r
ends-same run order {r} (ends next) = ends (λ k u f from there update. ends-same run order (next k u f from there update))

same-ends : (run : LoggedRun) (order : List EventKey) {r : EventKey} → Ends (execution (with_order run order)) r → Ends (execution run) r
same-ends run order {r} (ends next) = ends (λ k u f from there update. same-ends run order (next k u f from there update))

-- ---- memory orders

module _ (run : LoggedRun) (ops : EventKey → Operation) (shape : IsWellShaped run) (fitting : AreOperations run ops) (large : 8 < length run.initial) where
  abbrev c : CandidateExecution EventId
  c = candidate_of run ops

  -- happens-before relates events
  before-events : {e d : EventId} → HappensBefore HaveOverlappingRanges c e d → IsEvent c e × IsEvent c d
  before-events {e} {d} (in_agent o) = ((o.agent, o.record_of, o.first, o.is_record, o.is_first), (o.agent, o.record_of, o.second, o.is_record, o.is_second))
  before-events {e} {d} (synchronized s) = by s
    where
      by : {e d : EventId} → SynchronizesWith c e d → IsEvent c e × IsEvent c d
      by (of_memory g f from is_w f_atomic g_atomic equal) = (is_w.event, from.reader.event)
      by {e} {d} (of_agent n i q at_q at_p) = absurd (no-agent-pairs run ops shape large n i q (e, d) at_q at_p)
      by (of_host h) = absurd h
  before-events {e} {d} (initial f g is_e is_d is apart overlap) = (is_e.event, is_d.event)
  before-events {e} {d} (through h k) = ((before-events h).0, (before-events k).1)

  -- ---- from the rules in some order

  module _ (order : List EventKey) (lists : IsWellShaped (with_order run order)) (valid : IsValid (execution (with_order run order))) (values : ValuesEnd (execution run)) where
    abbrev test : EventId → EventId → Bool
    test e d = nat_lt (place (execution (with_order run order)) e) (place (execution (with_order run order)) d)

    tested : (e d : EventId) → order_of (with_order run order) e d → IsTrue (test e d)
    tested e d l = less_nat (place (execution (with_order run order)) e) (place (execution (with_order run order)) d) l

    untested : (e d : EventId) → IsTrue (test e d) → order_of (with_order run order) e d
    untested e d h = nat_less (place (execution (with_order run order)) e) (place (execution (with_order run order)) d) h

    std : IsValidExecution HaveOverlappingRanges c (order_of (with_order run order))
    std = to-standard (with_order run order) ops lists fitting large valid (λ r there. ends-same run order (values r there))

    some-standard : IsStandardExecution run ops
    some-standard = (
      test,
      record {
        reads_bytes_from = std.reads_bytes_from;
        host = std.host;
        strict = std.strict;
        chosen = std.chosen;
        coherent = std.coherent;
        tear_free = std.tear_free;
        memory_order = record {
          irreflexive = λ e is h. std.memory_order.irreflexive e is (untested e e h);
          transitive = λ e f d is_e is_f is_d h k. tested e d (std.memory_order.transitive e f d is_e is_f is_d (untested e f h) (untested f d k));
          total = λ e d is_e is_d. ⊎_elim
              (λ (same : e ≡ d). inl same)
              (λ (o : order_of (with_order run order) e d ⊎ order_of (with_order run order) d e). inr (⊎_elim
              (λ (l : order_of (with_order run order) e d). inl (tested e d l))
              (λ (l : order_of (with_order run order) d e). inr (tested d e l))
              o))
              (std.memory_order.total e d is_e is_d);
          keeps_happens_before = λ e d h. tested e d (std.memory_order.keeps_happens_before e d h);
          keeps_atomics = λ r w v f g h from is_w is_v does atomic p q o. std.memory_order.keeps_atomics r w v f g h from is_w is_v does atomic (untested w v p) (untested v r q) o;
          finite = λ w g is does atomic. let k = std.memory_order.finite w g is does atomic in (k.0, λ e p. k.1 e (p.0, p.1, p.2, p.3, untested e w p.4));
        };
      },
    )

  -- ---- from some memory order

  module _ (before : EventId → EventId → Bool) (std : IsValidExecution HaveOverlappingRanges c (λ e d. IsTrue (before e d))) where
    abbrev less : EventKey → EventKey → Bool
    less a b = before (At a) (At b)

    abbrev order : List EventKey
    order = sort_by less run.witness.order

    abbrev There : EventKey → Type 0
    There key = IsSome (event_in run.log key)

    event-there : (key : EventKey) → There key → IsEvent c (At key)
    event-there key there = let e = some-is (event_in run.log key) there in is-event run ops shape key e.0 e.1

    transitive : (a b d : EventKey) → There a → There b → There d → IsTrue (less a b) → IsTrue (less b d) → IsTrue (less a d)
    transitive a b d is_a is_b is_d h k = std.memory_order.transitive (At a) (At b) (At d) (event-there a is_a) (event-there b is_b) (event-there d is_d) h k

    total-keys : (a b : EventKey) → There a → There b → (a ≡ b) ⊎ (IsTrue (less a b) ⊎ IsTrue (less b a))
    total-keys a b is_a is_b = ⊎_elim
        (λ (same : At a ≡ At b). inl (let k : a ≡ b = cc in k))
        (λ (o : IsTrue (less a b) ⊎ IsTrue (less b a)). inr o)
        (std.memory_order.total (At a) (At b) (event-there a is_a) (event-there b is_b))

    rises : Rises less order
    rises = sorted-rises less There transitive total-keys run.witness.order (λ key h. shape.order.events h.0 key h.1) shape.order.once

    listed-there : (n : ℕ) (key : EventKey) → slice_get order n ≡ Some key → There key
    listed-there n key at = let k = sorted-has less run.witness.order key (n, at) in shape.order.events k.0 key k.1

    never : (key : EventKey) → There key → IsTrue (less key key) → ⊥
    never key there h = std.memory_order.irreflexive (At key) (event-there key there) h

    lists : ListsEachOnce run.log order
    lists = record {
      listed = λ key there. has-sorted less run.witness.order key (shape.order.listed key there);
      events = listed-there;
      once = λ m n key at_m at_n. ⊎_elim
          (λ (l : m < n). absurd (never key (listed-there m key at_m) (rises-at less order rises m n key key l at_m at_n)))
          (λ (l : n ≤ m). ⊎_elim
          (λ (k : n < m). absurd (never key (listed-there m key at_m) (rises-at less order rises n m key key k at_n at_m)))
          (λ (k : m ≤ n). omega (arith, l, k))
          (cases_lt n m))
          (cases_lt m n);
    }

    shape' : IsWellShaped (with_order run order)
    shape' = record { keys = shape.keys; few = shape.few; counts = shape.counts; good = shape.good; order = lists }

    agrees : (e d : EventId) → Member run ops shape fitting large e → Member run ops shape fitting large d → order_of (with_order run order) e d → IsTrue (before e d)
    agrees e d (is_init h) (is_init k) l =
        let p = ap (place (execution (with_order run order))) h in
        let q = ap (place (execution (with_order run order))) k in
        absurd (omega (arith, l, p, q))
    agrees e d (is_init h) (is_at b g k is_b) l =
        subst₂ (λ e d. IsTrue (before e d)) (sym h) (sym k)
        (std.memory_order.keeps_happens_before Init (At b) (before-from run ops shape large Init (At b) ([], some_of (event_in run.log b) g is_b)))
    agrees e d (is_at a f h is_a) (is_init k) l = let q = ap (place (execution (with_order run order))) k in absurd (omega (arith, l, q))
    agrees e d (is_at a f h is_a) (is_at b g k is_b) l =
        let m = lists.listed a (some_of (event_in run.log a) f is_a) in
        let n = lists.listed b (some_of (event_in run.log b) g is_b) in
        let s : (execution (with_order run order)).place_of a ≡ m.0 = position_listed run.log order lists m.0 a m.1 in
        let t : (execution (with_order run order)).place_of b ≡ n.0 = position_listed run.log order lists n.0 b n.1 in
        let p : place (execution (with_order run order)) e ≡ 1 + (execution (with_order run order)).place_of a = ap (place (execution (with_order run order))) h in
        let q : place (execution (with_order run order)) d ≡ 1 + (execution (with_order run order)).place_of b = ap (place (execution (with_order run order))) k in
        subst₂ (λ e d. IsTrue (before e d)) (sym h) (sym k) (rises-at less order rises m.0 n.0 a b (omega (arith, l, p, q, s, t)) m.1 n.1)

    agrees-events : (e d : EventId) → IsEvent c e → IsEvent c d → order_of (with_order run order) e d → IsTrue (before e d)
    agrees-events e d is_e is_d l = agrees e d (member run ops shape fitting large e is_e) (member run ops shape fitting large d is_d) l

    back : (e d : EventId) → IsEvent c e → IsEvent c d → IsTrue (before e d) → order_of (with_order run order) e d
    back e d is_e is_d h = ⊎_elim
        (λ (same : e ≡ d). absurd (std.memory_order.irreflexive e is_e (subst (λ d. IsTrue (before e d)) (sym same) h)))
        (λ (o : order_of (with_order run order) e d ⊎ order_of (with_order run order) d e). ⊎_elim
        (λ (l : order_of (with_order run order) e d). l)
        (λ (l : order_of (with_order run order) d e). absurd (std.memory_order.irreflexive e is_e (std.memory_order.transitive e d e is_e is_d is_e h (agrees-events d e is_d is_e l))))
        o)
        (total (with_order run order) ops shape' fitting large e d (member (with_order run order) ops shape' fitting large e is_e) (member (with_order run order) ops shape' fitting large d is_d))

    std' : IsValidExecution HaveOverlappingRanges (candidate_of (with_order run order) ops) (order_of (with_order run order))
    std' = record {
      reads_bytes_from = std.reads_bytes_from;
      host = std.host;
      strict = std.strict;
      chosen = std.chosen;
      coherent = std.coherent;
      tear_free = std.tear_free;
      memory_order = record {
        irreflexive = λ e is l. omega (arith, l);
        transitive = λ e f d is_e is_f is_d l m. omega (arith, l, m);
        total = λ e d is_e is_d. total (with_order run order) ops shape' fitting large e d (member (with_order run order) ops shape' fitting large e is_e) (member (with_order run order) ops shape' fitting large d is_d);
        keeps_happens_before = λ e d h. let k = before-events h in back e d k.0 k.1 (std.memory_order.keeps_happens_before e d h);
        keeps_atomics = λ r w v f g h from is_w is_v does atomic p q o.
            std.memory_order.keeps_atomics r w v f g h from is_w is_v does atomic (agrees-events w v is_w.event is_v.event p) (agrees-events v r is_v.event from.reader.event q) o;
        finite = λ w g is does atomic. let k = std.memory_order.finite w g is does atomic in (k.0, λ e p. k.1 e (p.0, p.1, p.2, p.3, agrees-events e w p.1.event is.event p.4));
      };
    }

    in-some-order : IsValidInSomeOrder run × ValuesEnd (execution run)
    in-some-order =
        let both = from-standard (with_order run order) ops shape' fitting large std' in
        ((order, shape', both.0), λ r there. same-ends run order (both.1 r there))

pub agrees-in-some-order : AgreesInSomeOrder
agrees-in-some-order run ops shape fitting large = (λ both. some-standard run ops shape fitting large both.0.0 both.0.1 both.0.2 both.1, λ std. in-some-order run ops shape fitting large std.0 std.1)
