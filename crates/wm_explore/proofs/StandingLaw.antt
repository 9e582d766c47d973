-- What is found to stand before events does so in each execution that has them and the next one.
use Rattle.std.proofs.Common.{◌≡◌, ℕ, ◌+◌, ◌<◌, List, [], ◌∷◌, ◌++◌, length, inl, inr, Option, Some, IsTrue, sym, ap, subst, ◌∙◌, arith}
use Rattle.std.specs.Prelude.{◌⊎◌, slice_get}
use Rattle.std.proofs.lemmas.List.{length-append}
use Rattle.std.proofs.lemmas.Option.{none-some, slice_get_within}
use Rattle.wm_event.specs.Event.{is_atomic, key_of, writes}
use Rattle.wm_event.specs.Execution.{ReadsFrom, place}
use Rattle.wm_event.specs.Log.{event_in}
use Rattle.wm_event.specs.LoggedRun.{LoggedRun, execution}
use Rattle.wm_event.specs.declared.event.Event.{Event}
use Rattle.wm_event.specs.declared.event.EventId.{EventId}
use Rattle.wm_event.specs.declared.event.EventId.TheVariants.{Init, At}
use Rattle.wm_event.specs.declared.event.EventKey.{EventKey}
use Rattle.wm_explore.specs.Clocks.{Counts}
use Rattle.wm_explore.specs.Past.{AreKnownWith, FindsPast, IsFrom, IsPast, IsPastOf, IsStanding, KnowsPast, TakesNext}
use Rattle.wm_explore.specs.Standing.{AreLaterWrites, AreOverwriting, AreRaised, CountsAny, CountsSource, IsBeforeAll, IsLaterWrite, IsRaised, IsReadBefore}
use Rattle.wm_explore.specs.declared.clock.Clock.{Clock}
use Rattle.wm_explore.specs.declared.past.Past.{Past}
use Rattle.wm_explore.specs.declared.state.State.{State}
use Rattle.wm_explore.proofs.Lists.{at_pushed}
use Rattle.wm_explore.proofs.PastLaw.{arrived_there, like_there, not_next, source, stands}
use Rattle.wm_explore.proofs.Places.{stands_before}
use Rattle.wm_explore.proofs.Beginnings.{some_of}
use Rattle.wm_explore.proofs.Turning.{item_within}

module _ (initial : List ℕ) (s : State) (e : Event) (knows : KnowsPast initial s) (x : LoggedRun) (takes : TakesNext initial s e x) where
  abbrev b : EventKey
  b = key_of e

  abbrev stands_at : EventId → ℕ
  stands_at w = place (execution x) w

  -- an atomic write stands after a read of its range whose source it stands after
  read_before : (i : ℕ) (c : Clock) → IsStanding x b c → IsTrue (is_atomic e) → IsTrue (writes e) → (is : IsReadBefore s e i c) → stands_at (At is.key) < stands_at (At b)
  read_before i c standing atomic writing is =
      stands_before x takes.has.shaped takes.has.valid is.key b is.event e 0 is.source (takes.has.events is.key is.event is.at_event) is.atomic (like_there initial s e knows x takes is.event is.source is.like) from takes.next
      atomic writing (sym is.same) (λ same. not_next initial s e knows x takes is.key is.event is.at_event (sym same)) (first is.source is.counted from)
    where
      from : ReadsFrom (execution x) is.key 0 is.source
      from = subst (IsFrom x is.key) is.from (knows.past x takes.has i is.key is.past is.at is.at_past).2

      first : (w : EventId) → CountsSource c w → ReadsFrom (execution x) is.key 0 w → stands_at w < stands_at (At b)
      first Init counted read = omega arith
      first (At u) counted read = by (standing u counted (arrived_there initial s e knows x takes there.0 u there.2))
        where
          there : (j : ℕ) × (j < i) × (slice_get s.arrived j ≡ Some u)
          there = takes.has.back i is.key u 0 is.at read

          by : (u ≡ b) ⊎ (stands_at (At u) < stands_at (At b)) → stands_at (At u) < stands_at (At b)
          by (inr less) = less
          by (inl same) = let f = some_of (event_in s.log u) (takes.has.there there.0 u there.2) in absurd (not_next initial s e knows x takes u f.0 f.1 same)

  -- what stands before that read stands before it
  pub through_read : (i : ℕ) (c joined : Clock) (p : Past) → IsStanding x b c → IsTrue (is_atomic e) → IsTrue (writes e) → IsReadBefore s e i c → slice_get s.pasts i ≡ Some p
      → ((a : EventKey) → Counts joined a → Counts c a ⊎ Counts p.order a) → IsStanding x b joined
  through_read i c joined p standing atomic writing is at_past counts_one a counts there = by (counts_one a counts)
    where
      less : stands_at (At is.key) < stands_at (At b)
      less = read_before i c standing atomic writing is

      through : (a ≡ is.key) ⊎ (stands_at (At a) < stands_at (At is.key)) → stands_at (At a) < stands_at (At b)
      through (inl same) = subst (λ k. stands_at (At k) < stands_at (At b)) (sym same) less
      through (inr before) = omega (arith, before, less)

      by : Counts c a ⊎ Counts p.order a → (a ≡ b) ⊎ (stands_at (At a) < stands_at (At b))
      by (inl counted) = standing a counted there
      by (inr counted) = inr (through ((knows.past x takes.has i is.key p is.at at_past).1 a counted there))

  -- an atomic read stands before the later writes
  before_later : (w : EventId) (keys : List EventKey) → ReadsFrom (execution x) b 0 w → AreLaterWrites s e w keys → IsBeforeAll x b keys
  before_later w keys from are i key at = (
    arrived_there initial s e knows x takes l.0 key l.1.at,
    stands_before x takes.has.shaped takes.has.valid b key e l.1.like.event 0 w takes.next are.atomic (like_there initial s e knows x takes e w are.source) from
        (takes.has.events key l.1.like.event l.1.like.at_event) l.1.like.atomic l.1.like.writing l.1.like.same (not_next initial s e knows x takes key l.1.like.event l.1.like.at_event)
        (stands initial s e knows x takes l.0 key l.1.at w (source initial s e knows x takes 0 w from) l.1.after),
  )
    where
      l : (i : ℕ) × IsLaterWrite s e w i key
      l = are.each i key at

  before_all : (o : Option EventId) (keys : List EventKey) → IsFrom x b o → AreOverwriting s e o keys → IsBeforeAll x b keys
  before_all o keys from (inl none) i key at = absurd (none-some key (ap (λ ks. slice_get ks i) (sym none) ∙ at))
  before_all o keys from (inr (w, given, are)) i key at = before_later w keys (subst (IsFrom x b) given from) are i key at

  -- what is raised still holds
  raised_past : (keys : List EventKey) (c : Clock) → IsStanding x b c → IsBeforeAll x b keys → (p q : Past) → IsRaised keys c p q → (a : EventKey) → IsPastOf x a p → IsPastOf x a q
  raised_past keys c standing before p q is a holds = (
    subst (IsPast x a) (sym is.clock) holds.0,
    order,
    subst (IsFrom x a) (sym is.source) holds.2,
  )
    where
      order : IsStanding x a q.order
      order d counts there = by (is.order d counts)
        where
          behind : CountsAny p.order keys → stands_at (At b) < stands_at (At a)
          behind (i, key, at, counted) = through (holds.1 key counted (before i key at).0)
            where
              less : stands_at (At b) < stands_at (At key)
              less = (before i key at).1

              through : (key ≡ a) ⊎ (stands_at (At key) < stands_at (At a)) → stands_at (At b) < stands_at (At a)
              through (inl same) = subst (λ k. stands_at (At b) < stands_at (At k)) same less
              through (inr further) = omega (arith, further, less)

          joined : stands_at (At b) < stands_at (At a) → (d ≡ b) ⊎ (stands_at (At d) < stands_at (At b)) → stands_at (At d) < stands_at (At a)
          joined less (inl same) = subst (λ k. stands_at (At k) < stands_at (At a)) (sym same) less
          joined less (inr first) = omega (arith, first, less)

          by : Counts p.order d ⊎ (CountsAny p.order keys × Counts c d) → (d ≡ a) ⊎ (stands_at (At d) < stands_at (At a))
          by (inl own) = holds.1 d own there
          by (inr (any, counted)) = inr (joined (behind any) (standing d counted there))

-- what is known of the events of a state and of the next one
pub known_with : (initial : List ℕ) (s : State) (e : Event) (p : Past) (keys : List EventKey) (raised : List Past) → KnowsPast initial s → FindsPast initial s e (Some p) → AreOverwriting s e p.source keys
    → AreRaised keys p.order s.pasts raised → (pasts : List Past) → pasts ≡ raised ++ p ∷ [] → AreKnownWith initial s e pasts
known_with initial s e p keys raised knows finds are all pasts pushed = record {
  count = ap length pushed ∙ length-append raised (p ∷ []) ∙ ap (λ n. n + 1) (all.count ∙ knows.count);
  past = λ x takes i a q at at_past. by x takes i a q (at_pushed s.arrived (key_of e) i a at) (at_pushed raised p i q (ap (λ ps. slice_get ps i) (sym pushed) ∙ at_past));
}
  where
    by : (x : LoggedRun) → TakesNext initial s e x → (i : ℕ) (a : EventKey) (q : Past) → ((i ≡ length s.arrived) × (a ≡ key_of e)) ⊎ (slice_get s.arrived i ≡ Some a)
        → ((i ≡ length raised) × (q ≡ p)) ⊎ (slice_get raised i ≡ Some q) → IsPastOf x a q
    by x takes i a q (inl last_a) (inl last_q) = subst (λ key. IsPastOf x key q) (sym last_a.1) (subst (IsPastOf x (key_of e)) (sym last_q.1) (finds x takes))
    by x takes i a q (inr old_a) (inl last_q) =
        absurd (let lt = slice_get_within s.arrived i a old_a in let here = last_q.0 in let count = knows.count in let same = all.count in omega (arith, lt, here, count, same))
    by x takes i a q (inl last_a) (inr old_q) =
        absurd (let lt = slice_get_within raised i q old_q in let here = last_a.0 in let count = knows.count in let same = all.count in omega (arith, lt, here, count, same))
    by x takes i a q (inr old_a) (inr old_q) =
        raised_past initial s e knows x takes keys p.order (finds x takes).1 (before_all initial s e knows x takes p.source keys (finds x takes).2 are) old.0 q (all.each i old.0 q old.1 old_q) a
        (knows.past x takes.has i a old.0 old_a old.1)
      where
        old : (p : Past) × (slice_get s.pasts i ≡ Some p)
        old = let lt = slice_get_within raised i q old_q in let same = all.count in item_within s.pasts i (omega (arith, lt, same))
