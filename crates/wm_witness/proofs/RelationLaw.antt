-- Rows of a relation: each event that a row counts is always before that of the row.
use Rattle.std.proofs.Common.{◌≡◌, ◌⊎◌, ℕ, ◌<◌, ◌≤◌, List, [], ◌∷◌, ◌++◌, IsSome, get_or, length, refl, sym, subst, arith, inr, ⊎_elim}
use Rattle.std.proofs.lemmas.Bool.{cases_lt}
use Rattle.std.proofs.lemmas.List.Elements.{All-append, All-cons, All-nil}
use Rattle.wm_event.specs.declared.event.EventKey.{EventKey}
use Rattle.wm_event.specs.declared.event.EventId.TheVariants.{At}
use Rattle.wm_event.specs.HappensBefore.{HappensBefore}
use Rattle.wm_event.specs.Log.{event_in}
use Rattle.wm_event.specs.LoggedRun.{LoggedRun, execution}
use Rattle.wm_event.specs.Rules.{IsValid}
use Rattle.wm_hb.proofs.CycleLaws.{earlier-there}
use Rattle.wm_hb.proofs.ThreadLemmas.{in_program}
use Rattle.wm_writers.specs.Forced.{with_witness}
use Rattle.wm_witness.specs.declared.assumption.Assumption.{Assumption}
use Rattle.wm_witness.specs.declared.row.Row.{Row}
use Rattle.wm_witness.specs.declared.relation.Kind.{Kind}
use Rattle.wm_witness.specs.declared.relation.Kind.TheVariants.{Happens, Stands}
use Rattle.wm_witness.specs.declared.relation.Pair.{Pair}
use Rattle.wm_witness.specs.Always.{IsClosed}
use Rattle.wm_witness.specs.Relations.{AlwaysRelates, AreRows, Covers, IsEmptyRow, IsPair, IsRow, IsSynchronized, Relates}
use Rattle.wm_witness.proofs.Steps.{before-join}

relates-through : (kind : Kind) (x : LoggedRun) (a b c : EventKey) → Relates kind x a b → Relates kind x b c → Relates kind x a c
relates-through Happens x a b c h k = before-join (execution x) (At a) (At b) (At c) h k
relates-through Stands x a b c h k = omega (arith, h, k)

-- what happens before an event is related to it in a valid run
pub relates-before : (kind : Kind) (x : LoggedRun) (a b : EventKey) → IsValid (execution x) → HappensBefore (execution x) (At a) (At b) → Relates kind x a b
relates-before Happens x a b valid h = h
relates-before Stands x a b valid h = valid.keeps_order (At a) (At b) h

never-itself : (kind : Kind) (x : LoggedRun) (a : EventKey) → IsValid (execution x) → Relates kind x a a → ⊥
never-itself Happens x a valid h = let l = valid.keeps_order (At a) (At a) h in omega (arith, l)
never-itself Stands x a valid h = omega (arith, h)

module _ (run : LoggedRun) (assumed : List Assumption) (kind : Kind) where
  pub always-through : (a b c : EventKey) → AlwaysRelates run assumed kind a b → AlwaysRelates run assumed kind b c → AlwaysRelates run assumed kind a c
  always-through a b c h k = λ witness shape valid keeps. relates-through kind (with_witness run witness) a b c (h witness shape valid keeps) (k witness shape valid keeps)

  pub always-in-thread : (a b : EventKey) → IsSome (event_in run.log a) → IsSome (event_in run.log b) → a.thread ≡ b.thread → a.number < b.number → AlwaysRelates run assumed kind a b
  always-in-thread a b is_a is_b same less = λ witness shape valid keeps.
      relates-before kind (with_witness run witness) a b valid (in_program (with_witness run witness) a b is_a is_b same less)

  pub synchronized-pair : (p : Pair) → IsSynchronized run assumed p → IsPair run assumed kind p
  synchronized-pair p h = λ witness shape valid keeps.
      relates-before kind (with_witness run witness) p.first p.second valid ([], inr (h witness shape valid keeps))

  same-key : (a b : EventKey) → a.thread ≡ b.thread → a.number ≡ b.number → a ≡ b
  same-key a b t n = λ i. record { thread = t i; number = n i }

  -- an event, or an earlier one of its thread
  before-or-same : (a b c : EventKey) → IsSome (event_in run.log b) → a.thread ≡ b.thread → a.number ≤ b.number → AlwaysRelates run assumed kind b c → AlwaysRelates run assumed kind a c
  before-or-same a b c is_b thread under h = ⊎_elim
      (λ (l : a.number < b.number).
      let q : EventKey = record { thread = b.thread; number = a.number } in
      let same : q ≡ a = same-key q a (sym thread) refl in
      let is_a : IsSome (event_in run.log a) = subst (λ k. IsSome (event_in run.log k)) same (earlier-there run.log b a.number is_b under) in
      always-through a b c (always-in-thread a b is_a is_b thread l) h)
      (λ (l : b.number ≤ a.number).
      let n : a.number ≡ b.number = omega (arith, under, l) in
      subst (λ k. AlwaysRelates run assumed kind k c) (sym (same-key a b thread n)) h)
      (cases_lt a.number b.number)

  -- the row that joins another's to its own
  pub joined-row : (row other joined : Row) → IsRow run assumed kind row → IsRow run assumed kind other → AlwaysRelates run assumed kind other.key row.key → joined.key ≡ row.key
      → ((a : EventKey) → Covers joined a → Covers row a ⊎ (Covers other a ⊎ ((a.thread ≡ other.key.thread) × (a.number ≤ other.key.number))))
      → IsRow run assumed kind joined
  joined-row row other joined is_row is_other before key covers = record {
    there = subst (λ k. IsSome (event_in run.log k)) (sym key) is_row.there;
    counted = λ a h. subst (AlwaysRelates run assumed kind a) (sym key) (⊎_elim
        (λ (own : Covers row a). is_row.counted a own)
        (λ (r : Covers other a ⊎ ((a.thread ≡ other.key.thread) × (a.number ≤ other.key.number))). ⊎_elim
        (λ (l : Covers other a). always-through a other.key row.key (is_other.counted a l) before)
        (λ (s : (a.thread ≡ other.key.thread) × (a.number ≤ other.key.number)). before-or-same a other.key row.key is_other.there s.0 s.1 before)
        r)
        (covers a h));
  }

  pub row-cycle : (row : Row) → IsRow run assumed kind row → Covers row row.key → IsClosed run assumed
  row-cycle row is covers = λ witness shape valid keeps. never-itself kind (with_witness run witness) row.key valid (is.counted row.key covers witness shape valid keeps)

  pub empty-pushed : (rows : List Row) (row : Row) → AreRows run assumed kind rows → IsEmptyRow run row → AreRows run assumed kind (rows ++ row ∷ [])
  empty-pushed rows row all empty =
      let is : IsRow run assumed kind row = record { there = empty.0; counted = λ a h. absurd (empty.1 a h) } in
      All-append (IsRow run assumed kind) rows (row ∷ []) all (All-cons (IsRow run assumed kind) row [] is (All-nil (IsRow run assumed kind)))

  -- the row before it in its thread
  pub earlier-row : (rows : List Row) (i j : ℕ) (a b : Row) → AreRows run assumed kind rows → i < length rows → j < length rows → a ≡ get_or rows i a → b ≡ get_or rows j b
      → a.key.thread ≡ b.key.thread → a.key.number < b.key.number → AlwaysRelates run assumed kind a.key b.key
  earlier-row rows i j a b all in_i in_j is_a is_b thread less =
      let row_a : IsRow run assumed kind a = subst (IsRow run assumed kind) (sym is_a) (all i a in_i) in
      let row_b : IsRow run assumed kind b = subst (IsRow run assumed kind) (sym is_b) (all j b in_j) in
      always-in-thread a.key b.key row_a.there row_b.there thread less
