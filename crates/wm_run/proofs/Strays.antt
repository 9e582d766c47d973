-- The ends of threads that aren't there, among the first ends.
use Rattle.std.proofs.Common.{◌≡◌, ℕ, ◌+◌, ◌<◌, ◌≤◌, ◌⊎◌, inl, inr, List, length, Option, None, Some, slice_get, sym, ap, subst, ◌∙◌, arith}
use Rattle.std.specs.Prelude.{IfNone, IfSome}
use Rattle.std.proofs.Math.Nat.{eq-or-lt_of_le}
use Rattle.std.proofs.lemmas.Option.{same_Some, slice_get_within}
use Rattle.wm_run.specs.declared.rounds.ended.ThreadEnd.{ThreadEnd}
use Rattle.wm_run.specs.Ends.{AreBelow, HasEnd, HasOneEach, IsEndsFault, IsLeastStray, ends_of}

pub record IsLeastBelow (threads : ℕ) (ends : List ThreadEnd) (n t : ℕ) : Type 0 where
  pub stray : threads ≤ t
  pub listed : HasEnd ends t
  pub least : (k : ℕ) (e : ThreadEnd) → k < n → slice_get ends k ≡ Some e → threads ≤ e.thread → t ≤ e.thread

-- the least stray thread of the first n ends
abbrev pub StraysBelow : ℕ → List ThreadEnd → ℕ → Option ℕ → Type 0
StraysBelow threads ends n None = (k : ℕ) (e : ThreadEnd) → k < n → slice_get ends k ≡ Some e → e.thread < threads
StraysBelow threads ends n (Some t) = IsLeastBelow threads ends n t

-- what holds of the first ends and of the next one holds of one end more
one_more : (P : ThreadEnd → Type 0) (ends : List ThreadEnd) (n : ℕ) (e : ThreadEnd) → slice_get ends n ≡ Some e → P e → ((k : ℕ) (x : ThreadEnd) → k < n → slice_get ends k ≡ Some x → P x)
    → (k : ℕ) (x : ThreadEnd) → k < n + 1 → slice_get ends k ≡ Some x → P x
one_more P ends n e at holds below k x lt is =
    let within : k ≤ n = omega (arith, lt) in
    elim (eq-or-lt_of_le within) [
      | inl same ↦ subst P (same_Some e x (sym at ∙ (ap (slice_get ends) (sym same) ∙ is))) holds
      | inr less ↦ below k x less is
    ]

pub no_stray : (threads : ℕ) (ends : List ThreadEnd) (n : ℕ) (e : ThreadEnd) (o : Option ℕ) → slice_get ends n ≡ Some e → e.thread < threads → StraysBelow threads ends n o → StraysBelow threads ends (n + 1) o
no_stray threads ends n e None at there below = one_more (λ x. x.thread < threads) ends n e at there below
no_stray threads ends n e (Some t) at there below = record {
  stray = below.stray;
  listed = below.listed;
  least = one_more (λ x. threads ≤ x.thread → t ≤ x.thread) ends n e at (λ stray. absurd (omega (arith, stray, there))) below.least;
}

listed_still : (threads : ℕ) (ends : List ThreadEnd) (n t : ℕ) (o : Option ℕ) → o ≡ Some t → StraysBelow threads ends n o → HasEnd ends t
listed_still threads ends n t None is below = absurd (cc is)
listed_still threads ends n t (Some s) is below = subst (HasEnd ends) (same_Some s t is) below.listed

stray_still : (threads : ℕ) (ends : List ThreadEnd) (n t : ℕ) (o : Option ℕ) → o ≡ Some t → StraysBelow threads ends n o → threads ≤ t
stray_still threads ends n t None is below = absurd (cc is)
stray_still threads ends n t (Some s) is below = subst (λ x. threads ≤ x) (same_Some s t is) below.stray

at_most_all : (threads : ℕ) (ends : List ThreadEnd) (n t : ℕ) (o : Option ℕ) → IfSome o (λ s. t ≤ s) → StraysBelow threads ends n o
    → (k : ℕ) (x : ThreadEnd) → k < n → slice_get ends k ≡ Some x → threads ≤ x.thread → t ≤ x.thread
at_most_all threads ends n t None less below k x lt is stray = absurd (let there = below k x lt is in omega (arith, there, stray))
at_most_all threads ends n t (Some s) less below k x lt is stray = let more = below.least k x lt is stray in omega (arith, less, more)

pub one_stray : (threads : ℕ) (ends : List ThreadEnd) (n t : ℕ) (e : ThreadEnd) (o : Option ℕ) → slice_get ends n ≡ Some e → threads ≤ e.thread → StraysBelow threads ends n o
    → t ≤ e.thread → IfSome o (λ s. t ≤ s) → (t ≡ e.thread) ⊎ (o ≡ Some t) → StraysBelow threads ends (n + 1) (Some t)
one_stray threads ends n t e o at stray below here others one = record {
  stray = elim one [ inl same ↦ rw same stray | inr old ↦ stray_still threads ends n t o old below ];
  listed = elim one [ inl same ↦ (e, ((n, at), sym same)) | inr old ↦ listed_still threads ends n t o old below ];
  least = one_more (λ x. threads ≤ x.thread → t ≤ x.thread) ends n e at (λ _. here) (at_most_all threads ends n t o others below);
}

pub all_below : (threads : ℕ) (ends : List ThreadEnd) (n : ℕ) (o : Option ℕ) → length ends ≤ n → StraysBelow threads ends n o → IfNone o (AreBelow threads ends)
all_below threads ends n None all below = λ k e is. below k e (let lt : k < n = omega (arith, all, slice_get_within ends k e is) in lt) is
all_below threads ends n (Some t) all below = tt

pub all_least : (threads : ℕ) (ends : List ThreadEnd) (n : ℕ) (o : Option ℕ) → length ends ≤ n → StraysBelow threads ends n o → IfSome o (IsLeastStray threads ends)
all_least threads ends n None all below = tt
all_least threads ends n (Some t) all below = record {
  stray = below.stray;
  listed = below.listed;
  least = λ k e is. below.least k e (let lt : k < n = omega (arith, all, slice_get_within ends k e is) in lt) is;
}

-- ---- one end each, or the first fault

pub one_each : (threads : ℕ) (ends : List ThreadEnd) (o : Option ℕ) → ((t : ℕ) → t < threads → ends_of ends t ≡ 1) → IfNone o (AreBelow threads ends) → IfNone o (HasOneEach threads ends)
one_each threads ends None each others = record { each = each; others = others }
one_each threads ends (Some t) each others = tt

pub stray_fault : (threads : ℕ) (ends : List ThreadEnd) (o : Option ℕ) → ((t : ℕ) → t < threads → ends_of ends t ≡ 1) → IfSome o (IsLeastStray threads ends) → IfSome o (IsEndsFault threads ends)
stray_fault threads ends None each stray = tt
stray_fault threads ends (Some t) each stray = record { below = λ k lt _. each k lt; fault = inr stray }
