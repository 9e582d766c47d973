-- A need is forced where a byte that meets it fits its writer alone, as the sources list them.
use Rattle.std.proofs.Common.{◌≡◌, ℕ, List, [], ◌∷◌, Some, is_some, get_or, slice_get, map, sym, ap, ◌∙◌, subst}
use Rattle.std.specs.Prelude.{All}
use Rattle.std.proofs.lemmas.List.Elements.{All-cons}
use Rattle.std.proofs.lemmas.Option.{same_Some, slice_get-get_or, slice_get_within}
use Rattle.wm_event.specs.declared.event.Event.{Event}
use Rattle.wm_event.specs.declared.event.EventId.{EventId}
use Rattle.wm_event.specs.Log.{HasKeys}
use Rattle.wm_event.specs.LoggedRun.{LoggedRun}
use Rattle.wm_hb.proofs.FilterLemmas.{passes}
use Rattle.wm_writers.specs.Answer.{IsByteOf, IsSource}
use Rattle.wm_writers.specs.Fits.{fits, fitting, ids}
use Rattle.wm_writers.specs.Forced.{FitsOnly, IsForced}
use Rattle.wm_writers.specs.Found.{AreOnly, HasForcedByte}
use Rattle.wm_writers.specs.declared.source.Source.{Source}
use Rattle.wm_writers.proofs.AllLemmas.{all-head, all-none, all-tail}
use Rattle.wm_writers.proofs.FittingLemmas.{fit-listed}

pub all-at : {X : Type 0} (P : X → Type 0) (xs : List X) (n : ℕ) (x : X) → All P xs → slice_get xs n ≡ Some x → P x
all-at P xs n x all at =
    let inside = slice_get_within xs n x at in
    subst P (same_Some (get_or xs n x) x (sym (slice_get-get_or xs n x inside) ∙ at)) (all n x inside)

module _ (run : LoggedRun) (keys : HasKeys run.log) where
  -- where only one id is listed, only it fits
  only_listed : (e : Event) (k : ℕ) (w : EventId) → AreOnly w (fitting run.log run.initial e k) → FitsOnly run e k w
  only_listed e k w only v h =
      let at = fit-listed run.log keys run.initial e k v h in
      all-at (λ (u : EventId). u ≡ w) (fitting run.log run.initial e k) at.0 v only at.1

  listed_only : (e : Event) (k : ℕ) (w : EventId) → FitsOnly run e k w → AreOnly w (fitting run.log run.initial e k)
  listed_only e k w only i d l =
      let fit = fitting run.log run.initial e k in
      only (get_or fit i d) (passes (fits run.log run.initial e k) (ids run.log) i (get_or fit i d) (slice_get-get_or fit i d l))

  is_forced : (s : Source) → IsSource run s → HasForcedByte s → IsForced run s.need
  is_forced s is (n, b, at, only) =
      let one = all-at (IsByteOf run s.need) s.bytes n b is.each at in
      record {
        read = one.1.0;
        is_read = one.1.1;
        byte = b.byte;
        meets = one.0;
        only = only_listed one.1.0 b.byte s.need.writer (subst (AreOnly s.need.writer) one.1.2.fit only);
      }

  has_byte : (s : Source) → IsSource run s → IsForced run s.need → HasForcedByte s
  has_byte s is forced =
      let found = is.all (ap is_some forced.is_read) forced.byte forced.meets in
      let b = found.1 in
      let one = all-at (IsByteOf run s.need) s.bytes found.0 b is.each found.2 in
      let read : forced.read ≡ one.1.0 = same_Some forced.read one.1.0 (sym forced.is_read ∙ one.1.1) in
      let only : FitsOnly run one.1.0 b.byte s.need.writer =
      subst (λ k. FitsOnly run one.1.0 k s.need.writer) (sym found.3) (subst (λ (e : Event). FitsOnly run e forced.byte s.need.writer) read forced.only) in
      (found.0, b, found.2, subst (AreOnly s.need.writer) (sym one.1.2.fit) (listed_only one.1.0 b.byte s.need.writer only))

  -- so all needs are forced exactly where each source has such a byte
  pub all-forced : (sources : List Source) → All (IsSource run) sources → All HasForcedByte sources → All (IsForced run) (map (λ (s : Source). s.need) sources)
  all-forced [] are have = all-none (IsForced run)
  all-forced (s ∷ ss) are have =
      All-cons (IsForced run) s.need (map (λ (s : Source). s.need) ss) (is_forced s (all-head (IsSource run) s ss are) (all-head HasForcedByte s ss have))
      (all-forced ss (all-tail (IsSource run) s ss are) (all-tail HasForcedByte s ss have))

  pub all-have : (sources : List Source) → All (IsSource run) sources → All (IsForced run) (map (λ (s : Source). s.need) sources) → All HasForcedByte sources
  all-have [] are forced = all-none HasForcedByte
  all-have (s ∷ ss) are forced =
      All-cons HasForcedByte s ss (has_byte s (all-head (IsSource run) s ss are) (all-head (IsForced run) s.need (map (λ (s : Source). s.need) ss) forced))
      (all-have ss (all-tail (IsSource run) s ss are) (all-tail (IsForced run) s.need (map (λ (s : Source). s.need) ss) forced))
