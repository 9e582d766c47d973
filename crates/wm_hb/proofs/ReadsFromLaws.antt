-- One run after the other.
use Rattle.std.proofs.Common.{◌≡◌, ◌<◌, ◌≤◌, ◌+◌, ◌⊎◌, ⊎_elim, inl, inr, ℕ, zero, suc, List, [], ◌∷◌, ◌++◌, length, Some, None, slice_get, refl, sym, subst, ◌∙◌, arith}
use Rattle.std.proofs.lemmas.Bool.{cases_lt}
use Rattle.std.specs.Prelude.{◌≢◌}
use Rattle.std.proofs.lemmas.Grind.{common_steps}
use Rattle.std.proofs.lemmas.List.{length-append}
use Rattle.std.proofs.lemmas.Option.{gets, none-some, same_Some, slice_get_within}
use Rattle.wm_event.specs.declared.event.EventId.{EventId}
use Rattle.wm_hb.specs.declared.reads_from.WriterRun.{WriterRun}
use Rattle.wm_hb.specs.ReadsFrom.{AreEnded, AreFromWriters, ComeFromWriters, HaveBytes, IsNamed, NamesByte, Rise}

get_more : (runs : List WriterRun) (run : WriterRun) (n : ℕ) (r : WriterRun) → slice_get (runs ++ run ∷ []) n ≡ Some r → (slice_get runs n ≡ Some r) ⊎ (run ≡ r)
get_more [] run zero r h = inr (same_Some run r h)
get_more [] run (suc n) r h = absurd (grind (arith, common_steps, gets))
get_more (t ∷ ts) run zero r h = inl h
get_more (t ∷ ts) run (suc n) r h = get_more ts run n r h

get_still : (runs : List WriterRun) (run : WriterRun) (n : ℕ) (r : WriterRun) → slice_get runs n ≡ Some r → slice_get (runs ++ run ∷ []) n ≡ Some r
get_still [] run n r h = absurd (grind (arith, common_steps, gets))
get_still (t ∷ ts) run zero r h = h
get_still (t ∷ ts) run (suc n) r h = get_still ts run n r h

get_last : (runs : List WriterRun) (run : WriterRun) → slice_get (runs ++ run ∷ []) (length runs) ≡ Some run
get_last [] run = refl
get_last (t ∷ ts) run = get_last ts run

get_old : (runs : List WriterRun) (run : WriterRun) (n : ℕ) (r : WriterRun) → n < length runs → slice_get (runs ++ run ∷ []) n ≡ Some r → slice_get runs n ≡ Some r
get_old [] run n r below h = absurd (omega (arith, below))
get_old (t ∷ ts) run zero r below h = h
get_old (t ∷ ts) run (suc n) r below h = get_old ts run n r (omega (arith, below)) h

-- bytes in a row from `first` to `last` have one writer, and the run that names them comes from it
pub from_writers_more : (writers : List EventId) (runs : List WriterRun) (run : WriterRun) → ComeFromWriters writers runs
    → slice_get writers run.last ≡ Some run.writer → ((k : ℕ) → run.first ≤ k → k < run.last → slice_get writers k ≡ slice_get writers run.last)
    → ComeFromWriters writers (runs ++ run ∷ [])
from_writers_more writers runs run come last same i r at k names = ⊎_elim
    (λ (old : slice_get runs i ≡ Some r). come i r old k names)
    (λ (new : run ≡ r). subst (λ (a : WriterRun). NamesByte a k → slice_get writers k ≡ Some a.writer) new
    (λ named. ⊎_elim
    (λ (below : k < run.last). same k named.0 below ∙ last)
    (λ (above : run.last ≤ k).
    let end = named.1 in
    let is : run.last ≡ k = omega (arith, above, end) in
    subst (λ n. slice_get writers n ≡ Some run.writer) is last)
    (cases_lt k run.last)) names)
    (get_more runs run i r at)

pub named_more : (runs : List WriterRun) (run : WriterRun) → ((k : ℕ) → k < run.first → IsNamed runs k) → (k : ℕ) → k ≤ run.last → IsNamed (runs ++ run ∷ []) k
named_more runs run before k end = ⊎_elim
    (λ (below : k < run.first). let h = before k below in (h.0, h.1, get_still runs run h.0 h.1 h.2, h.3))
    (λ (above : run.first ≤ k). (length runs, run, get_last runs run, (above, end)))
    (cases_lt k run.first)

-- the bytes below n have their runs, but for those from `first` on, which have the writer of byte n
pub record HasRunsTo (writers : List EventId) (runs : List WriterRun) (first n : ℕ) : Type 0 where
  pub order : first ≤ n
  pub same : (k : ℕ) → first ≤ k → k < n → slice_get writers k ≡ slice_get writers n
  pub come : ComeFromWriters writers runs
  pub have : HaveBytes runs
  pub before : (k : ℕ) → k < first → IsNamed runs k
  pub ended : AreEnded writers runs
  pub rise : Rise runs
  pub below : (i : ℕ) (run : WriterRun) → slice_get runs i ≡ Some run → run.last < first

-- the next byte has the same writer
pub runs_on : (writers : List EventId) (runs : List WriterRun) (first n : ℕ) → HasRunsTo writers runs first n → slice_get writers (n + 1) ≡ slice_get writers n → HasRunsTo writers runs first (n + 1)
runs_on writers runs first n so_far next = record {
  order = (let o = so_far.order in omega (arith, o));
  same = λ k from to. ⊎_elim
      (λ (below : k < n). so_far.same k from below ∙ sym next)
      (λ (above : n ≤ k). let is : n ≡ k = omega (arith, above, to) in subst (λ m. slice_get writers m ≡ slice_get writers (n + 1)) is (sym next))
      (cases_lt k n);
  come = so_far.come;
  have = so_far.have;
  before = so_far.before;
  ended = so_far.ended;
  rise = so_far.rise;
  below = so_far.below;
}

-- it has another writer, or there is no next byte
pub runs_next : (writers : List EventId) (runs : List WriterRun) (run : WriterRun) → HasRunsTo writers runs run.first run.last → slice_get writers run.last ≡ Some run.writer
    → slice_get writers (run.last + 1) ≢ slice_get writers run.last → HasRunsTo writers (runs ++ run ∷ []) (run.last + 1) (run.last + 1)
runs_next writers runs run so_far is other = record {
  order = omega arith;
  same = λ k from to. absurd (omega (arith, from, to));
  come = from_writers_more writers runs run so_far.come is so_far.same;
  have = λ i r at. ⊎_elim
      (λ (old : slice_get runs i ≡ Some r). so_far.have i r old)
      (λ (new : run ≡ r). subst (λ (a : WriterRun). a.first ≤ a.last) new so_far.order)
      (get_more runs run i r at);
  before = λ k below. named_more runs run so_far.before k (omega (arith, below));
  ended = λ i r at. ⊎_elim
      (λ (old : slice_get runs i ≡ Some r). so_far.ended i r old)
      (λ (new : run ≡ r). subst (λ (a : WriterRun). slice_get writers (a.last + 1) ≢ Some a.writer) new (λ next. other (next ∙ sym is)))
      (get_more runs run i r at);
  rise = λ i j a b before at_a at_b.
      let within = slice_get_within (runs ++ run ∷ []) j b at_b in
      let size = length-append runs (run ∷ []) in
      let old_a = get_old runs run i a (omega (arith, before, within, size)) at_a in
      ⊎_elim
      (λ (old : slice_get runs j ≡ Some b). so_far.rise i j a b before old_a old)
      (λ (new : run ≡ b). subst (λ (r : WriterRun). a.last < r.first) new (so_far.below i a old_a))
      (get_more runs run j b at_b);
  below = λ i r at. ⊎_elim
      (λ (old : slice_get runs i ≡ Some r). let l = so_far.below i r old in let o = so_far.order in omega (arith, l, o))
      (λ (new : run ≡ r). subst (λ (a : WriterRun). a.last < run.last + 1) new (omega arith))
      (get_more runs run i r at);
}

past : (writers : List EventId) (n : ℕ) → length writers ≤ n → slice_get writers n ≡ None
past writers n h = grind (arith, common_steps, gets)

pub runs_all : (writers : List EventId) (runs : List WriterRun) (first n : ℕ) → HasRunsTo writers runs first n → length writers ≤ n → AreFromWriters writers runs
runs_all writers runs first n so_far all = record {
  from_writers = so_far.come;
  have_bytes = so_far.have;
  each = λ k w is. ⊎_elim
      (λ (below : k < first). so_far.before k below)
      (λ (above : first ≤ k).
      let here : k < length writers = slice_get_within writers k w is in
      let under : k < n = omega (arith, here, all) in
      let none : None ≡ Some w = sym (past writers n all) ∙ sym (so_far.same k above under) ∙ is in
      absurd (none-some w none))
      (cases_lt k first);
  ended = so_far.ended;
  rise = so_far.rise;
}
