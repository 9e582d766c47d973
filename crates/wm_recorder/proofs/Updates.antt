-- What an access changes of the lists by thread.
use Rattle.std.proofs.Common.{◌≡◌, ◌≢◌, ℕ, zero, suc, List, [], ◌∷◌, ◌++◌, ◌<◌, ◌+◌, inl, inr, length, set, take, replicate, refl, ap, sym, ◌∙◌, subst, arith, add-one}
use Rattle.std.proofs.lemmas.List.{set-append_left, replicate-append-replicate}
use Rattle.std.proofs.Math.Seq.{set-append_seam, take-append_seam}
use Rattle.std.proofs.lemmas.Bool.{cases_eq, eq-eqb, ne_eqb}
use Rattle.wm_event.specs.declared.event.Event.{Event}
use Rattle.wm_event.specs.declared.event.EventId.{EventId}
use Rattle.wm_event.specs.declared.op.OpFields.{OpFields as Op}
use Rattle.wm_event.specs.Event.{reads}
use Rattle.wm_event.specs.Shape.{read_width}
use Rattle.wm_memory.specs.Reply.{padded}
use Rattle.wm_memory.specs.Visibility.{Step, Made, made_after, writers_after}
use Rattle.wm_memory.specs.Recorded.{events_of, writers_of, by_thread}
use Rattle.wm_memory.proofs.Listed.{length-by_thread}
use Rattle.wm_memory.proofs.Shape.{length_writers}

by_thread_same : {X : Type 0} (f g : ℕ → X) (n : ℕ) → ((u : ℕ) → u < n → g u ≡ f u) → by_thread g n ≡ by_thread f n
by_thread_same f g zero h = refl
by_thread_same f g (suc n) h =
    let rest = by_thread_same f g n (λ u lt. h u (omega arith)) in
    let last = h n (omega arith) in
    cc

-- the lists of all threads where only that of t changed
pub by_thread_set : {X : Type 0} (f g : ℕ → X) (n t : ℕ) (x : X) → t < n → g t ≡ x → ((u : ℕ) → u ≢ t → g u ≡ f u) → by_thread g n ≡ set (by_thread f n) t x
by_thread_set f g zero t x lt here others = absurd (omega arith)
by_thread_set {X = X} f g (suc n) t x lt here others = elim (cases_eq t n) [
  | inl same ↦
      (let rest : by_thread g n ≡ by_thread f n = by_thread_same f g n (λ u below. others u (λ e. omega (arith, e, same))) in
      let last : g n ≡ x = ap g (sym same) ∙ here in
      let at : set (by_thread f n ++ f n ∷ []) (length (by_thread f n)) x ≡ by_thread f n ++ x ∷ [] = set-append_seam (by_thread f n) (f n) [] x in
      let place : length (by_thread f n) ≡ t = length-by_thread f n ∙ sym same in
      let moved : set (by_thread f n ++ f n ∷ []) t x ≡ by_thread f n ++ x ∷ [] = subst (λ (k : ℕ). set (by_thread f n ++ f n ∷ []) k x ≡ by_thread f n ++ x ∷ []) place at in
      ap (λ (l : List X). l ++ g n ∷ []) rest ∙ (ap (λ (y : X). by_thread f n ++ y ∷ []) last ∙ sym moved))
  | inr other ↦
      (let below : t < n = omega (arith, other) in
      let rest : by_thread g n ≡ set (by_thread f n) t x = by_thread_set f g n t x below here others in
      let last : g n ≡ f n = others n (λ e. other (sym e)) in
      let in_front : set (by_thread f n ++ f n ∷ []) t x ≡ set (by_thread f n) t x ++ f n ∷ [] = set-append_left (by_thread f n) (f n ∷ []) t x (omega (arith, length-by_thread f n)) in
      ap (λ (l : List X). l ++ g n ∷ []) rest ∙ (ap (λ (y : X). set (by_thread f n) t x ++ y ∷ []) last ∙ sym in_front))
]

pub events_made : (init : List ℕ) (s : List Step) (t : ℕ) (op : Op) → events_of (Made (made_after init s t op) (writers_after init s (made_after init s t op)) ∷ s) t ≡ events_of s t ++ made_after init s t op ∷ []
events_made init s t op = rw (eq-eqb t t refl) refl

pub others_events : (init : List ℕ) (s : List Step) (t : ℕ) (op : Op) (u : ℕ) → u ≢ t → events_of (Made (made_after init s t op) (writers_after init s (made_after init s t op)) ∷ s) u ≡ events_of s u
others_events init s t op u ne = rw (ne_eqb t u (λ e. ne (sym e))) refl

pub writers_made : (init : List ℕ) (s : List Step) (t : ℕ) (op : Op) → writers_of (Made (made_after init s t op) (writers_after init s (made_after init s t op)) ∷ s) t ≡ writers_of s t ++ writers_after init s (made_after init s t op) ∷ []
writers_made init s t op = rw (eq-eqb t t refl) refl

pub others_writers : (init : List ℕ) (s : List Step) (t : ℕ) (op : Op) (u : ℕ) → u ≢ t → writers_of (Made (made_after init s t op) (writers_after init s (made_after init s t op)) ∷ s) u ≡ writers_of s u
others_writers init s t op u ne = rw (ne_eqb t u (λ e. ne (sym e))) refl

-- of the padded writers those of the bytes read are the first
pub writers_taken : (init : List ℕ) (s : List Step) (e : Event) (given : List EventId) → given ≡ padded (writers_after init s e) → take (read_width e) given ≡ writers_after init s e
writers_taken init s e given h =
    let n : length (writers_after init s e) ≡ read_width e = length_writers init s e (reads e) refl in
    let at : take (length (writers_after init s e)) (padded (writers_after init s e)) ≡ writers_after init s e = take-append_seam (writers_after init s e) _ in
    ap (λ (l : List EventId). take (read_width e) l) h ∙ subst (λ (k : ℕ). take k (padded (writers_after init s e)) ≡ writers_after init s e) n at

pub by_thread_blank : {X : Type 0} (none : List X) (n : ℕ) → by_thread (λ (t : ℕ). none) n ≡ replicate n none
by_thread_blank none zero = refl
by_thread_blank {X = X} none (suc n) =
    let more : replicate n none ++ replicate 1 none ≡ replicate (n + 1) none = replicate-append-replicate n 1 none in
    ap (λ (l : List (List X)). l ++ none ∷ []) (by_thread_blank none n) ∙ rw add-one at more
