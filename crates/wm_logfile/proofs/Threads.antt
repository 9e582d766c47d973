-- The laws of a thread's log and of a witness.
use Rattle.std.proofs.Common.{◌≡◌, ℕ, suc, ◌<◌, ◌≤◌, ◌^◌, inl, inr, Bool, cond, leb, List, [], ◌∷◌, map, Option, Some, None, refl, ap, subst, ◌∙◌, arith}
use Rattle.std.specs.Prelude.{codes, IfSome}
use Rattle.std.specs.Str.{bytes_eq}
use Rattle.std.specs.List.{All}
use Rattle.std.proofs.lemmas.List.Elements.{All-nil, All-cons, All-head, All-tail, All-weaker}
use Rattle.std.proofs.lemmas.Option.{same_Some}
use Rattle.std.proofs.lemmas.Slice.Eq.{bytes_eq-Decides}
use Rattle.std.proofs.lemmas.Bool.{leb-true, le-leb}
use Rattle.serde_json.specs.Data.{Data, string}
use Rattle.serde_json.specs.Find.{as_str}
use Rattle.wm_event.specs.declared.log.End.{End}
use Rattle.wm_event.specs.declared.log.End.TheVariants.{Done, Trap, Cut}
use Rattle.wm_event.specs.declared.event.Event.{Event}
use Rattle.wm_event.specs.declared.log.Start.{Start}
use Rattle.wm_event.specs.declared.log.ThreadLog.{ThreadLog}
use Rattle.wm_event.specs.Log.{AreEvents}
use Rattle.wm_logfile.specs.declared.thread.ThreadHead.{ThreadHead}
use Rattle.wm_logfile.specs.Document.{count, list, result_cells, end_cells, end, event, thread, EventFits, EndFits, ThreadFits}
use Rattle.wm_logfile.specs.Reading.{◌>>=◌, list_at, number_at, trap_at, u32_max, u64_max, items_at, number_event_at, result_from, end_from, end_at, start_at, head_from, head_at, with_events, thread_at, limited_thread_at}
use Rattle.wm_logfile.proofs.Format.{bind_some, when_some, IsFormat, IsFormatAt, AllFrom, all_items, listed, items}
use Rattle.wm_logfile.proofs.Leaves.{chosen, texts, numbers, traps}
use Rattle.wm_logfile.proofs.Events.{EventIsFit, events}

-- ---- the end

result_takes : (ds : List Data) (o : Option ℕ) → result_from ds ≡ Some o → (ds ≡ result_cells o) × IfSome o (λ v. v ≤ u64_max)
result_takes [] o e =
    let P : Option ℕ → Type 0 = λ x. ([] ≡ result_cells x) × IfSome x (λ v. v ≤ u64_max) in
    let same : None ≡ o = cc in
    subst P same (refl, tt)
result_takes (v ∷ []) o e =
    let one = bind_some (number_at u64_max v) (λ n. Some (Some n)) o e in
    let h = (numbers u64_max).takes v one.0 one.1 in
    let P : Option ℕ → Type 0 = λ x. (v ∷ [] ≡ result_cells x) × IfSome x (λ v. v ≤ u64_max) in
    let same : Some one.0 ≡ o = cc in
    subst P same (ap (λ (x : Data). x ∷ []) h.0, h.1)
result_takes (v ∷ x ∷ ds) o e = absurd cc

result_again : (o : Option ℕ) → IfSome o (λ v. v ≤ u64_max) → result_from (result_cells o) ≡ Some o
result_again None h = refl
result_again (Some v) h = rw ((numbers u64_max).again v h) refl

results : IsFormat result_from result_cells (λ o. IfSome o (λ v. v ≤ u64_max))
results = record { takes = λ ds o e. result_takes ds o e; again = λ o h. result_again o h }

abbrev pub EndBound : End → Type 0
EndBound (Done o) = IfSome o (λ v. v ≤ u64_max)
EndBound (Trap k) = Unit {0}
EndBound Cut = Unit {0}

-- what follows the word of an end of two cells
abbrev long_end : List ℕ → Data → Option End
long_end s x =
    cond (bytes_eq s (codes "done")) (list_at x >>= result_from >>= λ v. Some (Done v))
    (cond (bytes_eq s (codes "trap")) (trap_at x >>= λ k. Some (Trap k)) None)

long_end_takes : (s : List ℕ) (x : Data) (e : End) → long_end s x ≡ Some e → (string s ∷ x ∷ [] ≡ end_cells e) × EndBound e
long_end_takes s x e h =
    let P : End → Type 0 = λ y. (string s ∷ x ∷ [] ≡ end_cells y) × EndBound y in
    elim (chosen (bytes_eq s (codes "done")) (list_at x >>= result_from >>= λ v. Some (Done v)) _ (Some e) h) [
      | inl c ↦ (
          let one = bind_some (list_at x >>= result_from) (λ v. Some (Done v)) e c.1 in
          let r = (listed result_from result_cells (λ o. IfSome o (λ v. v ≤ u64_max)) results).takes x one.0 one.1 in
          let same : Done one.0 ≡ e = cc in
          subst P same (ap (λ (w : List ℕ). string w ∷ x ∷ []) ((bytes_eq-Decides s (codes "done")).0 c.0) ∙ ap (λ (y : Data). string (codes "done") ∷ y ∷ []) r.0, r.1))
      | inr c ↦ (
          let g = when_some (bytes_eq s (codes "trap")) (trap_at x >>= λ k. Some (Trap k)) e c.1 in
          let one = bind_some (trap_at x) (λ k. Some (Trap k)) e g.1 in
          let r = traps.takes x one.0 one.1 in
          let same : Trap one.0 ≡ e = cc in
          subst P same (ap (λ (w : List ℕ). string w ∷ x ∷ []) ((bytes_eq-Decides s (codes "trap")).0 g.0) ∙ ap (λ (y : Data). string (codes "trap") ∷ y ∷ []) r.0, tt))
    ]

end_takes : (ds : List Data) (e : End) → end_from ds ≡ Some e → (ds ≡ end_cells e) × EndBound e
unfolding end_from
end_takes [] e h = absurd cc
end_takes (w ∷ []) e h =
    let s = bind_some (as_str w) (λ s. cond (bytes_eq s (codes "cut")) (Some Cut) None) e h in
    let g = when_some (bytes_eq s.0 (codes "cut")) (Some Cut) e s.2 in
    let P : End → Type 0 = λ y. (w ∷ [] ≡ end_cells y) × EndBound y in
    let same : Cut ≡ e = cc in
    subst P same (ap (λ (x : Data). x ∷ []) ((texts.takes w s.0 s.1).0 ∙ ap string ((bytes_eq-Decides s.0 (codes "cut")).0 g.0)), tt)
end_takes (w ∷ x ∷ []) e h =
    let s = bind_some (as_str w) (λ s. long_end s x) e h in
    let one = long_end_takes s.0 x e s.2 in
    (ap (λ (y : Data). y ∷ x ∷ []) (texts.takes w s.0 s.1).0 ∙ one.0, one.1)
end_takes (w ∷ x ∷ y ∷ ds) e h = absurd cc

end_again : (e : End) → EndBound e → end_from (end_cells e) ≡ Some e
unfolding end_from
end_again (Done o) h = ap (λ (r : Option (Option ℕ)). r >>= λ v. Some (Done v)) ((listed result_from result_cells (λ o. IfSome o (λ v. v ≤ u64_max)) results).again o h)
end_again (Trap k) h = ap (λ r. r >>= λ v. Some (Trap v)) (traps.again k tt)
end_again Cut h = refl

ends : IsFormat end_at end EndBound
ends = listed end_from end_cells EndBound (record { takes = λ ds e h. end_takes ds e h; again = λ e h. end_again e h })

end_fits : (e : End) → EndBound e → EndFits e
end_fits (Done None) h = tt
end_fits (Done (Some v)) h = omega (arith, h)
end_fits (Trap k) h = tt
end_fits Cut h = tt

end_bound : (e : End) → EndFits e → EndBound e
end_bound (Done None) h = tt
end_bound (Done (Some v)) h = omega (arith, h)
end_bound (Trap k) h = tt
end_bound Cut h = tt

-- ---- a thread

abbrev pub ThreadIsFit : ℕ → ThreadLog → Type 0
ThreadIsFit t l = AreEvents t 0 l.events × ThreadFits l

abbrev numbers_at : Data → Option (List ℕ)
numbers_at d = items_at (λ _ x. number_at u64_max x) d

arguments : IsFormat numbers_at (λ xs. list (map count xs)) (All (λ a. a ≤ u64_max))
arguments = all_items (number_at u64_max) count (λ a. a ≤ u64_max) (numbers u64_max)

abbrev started : List ℕ → List ℕ → Start
started s xs = record { name = s; args = xs }

record StartIs (a b : Data) (s : Start) : Type 0 where
  name : a ≡ string s.name
  args : b ≡ list (map count s.args)
  fit : All (λ n. n ≤ u64_max) s.args

start_takes : (a b : Data) (s : Start) → start_at a b ≡ Some s → StartIs a b s
start_takes a b s h =
    let n = bind_some (as_str a) (λ n. numbers_at b >>= λ xs. Some (started n xs)) s h in
    let xs = bind_some (numbers_at b) (λ xs. Some (started n.0 xs)) s n.2 in
    let args-are = arguments.takes b xs.0 xs.1 in
    let same : started n.0 xs.0 ≡ s = cc in
    let P : Start → Type 0 = λ y. StartIs a b y in
    subst P same (record { name = (texts.takes a n.0 n.1).0; args = args-are.0; fit = args-are.1 })

start_again : (s : Start) → All (λ n. n ≤ u64_max) s.args → start_at (string s.name) (list (map count s.args)) ≡ Some s
start_again s fit = rw (arguments.again s.args fit) refl

-- ---- what comes before the events

pub record HeadFits (h : ThreadHead) : Type 0 where
  pub args : All (λ a. a ≤ u64_max) h.start.args
  pub end : EndBound h.end
  pub steps : h.steps ≤ 1000000

abbrev pub head_cells : ThreadHead → Data → List Data
head_cells h events = string h.start.name ∷ list (map count h.start.args) ∷ end h.end ∷ count h.steps ∷ events ∷ []

abbrev headed : Start → End → ℕ → ThreadHead
headed s e n = record { start = s; end = e; steps = n }

pub head_takes : (ds : List Data) (p : ThreadHead × Data) → head_from ds ≡ Some p → (ds ≡ head_cells p.0 p.1) × HeadFits p.0
unfolding head_from
head_takes [] p h = absurd cc
head_takes (a ∷ []) p h = absurd cc
head_takes (a ∷ b ∷ []) p h = absurd cc
head_takes (a ∷ b ∷ c ∷ []) p h = absurd cc
head_takes (a ∷ b ∷ c ∷ d ∷ []) p h = absurd cc
head_takes (a ∷ b ∷ c ∷ d ∷ e ∷ []) p h =
    let s = bind_some (start_at a b) (λ s. end_at c >>= λ x. number_at 1000000 d >>= λ n. Some (headed s x n, e)) p h in
    let x = bind_some (end_at c) (λ x. number_at 1000000 d >>= λ n. Some (headed s.0 x n, e)) p s.2 in
    let n = bind_some (number_at 1000000 d) (λ n. Some (headed s.0 x.0 n, e)) p x.2 in
    let start-is = start_takes a b s.0 s.1 in
    let end-is = ends.takes c x.0 x.1 in
    let steps-are = (numbers 1000000).takes d n.0 n.1 in
    let made : ThreadHead × Data = (headed s.0 x.0 n.0, e) in
    let same : made ≡ p = cc in
    let P : ThreadHead × Data → Type 0 = λ y. (a ∷ b ∷ c ∷ d ∷ e ∷ [] ≡ head_cells y.0 y.1) × HeadFits y.0 in
    subst P same (
      ap (λ (y : Data). y ∷ b ∷ c ∷ d ∷ e ∷ []) start-is.name
          ∙ ap (λ (y : Data). string s.0.name ∷ y ∷ c ∷ d ∷ e ∷ []) start-is.args
          ∙ ap (λ (y : Data). string s.0.name ∷ list (map count s.0.args) ∷ y ∷ d ∷ e ∷ []) end-is.0
          ∙ ap (λ (y : Data). string s.0.name ∷ list (map count s.0.args) ∷ end x.0 ∷ y ∷ e ∷ []) steps-are.0,
      record { args = start-is.fit; end = end-is.1; steps = steps-are.1 },
    )
head_takes (a ∷ b ∷ c ∷ d ∷ e ∷ f ∷ ds) p h = absurd cc

head_again : (h : ThreadHead) (events : Data) → HeadFits h → head_from (head_cells h events) ≡ Some (h, events)
unfolding head_from
head_again h events fits =
    ap (λ (o : Option Start). o >>= λ s. end_at (end h.end) >>= λ e. number_at 1000000 (count h.steps) >>= λ n. Some (headed s e n, events)) (start_again h.start fits.args)
    ∙ rw (ends.again h.end fits.end, (numbers 1000000).again h.steps fits.steps) refl

abbrev HeadsFit : ThreadHead × Data → Type 0
HeadsFit p = HeadFits p.0

heads : IsFormat head_at (λ p. list (head_cells p.0 p.1)) HeadsFit
heads = listed head_from (λ p. head_cells p.0 p.1) HeadsFit (record { takes = λ ds p h. head_takes ds p h; again = λ p fits. head_again p.0 p.1 fits })

-- ---- a head with its events, however these are written

module _ {A B : Type 0} (f : Data → Option A) (spell : A → Data) (Fits : A → Type 0) (make : ThreadHead → A → B) (format : IsFormat f spell Fits) where
  pub record IsMade (d : Data) (b : B) : Type 0 where
    pub head : ThreadHead
    pub events : A
    pub made : make head events ≡ b
    pub spelled : d ≡ list (head_cells head (spell events))
    pub fits : HeadFits head
    pub each : Fits events

  pub made_takes : (d : Data) (b : B) → (head_at d >>= λ h. f h.1 >>= λ a. Some (make h.0 a)) ≡ Some b → IsMade d b
  made_takes d b e =
      let h = bind_some (head_at d) (λ h. f h.1 >>= λ a. Some (make h.0 a)) b e in
      let a = bind_some (f h.0.1) (λ a. Some (make h.0.0 a)) b h.2 in
      let head-is = heads.takes d h.0 h.1 in
      let events-are = format.takes h.0.1 a.0 a.1 in
      record {
        head = h.0.0;
        events = a.0;
        made = same_Some (make h.0.0 a.0) b a.2;
        spelled = head-is.0 ∙ ap (λ (x : Data). list (head_cells h.0.0 x)) events-are.0;
        fits = head-is.1;
        each = events-are.1;
      }

  pub made_again : (h : ThreadHead) (a : A) → HeadFits h → Fits a → (head_at (list (head_cells h (spell a))) >>= λ h. f h.1 >>= λ a. Some (make h.0 a)) ≡ Some (make h a)
  made_again h a fits each =
      ap (λ (o : Option (ThreadHead × Data)). o >>= λ h. f h.1 >>= λ a. Some (make h.0 a)) (heads.again (h, spell a) fits)
      ∙ ap (λ (o : Option A). o >>= λ a. Some (make h a)) (format.again a each)

-- ---- the limits

arguments_fit : (xs : List ℕ) → All (λ a. a ≤ u64_max) xs → All (λ a. a < 2 ^ 64) xs
arguments_fit xs h = All-weaker (λ a. a ≤ u64_max) (λ a. a < 2 ^ 64) (λ a le. omega arith) xs h

arguments_bound : (xs : List ℕ) → All (λ a. a < 2 ^ 64) xs → All (λ a. a ≤ u64_max) xs
arguments_bound xs h = All-weaker (λ a. a < 2 ^ 64) (λ a. a ≤ u64_max) (λ a lt. omega arith) xs h

pub thread_fits : (h : ThreadHead) (es : List Event) → HeadFits h → All EventFits es → ThreadFits (with_events h es)
thread_fits h es fits each = record { args = arguments_fit h.start.args fits.args; end = end_fits h.end fits.end; steps = fits.steps; events = each }

abbrev pub head_of : ThreadLog → ThreadHead
head_of l = headed l.start l.end l.steps

pub head_fits : (l : ThreadLog) → ThreadFits l → HeadFits (head_of l)
head_fits l h = record { args = arguments_bound l.start.args h.args; end = end_bound l.end h.end; steps = h.steps }

-- ---- a thread of version 1

thread_events : (t : ℕ) → IsFormat (items_at (number_event_at t)) (λ xs. list (map event xs)) (AllFrom (EventIsFit t) 0)
thread_events t = items (number_event_at t) event (EventIsFit t) (events t)

events_apart : (t n : ℕ) (es : List Event) → AllFrom (EventIsFit t) n es → AreEvents t n es × All EventFits es
events_apart t n [] h = (tt, All-nil EventFits)
events_apart t n (e ∷ es) h = (let rest = events_apart t (suc n) es h.1 in ((h.0.0, rest.0), All-cons EventFits e es h.0.1 rest.1))

events_together : (t n : ℕ) (es : List Event) → AreEvents t n es → All EventFits es → AllFrom (EventIsFit t) n es
events_together t n [] h i = tt
events_together t n (e ∷ es) h i = ((h.0, All-head EventFits e es i), events_together t (suc n) es h.1 (All-tail EventFits e es i))

thread_takes : (t : ℕ) (d : Data) (l : ThreadLog) → thread_at t d ≡ Some l → (d ≡ thread l) × ThreadIsFit t l
thread_takes t d l e =
    let m = made_takes (items_at (number_event_at t)) (λ xs. list (map event xs)) (AllFrom (EventIsFit t) 0) with_events (thread_events t) d l e in
    let apart = events_apart t 0 m.events m.each in
    let P : ThreadLog → Type 0 = λ x. (d ≡ thread x) × ThreadIsFit t x in
    subst P m.made (m.spelled, (apart.0, thread_fits m.head m.events m.fits apart.1))

thread_again : (t : ℕ) (l : ThreadLog) → ThreadIsFit t l → thread_at t (thread l) ≡ Some l
thread_again t l fits =
    made_again (items_at (number_event_at t)) (λ xs. list (map event xs)) (AllFrom (EventIsFit t) 0) with_events (thread_events t) (head_of l) l.events (head_fits l fits.1)
    (events_together t 0 l.events fits.0 fits.1.events)

-- ---- a thread at its place, within the limits

abbrev pub IsLimited : {A : Type 0} → (ℕ → A → Type 0) → ℕ → A → Type 0
IsLimited Fits t a = Fits t a × (t ≤ u32_max)

pub limited : {A : Type 0} (f : ℕ → Data → Option A) (spell : A → Data) (Fits : ℕ → A → Type 0) → IsFormatAt f spell Fits → IsFormatAt (λ t d. cond (leb t u32_max) (f t d) None) spell (IsLimited Fits)
limited f spell Fits format = record {
  takes = λ t d l e.
      let g = when_some (leb t u32_max) (f t d) l e in
      let one = format.takes t d l g.1 in
      (one.0, (one.1, leb-true t u32_max g.0));
  again = λ t l fits.
      ap (λ (b : Bool). cond b (f t (spell l)) None) (le-leb t u32_max fits.1) ∙ format.again t l fits.0;
}

pub threads : IsFormatAt limited_thread_at thread (IsLimited ThreadIsFit)
threads = limited thread_at thread ThreadIsFit (record { takes = λ t d l e. thread_takes t d l e; again = λ t l fits. thread_again t l fits })
