-- The classes of a byte's writes by their kinds.
use Rattle.std.proofs.Common.{◌≡◌, ℕ, ◌+◌, ◌<◌, ◌≤◌, List, [], ◌∷◌, ◌++◌, Option, None, Some, IsSome, length, get_or, slice_get, Bool, true, false, cond, eqb, refl, sym, ap, ◌∙◌, subst, arith, ◌⊎◌, inl, inr, ⊎_elim}
use Rattle.std.specs.Option.{option_map}
use Rattle.std.specs.Prelude.{option_and_then}
use Rattle.std.proofs.lemmas.Bool.{cases_lt, eqb-true, false≢true}
use Rattle.std.proofs.lemmas.List.{length-append}
use Rattle.std.proofs.lemmas.Option.{same_Some, slice_get-get_or, slice_get_within}
use Rattle.wm_event.specs.declared.event.Event.{Event}
use Rattle.wm_event.specs.declared.event.EventKey.{EventKey}
use Rattle.wm_event.specs.declared.writes.ByteWrite.{ByteWrite}
use Rattle.wm_event.specs.Event.{is_atomic, range_of}
use Rattle.wm_event.specs.Log.{event_in}
use Rattle.wm_event.specs.LoggedRun.{LoggedRun}
use Rattle.wm_event.specs.Shape.{ListsEachOnce}
use Rattle.wm_event.specs.Writes.{writes_byte, writes_from}
use Rattle.wm_event.proofs.WritesLemmas.{write_listed}
use Rattle.wm_hb.specs.Between.{Rises}
use Rattle.wm_races.specs.Classes.{AreClasses, AreKinds, AreMembers, AreOfSites, IsAmong, IsListed, RisePlaces, kind_in, kind_of}
use Rattle.wm_races.specs.Report.{site_at}
use Rattle.wm_races.specs.declared.classes.Class.{Class}
use Rattle.wm_races.specs.declared.classes.Kind.{Kind}
use Rattle.wm_races.specs.declared.site.Site.{Site}
use Rattle.wm_races.proofs.ListLemmas.{get-append, get-left, get-right, get_one}
use Rattle.wm_races.proofs.ScanLemmas.{listed-writes}

module _ (run : LoggedRun) (sites : List (List Site)) (writes : List ByteWrite) where
  module _ (kind : Kind) where
    -- the places of those of the first writes whose event is of the kind
    pub record AreFirstMembers (count : ℕ) (places : List ℕ) : Type 0 where
      pub sound : (i o : ℕ) → slice_get places i ≡ Some o
          → (k : ℕ) × ((w : ByteWrite) × (k < count) × (slice_get writes k ≡ Some w) × (w.place ≡ o) × (kind_of run sites o ≡ Some kind))
      pub complete : (k : ℕ) (w : ByteWrite) → k < count → slice_get writes k ≡ Some w → kind_of run sites w.place ≡ Some kind → IsListed places w.place
      pub rises : RisePlaces places

    pub members_none : AreFirstMembers 0 []
    members_none = record {
      sound = λ i o at. absurd (cc (at));
      complete = λ k w l at is. absurd (omega (arith, l));
      rises = λ i j m n l at_m at_n. absurd (cc (at_m));
    }

    pub members_done : (count : ℕ) (places : List ℕ) → length writes ≤ count → AreFirstMembers count places → AreMembers run sites writes kind places
    members_done count places all is = record {
      sound = λ i o at. let s = is.sound i o at in (s.0, (s.1.0, s.1.2, s.1.3, s.1.4));
      complete = λ k w at of_kind. let l = slice_get_within writes k w at in is.complete k w (omega (arith, l, all)) at of_kind;
      rises = is.rises;
    }

    module _ (count : ℕ) (places : List ℕ) (w : ByteWrite) (at_w : slice_get writes count ≡ Some w) (is : AreFirstMembers count places) where
      earlier_or_this : (k : ℕ) (v : ByteWrite) → k < count + 1 → slice_get writes k ≡ Some v → (k < count) ⊎ (v ≡ w)
      earlier_or_this k v l at = ⊎_elim
          (λ (h : k < count). inl h)
          (λ (h : count ≤ k). let e : k ≡ count = omega (arith, h, l) in inr (same_Some v w (sym at ∙ ap (slice_get writes) e ∙ at_w)))
          (cases_lt k count)

      pub member_less : (kind_of run sites w.place ≡ Some kind → ⊥) → AreFirstMembers (count + 1) places
      member_less other = record {
        sound = λ i o at. let s = is.sound i o at in let l = s.1.1 in (s.0, (s.1.0, omega (arith, l), s.1.2, s.1.3, s.1.4));
        complete = λ k v l at of_kind. ⊎_elim
            (λ (h : k < count). is.complete k v h at of_kind)
            (λ (e : v ≡ w). absurd (other (ap (λ (u : ByteWrite). kind_of run sites u.place) (sym e) ∙ of_kind)))
            (earlier_or_this k v l at);
        rises = is.rises;
      }

      pub member_more : Rises writes → kind_of run sites w.place ≡ Some kind → AreFirstMembers (count + 1) (places ++ w.place ∷ [])
      member_more rises of_this = record {
        sound = λ i o at. ⊎_elim
            (λ (l : slice_get places i ≡ Some o). let s = is.sound i o l in let k = s.1.1 in (s.0, (s.1.0, omega (arith, k), s.1.2, s.1.3, s.1.4)))
            (λ (r : (k : ℕ) × (i ≡ k + length places) × (slice_get (w.place ∷ []) k ≡ Some o)).
            let e : o ≡ w.place = (get_one w.place r.0 o r.2).1 in
            (count, (w, omega arith, at_w, sym e, ap (kind_of run sites) e ∙ of_this)))
            (get-append places (w.place ∷ []) i o at);
        complete = λ k v l at of_kind. ⊎_elim
            (λ (h : k < count). let m = is.complete k v h at of_kind in (m.0, get-left places (w.place ∷ []) m.0 v.place m.1))
            (λ (e : v ≡ w). (0 + length places, get-right places (w.place ∷ []) (0 + length places) 0 v.place refl (ap (λ (u : ByteWrite). Some u.place) (sym e))))
            (earlier_or_this k v l at);
        rises = λ i j m n l at_m at_n. up i j m n l (get-append places (w.place ∷ []) i m at_m) (get-append places (w.place ∷ []) j n at_n);
      }
        where
          up : (i j m n : ℕ) → i < j → (slice_get places i ≡ Some m) ⊎ ((k : ℕ) × (i ≡ k + length places) × (slice_get (w.place ∷ []) k ≡ Some m))
              → (slice_get places j ≡ Some n) ⊎ ((k : ℕ) × (j ≡ k + length places) × (slice_get (w.place ∷ []) k ≡ Some n)) → m < n
          up i j m n l (inl a) (inl b) = is.rises i j m n l a b
          up i j m n l (inl a) (inr b) =
              let s = is.sound i m a in
              let r = rises s.0 count s.1.0 w s.1.1 s.1.2 at_w in
              let p = s.1.3 in
              let e = (get_one w.place b.0 n b.2).1 in
              omega (arith, r, p, e)
          up i j m n l (inr a) (inl b) = let v = slice_get_within places j n b in let e = a.1 in absurd (omega (arith, v, e, l))
          up i j m n l (inr a) (inr b) = let e = a.1 in let f = b.1 in let g = (get_one w.place a.0 m a.2).0 in let h = (get_one w.place b.0 n b.2).0 in absurd (omega (arith, e, f, g, h, l))

  pub kinds_none : AreKinds run sites writes 0 []
  kinds_none = record {
    once = λ m n kind at_m at_n. absurd (cc (at_m));
    all = λ k w kind l at is. absurd (omega (arith, l));
  }

  module _ (count : ℕ) (kinds : List Kind) (w : ByteWrite) (at_w : slice_get writes count ≡ Some w) (are : AreKinds run sites writes count kinds) where
    -- the kind of the next write is known, or it has none
    pub kinds_known : ((kind : Kind) → kind_of run sites w.place ≡ Some kind → IsAmong kinds kind) → AreKinds run sites writes (count + 1) kinds
    kinds_known known = record {
      once = are.once;
      all = λ k v kind l at is. ⊎_elim
          (λ (h : k < count). are.all k v kind h at is)
          (λ (h : count ≤ k).
          let e : k ≡ count = omega (arith, h, l) in
          let s : v ≡ w = same_Some v w (sym at ∙ ap (slice_get writes) e ∙ at_w) in
          known kind (ap (λ (u : ByteWrite). kind_of run sites u.place) (sym s) ∙ is))
          (cases_lt k count);
    }

    -- it is a new one
    pub kinds_more : (kind : Kind) → kind_of run sites w.place ≡ Some kind → (IsAmong kinds kind → ⊥) → AreKinds run sites writes (count + 1) (kinds ++ kind ∷ [])
    kinds_more kind is new = record {
      once = λ m n other at_m at_n. by m n other (get-append kinds (kind ∷ []) m other at_m) (get-append kinds (kind ∷ []) n other at_n);
      all = λ k v other l at of_kind. ⊎_elim
          (λ (h : k < count). let r = are.all k v other h at of_kind in (r.0, get-left kinds (kind ∷ []) r.0 other r.1))
          (λ (h : count ≤ k).
          let e : k ≡ count = omega (arith, h, l) in
          let s : v ≡ w = same_Some v w (sym at ∙ ap (slice_get writes) e ∙ at_w) in
          let t : kind ≡ other = same_Some kind other (sym is ∙ ap (λ (u : ByteWrite). kind_of run sites u.place) (sym s) ∙ of_kind) in
          (0 + length kinds, get-right kinds (kind ∷ []) (0 + length kinds) 0 other refl (ap Some t)))
          (cases_lt k count);
    }
      where
        by : (m n : ℕ) (other : Kind) → (slice_get kinds m ≡ Some other) ⊎ ((k : ℕ) × (m ≡ k + length kinds) × (slice_get (kind ∷ []) k ≡ Some other))
            → (slice_get kinds n ≡ Some other) ⊎ ((k : ℕ) × (n ≡ k + length kinds) × (slice_get (kind ∷ []) k ≡ Some other)) → m ≡ n
        by m n other (inl a) (inl b) = are.once m n other a b
        by m n other (inl a) (inr b) = absurd (new (m, a ∙ ap Some (get_one kind b.0 other b.2).1))
        by m n other (inr a) (inl b) = absurd (new (n, b ∙ ap Some (get_one kind a.0 other a.2).1))
        by m n other (inr a) (inr b) =
            let e = a.1 in let f = b.1 in let g = (get_one kind a.0 other a.2).0 in let h = (get_one kind b.0 other b.2).0 in omega (arith, e, f, g, h)

  pub kinds_all : (count : ℕ) (kinds : List Kind) → length writes ≤ count → AreKinds run sites writes count kinds → AreKinds run sites writes (length writes) kinds
  kinds_all count kinds all are = record {
    once = are.once;
    all = λ k w kind l at is. are.all k w kind (omega (arith, l, all)) at is;
  }

  -- the classes of the first of some kinds
  pub record AreFirstClasses (kinds : List Kind) (count : ℕ) (classes : List Class) : Type 0 where
    pub size : length classes ≡ count
    pub each : (n : ℕ) (c : Class) → slice_get classes n ≡ Some c → (slice_get kinds n ≡ Some c.kind) × AreMembers run sites writes c.kind c.places

  pub first_none : (kinds : List Kind) → AreFirstClasses kinds 0 []
  first_none kinds = record {
    size = refl;
    each = λ n c at. absurd (cc (at));
  }

  pub first_more : (kinds : List Kind) (count : ℕ) (classes : List Class) (kind : Kind) (places : List ℕ) → slice_get kinds count ≡ Some kind → AreMembers run sites writes kind places
      → AreFirstClasses kinds count classes → AreFirstClasses kinds (count + 1) (classes ++ record { kind = kind; places = places } ∷ [])
  first_more kinds count classes kind places at_kind members are = record {
    size = (let a = length-append classes (record { kind = kind; places = places } ∷ []) in let b = are.size in omega (arith, a, b));
    each = λ n c at. ⊎_elim
        (λ (l : slice_get classes n ≡ Some c). are.each n c l)
        (λ (r : (k : ℕ) × (n ≡ k + length classes) × (slice_get (record { kind = kind; places = places } ∷ []) k ≡ Some c)).
        let o = get_one (record { kind = kind; places = places }) r.0 c r.2 in
        let i = r.1 in let j = o.0 in let k = are.size in
        let e : n ≡ count = omega (arith, i, j, k) in
        subst (λ (d : Class). (slice_get kinds n ≡ Some d.kind) × AreMembers run sites writes d.kind d.places) (sym o.1) (ap (slice_get kinds) e ∙ at_kind, members))
        (get-append classes (record { kind = kind; places = places } ∷ []) n c at);
  }

-- what a kind means for the event
pub record IsOfKind (run : LoggedRun) (sites : List (List Site)) (place : ℕ) (kind : Kind) : Type 0 where
  pub key : EventKey
  pub event : Event
  pub listed : slice_get run.witness.order place ≡ Some key
  pub there : event_in run.log key ≡ Some event
  pub is : record { thread = key.thread; site = site_at sites key; range = range_of event; atomic = is_atomic event } ≡ kind

pub kind_says : (run : LoggedRun) (sites : List (List Site)) (place : ℕ) (kind : Kind) → kind_of run sites place ≡ Some kind → IsOfKind run sites place kind
kind_says run sites place kind h = by (slice_get run.witness.order place) refl h
  where
    made : EventKey → Event → Kind
    made key e = record { thread = key.thread; site = site_at sites key; range = range_of e; atomic = is_atomic e }

    with_event : (key : EventKey) → slice_get run.witness.order place ≡ Some key → (o : Option Event) → event_in run.log key ≡ o
        → option_map (λ (e : Event). record { thread = key.thread; site = site_at sites key; range = range_of e; atomic = is_atomic e }) o ≡ Some kind → IsOfKind run sites place kind
    with_event key at None there h = absurd (cc (h))
    with_event key at (Some e) there h = record { key = key; event = e; listed = at; there = there; is = same_Some _ kind h }

    by : (o : Option EventKey) → slice_get run.witness.order place ≡ o → option_and_then (kind_in run.log sites) o ≡ Some kind → IsOfKind run sites place kind
    by None at h = absurd (cc (h))
    by (Some key) at h = with_event key at (event_in run.log key) refl h

module _ (run : LoggedRun) (sites : List (List Site)) (once : ListsEachOnce run.log run.witness.order) (a : ℕ) (kinds : List Kind) (count : ℕ) (classes : List Class)
    (of_writes : AreKinds run sites (writes_from run.log a 0 run.witness.order) (length (writes_from run.log a 0 run.witness.order)) kinds)
    (all : length kinds ≤ count) (are : AreFirstClasses run sites (writes_from run.log a 0 run.witness.order) kinds count classes) where
  its_kind : (n o : ℕ) (c : Class) → slice_get classes n ≡ Some c → IsListed c.places o → kind_of run sites o ≡ Some c.kind
  its_kind n o c at (i, at_o) = let s = (are.each n c at).1.sound i o at_o in s.1.3

  pub of_sites : AreOfSites run sites classes
  of_sites n o c key at listed at_key =
      let s = kind_says run sites o c.kind (its_kind n o c at listed) in
      let same : s.key ≡ key = same_Some s.key key (sym s.listed ∙ at_key) in
      ap (site_at sites) (sym same) ∙ ap (λ (k : Kind). k.site) s.is

  pub are_classes : AreClasses run a classes
  are_classes = record {
    each = λ n c at. record {
      members = λ i o at_o.
          let m = (are.each n c at).1.sound i o at_o in
          let s = kind_says run sites o c.kind m.1.3 in
          record {
            key = s.key;
            event = s.event;
            listed = s.listed;
            there = s.there;
            written = listed-writes run.log a run.witness.order m.0 m.1.0 s.key m.1.1 (ap (slice_get run.witness.order) m.1.2 ∙ s.listed);
            thread = ap (λ (k : Kind). k.thread) s.is;
            range = ap (λ (k : Kind). k.range) s.is;
            atomic = ap (λ (k : Kind). k.atomic) s.is;
          };
      rises = (are.each n c at).1.rises;
    };
    apart = λ m n o c d at_c at_d in_c in_d.
        let same : c.kind ≡ d.kind = same_Some c.kind d.kind (sym (its_kind m o c at_c in_c) ∙ its_kind n o d at_d in_d) in
        of_writes.once m n d.kind ((are.each m c at_c).0 ∙ ap Some same) (are.each n d at_d).0;
    all = λ o key at written.
        let w = write_listed (writes_byte run.log a) a 0 run.witness.order o key at written in
        let k = w.0 in
        let place : 0 + o ≡ o = omega arith in
        let there = event_there (event_in run.log key) (once.events o key at) in
        let kind : Kind = record { thread = key.thread; site = site_at sites key; range = range_of there.0; atomic = is_atomic there.0 } in
        let is : kind_of run sites o ≡ Some kind =
        ap (option_and_then (kind_in run.log sites)) at ∙ ap (option_map (λ (e : Event). record { thread = key.thread; site = site_at sites key; range = range_of e; atomic = is_atomic e })) there.1 in
        let within = slice_get_within (writes_from run.log a 0 run.witness.order) k (record { address = a; place = 0 + o }) w.1 in
        let is_there : kind_of run sites (0 + o) ≡ Some kind = ap (kind_of run sites) place ∙ is in
        let has = of_writes.all k (record { address = a; place = 0 + o }) kind within w.1 is_there in
        let inside = slice_get_within kinds has.0 kind has.1 in
        let size = are.size in
        let d : Class = record { kind = kind; places = [] } in
        let c = get_or classes has.0 d in
        let at_c : slice_get classes has.0 ≡ Some c = slice_get-get_or classes has.0 d (omega (arith, inside, size, all)) in
        let each = are.each has.0 c at_c in
        let same : c.kind ≡ kind = same_Some c.kind kind (sym each.0 ∙ has.1) in
        let listed = each.1.complete k (record { address = a; place = 0 + o }) w.1 (is_there ∙ ap Some (sym same)) in
        (has.0, (c, at_c, (listed.0, listed.1 ∙ ap Some place)));
  }
    where
      event_there : (o : Option Event) → IsSome o → (e : Event) × (o ≡ Some e)
      event_there None h = absurd (false≢true h)
      event_there (Some e) h = (e, refl)

-- what holds of what a map has, and of what is put into it
pub updated : (P : ℕ → List Class → Type 0) (old new : ℕ → Option (List Class)) (a : ℕ) (classes : List Class) → ((q : ℕ) → new q ≡ cond (eqb a q) (Some classes) (old q)) → P a classes
    → ((b : ℕ) (ds : List Class) → old b ≡ Some ds → P b ds) → (b : ℕ) (ds : List Class) → new b ≡ Some ds → P b ds
updated P old new a classes is here others b ds found = by (eqb a b) refl (sym (is b) ∙ found)
  where
    by : (t : Bool) → eqb a b ≡ t → cond t (Some classes) (old b) ≡ Some ds → P b ds
    by true same h = subst (λ (c : ℕ). P c ds) (eqb-true a b same) (subst (P a) (same_Some classes ds h) here)
    by false other h = others b ds h
