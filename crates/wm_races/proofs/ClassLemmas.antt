-- The races of an event with a class of writes.
use Rattle.std.proofs.Common.{◌≡◌, ◌≢◌, ℕ, ◌+◌, ◌-◌, ◌<◌, ◌≤◌, List, true, false, map, max, slice_get, get_or, take, drop, Some, None, refl, sym, ap, ◌∙◌, subst, arith, ◌⊎◌, inl, inr, ⊎_elim}
use Rattle.std.specs.Option.{option_map}
use Rattle.std.proofs.lemmas.Bool.{cases_lt, false≢true}
use Rattle.std.proofs.lemmas.List.{length-map}
use Rattle.std.proofs.lemmas.Option.{get_or_from_slice_get, same_Some, slice_get-map}
use Rattle.wm_event.specs.declared.event.Event.{Event}
use Rattle.wm_event.specs.declared.event.EventKey.{EventKey}
use Rattle.wm_event.specs.declared.event.EventId.TheVariants.{At}
use Rattle.wm_event.specs.declared.event.Range.{Range}
use Rattle.wm_event.specs.Event.{is_atomic, key_of, range_of, writes}
use Rattle.wm_event.specs.Execution.{place}
use Rattle.wm_event.specs.HappensBefore.{HappensBefore}
use Rattle.wm_event.specs.Log.{HasKeys, event_in}
use Rattle.wm_event.specs.LoggedRun.{LoggedRun, execution}
use Rattle.wm_event.specs.Rules.{KeepsOrder}
use Rattle.wm_event.specs.Shape.{ListsEachOnce}
use Rattle.wm_hb.specs.Steps.{StandsAt}
use Rattle.wm_races.specs.Classes.{IsClass, IsMember}
use Rattle.wm_races.specs.Listing.{IsPairAt, write_place}
use Rattle.wm_races.specs.Parts.{AreInSequenceAt, AreParted, IsBeforeAt, IsGroupOf, IsNotBeforeAt, IsPairWith, IsPart, IsUnorderedAt, IsWeakWith}
use Rattle.wm_races.specs.Races.{Accesses, IsRacingPair, IsUnordered}
use Rattle.wm_races.specs.Races.ComesBefore.{by_write}
use Rattle.wm_races.specs.declared.classes.Class.{Class}
use Rattle.wm_races.specs.declared.pair.RacingPair.{RacingPair}
use Rattle.wm_races.proofs.ListLemmas.{get-part, part-get, part-length}
use Rattle.wm_races.proofs.RaceLemmas.{IsMet, Meets, met-pair, pair-met, place-is, there_writes}
use Rattle.wm_hb.proofs.ThreadLemmas.{in_program}

module _ (run : LoggedRun) (once : ListsEachOnce run.log run.witness.order) (keys : HasKeys run.log) (agrees : KeepsOrder (execution run)) where
  placed : (n : ℕ) (w : EventKey) → StandsAt run n w → place (execution run) (At w) ≡ 1 + n
  placed n w at = ap (λ m. 1 + m) (place-is run once n w at)

  -- of two events of a thread, the one that comes first happens before the other
  in_turn_at : (m n : ℕ) (a b : EventKey) → m < n → StandsAt run m a → StandsAt run n b → a.thread ≡ b.thread → HappensBefore (execution run) (At a) (At b)
  in_turn_at m n a b l at_a at_b same =
      let p = placed m a at_a in
      let q = placed n b at_b in
      ⊎_elim
      (λ (h : a.number < b.number). in_program run a b (once.events m a at_a) (once.events n b at_b) same h)
      (λ (h : b.number ≤ a.number). ⊎_elim
      (λ (k : b.number < a.number).
      let r = agrees (At b) (At a) (in_program run b a (once.events n b at_b) (once.events m a at_a) (sym same) k) in
      absurd (omega (arith, r, p, q, l)))
      (λ (k : a.number ≤ b.number).
      let number : a.number ≡ b.number = omega (arith, h, k) in
      let key : a ≡ b = (λ i. record { thread = same i; number = number i }) in
      let r = ap (λ (w : EventKey). place (execution run) (At w)) key in
      absurd (omega (arith, r, p, q, l)))
      (cases_lt b.number a.number))
      (cases_lt a.number b.number)

  module _ (byte : ℕ) (c : Class) (is : IsClass run byte c) where
    pub class_sequence : AreInSequenceAt run c.places
    class_sequence = record {
      listed = λ i o at. let m = is.members i o at in (m.key, m.listed);
      sequence = λ i j m n l at_m at_n a b at_a at_b.
          let p = is.members i m at_m in
          let q = is.members j n at_n in
          let s : a ≡ p.key = same_Some a p.key (sym at_a ∙ p.listed) in
          let t : b ≡ q.key = same_Some b q.key (sym at_b ∙ q.listed) in
          in_turn_at m n a b (is.rises i j m n l at_m at_n) at_a at_b (ap (λ (k : EventKey). k.thread) s ∙ p.thread ∙ sym q.thread ∙ ap (λ (k : EventKey). k.thread) (sym t));
    }

    module _ (e : Event) (j : ℕ) (listed : event_in run.log (key_of e) ≡ Some e) (at_e : slice_get run.witness.order j ≡ Some (key_of e)) where
      -- the part of an event that writes ends at its place
      pub part_write : (low high : ℕ) → writes e ≡ true → AreParted (λ o. IsBeforeAt run o j) (λ o. IsNotBeforeAt run o j) c.places low
          → AreParted (λ o. o < j) (λ o. j ≤ o) c.places high → IsPart run e j c.places low high
      part_write low high does first last = record {
        bound = last.bound;
        inside = λ i o l h at.
            let below = last.first i o h at in (
              ((λ d. omega (arith, d, below)), inr below),
              λ a b at_a at_b. (
                λ before. (let r = agrees (At a) (At b) before in let p = placed j a at_a in let q = placed o b at_b in omega (arith, r, p, q, below)),
                first.rest i o l at b a at_b at_a,
              ),
            );
        outside = λ i o where_is at named apart.
            let m = is.members i o at in
            ⊎_elim
            (λ (l : i < low). (apart (key_of e) m.key at_e m.listed).1 (first.first i o l at m.key (key_of e) m.listed at_e))
            (λ (l : high ≤ i).
            let above = last.rest i o l at in
            ⊎_elim
            (λ (r : writes e ≡ false). false≢true (sym r ∙ does))
            (λ (r : o < j). omega (arith, r, above))
            named.1)
            where_is;
      }

      -- that of an event that only reads ends where it happens before the writes
      pub part_read : (low high : ℕ) → writes e ≡ false → AreParted (λ o. IsBeforeAt run o j) (λ o. IsNotBeforeAt run o j) c.places low
          → AreParted (λ o. IsNotBeforeAt run j o) (λ o. IsBeforeAt run j o) c.places high → IsPart run e j c.places low high
      part_read low high not first last = record {
        bound = last.bound;
        inside = λ i o l h at.
            let m = is.members i o at in (
              (
                λ d.
                    let same : m.key ≡ key_of e = same_Some m.key (key_of e) (sym m.listed ∙ ap (slice_get run.witness.order) d ∙ at_e) in
                    let event : m.event ≡ e = same_Some m.event e (sym m.there ∙ ap (event_in run.log) same ∙ listed) in
                    let w = (there_writes run once byte m.key m.event m.there m.written).0 in
                    false≢true (sym not ∙ ap writes (sym event) ∙ w),
                inl not,
              ),
              λ a b at_a at_b. (last.first i o h at a b at_a at_b, first.rest i o l at b a at_b at_a),
            );
        outside = λ i o where_is at named apart.
            let m = is.members i o at in
            ⊎_elim
            (λ (l : i < low). (apart (key_of e) m.key at_e m.listed).1 (first.first i o l at m.key (key_of e) m.listed at_e))
            (λ (l : high ≤ i). (apart (key_of e) m.key at_e m.listed).0 (last.rest i o l at (key_of e) m.key at_e m.listed))
            where_is;
      }

      -- what is known of a racing pair with a write of the class
      pub record IsPairOf (p : RacingPair) (i : ℕ) : Type 0 where
        pub met : IsMet run once e j byte (write_place run p) listed at_e p
        pub at : slice_get c.places i ≡ Some (write_place run p)
        pub member : IsMember run byte c.kind (write_place run p)
        pub same : member.event ≡ met.write

      pair_of_class : (p : RacingPair) → IsRacingPair (execution run) p → (with : IsPairWith run j byte c.places p) → IsPairOf p with.1.0
      pair_of_class p racing with =
          let o = write_place run p in
          let met = pair-met run once e j byte o listed at_e p (racing, with.0.0, with.0.1, refl) in
          let m = is.members with.1.0 o with.1.1 in
          let key : m.key ≡ p.write = same_Some m.key p.write (sym m.listed ∙ met.at) in
          record {
            met = met;
            at = with.1.1;
            member = m;
            same = same_Some m.event met.write (sym m.there ∙ ap (event_in run.log) key ∙ met.there);
          }

      pub none_first : byte ≢ max e.address c.kind.range.address → (p : RacingPair) → IsRacingPair (execution run) p → IsPairWith run j byte c.places p → ⊥
      none_first other p racing with =
          let pair = pair_of_class p racing with in
          let range : pair.met.write.address ≡ c.kind.range.address = ap (λ (w : Event). w.address) (sym pair.same) ∙ ap (λ (r : Range). r.address) pair.member.range in
          other (pair.met.meets.first ∙ ap (max e.address) range)

      pub none_weak : (IsWeakWith e c.kind → ⊥) → (p : RacingPair) → IsRacingPair (execution run) p → IsPairWith run j byte c.places p → ⊥
      none_weak strong p racing with =
          let pair = pair_of_class p racing with in
          let atomic : is_atomic pair.met.write ≡ c.kind.atomic = ap is_atomic (sym pair.same) ∙ pair.member.atomic in
          let range : range_of pair.met.write ≡ c.kind.range = ap range_of (sym pair.same) ∙ pair.member.range in
          strong (⊎_elim
          (λ (a : is_atomic e ≡ false). inl a)
          (λ (r : (is_atomic pair.met.write ≡ false) ⊎ (range_of e ≢ range_of pair.met.write)). ⊎_elim
          (λ (b : is_atomic pair.met.write ≡ false). inr (inl (sym atomic ∙ b)))
          (λ (d : range_of e ≢ range_of pair.met.write). inr (inr (λ s. d (s ∙ sym range))))
          r)
          pair.met.meets.weak)

      -- the event is ordered with those of its own thread
      pub none_own : c.kind.thread ≡ e.thread → (p : RacingPair) → IsRacingPair (execution run) p → IsPairWith run j byte c.places p → ⊥
      none_own own p racing with =
          let pair = pair_of_class p racing with in
          let o = write_place run p in
          let meets = pair.met.meets in
          let key : pair.member.key ≡ p.write = same_Some pair.member.key p.write (sym pair.member.listed ∙ pair.met.at) in
          let same : p.write.thread ≡ e.thread = ap (λ (k : EventKey). k.thread) (sym key) ∙ pair.member.thread ∙ own in
          ⊎_elim
          (λ (l : j < o). meets.unordered.0 (in_turn_at j o (key_of e) p.write l at_e pair.met.at (sym same)))
          (λ (h : o ≤ j). ⊎_elim
          (λ (l : o < j). meets.unordered.1 (in_turn_at o j p.write (key_of e) l pair.met.at at_e same))
          (λ (k : j ≤ o). meets.named.0 (omega (arith, h, k)))
          (cases_lt o j))
          (cases_lt j o)

      module _ (low high : ℕ) (part : IsPart run e j c.places low high) where
        inside_part : (p : RacingPair) → IsRacingPair (execution run) p → (with : IsPairWith run j byte c.places p) → (low ≤ with.1.0) × (with.1.0 < high)
        inside_part p racing with =
            let i = with.1.0 in
            let o = write_place run p in
            let pair = pair_of_class p racing with in
            let apart : IsUnorderedAt run j o = λ a b at_a at_b.
            let s : key_of e ≡ a = same_Some (key_of e) a (sym at_e ∙ at_a) in
            let t : p.write ≡ b = same_Some p.write b (sym pair.met.at ∙ at_b) in
            subst (λ (k : EventKey). IsUnordered (execution run) k b) s (subst (λ (k : EventKey). IsUnordered (execution run) (key_of e) k) t pair.met.meets.unordered) in
            let out = λ (where_is : (i < low) ⊎ (high ≤ i)). part.outside i o where_is pair.at pair.met.meets.named apart in (
              ⊎_elim (λ (l : i < low). absurd (out (inl l))) (λ (l : low ≤ i). l) (cases_lt i low),
              ⊎_elim (λ (l : i < high). l) (λ (l : high ≤ i). absurd (out (inr l))) (cases_lt i high),
            )

        pub none_inside : high ≤ low → (p : RacingPair) → IsRacingPair (execution run) p → IsPairWith run j byte c.places p → ⊥
        none_inside none p racing with = let h = inside_part p racing with in let l = h.0 in let k = h.1 in omega (arith, l, k, none)

        nobody : EventKey
        nobody = record { thread = 0; number = 0 }

        pair_with : ℕ → RacingPair
        pair_with o = record { event = key_of e; write = get_or run.witness.order o nobody }

        module _ (byte_of_e : Accesses e byte) (first : byte ≡ max e.address c.kind.range.address) (weak : IsWeakWith e c.kind) where
          made : (i o : ℕ) → low ≤ i → i < high → slice_get c.places i ≡ Some o → IsPairAt run j byte o (pair_with o)
          unfolding pair_with
          made i o l h at =
              let m = is.members i o at in
              let inside = part.inside i o l h at in
              let key : get_or run.witness.order o nobody ≡ m.key = get_or_from_slice_get run.witness.order o m.key nobody m.listed in
              let meets : Meets run once e j byte o listed at_e m.key m.event = record {
                named = inside.0;
                first = first ∙ ap (max e.address) (ap (λ (r : Range). r.address) (sym m.range));
                weak = ⊎_elim
                    (λ (a : is_atomic e ≡ false). inl a)
                    (λ (r : (c.kind.atomic ≡ false) ⊎ (range_of e ≢ c.kind.range)). ⊎_elim
                    (λ (b : c.kind.atomic ≡ false). inr (inl (m.atomic ∙ b)))
                    (λ (d : range_of e ≢ c.kind.range). inr (inr (λ s. d (s ∙ m.range))))
                    r)
                    weak;
                unordered = inside.1 (key_of e) m.key at_e m.listed;
              } in
              subst (λ (k : EventKey). IsPairAt run j byte o (record { event = key_of e; write = k })) (sym key)
              (met-pair run once e j byte o listed at_e m.key m.event byte_of_e m.listed m.there m.written meets)

          members : List ℕ
          members = take (high - low) (drop low c.places)

          pairs_with : List RacingPair
          pairs_with = map pair_with members

          some : (n : ℕ) (p : RacingPair) → slice_get pairs_with n ≡ Some p → (o : ℕ) × (n < high - low) × (slice_get c.places (low + n) ≡ Some o) × (p ≡ pair_with o)
          unfolding pairs_with members
          some n p at = found (slice_get members n) refl (sym (slice_get-map pair_with members n) ∙ at)
            where
              found : (q : _) → slice_get members n ≡ q → option_map pair_with q ≡ Some p → (o : ℕ) × (n < high - low) × (slice_get c.places (low + n) ≡ Some o) × (p ≡ pair_with o)
              found None none h = absurd (cc)
              found (Some o) is_o h = let g = get-part c.places low (high - low) n o is_o in (o, g.0, g.1, sym (same_Some (pair_with o) p h))

          pub group_some : low < high → (o : ℕ) (key : EventKey) → slice_get c.places low ≡ Some o → slice_get run.witness.order o ≡ Some key
              → IsGroupOf run (IsPairWith run j byte c.places) (record { pair = record { event = key_of e; write = key }; place = o; count = high - low })
          unfolding pairs_with members pair_with
          group_some less o key at_o at_key = record {
            pairs = pairs_with;
            list = record {
              sound = λ n p at.
                  let s = some n p at in
                  let l = s.1 in
                  let q = made (low + n) s.0 (omega arith) (omega (arith, l)) s.2 in
                  subst (λ (r : RacingPair). IsRacingPair (execution run) r × IsPairWith run j byte c.places r) (sym s.3)
                  (q.0, ((q.1, q.2), (low + n, s.2 ∙ ap Some (sym q.3))));
              complete = λ p racing with.
                  let i = with.1.0 in
                  let w = write_place run p in
                  let inside = inside_part p racing with in
                  let l = inside.0 in
                  let h = inside.1 in
                  let n = i - low in
                  let here : low + n ≡ i = omega (arith, l) in
                  let at : slice_get c.places (low + n) ≡ Some w = ap (slice_get c.places) here ∙ with.1.1 in
                  let member : slice_get members n ≡ Some w = part-get c.places low (high - low) n w (omega (arith, l, h)) at in
                  let met = (pair_of_class p racing with).met in
                  let event = met.event in
                  let write : get_or run.witness.order w nobody ≡ p.write = get_or_from_slice_get run.witness.order w p.write nobody met.at in
                  let same : pair_with w ≡ p = (λ t. record { event = sym event t; write = write t }) in
                  (n, slice_get-map pair_with members n ∙ ap (option_map pair_with) member ∙ ap Some same);
              sorted = λ m n p q l at_p at_q.
                  let s = some m p at_p in
                  let t = some n q at_q in
                  let k = s.1 in
                  let h = t.1 in
                  let u = made (low + m) s.0 (omega arith) (omega (arith, k)) s.2 in
                  let v = made (low + n) t.0 (omega arith) (omega (arith, h)) t.2 in
                  let up = is.rises (low + m) (low + n) s.0 t.0 (omega (arith, l)) s.2 t.2 in
                  let x = u.3 in
                  let y = v.3 in
                  rw (s.3, t.3) (by_write (u.1 ∙ sym v.1) (u.2 ∙ sym v.2) (omega (arith, up, x, y)));
            };
            first =
                let member : slice_get members 0 ≡ Some o = part-get c.places low (high - low) 0 o (omega (arith, less)) (ap (slice_get c.places) (zero_more low) ∙ at_o) in
                let write : get_or run.witness.order o nobody ≡ key = get_or_from_slice_get run.witness.order o key nobody at_key in
                slice_get-map pair_with members 0 ∙ ap (option_map pair_with) member ∙ ap Some (λ t. record { event = key_of e; write = write t });
            count = sym (length-map members pair_with ∙ part-length c.places low high (omega (arith, less)) part.bound);
            placed = place-is run once o key at_key;
          }
            where
              zero_more : (n : ℕ) → n + 0 ≡ n
              zero_more n = omega arith
