-- What leads to a read and a write that race.
use Rattle.std.proofs.Common.{◌≡◌, ◌≢◌, ℕ, ◌+◌, [], true, false, Option, None, Some, IsTrue, is_some, refl, sym, ap, ◌∙◌, subst, arith, inl, inr, ⊎_elim}
use Rattle.std.specs.Prelude.{option_and_then}
use Rattle.std.proofs.lemmas.Bool.{cases_Bool, false≢true}
use Rattle.wm_event.specs.declared.event.Event.{Event}
use Rattle.wm_event.specs.declared.event.EventKey.{EventKey}
use Rattle.wm_event.specs.declared.event.EventId.{EventId}
use Rattle.wm_event.specs.declared.event.EventId.TheVariants.{At}
use Rattle.wm_event.specs.Byte.{byte_of}
use Rattle.wm_event.specs.Event.{byte_written, is_atomic, range_of, writes}
use Rattle.wm_event.specs.Execution.{Execution, ReadsFrom, byte_by}
use Rattle.wm_event.specs.HappensBefore.{HappensBefore}
use Rattle.wm_event.specs.Rules.{IsValid, Writes}
use Rattle.wm_races.specs.Races.{IsUnordered, IsWeak}
use Rattle.wm_sequential.specs.Programs.{HasNoStandardRace, LeadsTo}
use Rattle.wm_sequential.specs.Programs.Conflict.{takes}
use Rattle.wm_sequential.specs.Programs.LeadsTo.{before_read, before_write, is_write}
use Rattle.wm_sequential.proofs.Steps.{before_join, event-writes, some_of}

-- an event is weak with another, or they are atomic with one range
not-weak : (e g : Event) → (IsWeak e g → ⊥) → (IsTrue (is_atomic e) → IsTrue (is_atomic g) → range_of e ≡ range_of g → ⊥) → ⊥
not-weak e g weak strong = ⊎_elim
    (λ (a : is_atomic e ≡ true). ⊎_elim
    (λ (b : is_atomic g ≡ true). weak (inr (inr (λ same. strong a b same))))
    (λ (b : is_atomic g ≡ false). weak (inr (inl b)))
    (cases_Bool (is_atomic g)))
    (λ (a : is_atomic e ≡ false). weak (inl a))
    (cases_Bool (is_atomic e))

-- what happens before an event that leads to them leads there too
pub leads-on : (x : Execution) (r v a b : EventKey) → HappensBefore x (At a) (At b) → LeadsTo x r v b → LeadsTo x r v a
leads-on x r v a b h (is_write same) = before_write (subst (λ b. HappensBefore x (At a) (At b)) same h)
leads-on x r v a b h (before_write k) = before_write (before_join x (At a) (At b) (At v) h k)
leads-on x r v a b h (before_read k) = before_read (before_join x (At a) (At b) (At r) h k)

module _ (x : Execution) (valid : IsValid x) where
  pub never-itself : (a : EventId) → HappensBefore x a a → ⊥
  never-itself a h = let l = valid.keeps_order a a h in omega (arith, l)

  -- what leads to them doesn't come after them
  pub not-after-read : (r v key : EventKey) → IsUnordered x r v → LeadsTo x r v key → HappensBefore x (At r) (At key) → ⊥
  not-after-read r v key unordered (is_write same) after = unordered.0 (subst (λ key. HappensBefore x (At r) (At key)) same after)
  not-after-read r v key unordered (before_write h) after = unordered.0 (before_join x (At r) (At key) (At v) after h)
  not-after-read r v key unordered (before_read h) after = never-itself (At r) (before_join x (At r) (At key) (At r) after h)

  pub not-after-write : (r v key : EventKey) → IsUnordered x r v → LeadsTo x r v key → HappensBefore x (At v) (At key) → ⊥
  not-after-write r v key unordered (is_write same) after = never-itself (At v) (subst (λ key. HappensBefore x (At v) (At key)) same after)
  not-after-write r v key unordered (before_write h) after = never-itself (At v) (before_join x (At v) (At key) (At v) after h)
  not-after-write r v key unordered (before_read h) after = unordered.1 (before_join x (At v) (At key) (At r) after h)

  -- without a data race of ECMA-262, what an event takes a byte from happens before it
  pub source-before : HasNoStandardRace x → (q : EventKey) (f : Event) (k : ℕ) (u : EventKey) → x.event_of q ≡ Some f → ReadsFrom x q k (At u) → (HappensBefore x (At u) (At q) → ⊥) → ⊥
  source-before none q f k u is_q from not_before =
      let values = valid.keeps_written_values q f k (At u) is_q from in
      let coherent = valid.keeps_coherence q f k (At u) is_q from in
      let written : Writes x (At u) (f.address + k) = some_of (byte_by x (At u) (f.address + k)) (byte_of f.read k) values.1 in
      by (x.event_of u) refl written values.0 coherent.0
    where
      by : (o : Option Event) → x.event_of u ≡ o → Writes x (At u) (f.address + k) → At u ≢ At q → (HappensBefore x (At q) (At u) → ⊥) → ⊥
      by None at written other not_later = let n = ap (λ o. is_some (option_and_then (λ (f' : Event). byte_written f' (f.address + k)) o)) at in false≢true (sym n ∙ written)
      by (Some h) at written other not_later = not-weak f h
          (λ weak. none q u (record {
            first = f;
            second = h;
            is_first = is_q;
            is_second = at;
            apart = λ s. other (ap At (sym s));
            conflict = takes (k, from);
            weak = weak;
            unordered = (not_later, not_before);
          }))
          (λ a b same. not_before (
            [],
            inr (record {
              writer = h;
              reader = f;
              is_writer = at;
              is_reader = is_q;
              writer_atomic = b;
              reader_atomic = a;
              ranges = sym same;
              reads = (k, from);
            }),
          ))

  -- an event that only reads writes no byte, and none comes from it
  module _ (r : EventKey) (e : Event) (is_r : x.event_of r ≡ Some e) (only_reads : writes e ≡ false) where
    pub writes-none : (a : ℕ) → Writes x (At r) a → ⊥
    writes-none a h = false≢true (sym only_reads ∙ (event-writes x r e a is_r h).0)

    pub not-from-it : (q : EventKey) (f : Event) (k : ℕ) (w : EventId) → x.event_of q ≡ Some f → ReadsFrom x q k w → w ≢ At r
    not-from-it q f k w at from same =
        let values = valid.keeps_written_values q f k w at from in
        writes-none (f.address + k) (subst (λ w. Writes x w (f.address + k)) same (some_of (byte_by x w (f.address + k)) (byte_of f.read k) values.1))
