-- Where no fault breaks a rule, the rule holds.
use Rattle.std.proofs.Common.{◌≡◌, ◌≢◌, ℕ, zero, suc, ◌+◌, ◌-◌, ◌<◌, ◌≤◌, List, [], ◌∷◌, Option, None, Some, IsSome, arith, refl, sym, subst, ⊎_elim}
use Rattle.std.proofs.lemmas.Bool.{cases_eq, cases_lt}
use Rattle.wm_event.specs.declared.event.EventKey.{EventKey}
use Rattle.wm_event.specs.declared.event.EventId.{EventId}
use Rattle.wm_event.specs.declared.event.EventId.TheVariants.{Init, At}
use Rattle.wm_event.specs.declared.rule.Rule.TheVariants.{WrittenValues, Order}
use Rattle.wm_event.specs.Byte.{byte_of}
use Rattle.wm_event.specs.Execution.{Execution, byte_by, place}
use Rattle.wm_event.specs.LoggedRun.{LoggedRun, execution}
use Rattle.wm_event.specs.HappensBefore.{Edge, Chain, SequencedBefore, SynchronizesWith}
use Rattle.wm_event.specs.Rules.{KeepsWrittenValues, KeepsOrder}
use Rattle.wm_event.specs.Faults.{BreaksWrittenValues, reads_itself, not_written, other_value, in_thread, synchronized}
use Rattle.wm_hb.specs.Scan.{Finds}
use Rattle.wm_hb.proofs.Bridge.{earlier_there}

-- no fault of V1
pub keeps_written_values : (x : Execution) → Finds x (1 ∷ []) None → KeepsWrittenValues x
keeps_written_values x none r e k w there reads = (own, other (byte_by x w (e.address + k)) refl)
  where
    broken : (c : ℕ) → BreaksWrittenValues x r e k w c → ⊥
    broken c h = none (record { rule = WrittenValues; case = c; event = r; byte = k; writer = w; other = None }) ((refl, (e, there, reads, h)), (refl, tt))

    own : w ≢ At r
    own h = broken 1 (reads_itself refl h)

    other : (b : Option ℕ) → byte_by x w (e.address + k) ≡ b → byte_by x w (e.address + k) ≡ Some (byte_of e.read k)
    other None h = absurd (broken 2 (not_written refl h))
    other (Some b) h = ⊎_elim (λ (s : b ≡ byte_of e.read k). rw (sym s) h) (λ (d : b ≢ byte_of e.read k). absurd (broken 3 (other_value refl b h d))) (cases_eq b (byte_of e.read k))

-- an event has each earlier one of its thread before it
abbrev pub HasEarlier : Execution → Type 0
HasEarlier x = (t i j : ℕ) → i < j → IsSome (x.event_of (record { thread = t; number = j })) → IsSome (x.event_of (record { thread = t; number = i }))

pub has_earlier : (run : LoggedRun) → HasEarlier (execution run)
has_earlier run t i j h there = earlier_there run.log t i j h there

module _ (x : Execution) where
  abbrev At_later : ℕ → ℕ → ℕ → Type 0
  At_later t i j = place x (At (record { thread = t; number = i })) < place x (At (record { thread = t; number = j }))

  abbrev Is_there : ℕ → ℕ → Type 0
  Is_there t j = IsSome (x.event_of (record { thread = t; number = j }))

module _ (x : Execution) (earlier : HasEarlier x) (none : Finds x (2 ∷ []) None) where
  -- an event comes before the next event of its thread
  next_after : (t i : ℕ) → IsSome (x.event_of (record { thread = t; number = i + 1 })) → place x (At (record { thread = t; number = i })) < place x (At (record { thread = t; number = i + 1 }))
  next_after t i there =
      let p : EventKey = record { thread = t; number = i } in
      let r : EventKey = record { thread = t; number = i + 1 } in
      let s : SequencedBefore x p r = record { first = earlier t i (i + 1) (omega arith) there; second = there; same_thread = refl; earlier = omega arith } in
      ⊎_elim (λ (h : place x (At p) < place x (At r)). h)
      (λ (h : place x (At r) ≤ place x (At p)). absurd (none (record { rule = Order; case = 1; event = r; byte = 0; writer = At p; other = None })
      ((refl, (p, refl, h, in_thread refl refl s refl)), (refl, tt))))
      (cases_lt (place x (At p)) (place x (At r)))

  -- and before each later one
  later_after : (t i j n : ℕ) → j ≡ i + n + 1 → IsSome (x.event_of (record { thread = t; number = j })) → place x (At (record { thread = t; number = i })) < place x (At (record { thread = t; number = j }))
  later_after t i j zero e there = let s : j ≡ i + 1 = omega arith in subst (At_later x t i) (sym s) (next_after t i (subst (Is_there x t) s there))
  later_after t i j (suc n) e there =
      let s : j ≡ i + n + 1 + 1 = omega arith in
      let before : place x (At (record { thread = t; number = i })) < place x (At (record { thread = t; number = i + n + 1 })) =
      later_after t i (i + n + 1) n refl (earlier t (i + n + 1) j (omega arith) there) in
      let step : place x (At (record { thread = t; number = i + n + 1 })) < place x (At (record { thread = t; number = j })) =
      subst (At_later x t (i + n + 1)) (sym s) (next_after t (i + n + 1) (subst (Is_there x t) s there)) in
      omega (arith, before, step)

  edge_agrees : (a b : EventId) → Edge x a b → place x a < place x b
  edge_agrees Init Init e = absurd e
  edge_agrees Init (At b) e = omega arith
  edge_agrees (At a) Init e = absurd e
  edge_agrees (At a) (At b) e = ⊎_elim (in_one a b) (between_two a b) e
    where
      in_one : (a b : EventKey) → SequencedBefore x a b → place x (At a) < place x (At b)
      in_one a b s = subst (λ (t : ℕ). place x (At a) < place x (At (record { thread = t; number = b.number }))) s.same_thread
          (later_after a.thread a.number b.number (b.number - a.number - 1) (let l = s.earlier in omega arith)
          (subst (λ (t : ℕ). IsSome (x.event_of (record { thread = t; number = b.number }))) (sym s.same_thread) s.second))

      between_two : (a b : EventKey) → SynchronizesWith x a b → place x (At a) < place x (At b)
      between_two a b s = ⊎_elim (λ (h : place x (At a) < place x (At b)). h)
          (λ (h : place x (At b) ≤ place x (At a)). absurd (none (record { rule = Order; case = 2; event = b; byte = s.reads.0; writer = At a; other = None })
          ((refl, (a, refl, h, synchronized refl s.reads.1 s)), (refl, tt))))
          (cases_lt (place x (At a)) (place x (At b)))

  chain_agrees : (between : List EventId) (a b : EventId) → Chain x a between b → place x a < place x b
  chain_agrees [] a b e = edge_agrees a b e
  chain_agrees (m ∷ ms) a b h =
      let first : place x a < place x m = edge_agrees a m h.0 in
      let rest : place x m < place x b = chain_agrees ms m b h.1 in
      omega arith

  -- no fault of V2
  pub keeps_order : KeepsOrder x
  keeps_order a b h = chain_agrees h.0 a b h.1
