-- What asks a witness to look back, and what that says of it.
use Rattle.std.proofs.Common.{◌≡◌, ℕ, ◌+◌, ◌<◌, ◌≤◌, List, [], ◌∷◌, ◌++◌, inl, inr, Some, IsSome, refl, sym, ap, subst, ◌∙◌, arith}
use Rattle.std.specs.Prelude.{◌⊎◌, All, option_and_then, slice_get}
use Rattle.std.proofs.lemmas.Bool.{cases_lt}
use Rattle.std.proofs.lemmas.Option.{get_or_from_slice_get, slice_get_within}
use Rattle.wm_event.specs.Byte.{byte_of}
use Rattle.wm_event.specs.Event.{byte_written}
use Rattle.wm_event.specs.Execution.{ReadsFrom, byte_by}
use Rattle.wm_event.specs.Log.{event_in}
use Rattle.wm_event.specs.LoggedRun.{LoggedRun, execution}
use Rattle.wm_event.specs.Rules.{IsValid}
use Rattle.wm_event.specs.Shape.{IsThere, IsWellShaped, read_width}
use Rattle.wm_event.specs.declared.event.Event.{Event}
use Rattle.wm_event.specs.declared.event.EventId.TheVariants.{At}
use Rattle.wm_event.specs.declared.event.EventKey.{EventKey}
use Rattle.wm_event.specs.declared.log.ThreadLog.{ThreadLog}
use Rattle.wm_explore.specs.Asking.{AskAll, AsksBack, AsksMore, Gives, IsAsked}
use Rattle.wm_explore.specs.Judging.{LooksBack}
use Rattle.wm_explore.proofs.Beginnings.{some_of}
use Rattle.wm_explore.proofs.Lists.{kept_pushed}
use Rattle.wm_explore.proofs.Progressing.{all_at, all_pushed, at_all}
use Rattle.wm_witness.specs.Assumptions.{Holds, Keeps, TakesFrom}
use Rattle.wm_witness.specs.declared.assumption.Assumption.{Assumption}
use Rattle.wm_witness.specs.declared.assumption.Assumption.TheVariants.{TakesNone}

module _ (log : List ThreadLog) (arrived : List EventKey) where
  pub more_none : (wanted : List Assumption) → AsksMore log arrived wanted wanted
  more_none wanted = record { kept = λ a has. has; only = λ all. all }

  pub more_more : (a b c : List Assumption) → AsksMore log arrived a b → AsksMore log arrived b c → AsksMore log arrived a c
  more_more a b c first second = record { kept = λ x has. second.kept x (first.kept x has); only = λ all. second.only (first.only all) }

  pub asked_still : (old new : List Assumption) → AsksMore log arrived old new → (i j : ℕ) → IsAsked log arrived old i j → IsAsked log arrived new i j
  asked_still old new more i j asked = λ r w e f at_r at_w is_r is_w gives. more.kept (TakesNone r w) (asked r w e f at_r at_w is_r is_w gives)

  pub more_pushed : (old new : List Assumption) (a : Assumption) → new ≡ old ++ a ∷ [] → AsksBack log arrived a → AsksMore log arrived old new
  more_pushed old new a pushed asks = record {
    kept = λ b has. (has.0, ap (λ xs. slice_get xs has.0) pushed ∙ kept_pushed old a has.0 b has.1);
    only = λ all. subst (All (AsksBack log arrived)) (sym pushed) (all_pushed (AsksBack log arrived) old a all asks);
  }

-- ---- what is asked says that the witness looks back

module _ (x : LoggedRun) (arrived : List EventKey) (wanted : List Assumption) (asks : AskAll x.log arrived wanted) where
  -- a writer leaves a byte that its reader reads
  giving : IsWellShaped x → IsValid (execution x) → (r w : EventKey) (k : ℕ) → ReadsFrom (execution x) r k (At w) → (e f : Event) → event_in x.log r ≡ Some e → event_in x.log w ≡ Some f → Gives f e
  giving shaped valid r w k from e f is_r is_w =
      let within : k < read_width e = subst (λ n. k < n) (shaped.good r e is_r).count (slice_get_within _ k (At w) from) in
      let left : byte_by (execution x) (At w) (e.address + k) ≡ Some (byte_of e.read k) = (valid.keeps_written_values r e k (At w) is_r from).1 in
      let here : byte_written f (e.address + k) ≡ Some (byte_of e.read k) = ap (option_and_then (λ (g : Event). byte_written g (e.address + k))) (sym is_w) ∙ left in
      (k, within, subst (λ o. IsSome o) (sym here) refl)

  pub looking_back : IsWellShaped x → IsValid (execution x) → Keeps x wanted → LooksBack (execution x) arrived
  looking_back shaped valid keeps r w k i j there from at_r at_w = by (cases_lt j i)
    where
      by : (j < i) ⊎ (i ≤ j) → j < i
      by (inl lt) = lt
      by (inr le) =
          let e = some_of (event_in x.log r) there in
          let ws = (execution x).writers_of r in
          let w_there : IsThere x.log (At w) = subst (IsThere x.log) (get_or_from_slice_get ws k (At w) (At w) from) ((shaped.good r e.0 e.1).there k (At w) (slice_get_within ws k (At w) from)) in
          let f = some_of (event_in x.log w) w_there in
          let asked = asks.all i j le r w e.0 f.0 at_r at_w e.1 f.1 (giving shaped valid r w k from e.0 f.0 e.1 f.1) in
          let none : TakesFrom (execution x) r w → ⊥ = at_all (Holds x) wanted keeps asked.0 (TakesNone r w) asked.1 in
          absurd (none (k, from))

  -- and a witness that looks back keeps what is asked
  pub keeps_asked : LooksBack (execution x) arrived → Keeps x wanted
  keeps_asked back = all_at (Holds x) wanted (λ n a at.
      let asks_back = at_all (AsksBack x.log arrived) wanted asks.only n a at in
      subst (Holds x) (sym asks_back.asks) (none asks_back))
    where
      none : {a : Assumption} (b : AsksBack x.log arrived a) → TakesFrom (execution x) b.reader b.writer → ⊥
      none b takes =
          let lt = back b.reader b.writer takes.0 b.i b.j b.there takes.1 b.reads_at b.writes_at in
          let le = b.no_earlier in
          omega (arith, lt, le)
