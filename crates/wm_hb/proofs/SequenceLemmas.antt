-- Events each of which happens before the next ones: what holds of all that come after one of which it holds.
use Rattle.std.proofs.Common.{ℕ, List, [], ◌∷◌, ◌++◌, length, get_or, arith}
use Rattle.std.proofs.lemmas.Option.{slice_get-get_or, slice_get_within}
use Rattle.wm_event.specs.declared.event.EventId.{EventId}
use Rattle.wm_event.specs.declared.event.EventId.TheVariants.{Init}
use Rattle.wm_event.specs.Execution.{Execution}
use Rattle.wm_event.specs.HappensBefore.{Chain, HappensBefore}
use Rattle.wm_hb.specs.Sequence.{AreInSequence, HasInRow, HoldsFrom, NoneInRow}
use Rattle.wm_hb.specs.Turn.{IsTurn, TurnsOnce}

-- happens-before is transitive
pub before_join : (x : Execution) (a b c : EventId) → HappensBefore x a b → HappensBefore x b c → HappensBefore x a c
before_join x a b c h k = (h.0 ++ b ∷ k.0, join h.0 a h.1)
  where
    join : (ms : List EventId) (a : EventId) → Chain x a ms b → Chain x a (ms ++ b ∷ k.0) c
    join [] a e = (e, k.1)
    join (m ∷ ms) a e = (e.0, join ms m e.1)

-- where T holds of all that comes after one of which it holds
module _ (x : Execution) (T : EventId → Type 0) (onward : (u v : EventId) → HappensBefore x u v → T u → T v) (ids : List EventId) (sequence : AreInSequence x ids) where
  pub turns : TurnsOnce (NoneInRow T ids) (HasInRow T ids) (length ids)
  turns = record {
    falls = λ i j lt within none v at_v here.
        let at_j = slice_get-get_or ids j Init within in
        none (get_or ids j Init) at_j (onward v (get_or ids j Init) (sequence i j v (get_or ids j Init) lt at_v at_j) here);
    rises = λ i j lt within here v at_v.
        let at_i = slice_get-get_or ids i Init (omega (arith, lt, within)) in
        onward (get_or ids i Init) v (sequence i j (get_or ids i Init) v lt at_i at_v) (here (get_or ids i Init) at_i);
  }

-- the ids from the turn on
pub holds_from : (T : EventId → Type 0) (ids : List EventId) (n : ℕ) → IsTurn (NoneInRow T ids) (HasInRow T ids) (length ids) n → HoldsFrom T ids n
holds_from T ids n turn = record {
  fails = λ i v lt at here. turn.first i lt v at here;
  holds = λ i v le at. turn.rest i le (slice_get_within ids i v at) v at;
}
