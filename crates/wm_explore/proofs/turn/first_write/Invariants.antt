use Rattle.std.proofs.Common.{◌≡◌, ℕ, ◌<◌, true, Some}
use Rattle.std.specs.Prelude.{slice_get}
use Rattle.wm_event.specs.declared.op.OpFields.{OpFields}
use Rattle.wm_event.specs.Op.{kind_finds}
use Rattle.wm_replay.specs.declared.continuing.Next.TheVariants.{Access}
use Rattle.wm_explore.proofs.turn.first_write.Given as goal

abbrev pub invariant-loop-number : goal.invariant-loop-number
invariant-loop-number l = record {
  reads : (i : ℕ) (op : OpFields) → i < l.number → slice_get l.nexts i ≡ Some (Access op) → kind_finds op.kind ≡ true;
}
