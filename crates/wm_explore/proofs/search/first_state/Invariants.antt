use Rattle.std.proofs.Common.{◌≡◌, ℕ, [], Some, None, Option, map, take}
use Rattle.std.specs.Prelude.{slice_get}
use Rattle.wm_event.specs.declared.log.End.TheVariants.{Cut}
use Rattle.wm_explore.proofs.search.first_state.Given as goal

abbrev pub invariant-loop-start : goal.invariant-loop-start
invariant-loop-start l = record {
  threads : l.threads ≡ map (λ start. record { start = start; end = Cut; steps = 0; events = [] }) (take l.start-index l.starts);
  marks : (k : ℕ) (mark : Option ℕ) → slice_get l.marks k ≡ Some mark → mark ≡ None;
}
