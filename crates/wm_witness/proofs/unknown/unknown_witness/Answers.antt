use Rattle.std.proofs.Common.{◌∙◌, ap}
use Rattle.std.specs.Prelude.{flat_map, map}
use Rattle.wm_witness.specs.Unknown.{keys_of, thread_from_init}
use Rattle.wm_witness.proofs.UnknownLaw.{unknown-shape}
use Rattle.wm_witness.proofs.unknown.unknown_witness.Goals as goal

pub returns-clause-shape : goal.returns-clause-shape
returns-clause-shape c =
    unknown-shape c.args.log.now (record { writers = c.in_ok-writers.writers; order = c.in_ok-order.order }) c.threads.ensures.keys
    (c.in_ok-writers.ensures ∙ ap (map thread_from_init) c.threads.ensures.value, c.in_ok-order.ensures ∙ ap (flat_map keys_of) c.threads-2.ensures.value)
