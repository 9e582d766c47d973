use Rattle.std.proofs.Common.{ℕ, List, Bor, [], ◌∙◌, ap, get_or, map, sym, Some}
use Rattle.wm_command.specs.declared.fault.WordFault.TheVariants.{Start}
use Rattle.wm_command.specs.Faults.{Misses}
use Rattle.wm_command.specs.Starts.{start_of, starts_of}
use Rattle.wm_command.proofs.Missing.{handed_on, misses_on}
use Rattle.wm_command.proofs.Reading.{start_next, start_none}
use Rattle.wm_command.proofs.start.read_starts.Goals as goal

none_read : Bor (List ℕ)
none_read = record { ref_ptr = (0, 0); now = [] }

pub returns-in_err-read_start-clause-fault : goal.returns-in_err-read_start-clause-fault
unfolding none_read
returns-in_err-read_start-clause-fault c =
    let words = c.args.words.now in
    let i = c.loop-word.word-index in
    handed_on c.from_residual.result c.in_err-read_start.field-0.0 (Misses Start (starts_of (map (λ word. word.now) words))) c.from_residual.ensures.1
    (misses_on Start (start_of (get_or words i none_read).now) (starts_of (map (λ word. word.now) words)) c.in_err-read_start.field-0.0
    (start_none words i none_read c.loop-word-test.true) c.in_err-read_start.ensures.fault)

pub loop-word-preserved : goal.loop-word-preserved
unfolding none_read
loop-word-preserved c =
    start_next c.args.words.now c.loop-word.word-index none_read c.loop-word.starts.items c.in_ok-read_start.field-0 c.loop-word-test.true c.loop-word.invariant c.in_ok-read_start.ensures.spelled
    ∙ ap Some (sym c.in_ok-push.ensures.items)
