use Rattle.std.proofs.Common.{List, arith, ◌≡◌, ◌∙◌, ◌<◌, [], Some, ap, length, map, sym, subst}
use Rattle.std.proofs.lemmas.Grind.{common_steps}
use Rattle.std.proofs.lemmas.Option.{slice_get-get_or}
use Rattle.std.specs.List.{filter}
use Rattle.wm_event.specs.declared.event.EventId.TheVariants.{At}
use Rattle.wm_event.specs.LoggedRun.{LoggedRun}
use Rattle.wm_event.specs.Writes.{AreWrites, id_in, thread_keys, writes_byte}
use Rattle.wm_event.proofs.WritesLemmas.{names_from}
use Rattle.wm_event.proofs.candidate.Candidate.thread_writes_to.Goals as goal
use Rattle.wm_event.proofs.candidate.Candidate.thread_writes_to.Goals.{After-index}

mapped : {X Y : Type 0} (f : X → Y) (xs : List X) → length (map f xs) ≡ length xs
mapped f xs = grind (arith, common_steps)

inside : (c : After-index) → c.args.thread < length c.self.inside.writes.by_thread.items
inside c =
    let size = c.self.invariant.writes.by_thread.size in
    let log : c.args.thread < length c.self.inside.log = subst (λ (run : LoggedRun). c.args.thread < length run.log) (sym c.self.view_is) c.requires in
    omega (arith, size, log)

-- the index of the thread
its : (c : After-index) → AreWrites c.self.inside.log (thread_keys c.self.inside.log c.args.thread) c.index.result.now
its c = c.self.invariant.writes.by_thread.each c.args.thread c.index.result.now (slice_get-get_or c.self.inside.writes.by_thread.items c.args.thread c.index.result.now (inside c) ∙ ap Some (sym c.index.ensures))

pub ids_at-requires-clause-rises : goal.ids_at-requires-clause-rises
ids_at-requires-clause-rises c = (its c).rises

pub ids_at-requires-clause-ids : goal.ids_at-requires-clause-ids
ids_at-requires-clause-ids c =
    ap length (its c).ids ∙ mapped (id_in (thread_keys c.self.inside.log c.args.thread)) c.index.result.now.entries.items

pub returns : goal.returns
returns c =
    let a = c.args.address in
    let keys = thread_keys c.self.inside.log c.args.thread in
    let has = its (goal.at.returns c).After-index in
    let is : c.ids_at.result.now ≡ map At (filter (writes_byte c.self.inside.log a) keys) =
    c.ids_at.ensures (id_in keys) has.ids ∙ ap (map (id_in keys)) (has.each a) ∙ names_from (writes_byte c.self.inside.log a) a [] keys in
    subst (λ (run : LoggedRun). c.ids_at.result.now ≡ map At (filter (writes_byte run.log a) (thread_keys run.log c.args.thread))) c.self.view_is is
