use Rattle.std.proofs.Common.{◌≡◌, ◌≢◌, ◌<◌, ◌≤◌, ℕ, inl, inr, subst, sym, ◌∙◌}
use Rattle.std.specs.Prelude.{◌⊎◌, Option}
use Rattle.wm_event.specs.declared.log.End.{End}
use Rattle.wm_event.specs.declared.log.End.TheVariants.{Cut, Done, Trap}
use Rattle.wm_event.specs.declared.log.TrapKind.{TrapKind}
use Rattle.wm_machine.specs.State.{config_of}
use Rattle.wm_replay.proofs.Continuations.{asks_next, ends_too, unknown_left, unknown_local}
use Rattle.wm_replay.proofs.Needs.{access_of_need}
use Rattle.wm_replay.proofs.Stopping.{no_access}
use Rattle.wm_replay.proofs.continuing.next_of.Goals as goal

-- an end that is a result or a trap is no cut
not_cut : (end : End) → ((x : Option ℕ) × (end ≡ Done x)) ⊎ ((x : TrapKind) × (end ≡ Trap x)) → end ≢ Cut
not_cut end (inl is) cut = cc (sym is.1 ∙ cut)
not_cut end (inr is) cut = cc (sym is.1 ∙ cut)

pub returns-in-Done : goal.returns-in-Done
returns-in-Done c u is =
    let f = c.args.followed.now in
    let ends = ends_too f.thread.module c.args.number c.args.stated.now u is (config_of f.thread) f.steps f.events c.requires.runs
    (λ cut. not_cut c.end_of-end.result c.in-Done.is (c.end_of-end.ensures ∙ cut)) in
    (ends.0, ends.1, ends.2 ∙ sym c.end_of-end.ensures)

pub returns-then-followed-len : goal.returns-then-followed-len
returns-then-followed-len c u is =
    let f = c.args.followed.now in
    let left = subst (λ n. f.events < n) c.len.ensures c.if-followed-len.true in
    unknown_left f.thread.module c.args.number c.args.stated.now u is (config_of f.thread) f.steps f.events c.requires.runs (sym c.end_of-end.ensures ∙ c.in-Cut.is) left

pub returns-in-Access : goal.returns-in-Access
returns-in-Access c u is =
    let f = c.args.followed.now in
    let all = subst (λ n. n ≤ f.events) c.len.ensures c.if-followed-len.false in
    asks_next f.thread.module c.args.number c.args.stated.now u is (config_of f.thread) f.steps f.events c.requires.runs c.in-Access.op (sym c.end_of-end.ensures ∙ c.in-Cut.is) all
    (λ r. access_of_need f.thread r c.in-Access.op (sym (c.next.ensures r) ∙ c.in-Access.is))

pub returns-in-Local : goal.returns-in-Local
returns-in-Local c u is =
    let f = c.args.followed.now in
    unknown_local f.thread.module c.args.number c.args.stated.now u is (config_of f.thread) f.steps f.events c.requires.runs (sym c.end_of-end.ensures ∙ c.in-Cut.is)
    (no_access f.thread c.next.result c.in-Local.is (sym (c.next.ensures 0)))
