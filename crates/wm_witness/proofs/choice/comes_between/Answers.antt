use Rattle.std.proofs.Common.{◌≡◌, IsSome, Option, ℕ, arith, ap, ◌∙◌, refl, sym, subst, ◌+◌}
use Rattle.wm_event.specs.declared.event.EventId.TheVariants.{At}
use Rattle.wm_event.specs.Event.{key_of}
use Rattle.wm_event.specs.Execution.{byte_by}
use Rattle.wm_event.specs.LoggedRun.{execution}
use Rattle.wm_witness.specs.declared.relation.Kind.{Kind}
use Rattle.wm_witness.specs.Choice.{IsExcluded}
use Rattle.wm_witness.specs.Relations.{AlwaysRelates}
use Rattle.wm_witness.proofs.ChoiceLaw.{init-written-over, written-over}
use Rattle.wm_witness.proofs.choice.comes_between.Goals as goal

pub returns-in-Init : goal.returns-in-Init
returns-in-Init c = λ t.
    let run = c.args.start.now in
    let assumed = c.args.assumed.now in
    let e = c.args.event.now in
    let address : c.from.result + c.from-2.result ≡ e.address + c.args.byte = omega (arith, c.from.ensures, c.from-2.ensures) in
    let writes : IsSome (byte_by (execution run) (At c.args.other) (e.address + c.args.byte)) =
    subst (λ (o : Option ℕ). IsSome o) (c.byte_by.ensures ∙ ap (byte_by (execution run) (At c.args.other)) address) c.if-is_none.ensures in
    let before : AlwaysRelates run assumed c.args.happens.now.kind c.args.other (key_of e) = subst (AlwaysRelates run assumed c.args.happens.now.kind c.args.other) c.key.ensures (c.if-not-has.ensures refl) in
    subst (IsExcluded run assumed (key_of e) c.args.byte) (sym c.in-Init.is)
    (init-written-over run assumed e c.requires.event c.args.byte c.args.other writes (subst (λ (kind : Kind). AlwaysRelates run assumed kind c.args.other (key_of e)) c.requires.kind before))

pub returns-in-At : goal.returns-in-At
returns-in-At c = λ t.
    let run = c.args.start.now in
    let assumed = c.args.assumed.now in
    let e = c.args.event.now in
    let address : c.from.result + c.from-2.result ≡ e.address + c.args.byte = omega (arith, c.from.ensures, c.from-2.ensures) in
    let writes : IsSome (byte_by (execution run) (At c.args.other) (e.address + c.args.byte)) =
    subst (λ (o : Option ℕ). IsSome o) (c.byte_by.ensures ∙ ap (byte_by (execution run) (At c.args.other)) address) c.if-is_none.ensures in
    let before : AlwaysRelates run assumed c.args.happens.now.kind c.args.other (key_of e) = subst (AlwaysRelates run assumed c.args.happens.now.kind c.args.other) c.key.ensures (c.if-not-has.ensures refl) in
    let after : AlwaysRelates run assumed c.args.happens.now.kind c.in-At.first c.args.other = c.has-in-At.ensures t in
    subst (IsExcluded run assumed (key_of e) c.args.byte) (sym c.in-At.is)
    (written-over run assumed e c.requires.event c.args.byte c.in-At.first c.args.other writes
    (subst (λ (kind : Kind). AlwaysRelates run assumed kind c.in-At.first c.args.other) c.requires.kind after)
    (subst (λ (kind : Kind). AlwaysRelates run assumed kind c.args.other (key_of e)) c.requires.kind before))
