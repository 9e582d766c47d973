use Rattle.std.proofs.Common.{◌≡◌, Some, refl, sym, subst}
use Rattle.wm_event.specs.declared.event.Event.{Event}
use Rattle.wm_event.specs.Event.{range_of}
use Rattle.wm_event.specs.Log.{event_in}
use Rattle.wm_witness.specs.declared.relation.Kind.{Kind}
use Rattle.wm_witness.specs.declared.relation.Kind.TheVariants.{Stands}
use Rattle.wm_witness.specs.Relations.{AlwaysRelates}
use Rattle.wm_witness.specs.Rules.{IsAtomicWriteOf}
use Rattle.wm_witness.proofs.RulesLaw.{after-both, before-both}
use Rattle.wm_witness.proofs.Steps.{apart}
use Rattle.wm_witness.proofs.rules.not_between.Goals as goal

pub returns-then-has : goal.returns-then-has
returns-then-has c =
    let run = c.args.start.now in
    let assumed = c.args.assumed.now in
    let u = c.args.pair.first in
    let r = c.args.pair.second in
    let v = c.args.other in
    let e : Event = c.in_ok-reader.reader.now in
    let is_r : event_in run.log r ≡ Some e = sym c.in_ok-reader.ensures in
    let write : IsAtomicWriteOf run.log v (range_of e) = subst (IsAtomicWriteOf run.log v) c.range.ensures (c.if-not-is_atomic_write_of.ensures refl) in
    let h : AlwaysRelates run assumed Stands v r = subst (λ (kind : Kind). AlwaysRelates run assumed kind v r) c.requires.kind (c.if-has.ensures refl) in
    before-both run assumed u r v e is_r c.requires.pair write (apart v u c.if-eq.ensures) (apart v r c.if-eq-2.ensures) h

pub returns-then-has-2 : goal.returns-then-has-2
returns-then-has-2 c =
    let run = c.args.start.now in
    let assumed = c.args.assumed.now in
    let u = c.args.pair.first in
    let r = c.args.pair.second in
    let v = c.args.other in
    let e : Event = c.in_ok-reader.reader.now in
    let is_r : event_in run.log r ≡ Some e = sym c.in_ok-reader.ensures in
    let write : IsAtomicWriteOf run.log v (range_of e) = subst (IsAtomicWriteOf run.log v) c.range.ensures (c.if-not-is_atomic_write_of.ensures refl) in
    let h : AlwaysRelates run assumed Stands u v = subst (λ (kind : Kind). AlwaysRelates run assumed kind u v) c.requires.kind (c.if-has-2.ensures refl) in
    after-both run assumed u r v e is_r c.requires.pair write (apart v u c.if-eq.ensures) (apart v r c.if-eq-2.ensures) h
