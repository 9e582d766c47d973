use Rattle.std.proofs.Common.{◌≡◌, ◌-◌, ℕ, List, Option, None, Some, true, not, is_some, ap, arith, drop, length, refl, replicate, reverse, slice_get, slice_set, subst, sym, take, unwrap_or, ◌∙◌, ◌<◌, get_or}
use Rattle.std.proofs.lemmas.Grind.{common_steps}
use Rattle.std.proofs.lemmas.List.{get_or-replicate, length-drop, length-replicate, length-reverse, length-set}
use Rattle.std.proofs.lemmas.Option.{get_or_from_slice_get, slice_get-get_or, slice_get_within}
use Rattle.wm_event.specs.declared.event.EventId.TheVariants.{At}
use Rattle.wm_event.specs.LoggedRun.{execution}
use Rattle.wm_hb.specs.Chain.{Leads}
use Rattle.wm_hb.specs.Cycle.{next_key}
use Rattle.wm_hb.specs.declared.chain.Link.{Link}
use Rattle.wm_hb.proofs.CycleLaws.{LeadsBack, blank, blanks-less, led-back, leads-on, thread-within, turned-rest}
use Rattle.wm_hb.proofs.cycle.cycle_before.Goals as goal

pub index-requires : goal.index-requires
index-requires c = thread-within c.args.candidate.now.log c.loop-backwards.event _ c.loop-backwards.invariant.next.1 (c.loop-backwards.entered.ok.0 ∙ c.loop-backwards.invariant.size)

pub index_mut-requires : goal.index_mut-requires
index_mut-requires c = thread-within c.args.candidate.now.log c.loop-backwards.event _ c.loop-backwards.invariant.next.1 (c.loop-backwards.entered.ok.0 ∙ c.loop-backwards.invariant.size)

pub index-requires-2 : goal.index-requires-2
index-requires-2 c = thread-within c.args.candidate.now.log c.loop-backwards.event _ c.loop-backwards.invariant.next.1 (c.loop-backwards.entered.ok.0 ∙ c.loop-backwards.invariant.size)

pub loop-backwards-smaller : goal.loop-backwards-smaller
loop-backwards-smaller c =
    let entered : List (Option ℕ) = c.loop-backwards.entered.items in
    let event = c.loop-backwards.event in
    let inside = thread-within c.args.candidate.now.log event (length entered) c.loop-backwards.invariant.next.1 c.loop-backwards.invariant.size in
    let none : c.index.result.now ≡ None = blank c.index.result.now (c.is_none.ensures ∙ ap not c.loop-backwards-test.true) in
    let at : slice_get entered event.thread ≡ Some None = slice_get-get_or entered event.thread c.index.result.now inside ∙ ap Some (sym c.index.ensures ∙ none) in
    blanks-less entered event.thread c.len.result at

pub loop-backwards-preserved : goal.loop-backwards-preserved
loop-backwards-preserved c =
    let x = execution c.args.candidate.now in
    let s = c.args.scheduled.now in
    let entered : List (Option ℕ) = c.loop-backwards.entered.items in
    let old : List Link = c.loop-backwards.backwards.items in
    let new : List Link = c.go_back.new.backwards.items in
    let event = c.loop-backwards.event in
    let before = c.in_ok-event.event in
    let inside = thread-within c.args.candidate.now.log event (length entered) c.loop-backwards.invariant.next.1 c.loop-backwards.invariant.size in
    let len : c.len.result ≡ length old = c.len.ensures ∙ c.loop-backwards.backwards.ok.0 in
    let on : LeadsBack x s (slice_set entered event.thread (Some (length old))) new before =
    leads-on x s old new entered before event c.loop-backwards.invariant.next.0 inside c.in_ok-event.ensures.links c.loop-backwards.invariant.back in
    record {
      next = c.in_ok-event.ensures.next;
      size = length-set entered event.thread (Some c.len.result) ∙ c.loop-backwards.invariant.size;
      back = subst (λ n. LeadsBack x s (slice_set entered event.thread (Some n)) new before) (sym len) on;
    }

pub overflow_sub-count : goal.overflow_sub-count
overflow_sub-count c =
    let x = execution c.args.candidate.now in
    let s = c.args.scheduled.now in
    let entered : List (Option ℕ) = c.loop-backwards.entered.items in
    let links : List Link = c.loop-backwards.backwards.items in
    let event = c.loop-backwards.event in
    let some : is_some c.index.result.now ≡ true = c.is_none.ensures ∙ ap not c.loop-backwards-test.false in
    let led = led-back x s entered links event c.loop-backwards.invariant.back (thread-within c.args.candidate.now.log event (length entered) c.loop-backwards.invariant.next.1 c.loop-backwards.invariant.size) c.index.result.now c.index-2.result.now c.index.ensures c.index-2.ensures some in
    let inside = led.0 in
    let start = c.unwrap_or-start.ensures in
    let len : c.len-2.result ≡ length links = c.len-2.ensures ∙ c.loop-backwards.backwards.ok.0 in
    omega (arith, inside, start, len)

pub returns : goal.returns
returns c =
    let x = execution c.args.candidate.now in
    let s = c.args.scheduled.now in
    let entered : List (Option ℕ) = c.loop-backwards.entered.items in
    let links : List Link = c.loop-backwards.backwards.items in
    let event = c.loop-backwards.event in
    let some : is_some c.index.result.now ≡ true = c.is_none.ensures ∙ ap not c.loop-backwards-test.false in
    let led = led-back x s entered links event c.loop-backwards.invariant.back (thread-within c.args.candidate.now.log event (length entered) c.loop-backwards.invariant.next.1 c.loop-backwards.invariant.size) c.index.result.now c.index-2.result.now c.index.ensures c.index-2.ensures some in
    let n = unwrap_or c.index-2.result.now 0 in
    let inside = led.0 in
    let len : c.len-2.result ≡ length links = c.len-2.ensures ∙ c.loop-backwards.backwards.ok.0 in
    let count : c.len-2.result - c.unwrap_or-start.result ≡ length links - n = ap (λ k. k - c.unwrap_or-start.result) len ∙ ap (λ k. length links - k) c.unwrap_or-start.ensures in
    let kept : c.from_vec.result ≡ reverse (drop n links) =
    c.from_vec.ensures ∙ c.truncate.ensures.items ∙ ap (λ k. take k c.reverse.new.self.items) count ∙ ap (take (length links - n)) c.reverse.ensures.items
    ∙ sym (turned-rest n links (omega (arith, inside))) in
    let back : At (next_key s event.thread) ≡ At event = ap At (sym c.loop-backwards.invariant.next.0) in
    let around : Leads x (At event) (reverse (drop n links)) (At event) = subst (Leads x (At event) (reverse (drop n links))) back led.1 in
    record {
      closed = refl;
      leads = subst (λ ls. Leads x (At event) ls (At event)) (sym kept) around;
      some = (let long : length c.from_vec.result ≡ length links - n = ap length kept ∙ length-reverse (drop n links) ∙ length-drop n links in omega (arith, long, inside));
    }

pub go_back-requires : goal.go_back-requires
go_back-requires c = record {
  stuck = c.requires.stuck;
  next = c.loop-backwards.invariant.next;
}

-- where all are None, there is no Some
none-within : (items : List (Option ℕ)) (count t n : ℕ) → items ≡ replicate count None → slice_get items t ≡ Some (Some n) → ⊥
none-within items count t n is at =
    let within = slice_get_within items t (Some n) at in
    let few : t < count = omega (arith, within, ap length is, length-replicate {A = Option ℕ} count None) in
    let none = get_or-replicate count t None (Some n) few in
    let some = get_or_from_slice_get items t (Some n) (Some n) at in
    let same = ap (λ (xs : List (Option ℕ)). get_or xs t (Some n)) is in
    absurd (cc)

pub loop-backwards-init : goal.loop-backwards-init
loop-backwards-init c = record {
  next = c.requires.next;
  size = grind (arith, common_steps);
  back = λ t n at. absurd (none-within c.in_ok-entered.entered.items _ t n (c.in_ok-entered.ensures.items_if_clones_equal (λ y same. grind (arith, common_steps))) at);
}
