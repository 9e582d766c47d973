use Rattle.std.proofs.Common.{◌≡◌, ◌<◌, ◌≤◌, arith, length, rules, subst, sym}
use Rattle.std.specs.Prelude.{◌≢◌}
use Rattle.wm_machine.specs.Run.{end_of as config_end}
use Rattle.wm_machine.specs.State.{config_of}
use Rattle.wm_replay.proofs.Comparing.{end_differs}
use Rattle.wm_replay.proofs.Stopping.{access_differs, follows, no_access, stop_differs, stopped_differs, stops_within}
use Rattle.wm_replay.proofs.compare.differing_place.Goals as goal

pub returns-then-followed-len : goal.returns-then-followed-len
returns-then-followed-len c =
    let f = c.args.followed.now in
    let s = f.thread in
    let t = c.args.stated.now in
    let r = c.requires.runs in
    let left : f.events < length t.events = subst (λ n. f.events < n) c.len.ensures c.if-followed-len.true in
    stop_differs s.module c.args.number t r.start (config_of s) f.steps f.events
    (follows s.module c.args.number t t.steps (config_of s) f.steps f.events c.requires.places r) r.stops left

pub returns-in-Access : goal.returns-in-Access
returns-in-Access c =
    let f = c.args.followed.now in
    let s = f.thread in
    let t = c.args.stated.now in
    let r = c.requires.runs in
    access_differs s c.args.number t r.start f.steps f.events
    (follows s.module c.args.number t t.steps (config_of s) f.steps f.events c.requires.places r) r.stops c.if-followed-stated.true
    c.in-Access.field-0 (sym (c.in-Access.ensures 0))

pub returns-in-Local : goal.returns-in-Local
returns-in-Local c =
    let f = c.args.followed.now in
    let s = f.thread in
    let t = c.args.stated.now in
    let r = c.requires.runs in
    let all : length t.events ≤ f.events = subst (λ n. n ≤ f.events) c.len.ensures c.if-followed-len.false in
    stopped_differs s c.args.number t r.start f.steps f.events
    (follows s.module c.args.number t t.steps (config_of s) f.steps f.events c.requires.places r) r.stops c.if-followed-stated.true all
    (no_access s c.next.result c.in-Local.is (sym (c.next.ensures 0)))

pub returns-then-ne : goal.returns-then-ne
returns-then-ne c =
    let f = c.args.followed.now in
    let s = f.thread in
    let t = c.args.stated.now in
    let r = c.requires.runs in
    let within = stops_within s.module (config_of s) t t.steps f.steps f.events r.stops in
    let steps : f.steps ≡ t.steps = omega (arith, within, c.if-followed-stated.false) in
    let all : length t.events ≤ f.events = subst (λ n. n ≤ f.events) c.len.ensures c.if-followed-len.false in
    let other : config_end (config_of s) ≢ t.end = search rules in
    end_differs s.module c.args.number t r.start (config_of s) f.steps f.events
    (follows s.module c.args.number t t.steps (config_of s) f.steps f.events c.requires.places r) steps all other
