use Rattle.std.proofs.Common.{All, IfSome, subst, sym}
use Rattle.std.proofs.lemmas.List.Elements.{All-push, Contains-push}
use Rattle.std.specs.List.{Contains}
use Rattle.wm_graph.specs.Edges.{IsRight, Keeps}
use Rattle.wm_graph.proofs.EdgeLaws.{keeps_after, keeps_pushed, shows_found}
use Rattle.wm_graph.proofs.edges.add_edge.Goals as goal

pub returns-in_ok-push-2-clause-right : goal.returns-in_ok-push-2-clause-right
returns-in_ok-push-2-clause-right c =
    let right = IsRight c.args.candidate.now in
    let all = subst (All right) (sym c.in_ok-push.ensures.ok) (All-push right c.args.edges.now c.args.edge c.requires.edges c.requires.edge) in
    subst (All right) (sym c.in_ok-push-2.ensures.ok) (All-push right c.push.new.self c.in-Some.order all c.in-Some.ensures.right)

pub returns-in_ok-push-2-clause-kept : goal.returns-in_ok-push-2-clause-kept
returns-in_ok-push-2-clause-kept c =
    let one = subst (Keeps c.args.edges.now) (sym c.in_ok-push.ensures.ok) (keeps_pushed c.args.edges.now c.args.edge) in
    let two = subst (Keeps c.push.new.self) (sym c.in_ok-push-2.ensures.ok) (keeps_pushed c.push.new.self c.in-Some.order) in
    keeps_after c.args.edges.now c.push.new.self c.push-in-Some.new.self one two

pub returns-in_ok-push-2-clause-added : goal.returns-in_ok-push-2-clause-added
returns-in_ok-push-2-clause-added c =
    let one = subst (λ edges. Contains edges c.args.edge) (sym c.in_ok-push.ensures.ok) (Contains-push c.args.edges.now c.args.edge) in
    let two : Keeps c.push.new.self c.push-in-Some.new.self = subst (Keeps c.push.new.self) (sym c.in_ok-push-2.ensures.ok) (keeps_pushed c.push.new.self c.in-Some.order) in
    two c.args.edge one

pub returns-in_default-clause-right : goal.returns-in_default-clause-right
returns-in_default-clause-right c =
    let right = IsRight c.args.candidate.now in
    subst (All right) (sym c.in_ok-push.ensures.ok) (All-push right c.args.edges.now c.args.edge c.requires.edges c.requires.edge)

pub returns-in_default-clause-added : goal.returns-in_default-clause-added
returns-in_default-clause-added c = subst (λ edges. Contains edges c.args.edge) (sym c.in_ok-push.ensures.ok) (Contains-push c.args.edges.now c.args.edge)

pub returns-in_ok-push-2-clause-contrary : goal.returns-in_ok-push-2-clause-contrary
returns-in_ok-push-2-clause-contrary c =
    let edges = c.push-in-Some.new.self in
    let there = subst (λ all. Contains all c.in-Some.order) (sym c.in_ok-push-2.ensures.ok) (Contains-push c.push.new.self c.in-Some.order) in
    shows_found c.args.candidate.now edges c.args.edge.from c.args.edge.to c.order_edge.result c.order_edge.ensures.contrary (subst (λ found. IfSome found (Contains edges)) (sym c.in-Some.is) there)

pub returns-in_default-clause-contrary : goal.returns-in_default-clause-contrary
returns-in_default-clause-contrary c =
    let edges = c.push.new.self in
    shows_found c.args.candidate.now edges c.args.edge.from c.args.edge.to c.order_edge.result c.order_edge.ensures.contrary (subst (λ found. IfSome found (Contains edges)) (sym c.in_default.is) tt)

pub returns-in_default-clause-kept : goal.returns-in_default-clause-kept
returns-in_default-clause-kept c = subst (Keeps c.args.edges.now) (sym c.in_ok-push.ensures.ok) (keeps_pushed c.args.edges.now c.args.edge)

pub returns-in_err-push-clause-right : goal.returns-in_err-push-clause-right
returns-in_err-push-clause-right c = subst (All (IsRight c.args.candidate.now)) (sym c.in_err-push.ensures.err) c.requires.edges

pub returns-in_err-push-2-clause-right : goal.returns-in_err-push-2-clause-right
returns-in_err-push-2-clause-right c =
    let right = IsRight c.args.candidate.now in
    let all = subst (All right) (sym c.in_ok-push.ensures.ok) (All-push right c.args.edges.now c.args.edge c.requires.edges c.requires.edge) in
    subst (All right) (sym c.in_err-push-2.ensures.err) all
