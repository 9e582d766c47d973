use Rattle.std.proofs.Common.{◌∷◌, ◌++◌, [], None, ap, ◌∙◌}
use Rattle.wm_explore.proofs.Beside.{alone, comes_of}
use Rattle.wm_explore.proofs.subtrees.subtree_of.Goals as goal

pub advance-requires-clause-progress : goal.advance-requires-clause-progress
advance-requires-clause-progress c =
    alone c.args.module.now c.args.starts.now c.args.limits.events c.args.state c.requires.state (record { work = c.push.new.self; finished = c.new.result; met = None })
    (c.in_ok-push.ensures.items ∙ ap (λ ss. ss ++ c.args.state ∷ []) c.new-work.ensures.items) c.new.ensures.items

pub returns : goal.returns
returns c =
    comes_of c.args.module.now c.args.starts.now c.args.limits.events c.args.state c.requires.state (record { work = c.push.new.self; finished = c.new.result; met = None })
    (c.in_ok-push.ensures.items ∙ ap (λ ss. ss ++ c.args.state ∷ []) c.new-work.ensures.items) c.new.ensures.items c.advance.new.progress c.in_ok-graphs.ensures
