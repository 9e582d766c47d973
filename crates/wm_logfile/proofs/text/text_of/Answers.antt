use Rattle.std.proofs.Common.{◌++◌, List, ℕ, ap, sym, subst, ◌∙◌}
use Rattle.std.specs.Prelude.{IsUtf8}
use Rattle.json.specs.Print.{print}
use Rattle.wm_logfile.proofs.text.text_of.Goals as goal

pub unwrap-requires : goal.unwrap-requires
unwrap-requires c =
    let items = c.into_inner.ensures.items ∙ ap (λ (bytes : List ℕ). bytes ++ print c.args.out.tokens) c.requires in
    c.from_utf8.ensures.succeeds (subst IsUtf8 (sym items) c.into_inner.ensures.utf8)
