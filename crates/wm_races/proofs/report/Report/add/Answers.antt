use Rattle.std.proofs.Common.{◌≡◌, ◌++◌, ◌∷◌, [], List, Bool, true, false, Some, length, slice_get, sym, ap, subst, ◌∙◌, arith, if◌then◌else◌}
use Rattle.std.specs.Prelude.{map}
use Rattle.std.specs.List.{list_any}
use Rattle.std.proofs.lemmas.List.{length-map, map-append}
use Rattle.std.proofs.lemmas.Option.{slice_get_within}
use Rattle.wm_races.specs.Report.{line_sites}
use Rattle.wm_races.specs.declared.site.SitePair.{SitePair}
use Rattle.wm_races.proofs.ReportLemmas.{line_at, no_line, pair-same, same_pair, sites-kept}
use Rattle.wm_races.proofs.ListLemmas.{not_false, not_true}
use Rattle.wm_races.specs.Gathering.{HasSitesOf}
use Rattle.wm_races.specs.Gathering.AddsGroup.{counts, begins}
use Rattle.wm_races.proofs.report.Report.add.Goals as goal

pub count-requires : goal.count-requires
count-requires c = let found = c.is_line_of.ensures c.if-is_line_of.true in record { line = slice_get_within _ _ found.0 found.1; room = c.requires.room }

pub count-requires-else-is_new : goal.count-requires-else-is_new
count-requires-else-is_new c =
    let keys = c.args.self.now.index.keys in
    let old : list_any (same_pair c.args.sites) keys ≡ true = not_false (list_any (same_pair c.args.sites) keys) (sym c.in_ok-line.ensures.added ∙ c.if-is_new.false) in
    let same : c.insert_full.new.self.keys ≡ keys = c.in_ok-line.ensures.keys ∙ ap (λ (b : Bool). if b then keys else keys ++ c.args.sites ∷ []) old in
    let stored = c.in_ok-line.ensures.stored in
    let inside = slice_get_within c.insert_full.new.self.keys c.in_ok-line.line stored.0 stored.1 in
    let size = ap length (same ∙ c.requires.gathered) ∙ length-map c.args.self.now.lines line_sites in
    record { line = omega (arith, inside, size); room = c.requires.room }

pub returns-then-is_line_of-clause-gathered : goal.returns-then-is_line_of-clause-gathered
returns-then-is_line_of-clause-gathered c =
    let h = c.count.ensures.lines in
    let kept = sites-kept c.args.self.now.lines c.args.self.now.last c.args.group.count h.0 h.1 in
    ap (λ s. s.keys) c.count.ensures.index ∙ c.requires.gathered ∙ sym kept ∙ ap (map line_sites) (sym h.2)

pub returns-then-is_line_of-clause-adds : goal.returns-then-is_line_of-clause-adds
returns-then-is_line_of-clause-adds c = counts c.args.self.now.last (c.is_line_of.ensures c.if-is_line_of.true) c.count.ensures.lines

pub returns-in_ok-push-clause-gathered : goal.returns-in_ok-push-clause-gathered
returns-in_ok-push-clause-gathered c =
    let keys = c.args.self.now.index.keys in
    let new : list_any (same_pair c.args.sites) keys ≡ false = not_true (list_any (same_pair c.args.sites) keys) (sym c.in_ok-line.ensures.added ∙ c.if-is_new.true) in
    let grown : c.insert_full.new.self.keys ≡ keys ++ c.args.sites ∷ [] = c.in_ok-line.ensures.keys ∙ ap (λ (b : Bool). if b then keys else keys ++ c.args.sites ∷ []) new in
    rw (c.in_ok-push.ensures.ok, map-append) (grown ∙ ap (λ (ks : List SitePair). ks ++ c.args.sites ∷ []) c.requires.gathered)

pub returns-in_ok-push-clause-adds : goal.returns-in_ok-push-clause-adds
returns-in_ok-push-clause-adds c =
    let among = λ (keys : List SitePair). list_any (same_pair c.args.sites) keys in
    let new : among c.args.self.now.index.keys ≡ false = not_true (among c.args.self.now.index.keys) (sym c.in_ok-line.ensures.added ∙ c.if-is_new.true) in
    begins (no_line c.args.self.now.lines c.args.sites (ap among (sym c.requires.gathered) ∙ new)) c.in_ok-push.ensures.ok

pub returns-else-is_new-clause-gathered : goal.returns-else-is_new-clause-gathered
returns-else-is_new-clause-gathered c =
    let keys = c.args.self.now.index.keys in
    let old : list_any (same_pair c.args.sites) keys ≡ true = not_false (list_any (same_pair c.args.sites) keys) (sym c.in_ok-line.ensures.added ∙ c.if-is_new.false) in
    let same : c.insert_full.new.self.keys ≡ keys = c.in_ok-line.ensures.keys ∙ ap (λ (b : Bool). if b then keys else keys ++ c.args.sites ∷ []) old in
    let h = c.count-else-is_new.ensures.lines in
    let kept = sites-kept c.args.self.now.lines c.in_ok-line.line c.args.group.count h.0 h.1 in
    ap (λ s. s.keys) c.count-else-is_new.ensures.index ∙ same ∙ c.requires.gathered ∙ sym kept ∙ ap (map line_sites) (sym h.2)

pub returns-else-is_new-clause-adds : goal.returns-else-is_new-clause-adds
returns-else-is_new-clause-adds c =
    let keys = c.args.self.now.index.keys in
    let old : list_any (same_pair c.args.sites) keys ≡ true = not_false (list_any (same_pair c.args.sites) keys) (sym c.in_ok-line.ensures.added ∙ c.if-is_new.false) in
    let same : c.insert_full.new.self.keys ≡ keys = c.in_ok-line.ensures.keys ∙ ap (λ (b : Bool). if b then keys else keys ++ c.args.sites ∷ []) old in
    let stored = c.in_ok-line.ensures.stored in
    let at : slice_get (map line_sites c.args.self.now.lines) c.in_ok-line.line ≡ Some stored.0 = subst (λ (ks : List SitePair). slice_get ks c.in_ok-line.line ≡ Some stored.0) (same ∙ c.requires.gathered) stored.1 in
    let e : stored.0 ≡ c.args.sites = sym (pair-same c.args.sites stored.0 stored.2) in
    counts c.in_ok-line.line (subst (HasSitesOf c.args.self.now.lines c.in_ok-line.line) e (line_at c.args.self.now.lines c.in_ok-line.line stored.0 at)) c.count-else-is_new.ensures.lines
