use Rattle.std.proofs.Common.{◌≡◌, ℕ, List, Option, Some, sym, ap, subst, ◌∙◌}
use Rattle.std.specs.Prelude.{IfSome, nat_eq}
use Rattle.indexmap.specs.IndexMap.{get}
use Rattle.wm_races.specs.Classes.{AreClasses, AreOfSites}
use Rattle.wm_races.specs.declared.classes.Class.{Class}
use Rattle.wm_races.proofs.KindLemmas.{updated}
use Rattle.wm_races.proofs.classes.ClassTable.of.Goals as goal
use Rattle.wm_races.proofs.classes.ClassTable.of.Goals.{in-Some-2+in_ok-insert+in-Some-1, in-Some-2+in_ok-insert+in-None-1, in_default-2}

pub loop-index-preserved : goal.loop-index-preserved
loop-index-preserved c byte classes found =
    let P : ℕ → List Class → Type 0 = λ b cs. AreClasses c.args.candidate.now b cs × AreOfSites c.args.candidate.now c.args.sites.now cs in
    let known : (cs : List Class) → c.in_ok-classes.field-0 ≡ Some cs → P c.in-Some.address cs = λ cs is. (
      subst (λ (o : Option (List Class)). IfSome o (AreClasses c.args.candidate.now c.in-Some.address)) is c.in_ok-classes.ensures.classes,
      subst (λ (o : Option (List Class)). IfSome o (AreOfSites c.args.candidate.now c.args.sites.now)) is c.in_ok-classes.ensures.sites,
    ) in
    elim c.match-branch-2.branch [
      | in-Some-2+in_ok-insert+in-Some-1 w ↦
          updated P (get nat_eq c.loop-index.of_byte) (get nat_eq w.insert.new.self) c.in-Some.address w.in-Some-2.classes w.in_ok-insert.ensures.updates.0 (known w.in-Some-2.classes w.in-Some-2.is) c.loop-index.invariant byte classes
          (ap (λ m. get nat_eq m byte) (sym w.of_byte-is) ∙ found)
      | in-Some-2+in_ok-insert+in-None-1 w ↦
          updated P (get nat_eq c.loop-index.of_byte) (get nat_eq w.insert.new.self) c.in-Some.address w.in-Some-2.classes w.in_ok-insert.ensures.updates.0 (known w.in-Some-2.classes w.in-Some-2.is) c.loop-index.invariant byte classes
          (ap (λ m. get nat_eq m byte) (sym w.of_byte-is) ∙ found)
      | in_default-2 w ↦ c.loop-index.invariant byte classes (ap (λ m. get nat_eq m byte) (sym w.of_byte-is) ∙ found)
    ]

pub returns-clause-classes : goal.returns-clause-classes
returns-clause-classes c byte classes found = (c.loop-index.invariant byte classes found).0

pub returns-clause-sites : goal.returns-clause-sites
returns-clause-sites c byte classes found = (c.loop-index.invariant byte classes found).1
