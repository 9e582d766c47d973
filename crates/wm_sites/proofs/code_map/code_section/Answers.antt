use Rattle.std.proofs.Common.{Some, ap}
use Rattle.wm_sites.proofs.CodeSection.{code_found, other_found, section_there, sections_end}
use Rattle.wm_sites.proofs.code_map.code_section.Goals as goal

pub returns-in_err-section : goal.returns-in_err-section
returns-in_err-section c before items code =
    let l = c.loop-section in
    absurd (section_there code l.reader c.section.new.self c.section.result l._section (l.invariant before items code) c.section.ensures c.in_err-section.was)

pub returns-then-section-eq-CODE_SECTION : goal.returns-then-section-eq-CODE_SECTION
returns-then-section-eq-CODE_SECTION c before items code =
    let l = c.loop-section in
    ap Some (code_found code l.reader c.section.new.self c.section.result l._section c.in_ok-section.section (l.invariant before items code) c.section.ensures c.in_ok-section.was c.if-section-eq-CODE_SECTION.true)

pub loop-section-preserved : goal.loop-section-preserved
loop-section-preserved c before items code =
    let l = c.loop-section in
    other_found code l.reader c.section.new.self c.section.result l._section c.in_ok-section.section (l.invariant before items code) c.section.ensures c.in_ok-section.was c.if-section-eq-CODE_SECTION.false

pub returns : goal.returns
returns c before items code =
    let l = c.loop-section in absurd (sections_end code l.reader l._section (l.invariant before items code) c.loop-section-test.false)
