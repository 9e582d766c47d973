use Rattle.std.proofs.Common.{◌≡◌, None, Some, subst}
use Rattle.std.specs.Prelude.{unwrap_or}
use Rattle.wm_sites.specs.Sites.{Code, IsNoOpcode, IsSiteOf, code_of, offset_in, opcode_in}
use Rattle.wm_sites.proofs.FunctionMaps.{found_site, no_opcode}
use Rattle.wm_sites.proofs.code_map.CodeMap.site.Goals as goal

pub returns-in_default-clause-none : goal.returns-in_default-clause-none
returns-in_default-clause-none c same =
    let maps = c.read_once.new.functions.items in
    let p = c.args.position in
    let none : opcode_in maps p ≡ None = subst (λ fs. opcode_in fs p ≡ None) c.as_slice.ensures.value (c.opcode_at.ensures.none c.in_default.is) in
    subst (λ (code : Code). IsNoOpcode code.module p) c.self.view_is
    (no_opcode (code_of c.self.inside.reader) maps p c.in_ok-read_once.ensures.maps c.in_ok-read_once.ensures.read none)

pub returns-clause-site : goal.returns-clause-site
returns-clause-site c =
    let maps = c.read_once.new.functions.items in
    let p = c.args.position in
    let n = c.in-Some.instruction in
    let offset = c.in-Some.offset in
    let is : opcode_in maps p ≡ Some n = subst (λ fs. opcode_in fs p ≡ Some n) c.as_slice.ensures.value c.in-Some.ensures.some in
    let place : offset ≡ unwrap_or (offset_in maps p n) 0 = subst (λ fs. offset ≡ unwrap_or (offset_in fs p n) 0) c.as_slice.ensures.value c.in-Some.ensures.offset in
    subst (λ (code : Code). IsSiteOf code p (record { function = c.in_32_bits.result; instruction = c.in_32_bits-2.result; offset = c.in_32_bits-3.result })) c.self.view_is
    (found_site (code_of c.self.inside.reader) maps p n offset _ c.in_ok-read_once.ensures.maps is place c.in_32_bits.ensures c.in_32_bits-2.ensures c.in_32_bits-3.ensures)
