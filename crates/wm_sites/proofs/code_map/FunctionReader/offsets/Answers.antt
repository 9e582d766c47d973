use Rattle.std.proofs.Common.{◌≡◌, ℕ, ◌≤◌, List, Some, Vec, Global, length, refl, subst, slice_get}
use Rattle.std.proofs.lemmas.Option.{slice_get_past, slice_get_read}
use Rattle.std.proofs.lemmas.Result.{IfOk-weaker}
use Rattle.wm_sites.specs.Bodies.{AreOpcodes}
use Rattle.wm_sites.specs.Sites.{AreOffsets}
use Rattle.wm_sites.proofs.Begins.{no_offsets, offsets_found}
use Rattle.wm_sites.proofs.code_map.FunctionReader.offsets.Goals as goal

pub returns-in-Some : goal.returns-in-Some
returns-in-Some c =
    let bytes = c.args.self.now.bytes.now in
    let bodies = c.args.self.now.bodies.items in
    let f = c.args.function in
    let slice = c.deref.result.now in
    let body = c.in-Some.body.now in
    let found = c.in-Some.ensures.lookup in
    let at : slice_get slice f ≡ Some body = slice_get_read slice (length slice) f body refl found.3.0 found.1 in
    let is : slice_get bodies f ≡ Some body = subst (λ (xs : List ℕ). slice_get xs f ≡ Some body) c.deref.ensures.value at in
    IfOk-weaker c.opcode_offsets.result (λ (offsets : Vec ℕ Global). AreOpcodes bytes body c.args.count offsets.items) (λ (offsets : Vec ℕ Global). AreOffsets bytes f c.args.count offsets.items)
    (λ offsets opcodes. offsets_found bytes f body c.args.count bodies offsets.items c.requires is opcodes) c.opcode_offsets.ensures

pub returns-in-None : goal.returns-in-None
returns-in-None c =
    let bodies = c.args.self.now.bodies.items in
    let f = c.args.function in
    let past : length bodies ≤ f = subst (λ (xs : List ℕ). length xs ≤ f) c.deref.ensures.value c.in-None.ensures.lookup.3 in
    no_offsets c.args.self.now.bytes.now f c.args.count bodies c.new.result.items c.requires (slice_get_past bodies f past)
