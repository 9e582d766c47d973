use Rattle.std.proofs.Common.{◌≡◌, ◌≤◌, List, Option, Some, length, refl, subst, slice_get}
use Rattle.std.proofs.lemmas.Option.{slice_get_read}
use Rattle.wm_sites.specs.declared.code_map.FunctionMap.{FunctionMap}
use Rattle.wm_sites.specs.Sites.{code_of}
use Rattle.wm_sites.proofs.FunctionMaps.{no_function, put_maps, read_before, read_now}
use Rattle.wm_sites.proofs.code_map.read_once.Goals as goal

pub returns-in_ok-read-in-Some-None-clause-read : goal.returns-in_ok-read-in-Some-None-clause-read
returns-in_ok-read-in-Some-None-clause-read c =
    read_now c.args.reader.now.module.now c.args.functions.now.items c.put.new.functions.items c.args.function c.in_ok-read-in-Some-None.read c.requires.maps.count c.put.ensures.puts c.in_ok-read-in-Some-None.ensures.none

pub returns-in-Some-Some-clause-read : goal.returns-in-Some-Some-clause-read
returns-in-Some-Some-clause-read c =
    let f = c.args.function in
    let slice = c.deref.result.now in
    let place = c.in-Some-Some.field-0.now in
    let found = c.in-Some-Some.ensures.lookup in
    let at : slice_get slice f ≡ Some place = slice_get_read slice (length slice) f place refl found.3.0 found.1 in
    let read : slice_get slice f ≡ Some (Some c.in-Some-Some._map) = subst (λ (o : Option FunctionMap). slice_get slice f ≡ Some o) c.in-Some-Some.field-0-is at in
    read_before c.args.reader.now.module.now c.args.functions.now.items f c.in-Some-Some._map
    (subst (λ (maps : List (Option FunctionMap)). slice_get maps f ≡ Some (Some c.in-Some-Some._map)) c.deref.ensures.value read)

pub returns-in-None-clause-read : goal.returns-in-None-clause-read
returns-in-None-clause-read c =
    no_function c.args.reader.now.module.now c.args.functions.now.items c.args.function c.requires.maps.count
    (subst (λ (maps : List (Option FunctionMap)). length maps ≤ c.args.function) c.deref.ensures.value c.in-None.ensures.lookup.3)

pub returns-in_ok-read-in-Some-None-clause-maps : goal.returns-in_ok-read-in-Some-None-clause-maps
returns-in_ok-read-in-Some-None-clause-maps c =
    put_maps (code_of c.args.reader.now) c.args.functions.now.items c.put.new.functions.items c.args.function c.in_ok-read-in-Some-None.read c.requires.maps c.put.ensures c.in_ok-read-in-Some-None.ensures.some
