use Rattle.std.proofs.Common.{refl}
use Rattle.wm_module_bytes.proofs.SectionSteps.{id_is, id_there, room, section_read, size_is, size_there, some_none}
use Rattle.wm_module_bytes.proofs.byte_reader.ByteReader.section.Goals as goal

pub returns-in_err-id : goal.returns-in_err-id
returns-in_err-id c id size contents next sized = absurd (id_there c.args.self.now id size contents next sized c.byte.result c.byte.ensures.byte c.in_err-id.was)

pub returns-in_err-size : goal.returns-in_err-size
returns-in_err-size c id size contents next sized =
    absurd (size_there c.args.self.now id size contents next sized c.byte.new.self c.number.new.self c.in_ok-id.ensures.moves c.number.result c.number.ensures c.in_err-size.was)

pub returns-in_err-contents : goal.returns-in_err-contents
returns-in_err-contents c id size contents next sized =
    let start = c.args.self.now in
    let count = c.in_ok-size.size in
    let same = size_is start id size contents next sized c.byte.new.self c.number.new.self c.in_ok-id.ensures.moves c.number.result c.number.ensures count c.in_ok-size.was in
    let taken = c.take.ensures (room start id size contents next sized c.byte.new.self c.number.new.self c.in_ok-id.ensures.moves c.number.result c.number.ensures count same) in
    absurd (some_none c.take.result taken.0 c.in_err-contents.was)

pub returns : goal.returns
returns c id size contents next sized =
    let start = c.args.self.now in
    let count = c.in_ok-size.size in
    let same = size_is start id size contents next sized c.byte.new.self c.number.new.self c.in_ok-id.ensures.moves c.number.result c.number.ensures count c.in_ok-size.was in
    let taken = c.take.ensures (room start id size contents next sized c.byte.new.self c.number.new.self c.in_ok-id.ensures.moves c.number.result c.number.ensures count same) in
    section_read start id size contents next sized c.byte.new.self c.number.new.self c.in_ok-id.ensures.moves c.number.result c.number.ensures c.take.new.self count _ same taken.1
    (id_is start id size contents next sized c.byte.result c.in_ok-id.id c.byte.ensures.byte c.in_ok-id.was) refl
