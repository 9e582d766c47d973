use Rattle.std.proofs.Common.{◌<◌, length, rules}
use Rattle.wm_module_bytes.proofs.Steps.{skipped}
use Rattle.wm_module_bytes.proofs.byte_reader.ByteReader.skip.Goals as goal

pub returns-clause-moves : goal.returns-clause-moves
returns-clause-moves c text next same =
    let fits : c.args.self.now.at < 18446744073709551616 = search rules in
    let bounded : length c.args.self.now.bytes.now < 18446744073709551616 = search rules in
    skipped c.args.self.now c.args.count c.saturating_add-self.result text next same fits bounded c.saturating_add-self.ensures
