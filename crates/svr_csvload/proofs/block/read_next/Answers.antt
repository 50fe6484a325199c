use Rattle.csv.specs.Records.{fields_of}
use Rattle.svr_csvload.proofs.Reading.{one_read}
use Rattle.svr_csvload.proofs.block.read_next.Goals as goal

pub returns-in-Ok : goal.returns-in-Ok
returns-in-Ok c =
    let reads = c.in-Ok.ensures in
    one_read c.args.reader.now c.read_byte_record.new.self c.in-Ok.found (fields_of c.read_byte_record.new.row) c.requires
    (reads.ready c.requires.untrimmed) reads.flexible (reads.reads c.requires.untrimmed c.requires.ready)
