use Rattle.source_disk.proofs.Answering.{read_told}
use Rattle.source_disk.proofs.source_disk.SourceDisk.read.Goals as goal

pub returns-clause-told : goal.returns-clause-told
returns-clause-told c =
    rw (← c.self.view_is)
    (λ log stands. read_told
    (record { chain = c.self.inside.chain; tracker = c.self.inside.tracker }) c.args.id
    c.args.first _ c.read.new.buf c.read.result log stands c.read.ensures.refused
    c.read.ensures.ok)
