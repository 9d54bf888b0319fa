use Rattle.std.proofs.Common.{◌≡◌, length, take, ap, arith}
use Rattle.std.proofs.lemmas.List.{length-take-le}
use Rattle.migrate_server.specs.Reader.{ReaderState}
use Rattle.migrate_server.specs.declared.reader.TheConstants.{INPUT_LIMIT}
use Rattle.migrate_server.proofs.PartLines.{read_past}
use Rattle.migrate_server.proofs.reader.LineReader.read_more.Goals as goal

pub returns-then-self-gt-INPUT_LIMIT-clause-none : goal.returns-then-self-gt-INPUT_LIMIT-clause-none
returns-then-self-gt-INPUT_LIMIT-clause-none g c =
    let S = g.S.Source.state in
    let count = c.in-Ok.count in
    let given = take count c.read_front.new.chunk in
    let same : c.self.inside.total ≡ c.args.self.now.total =
    ap (λ (r : ReaderState). r.total) c.self.view_is in
    let few = c.in-Ok.ensures.count in
    let some : count ≡ 1 = omega (arith, same, few) in
    let full : c.args.self.now.total ≡ INPUT_LIMIT = omega (arith, same, few) in
    let long : length given ≡ count =
    length-take-le count c.read_front.new.chunk (omega (arith, few)) in
    read_past (S c.args.source.now) (S c.read_front.new.source) c.args.self.now _ given
    c.requires.empty c.requires.running c.in-Ok.ensures.given (omega (arith, long, some)) full
    (omega (arith, same, long)) c.in-Ok.ensures.cause.stays
