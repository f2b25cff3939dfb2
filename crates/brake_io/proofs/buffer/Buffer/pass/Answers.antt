use Rattle.brake_io.proofs.Parts.{passed}
use Rattle.brake_io.proofs.buffer.Buffer.pass.Goals as goal

pub returns : goal.returns
returns c = passed c.args.self.now.bytes.items c.args.self.now.start c.args.self.now.end c.args.count
