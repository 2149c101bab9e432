use Rattle.std.proofs.Common.{arith}
use Rattle.pages.proofs.Envelopes.{root_made}
use Rattle.pages.proofs.root.root_page.Goals as goal

pub returns : goal.returns
returns c =
    root_made c.page_of.result c.args.root c.to_be_bytes.result c.to_be_bytes-2.result c.to_be_bytes-3.result (omega arith) (omega arith) (omega arith)
    c.to_be_bytes.ensures c.to_be_bytes-2.ensures c.to_be_bytes-3.ensures (c.page_of.ensures (omega arith))
