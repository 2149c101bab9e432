use Rattle.bucket.proofs.Filling.{joined_made}
use Rattle.bucket.proofs.page.joined_page.Goals as goal

pub returns : goal.returns
returns c = λ xs ys f b. joined_made c.bucket_page.result c.args.bits _ _ xs ys f b c.bucket_page.ensures
