use Rattle.std.proofs.Common.{◌<◌, ◌≤◌, length, set, ◌∙◌, arith}
use Rattle.journal.specs.Waiting.{joined}
use Rattle.journal.proofs.Joined.{joined_length, joined_push}
use Rattle.journal.proofs.entries.Pending.push.Goals as goal

pub bounds-self-len : goal.bounds-self-len
bounds-self-len c =
    let s = c.args.self.now in
    let few : length s.pages.items ≤ length s.bytes = omega arith in
    let a = joined_length s.pages.items s.bytes few in let r = c.requires.room in omega arith

pub returns : goal.returns
returns c =
    let s = c.args.self.now in
    let few : length s.pages.items ≤ length s.bytes = omega arith in
    let room : length s.pages.items < length s.bytes = let a = joined_length s.pages.items s.bytes few in let r = c.requires.room in omega arith in
    (λ i. joined (c.push.ensures.items i) (set s.bytes (c.len.ensures.value i) (c.copy_from_slice.ensures.after i))) ∙ joined_push s.pages.items s.bytes c.args.page c.args.buf.now room
