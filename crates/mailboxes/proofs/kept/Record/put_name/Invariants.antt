-- So many bytes are written.
use Rattle.std.proofs.Common.{◌≡◌, take}
use Rattle.pages.specs.Words.{bytes_of, part}
use Rattle.mailboxes.proofs.kept.Record.put_name.Given as goal

abbrev pub invariant-loop-k : goal.invariant-loop-k
invariant-loop-k l = take l.k l.out ≡ take l.k (bytes_of (part l.self.words.now 1 8))
