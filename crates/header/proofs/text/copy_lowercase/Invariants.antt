-- The front is what was read so far, in small letters.
use Rattle.std.proofs.Common.{◌≡◌, take}
use Rattle.model.specs.Mail.{smalls}
use Rattle.header.proofs.text.copy_lowercase.Given as goal

abbrev pub invariant-loop-i : goal.invariant-loop-i
invariant-loop-i l = take l.i l.letter-items ≡ take l.i (smalls l.text)
