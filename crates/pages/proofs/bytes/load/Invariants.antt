use Rattle.std.proofs.Common.{◌≡◌, take}
use Rattle.pages.specs.Words.{words_in}
use Rattle.pages.proofs.bytes.load.Given as goal

abbrev pub invariant-loop-i : goal.invariant-loop-i
invariant-loop-i l = take l.i l.words ≡ words_in l.i l.page
