-- `after_test` ends, since the depth falls.
use Rattle.commands.proofs.rules.+after_test.Given as goal

abbrev pub decreases-after_test : goal.decreases-after_test
decreases-after_test l = l.depth
