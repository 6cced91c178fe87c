use Rattle.std.proofs.Common.{◌≡◌, ℕ, List, vec_items}
use Rattle.host.specs.Goes.{Answer, means, Ends}
use Rattle.host.proofs.machine.Machine.finish_on.Given as goal

-- the disk has its size, and what ends from here ends from the first act
abbrev pub invariant-loop : goal.invariant-loop
invariant-loop g l =
    (g.D.Disk.size l.disk ≡ g.D.Disk.size l.initial.disk)
    × ((answer : Answer) (m' : List ℕ) (d' : g.row.D.Denot) (r' : g.row.R.Denot)
    → Ends (means g.D.Disk.gave g.D.Disk.took g.D.Disk.kept g.R.Rows.showed) l.told (vec_items l.self.memory) (vec_items l.self.row) l.disk l.rows answer m' d' r'
    → Ends (means g.D.Disk.gave g.D.Disk.took g.D.Disk.kept g.R.Rows.showed) l.initial.told (vec_items l.initial.self.memory) (vec_items l.initial.self.row) l.initial.disk l.initial.rows answer m' d' r')
