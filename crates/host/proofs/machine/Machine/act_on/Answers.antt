use Rattle.std.proofs.Common.{◌≡◌, ℕ, ◌<◌, List, length, take, Option, Some, Bor, ap, ◌∙◌, subst, arith}
use Rattle.std.specs.Option.{MatchOption}
use Rattle.std.specs.Array.{IsFirstChunk}
use Rattle.host.specs.Goes.{Means, means}
use Rattle.host.proofs.Goings.{after_read, after_write, after_flush, after_shows, after_send}
use Rattle.host.proofs.machine.Machine.act_on.Given as given
use Rattle.host.proofs.machine.Machine.act_on.Goals as goal

abbrev meant : (g : given.Over) → Means g.row.D.Denot g.row.R.Denot
meant g = means g.D.Disk.gave g.D.Disk.took g.D.Disk.kept g.R.Rows.showed

-- the chunk that was there
chunk_is : (o : Option (Bor (List ℕ))) (xs : List ℕ) (r : Bor (List ℕ)) (n : ℕ) → MatchOption o (length xs < n) (λ y. IsFirstChunk xs y.now n) → o ≡ Some r → r.now ≡ take n xs
chunk_is o xs r n m e = (subst (λ p. MatchOption p (length xs < n) (λ y. IsFirstChunk xs y.now n)) e m).same

pub returns-in_ok-read_page-in-Read-clause-after : goal.returns-in_ok-read_page-in-Read-clause-after
returns-in_ok-read_page-in-Read-clause-after g c =
    after_read (meant g) c.args.told _ _ c.args.disk.now c.args.rows.now _ _ _ c.in-Read.page c.read_page.new.into c.read_page.new.self
    c.in-Read.is (omega arith) c.in_ok-read_page-in-Read.ensures.gave c.tell.ensures

pub returns-in_ok-write_page-in-Write-clause-after : goal.returns-in_ok-write_page-in-Write-clause-after
returns-in_ok-write_page-in-Write-clause-after g c =
    after_write (meant g) c.args.told _ _ c.args.disk.now c.args.rows.now _ _ _ c.in-Write.page _ c.write_page.new.self
    c.in-Write.is (chunk_is _ _ _ 512 c.first_chunk.ensures.cases c.unwrap-bytes.ensures ∙ ap (take 512) c.deref.ensures.value) c.in_ok-write_page-in-Write.ensures.took c.tell-in-Write.ensures

pub returns-in_ok-sync-in-Flush-clause-after : goal.returns-in_ok-sync-in-Flush-clause-after
returns-in_ok-sync-in-Flush-clause-after g c =
    after_flush (meant g) c.args.told _ _ c.args.disk.now c.args.rows.now _ _ _ c.sync.new.self
    c.in-Flush.is c.in_ok-sync-in-Flush.ensures.kept c.tell-in-Flush.ensures

pub returns-in_ok-show-in-Shows-clause-after : goal.returns-in_ok-show-in-Shows-clause-after
returns-in_ok-show-in-Shows-clause-after g c =
    after_shows (meant g) c.args.told _ _ c.args.disk.now c.args.rows.now _ _ _ c.in-Shows.len _ c.show.new.self
    c.in-Shows.is (ap (take c.in-Shows.len) c.deref-in-Shows.ensures.value)
    c.in_ok-show-in-Shows.ensures c.tell-in-Shows.ensures

pub returns-in-Send-clause-after : goal.returns-in-Send-clause-after
returns-in-Send-clause-after g c =
    after_send (meant g) c.args.told _ _ c.args.disk.now c.args.rows.now _ _ _ _ c.in-Send.is c.tell-in-Send.ensures
