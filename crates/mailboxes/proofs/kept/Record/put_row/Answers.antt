-- The row is written piece by piece where it fits.
use Rattle.std.proofs.Common.{◌≡◌, ◌+◌, ◌-◌, [], ◌∷◌, ◌++◌, length, take, drop, take_all, length-take, length-drop, Some, rules, refl, ap, ap₂, ◌∙◌, arith}
use borrow.Rule.Slice.PartMut.{put_mid}
use Rattle.pages.specs.Words.{bytes_of, part}
use Rattle.mailboxes.specs.Row.{row_at}
use Rattle.mailboxes.proofs.Records.{length_row_at}
use Rattle.mailboxes.proofs.Rows.{name_front, row_written, row_room, row_no_room}
use Rattle.mailboxes.proofs.kept.Record.put_row.Goals as goal

pub returns-then-out-end : goal.returns-then-out-end
returns-then-out-end c =
    rw (row_no_room c.args.self.now.words.now 0 c.args.out.now c.name_len-len.result c.name_len-len.ensures.long c.if-out-end.true) (record { says = refl; written = refl })

pub returns : goal.returns
returns c =
    let rec = c.args.self.now.words.now in
    let out = c.args.out.now in
    let n = c.name_len-len.result in
    let long : 8 + n + 16 ≡ length (row_at rec 0) = omega (arith, length_row_at rec 0, c.name_len-len.ensures.long) in
    let first : c.store.new.out ≡ bytes_of (n ∷ []) ++ drop 8 out = search rules in
    let name = c.put_name.new.out in
    let name_long : length (take (8 + n - 8) (drop 8 c.store.new.out)) ≡ n = omega (arith, length-take (8 + n - 8) (drop 8 c.store.new.out), length-drop 8 c.store.new.out) in
    let middle = put_mid 8 (8 + n - 8) c.store.new.out name in
    let stored : c.store-2.new.out ≡ bytes_of (c.next.result ∷ 0 ∷ []) ++ drop 16 (take (length middle - (8 + n)) (drop (8 + n) middle)) = search rules in
    let rest : take (length middle - (8 + n)) (drop (8 + n) middle) ≡ drop (8 + n) middle = take_all _ _ (omega (arith, length-drop (8 + n) middle)) in
    rw (row_room rec 0 out n c.name_len-len.ensures.long c.if-out-end.false) (record {
      says = ap Some long;
      written = row_written rec out c.store.new.out name c.store-2.new.out n c.name_len-len.ensures.long c.if-out-end.false first
          (c.put_name.ensures ∙ ap (λ m. take m (bytes_of (part rec 1 8))) name_long ∙ name_front rec c.args.self.now.whole n c.name_len-len.ensures.long)
          (stored ∙ ap₂ (λ w r. bytes_of (w ∷ 0 ∷ []) ++ drop 16 r) c.next.ensures rest);
    })
