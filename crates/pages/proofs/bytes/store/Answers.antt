-- Each turn writes the bytes of one word more, and leaves what lies behind them.
use Rattle.std.proofs.Common.{◌≡◌, ℕ, ◌+◌, ◌-◌, ◌*◌, ◌<◌, List, ◌++◌, length, get_or, take, drop, sym, refl, ap, ◌∙◌, append_assoc, arith, length-take-le, drop-drop, take_at, drop_at}
use borrow.Rule.Slice.PartMut.{put_mid}
use Rattle.std.proofs.lemmas.List.{take_more}
use Rattle.model.specs.Mail.{eight}
use Rattle.pages.specs.Words.{bytes_of}
use Rattle.pages.proofs.Words.{length_bytes_of, bytes_of_push, eight_is}
use Rattle.pages.proofs.bytes.store.Goals as goal

one_more : (ws start out : List ℕ) (i : ℕ) → i < length ws → out ≡ bytes_of (take i ws) ++ drop (8 * i) start →
    put_mid (8 * i) 8 out (eight (get_or ws i 0)) ≡ bytes_of (take (i + 1) ws) ++ drop (8 * (i + 1)) start
one_more ws start out i h e =
    let front : List ℕ = bytes_of (take i ws) in
    let back : List ℕ = drop (8 * i) start in
    let long : length front ≡ 8 * i = length_bytes_of (take i ws) ∙ ap (λ n. 8 * n) (length-take-le i ws (omega arith)) in
    let next : 8 * i + 8 ≡ 8 * (i + 1) = omega arith in
    ap (λ o. put_mid (8 * i) 8 o (eight (get_or ws i 0))) e
    ∙ ap (λ r. r ++ (eight (get_or ws i 0) ++ drop 8 (drop (8 * i) (front ++ back)))) (take_at front back (8 * i) long)
    ∙ ap (λ r. front ++ (eight (get_or ws i 0) ++ drop 8 r)) (drop_at front back (8 * i) long)
    ∙ ap (λ r. front ++ (eight (get_or ws i 0) ++ r)) (drop-drop 8 (8 * i) start ∙ ap (λ n. drop n start) next)
    ∙ sym (append_assoc front (eight (get_or ws i 0)) (drop (8 * (i + 1)) start))
    ∙ ap (λ r. r ++ drop (8 * (i + 1)) start) (sym (bytes_of_push (take i ws) (get_or ws i 0)) ∙ ap bytes_of (sym (take_more ws i 0 h)))

pub loop-i-init : goal.loop-i-init
unfolding bytes_of
loop-i-init c = refl

pub loop-i-preserved : goal.loop-i-preserved
loop-i-preserved c =
    let eight_long : 8 * c.loop-i.i + 8 - 8 * c.loop-i.i ≡ 8 = omega arith in
    ap
    (λ k. put_mid (8 * c.loop-i.i) k c.loop-i.out c.copy_from_slice.new.self)
    eight_long
    ∙ ap
    (put_mid (8 * c.loop-i.i) 8 c.loop-i.out)
    (c.copy_from_slice.ensures.after ∙ c.to_be_bytes.ensures ∙ sym (eight_is (get_or c.args.words.now c.loop-i.i 0)))
    ∙ one_more c.args.words.now c.args.out.now c.loop-i.out c.loop-i.i c.loop-i-test.true c.loop-i.invariant
