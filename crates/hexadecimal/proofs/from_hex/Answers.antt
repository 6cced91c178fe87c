use Rattle.std.proofs.Common.{◌≡◌, ◌+◌, ◌*◌, ◌<◌, ◌/◌, length, drop, sym, ap, ◌∙◌, arith, true-eqb, false-eqb, vec_items}
use Rattle.std.proofs.lemmas.List.{drop-drop, length-drop}
use Rattle.hexadecimal.specs.Hex.{unhexed, before}
use Rattle.hexadecimal.proofs.Digits.{unhexed_odd, turn_none, turn_some, turn_end, begun, pair_there}
use Rattle.hexadecimal.proofs.from_hex.Goals as goal

pub returns-then-not-is_empty-clause-read : goal.returns-then-not-is_empty-clause-read
returns-then-not-is_empty-clause-read c =
    sym (unhexed_odd c.args.text.now (omega (arith, c.as_chunks.ensures.back_len, false-eqb _ _ c.if-not-is_empty.ensures)))

pub returns-in_default-clause-read : goal.returns-in_default-clause-read
returns-in_default-clause-read c =
    let text = c.args.text.now in
    let i = c.loop-high.high-index in
    let there : i < length text / 2 = omega (arith, c.as_chunks.ensures.front_len, c.loop-high-test.true) in
    turn_none text _ (drop (2 * i) text) c.loop-high.invariant.so_far (omega (arith, length-drop (2 * i) text, there))
    (c.in_default.ensures ∙ pair_there _ (length text / 2) i text c.as_chunks.ensures.front there)

pub returns-in_err-push-clause-at_once : goal.returns-in_err-push-clause-at_once
returns-in_err-push-clause-at_once c none =
    let text = c.args.text.now in
    let i = c.loop-high.high-index in
    let there : i < length text / 2 = omega (arith, c.as_chunks.ensures.front_len, c.loop-high-test.true) in
    let e = c.in-Some.ensures ∙ pair_there _ (length text / 2) i text c.as_chunks.ensures.front there in
    absurd (begun text i c.in-Some.byte (omega (arith, there)) e c.loop-high.invariant.begun none)

pub loop-high-preserved : goal.loop-high-preserved
loop-high-preserved c =
    let text = c.args.text.now in
    let i = c.loop-high.high-index in
    let there : i < length text / 2 = omega (arith, c.as_chunks.ensures.front_len, c.loop-high-test.true) in
    let e = c.in-Some.ensures ∙ pair_there _ (length text / 2) i text c.as_chunks.ensures.front there in
    let next : 2 * i + 2 ≡ 2 * (i + 1) = omega arith in
    record {
      so_far = turn_some text _ (drop (2 * i) text) c.loop-high.invariant.so_far c.in-Some.byte _ (omega (arith, length-drop (2 * i) text, there)) e c.in_ok-push.ensures.items
          ∙ ap (λ r. before (vec_items c.push.new.self) (unhexed r)) (drop-drop 2 (2 * i) text ∙ ap (λ n. drop n text) next);
      begun = λ none. absurd (begun text i c.in-Some.byte (omega (arith, there)) e c.loop-high.invariant.begun none);
    }

pub returns-clause-read : goal.returns-clause-read
returns-clause-read c =
    let text = c.args.text.now in
    let i = c.loop-high.high-index in
    turn_end text _ (drop (2 * i) text) c.loop-high.invariant.so_far
    (omega (arith, length-drop (2 * i) text, c.as_chunks.ensures.front_len, c.as_chunks.ensures.back_len, true-eqb _ _ c.if-not-is_empty.ensures, c.loop-high-test.false))
