-- How many commands the items of a day say.
use Rattle.std.proofs.Common.{◌≡◌, ℕ, ◌+◌, ◌<◌, ◌≤◌, List, [], ◌∷◌, ◌++◌, length, get_or, take, refl, sym, ap, ◌∙◌, arith}
use Rattle.std.proofs.lemmas.List.{take_more, length-take}
use Rattle.days.specs.declared.make.Item.{Item}
use Rattle.days.specs.declared.make.Item.TheVariants.{Power, Said}
use Rattle.days.specs.Played.{says, all_said, counted}

pub said_none : all_said [] ≡ 0
unfolding all_said
said_none = refl

pub said_push : (is : List Item) (i : Item) → all_said (is ++ i ∷ []) ≡ all_said is + says i
unfolding all_said
said_push [] i = omega arith
said_push (j ∷ is) i = omega (arith, said_push is i)

says_most : (i : Item) → says i ≤ 1
says_most (Power t) = omega arith
says_most (Said s t) = omega arith

pub said_most : (is : List Item) → all_said is ≤ length is
unfolding all_said
said_most [] = omega arith
said_most (i ∷ is) = omega (arith, said_most is, says_most i)

counted_is : (i : Item) (n : ℕ) → n < 18446744073709551615 → counted i n ≡ n + says i
counted_is (Power t) n h = omega arith
counted_is (Said s t) n h = omega arith

-- one item more was played
pub played_more : (is xs : List Item) (k : ℕ) (i : Item) (n m : ℕ) → xs ≡ is → k < length xs → i ≡ get_or xs k i → length is < 18446744073709551616 →
    n ≡ all_said (take k is) → m ≡ counted i n → m ≡ all_said (take (k + 1) is)
played_more is xs k i n m s h e l f g =
    let at_is : i ≡ get_or is k i = e ∙ ap (λ x. get_or x k i) s in
    let in_is : k < length is = omega (arith, h, ap length s) in
    let few : n < 18446744073709551615 = omega (arith, f, said_most (take k is), length-take k is, in_is, l) in
    let one : counted i n ≡ all_said (take k is) + says (get_or is k i) = counted_is i n few ∙ ap (λ x. x + says i) f ∙ ap (λ x. all_said (take k is) + says x) at_is in
    g ∙ one ∙ sym (ap all_said (take_more is k i in_is) ∙ said_push (take k is) (get_or is k i))
