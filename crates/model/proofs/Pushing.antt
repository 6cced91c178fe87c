-- Pushing: the two houses that change, what is still to come, and pushing in parts.
use Rattle.std.proofs.Common.{◌≡◌, ℕ, ◌+◌, ◌-◌, ◌<◌, ◌≤◌, true, leb, ◌≢◌, List, length, get_or, take, drop, sym, ap, ◌∙◌, ap₂, add_assoc, arith, length-drop, take-append-drop, le-leb, leb-true}
use Rattle.std.proofs.lemmas.List.{drop-drop, length-take-le}
use Rattle.std.proofs.lemmas.Bool.{and_parts, and_from}
use Rattle.model.specs.House.{House, Out, Way, Plain, way_at, set_way, house_at, set_house, come, not_taken, pushed, can_know}
use Rattle.model.specs.Promise.{KnownTaken, TakenOnce, PartsAlike}
use Rattle.model.proofs.Places.{differ, set_house_again, set_house_swap, set_way_again, take_length, house_at_same, house_at_other, way_at_same, length_set_house}
use Rattle.model.proofs.Delivery.{come_append, come_taken}

-- a house that knows of so many more letters that house d has them
abbrev pub knowing : House → ℕ → ℕ → House
knowing h d know = record { people = h.people; ways = set_way h.ways d (record { sent = (way_at h.ways d).sent + know; waiting = drop know (way_at h.ways d).waiting }); taken = h.taken }

-- a house that so many of the letters not yet taken have come to
abbrev pub after_more : Plain → ℕ → ℕ → ℕ → House
after_more w c d more = come c d (take more (not_taken w c d)) (house_at w d)

-- a push changes two houses
pub pushed_is : (w : Plain) (c d more know : ℕ) → c ≢ d →
    pushed w c d more know ≡ set_house (set_house w d (after_more w c d more)) c (knowing (house_at w c) d know)
unfolding pushed
pushed_is w c d more know ne = rw house_at_other

pub pushed_there : (w : Plain) (c d more know : ℕ) → c ≢ d → d < length w → house_at (pushed w c d more know) d ≡ after_more w c d more
pushed_there w c d more know ne h =
    let en : d ≢ c = λ e. ne (sym e) in
    rw (pushed_is, house_at_other (set_house w d (after_more w c d more)) c d (knowing (house_at w c) d know) en, house_at_same)

pub pushed_here : (w : Plain) (c d more know : ℕ) → c ≢ d → c < length w → house_at (pushed w c d more know) c ≡ knowing (house_at w c) d know
pushed_here w c d more know ne h =
    let l : c < length (set_house w d (after_more w c d more)) = rw length_set_house h in
    rw (pushed_is, house_at_same)

pub pushed_elsewhere : (w : Plain) (c d more know e : ℕ) → c ≢ d → e ≢ c → e ≢ d → house_at (pushed w c d more know) e ≡ house_at w e
pushed_elsewhere w c d more know e ne nc nd =
    rw (pushed_is, house_at_other (set_house w d (after_more w c d more)) c e (knowing (house_at w c) d know) nc, house_at_other)

pub length_pushed : (w : Plain) (c d more know : ℕ) → c ≢ d → length (pushed w c d more know) ≡ length w
length_pushed w c d more know ne = rw pushed_is (rw (length_set_house, length_set_house))

pub way_knowing : (h : House) (d know : ℕ) → d < length h.ways →
    way_at (knowing h d know).ways d ≡ record { sent = (way_at h.ways d).sent + know; waiting = drop know (way_at h.ways d).waiting }
way_knowing h d know l = way_at_same h.ways d _ l

-- to know of some and then of others is to know of both
pub knowing_knowing : (h : House) (d j k : ℕ) → d < length h.ways → knowing (knowing h d j) d k ≡ knowing h d (j + k)
knowing_knowing h d j k l =
    rw (way_knowing h d j l, set_way_again, drop-drop, add_assoc)

-- what may be known of, as numbers
pub record Knowable (w : Plain) (c d more know : ℕ) : Type 0 where
  pub comes : more ≤ length (not_taken w c d)
  pub known : (way_at (house_at w c).ways d).sent + know ≤ get_or (house_at w d).taken c 0 + more

pub can_know_true : (w : Plain) (c d more know : ℕ) → can_know w c d more know ≡ true → Knowable w c d more know
can_know_true w c d more know h =
    let p = and_parts (leb more (length (not_taken w c d))) _ h in
    record { comes = leb-true _ _ p.0; known = leb-true _ _ p.1 }

pub know_can : (w : Plain) (c d more know : ℕ) → Knowable w c d more know → can_know w c d more know ≡ true
know_can w c d more know k = and_from _ _ (le-leb _ _ k.comes) (le-leb _ _ k.known)

pub taken_after : (w : Plain) (c d more know : ℕ) → c ≢ d → d < length w → c < length (house_at w d).taken → more ≤ length (not_taken w c d) →
    get_or (house_at (pushed w c d more know) d).taken c 0 ≡ get_or (house_at w d).taken c 0 + more
taken_after w c d more know ne l lt m =
    ap (λ (h : House). get_or h.taken c 0) (pushed_there w c d more know ne l)
    ∙ come_taken c d (take more (not_taken w c d)) (house_at w d) lt
    ∙ ap (λ (k : ℕ). get_or (house_at w d).taken c 0 + k) (length-take-le more (not_taken w c d) m)

pub not_taken_after : (w : Plain) (c d more know : ℕ) → c ≢ d → c < length w → d < length w → Knowable w c d more know →
    d < length (house_at w c).ways → c < length (house_at w d).taken → (way_at (house_at w c).ways d).sent ≤ get_or (house_at w d).taken c 0 →
    not_taken (pushed w c d more know) c d ≡ drop more (not_taken w c d)
not_taken_after w c d more know ne lc ld k lw lt s =
    let way : Way = way_at (house_at w c).ways d in
    let had : ℕ = get_or (house_at w d).taken c 0 in
    rw (
      taken_after w c d more know ne ld lt k.comes,
      pushed_here w c d more know ne lc,
      way_knowing (house_at w c) d know lw,
      drop-drop (had + more - (way.sent + know)) know way.waiting,
      drop-drop more (had - way.sent) way.waiting,
    )
    (ap (λ (n : ℕ). drop n way.waiting) (omega arith))

pub taken_once : TakenOnce
unfolding TakenOnce KnownTaken
taken_once w c d more know ne lc ld can lw lt k = not_taken_after w c d more know (differ c d ne) lc ld (can_know_true w c d more know can) lw lt k.0

-- Writing two places, and then both again.
both_again : (w : Plain) (c d : ℕ) (g h g₁ h₁ : House) → c ≢ d →
    set_house (set_house (set_house (set_house w d g) c h) d g₁) c h₁ ≡ set_house (set_house w d g₁) c h₁
both_again w c d g h g₁ h₁ ne =
    rw (set_house_swap (set_house w d g) c d h g₁ ne, set_house_again (set_house (set_house w d g) d g₁) c h h₁, set_house_again w d g g₁)

-- A push that broke off and then one of all the rest come to one push of all.
pub rest_alike : (w : Plain) (c d more know : ℕ) → c ≢ d → c < length w → d < length w → d < length (house_at w c).ways → c < length (house_at w d).taken →
    KnownTaken w c d → Knowable w c d more know →
    let v : Plain = pushed w c d more know in
    pushed v c d (length (not_taken v c d)) (length (way_at (house_at v c).ways d).waiting)
    ≡ pushed w c d (length (not_taken w c d)) (length (way_at (house_at w c).ways d).waiting)
unfolding KnownTaken
rest_alike w c d more know ne lc ld lw lt kt k =
    let v : Plain = pushed w c d more know in
    let way : Way = way_at (house_at w c).ways d in
    let rest : not_taken v c d ≡ drop more (not_taken w c d) = not_taken_after w c d more know ne lc ld k lw lt kt.0 in
    let had : ℕ = get_or (house_at w d).taken c 0 in
    let all : ℕ = length way.waiting in
    let came : after_more v c d (length (not_taken v c d)) ≡ after_more w c d (length (not_taken w c d)) =
    rw (take_length (not_taken v c d), rest, pushed_there w c d more know ne ld, take_length (not_taken w c d))
    (sym (come_append c d (take more (not_taken w c d)) (drop more (not_taken w c d)) (house_at w d))
    ∙ ap (λ (os : List Out). come c d os (house_at w d)) (take-append-drop more (not_taken w c d))) in
    let fits : know ≤ all = omega (arith, k.comes, k.known, kt.0, kt.1, length-drop (had - way.sent) way.waiting) in
    let here : knowing (house_at v c) d (length (way_at (house_at v c).ways d).waiting) ≡ knowing (house_at w c) d all =
    rw (pushed_here w c d more know ne lc)
    (ap (λ (v₁ : Way). knowing (knowing (house_at w c) d know) d (length v₁.waiting)) (way_knowing (house_at w c) d know lw)
    ∙ knowing_knowing (house_at w c) d know (length (drop know way.waiting)) lw
    ∙ ap (λ (n : ℕ). knowing (house_at w c) d n) (omega (arith, length-drop know way.waiting))) in
    pushed_is v c d (length (not_taken v c d)) (length (way_at (house_at v c).ways d).waiting) ne
    ∙ ap₂ (λ (g h : House). set_house (set_house v d g) c h) came here
    ∙ ap (λ (u : Plain). set_house (set_house u d (after_more w c d (length (not_taken w c d)))) c (knowing (house_at w c) d all)) (pushed_is w c d more know ne)
    ∙ both_again w c d (after_more w c d more) (knowing (house_at w c) d know) (after_more w c d (length (not_taken w c d))) (knowing (house_at w c) d all) ne
    ∙ sym (pushed_is w c d (length (not_taken w c d)) all ne)

pub parts_alike : PartsAlike
unfolding PartsAlike KnownTaken
parts_alike w c d more ne lc ld lw lt kt m =
    rest_alike w c d more 0 (differ c d ne) lc ld lw lt kt (record { comes = m; known = omega (arith, kt.0) })
