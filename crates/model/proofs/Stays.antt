-- Whatever the main promise lets a command leave, or a stop in its middle, can come about.
use Rattle.std.proofs.Common.{◌≡◌, ℕ, ◌-◌, ◌<◌, Bool, true, not, ◌&&◌, eqb, ltb, List, [], length, get_or, sym, ⊎_elim, arith, length-drop, ltb-true}
use borrow.Author.Tests.{eqb-false, not-true}
use Rattle.std.proofs.lemmas.Bool.{and_parts}
use Rattle.model.specs.House.{Command, push, House, Plain, Way, yes, no, turn, house_at, set_house, way_at, pushed, can_know, not_taken}
use Rattle.model.specs.Promise.{Never, KnownTaken, May, Mid, TurnMay, PushMay, IsPush}
use Rattle.model.specs.Always.{turned, came, Reached, became, StaysReached}
use Rattle.model.proofs.Places.{pick_cases}
use Rattle.model.proofs.Pushing.{know_can}
use Rattle.model.proofs.Always.{sound_of}

-- a push that isn't refused goes to another house that is there
pub push_allowed : (n c : ℕ) (h : House) (d : ℕ) → (turn n c h (push d)).reply ≡ 0 → (d < n) × (c ≡ d → Never)
unfolding turn
push_allowed n c h d =
    pick_cases (λ t. t.reply ≡ 0 → (d < n) × (c ≡ d → Never)) (ltb d n && not (eqb d c)) (yes [] h) (no 5 h)
    (λ e r. let es = and_parts (ltb d n) (not (eqb d c)) e in (ltb-true d n es.0, λ q. absurd (eqb-false d c (not-true (eqb d c) es.1) (sym q))))
    (λ e r. absurd (omega arith))

-- all that waits may be known of once all has come
pub all_knowable : (w : Plain) (c d : ℕ) → KnownTaken w c d → can_know w c d (length (not_taken w c d)) (length (way_at (house_at w c).ways d).waiting) ≡ true
unfolding KnownTaken
all_knowable w c d k =
    let way : Way = way_at (house_at w c).ways d in
    let had : ℕ = get_or (house_at w d).taken c 0 in
    know_can w c d (length (not_taken w c d)) (length way.waiting)
    (record { comes = omega arith; known = omega (arith, k.0, k.1, length-drop (had - way.sent) way.waiting) })

module _ (n : ℕ) (w : Plain) (c : ℕ) (l : c < n) (r : Reached n w) where
  -- the same houses under another name
  same_houses : (v u : Plain) → v ≡ u → Reached n u → Reached n v
  same_houses v u e k = rw e k

  after_turn : (v : Plain) (a : Command) → v ≡ set_house w c (turn (length w) c (house_at w c) a).next → Reached n v
  after_turn v a e = same_houses v _ (rw (sound_of r).houses at e) (became r (turned c a l))

  after_part : (v : Plain) (d more know : ℕ) → (turn (length w) c (house_at w c) (push d)).reply ≡ 0 → can_know w c d more know ≡ true → v ≡ pushed w c d more know → Reached n v
  after_part v d more know ok can e =
      let to = push_allowed n c (house_at w c) d (rw (sound_of r).houses at ok) in
      same_houses v _ e (became r (came c d more know l to.0 to.1 can))

  after_push : (pages : ℕ) (v : Plain) (d ls : ℕ) (up : Bool) (ss : List (List ℕ)) (reply : ℕ) →
      (turn (length w) c (house_at w c) (push d)).reply ≡ 0 → PushMay pages w c d ls up ss reply v → Reached n v
  unfolding PushMay
  after_push pages v d ls up ss reply ok m =
      let to = push_allowed n c (house_at w c) d (rw (sound_of r).houses at ok) in
      ⊎_elim (λ p. after_part v d _ _ ok (all_knowable w c d ((sound_of r).known c d l to.0)) p.1) (λ p. after_part v d p.0 p.1 ok p.2 p.3) m.1

pub stays_reached : StaysReached
unfolding StaysReached May Mid TurnMay IsPush
stays_reached known n pages w c text ss v l r = (
  (λ ls up reply m. ⊎_elim
      (λ p. ⊎_elim
      (λ q. ⊎_elim (λ t. after_turn n w c l r v p.0 t.2) (λ t. same_houses n w c l r v w t.2 r) q.1)
      (λ q. ⊎_elim (λ t. same_houses n w c l r v w t.3 r)
      (λ t. after_push n w c l r pages v q.0 ls up ss reply (rw q.1 at t.0) t.1) q.2)
      p.3)
      (λ p. ⊎_elim (λ q. same_houses n w c l r v w q.5 r) (λ q. same_houses n w c l r v w q.3 r) p)
      m),
  (λ m. ⊎_elim
      (λ p. same_houses n w c l r v w p.0 r)
      (λ p. ⊎_elim (λ q. after_turn n w c l r v q.0 q.6) (λ q. after_part n w c l r v q.0 q.5 q.6 q.3 q.7 q.8) p)
      m),
)
