-- Pushing in the plain houses, as far as the frame has to do with it: a push of nothing, more letters, which texts are a push to another house.
use Rattle.std.proofs.Common.{◌≡◌, ℕ, zero, suc, ◌+◌, ◌-◌, ◌/◌, ◌<◌, ◌≤◌, Bool, true, false, eqb, ltb, ◌≢◌, ◌⊎◌, List, [], ◌∷◌, ◌++◌, length, get_or, take, drop, sym, refl, ap, ◌∙◌, subst, ap₂, inl, inr, arith, length-drop, ltb-true, lt-ltb, ne_eqb}
use mathlib.Core.Bool.{false≢true}
use mathlib.Core.List.{List-discrete}
use native.Mathlib.Decide.{ℕ_discrete, dec_lt}
use Rattle.model.specs.Mail.{pick, added_up, eight, in_bytes}
use Rattle.model.specs.House.{Command, push, spelled, fits, House, Plain, Out, Way, turn, house_at, set_house, way_at, set_way, come, pushed, can_know, not_taken}
use Rattle.model.specs.Promise.{Said, peer, from_bytes, needs, KnownTaken}
use Rattle.model.proofs.Pushing.{knowing, after_more, pushed_is, can_know_true, know_can}
use Rattle.model.proofs.Delivery.{come_append}
use Rattle.house.proofs.Places.{house_back}

-- a way that is set to what it is
way_back : (ws : List Way) (d : ℕ) → set_way ws d (way_at ws d) ≡ ws
unfolding way_at set_way
way_back [] d = refl
way_back (w ∷ ws) zero = refl
way_back (w ∷ ws) (suc d) = ap (λ x. w ∷ x) (way_back ws d)

pub knowing_none : (h : House) (d : ℕ) → knowing h d 0 ≡ h
knowing_none h d = rw (sent_same (way_at h.ways d), way_back h.ways d)
  where
    sent_same : (v : Way) → (record { sent = v.sent + 0; waiting = drop 0 v.waiting }) ≡ v
    sent_same v = ap (λ (n : ℕ). record { sent = n; waiting = v.waiting }) (omega arith)

-- a push of nothing changes nothing
pub after_none : (s : Plain) (c d : ℕ) → after_more s c d 0 ≡ house_at s d
unfolding come
after_none s c d = refl

pub pushed_none : (s : Plain) (c d : ℕ) → c ≢ d → pushed s c d 0 0 ≡ s
pushed_none s c d ne =
    pushed_is s c d 0 0 ne
    ∙ ap₂ (λ (g h : House). set_house (set_house s d g) c h) (after_none s c d) (knowing_none (house_at s c) d)
    ∙ ap (λ (z : Plain). set_house z c (house_at s c)) (house_back s d)
    ∙ house_back s c

-- more letters need no fewer of the line
added_take : {A : Type 0} (f : A → ℕ) (xs : List A) (n m : ℕ) → n ≤ m → added_up f (take n xs) ≤ added_up f (take m xs)
added_take f [] zero m h = omega arith
added_take f [] (suc n) zero h = omega arith
added_take f [] (suc n) (suc m) h = omega arith
added_take f (x ∷ xs) zero m h = omega arith
added_take f (x ∷ xs) (suc n) zero h = absurd (omega arith)
added_take f (x ∷ xs) (suc n) (suc m) h = let r = added_take f xs n m (omega arith) in omega arith

-- what the line has to carry for one letter, and for those that come
abbrev pub cost : Out → ℕ
cost o = 4 + length o.bytes / 1024

abbrev pub spent : List Out → ℕ
spent os = added_up cost os

pub needs_more : (s : Plain) (c d more more' : ℕ) → more ≤ more' → needs s c d more ≤ needs s c d more'
needs_more s c d more more' h =
    let x : ℕ = get_or (house_at s d).taken c 0 - (way_at (house_at s c).ways d).sent in
    let r = added_take cost (way_at (house_at s c).ways d).waiting (suc (more + x)) (suc (more' + x)) (omega arith) in omega arith

added_later : {A : Type 0} (f : A → ℕ) (xs : List A) (x n : ℕ) → added_up f (take n (drop x xs)) ≤ added_up f (take (n + x) xs)
added_later f [] zero n = added_take f [] n (n + 0) (omega arith)
added_later f [] (suc x) n = added_take f [] n (n + suc x) (omega arith)
added_later f (y ∷ ys) zero n = added_take f (y ∷ ys) n (n + 0) (omega arith)
added_later f (y ∷ ys) (suc x) n =
    let r = added_later f ys x n in
    let e : n + suc x ≡ suc (n + x) = omega arith in
    subst (λ k. added_up f (take n (drop x ys)) ≤ added_up f (take k (y ∷ ys))) (sym e) (omega arith)

-- the line's letters for those that have come and for the next one are no more than it needs
pub needs_covers : (s : Plain) (c d more : ℕ) → 16 + spent (take (suc more) (not_taken s c d)) ≤ needs s c d more
needs_covers s c d more =
    let x : ℕ = get_or (house_at s d).taken c 0 - (way_at (house_at s c).ways d).sent in
    let r = added_later cost (way_at (house_at s c).ways d).waiting x (suc more) in
    let e : suc more + x ≡ suc (more + x) = omega arith in
    let q : spent (take (suc more + x) (way_at (house_at s c).ways d).waiting) ≡ spent (take (suc (more + x)) (way_at (house_at s c).ways d).waiting) = ap (λ (k : ℕ). spent (take k (way_at (house_at s c).ways d).waiting)) e in
    omega arith

-- the next letter
take_next : {A : Type 0} (xs : List A) (n : ℕ) (x : A) (rest : List A) → drop n xs ≡ x ∷ rest → take (suc n) xs ≡ take n xs ++ x ∷ []
take_next [] zero x rest e = let l = ap length e in absurd (omega arith)
take_next [] (suc n) x rest e = let l = ap length e in absurd (omega arith)
take_next (y ∷ ys) zero x rest e = ap (λ z. z ∷ []) (ap (λ l. get_or l 0 y) e)
take_next (y ∷ ys) (suc n) x rest e = ap (λ z. y ∷ z) (take_next ys n x rest e)

pub added_append : {A : Type 0} (f : A → ℕ) (xs ys : List A) → added_up f (xs ++ ys) ≡ added_up f xs + added_up f ys
added_append f [] ys = omega arith
added_append f (x ∷ xs) ys = let r = added_append f xs ys in omega arith

pub spent_next : (os : List Out) (more : ℕ) (o : Out) (rest : List Out) → drop more os ≡ o ∷ rest → spent (take (suc more) os) ≡ spent (take more os) + cost o
spent_next os more o rest e = ap spent (take_next os more o rest e) ∙ added_append cost (take more os) (o ∷ []) ∙ omega arith

-- when one letter more has come: that one has come to the house as it was
pub came_next : (s : Plain) (c d more : ℕ) (o : Out) (rest : List Out) → drop more (not_taken s c d) ≡ o ∷ rest → after_more s c d (suc more) ≡ come c d (o ∷ []) (after_more s c d more)
came_next s c d more o rest e =
    ap (λ (os : List Out). come c d os (house_at s d)) (take_next (not_taken s c d) more o rest e) ∙ come_append c d (take more (not_taken s c d)) (o ∷ []) (house_at s d)

pub can_know_more : (s : Plain) (c d more more' know : ℕ) → more ≤ more' → more' ≤ length (not_taken s c d) → can_know s c d more know ≡ true → can_know s c d more' know ≡ true
can_know_more s c d more more' know h l q = let k = can_know_true s c d more know q in know_can s c d more' know (record { comes = l; known = omega (arith, k.known) })

-- what can be known when so many more have come: nothing anew; or all that have come
pub can_know_none : (s : Plain) (c d more : ℕ) → KnownTaken s c d → more ≤ length (not_taken s c d) → can_know s c d more 0 ≡ true
unfolding KnownTaken
can_know_none s c d more k l = know_can s c d more 0 (record { comes = l; known = omega (arith, k.0) })

abbrev pub known_now : Plain → ℕ → ℕ → ℕ → ℕ
known_now s c d more = get_or (house_at s d).taken c 0 + more - (way_at (house_at s c).ways d).sent

pub can_know_now : (s : Plain) (c d more : ℕ) → KnownTaken s c d → more ≤ length (not_taken s c d) → can_know s c d more (known_now s c d more) ≡ true
unfolding KnownTaken
can_know_now s c d more k l = know_can s c d more (known_now s c d more) (record { comes = l; known = omega (arith, k.0) })

-- when all have come, that is all that waits
pub all_known : (s : Plain) (c d : ℕ) → KnownTaken s c d → known_now s c d (length (not_taken s c d)) ≡ length (way_at (house_at s c).ways d).waiting
unfolding KnownTaken
all_known s c d k =
    omega (arith, k.0, k.1, length-drop (get_or (house_at s d).taken c 0 - (way_at (house_at s c).ways d).sent) (way_at (house_at s c).ways d).waiting)

-- a push to another house that is there is not refused
pub push_goes : (n c d : ℕ) (h : House) → d < n → c ≢ d → (turn n c h (push d)).reply ≡ 0
unfolding turn
push_goes n c d h lt ne = let p : ltb d n ≡ true = lt-ltb d n lt in let q : eqb d c ≡ false = ne_eqb d c (λ x. ne (sym x)) in rw (p, q)

-- the house that a push names
number_of_eight : (d : ℕ) → d < 16 → from_bytes 0 (eight d) ≡ d
unfolding from_bytes in_bytes
number_of_eight d h = omega arith

push_fits : (text : List ℕ) (d : ℕ) → Said text (push d) → d < 16
unfolding Said fits
push_fits text d t = ltb-true d 16 t.1

peer_there : (c d n : ℕ) → n ≡ d → c ≢ d → pick (eqb n c) 1000 n ≡ d
peer_there c d n h ne = let q : eqb n c ≡ false = ne_eqb n c (λ x. ne (sym x ∙ h)) in rw q h

pub peer_of_push : (c : ℕ) (text : List ℕ) (d : ℕ) → Said text (push d) → c ≢ d → peer c text ≡ d
unfolding Said spelled peer
peer_of_push c text d t ne = rw (← t.0) (peer_there c d (from_bytes 0 (eight d)) (number_of_eight d (push_fits text d t)) ne)

-- a text that is a push to another house that is there, where pushes are known
pub record Radio (known : Command → Bool) (houses c : ℕ) (text : List ℕ) (d : ℕ) : Type 0 where
  pub said : Said text (push d)
  pub knows : known (push d) ≡ true
  pub there : d < houses
  pub apart : c ≢ d

-- any other text: its command, if it is one, is done by one house
abbrev pub Quiet : (Command → Bool) → (houses c : ℕ) → List ℕ → Type 0
Quiet known houses c text = (d : ℕ) → Radio known houses c text d → ⊥

said_push : (text : List ℕ) (d : ℕ) → Dec (Said text (push d))
unfolding Said fits
said_push text d = by (List-discrete ℕ_discrete (spelled (push d)) text) (ltb d 16) refl
  where
    by : Dec (spelled (push d) ≡ text) → (b : Bool) → ltb d 16 ≡ b → Dec ((spelled (push d) ≡ text) × (ltb d 16 ≡ true))
    by (yes p) true q = yes (p, q)
    by (yes p) false q = no (λ x. false≢true (sym q ∙ x.1))
    by (no p) b q = no (λ x. p x.0)

-- which of the two a text is
pub radio_or_quiet : (known : Command → Bool) (houses c : ℕ) (text : List ℕ) → Radio known houses c text (peer c text) ⊎ Quiet known houses c text
radio_or_quiet known houses c text = by (said_push text (peer c text)) (known (push (peer c text))) refl (dec_lt (peer c text) houses) (ℕ_discrete c (peer c text))
  where
    is_peer : (d : ℕ) → Radio known houses c text d → peer c text ≡ d
    is_peer d r = peer_of_push c text d r.said r.apart

    at_peer : (d : ℕ) → Radio known houses c text d → Radio known houses c text (peer c text)
    at_peer d r = subst (λ i. Radio known houses c text i) (sym (is_peer d r)) r

    by : Dec (Said text (push (peer c text))) → (b : Bool) → known (push (peer c text)) ≡ b → Dec (peer c text < houses) → Dec (c ≡ peer c text) → Radio known houses c text (peer c text) ⊎ Quiet known houses c text
    by (yes t) true k (yes l) (no ne) = inl (record { said = t; knows = k; there = l; apart = ne })
    by (yes t) true k (yes l) (yes e) = inr (λ d r. (at_peer d r).apart e)
    by (yes t) true k (no l) x = inr (λ d r. l (at_peer d r).there)
    by (yes t) false k l x = inr (λ d r. false≢true (sym k ∙ (at_peer d r).knows))
    by (no t) b k l x = inr (λ d r. t (at_peer d r).said)
