-- A house that can take any letter stays one: there is a postmaster, everybody has "in", and rules pass on to houses that are there.
use Rattle.std.proofs.Common.{◌≡◌, ℕ, ◌<◌, Bool, true, not, eqb, ltb, List, [], ◌∷◌, length, get_or, refl, ◌∙◌, arith, length-append}
use Rattle.std.proofs.lemmas.Bool.{and_parts}
use Rattle.model.specs.Mail.{or, every, same, Rule, in_box}
use Rattle.model.specs.House.{Command, House, Person, Box, Out, turn, person_at, set_person, no_person, with_people, has_box, known_boxes, put_here, change_boxes, change_box, deliver, come, target, known_target}
use Rattle.model.specs.Always.{within, Ready}
use Rattle.model.proofs.Places.{person_at_is, set_person_is, length_set_person, every_append, every_set, every_get_or, every_mono}
use Rattle.model.proofs.Boxes.{has_box_set, has_box_append, has_box_without, has_box_put_all}
use Rattle.model.proofs.Delivery.{deliver_keeps}
use Rattle.model.proofs.Turns.{turn_keeps, taken_out}

abbrev has_in : Person → Bool
has_in p = has_box p.boxes in_box

abbrev pub rules_within : ℕ → List Rule → Bool
rules_within n rs = every (λ r. every (λ t. within n (target t)) r.acts) rs

pub has_in_at : (n : ℕ) (h : House) (a : ℕ) → Ready n h → a < length h.people → has_box (person_at h.people a).boxes in_box ≡ true
has_in_at n h a r l = rw person_at_is (every_get_or has_in h.people a no_person r.at_home l)

pub rules_at : (n : ℕ) (h : House) (a : ℕ) → Ready n h → a < length h.people → rules_within n (person_at h.people a).rules ≡ true
rules_at n h a r l = rw person_at_is (every_get_or (λ p. rules_within n p.rules) h.people a no_person r.on_to_houses l)

ready_set_person : (n : ℕ) (h : House) (a : ℕ) (q : Person) → Ready n h → (a < length h.people → has_in q ≡ true) → (a < length h.people → rules_within n q.rules ≡ true) →
    Ready n (with_people h (set_person h.people a q))
ready_set_person n h a q r i k = record {
  staffed = rw length_set_person r.staffed;
  at_home = rw set_person_is (every_set has_in h.people a q r.at_home i);
  on_to_houses = rw set_person_is (every_set (λ p. rules_within n p.rules) h.people a q r.on_to_houses k);
}

-- boxes may change as long as "in" is among them
ready_change : (n : ℕ) (h : House) (a : ℕ) (bs : List Box) → Ready n h → (has_box (person_at h.people a).boxes in_box ≡ true → has_box bs in_box ≡ true) →
    Ready n (change_boxes h a bs)
ready_change n h a bs r i = ready_set_person n h a _ r (λ l. i (has_in_at n h a r l)) (rules_at n h a r)

ready_change_box : (n : ℕ) (h : House) (a : ℕ) (b : Box) → Ready n h → Ready n (change_box h a b)
ready_change_box n h a b r = ready_change n h a _ r (λ i. has_box_set (person_at h.people a).boxes b in_box ∙ i)

pub ready_put_here : (n : ℕ) (h : House) (a : ℕ) (ms bs : List ℕ) (ns : List (List ℕ)) → Ready n h → Ready n (put_here h a ms bs ns)
ready_put_here n h a ms bs ns r =
    ready_change n h a _ r (λ i. has_box_put_all ms bs (known_boxes (person_at h.people a).boxes ns []) (person_at h.people a).boxes in_box ∙ i)

ready_people : (n : ℕ) (h g : House) → g.people ≡ h.people → Ready n h → Ready n g
ready_people n h g e r = record { staffed = rw e r.staffed; at_home = rw e r.at_home; on_to_houses = rw e r.on_to_houses }

pub ready_deliver : (n m c : ℕ) (bs : List ℕ) (h : House) (a : ℕ) → Ready n h → Ready n (deliver m c bs h a)
ready_deliver n m c bs h a r = deliver_keeps (Ready n) c (ready_put_here n) (λ g d o ne q. ready_people n g _ refl q) m bs h a r

pub ready_come : (n c d : ℕ) (os : List Out) (h : House) → Ready n h → Ready n (come c d os h)
unfolding come
ready_come n c d [] h r = r
ready_come n c d (o ∷ os) h r = ready_come n c d os _ (ready_people n (deliver o.left d o.bytes h o.person) _ refl (ready_deliver n o.left d o.bytes h o.person r))

within_known : (n c : ℕ) (h : House) (t : List ℕ) → known_target c n h t ≡ true → within n t ≡ true
within_known n c h [] k = refl
within_known n c h (d ∷ t) k = (and_parts (ltb d n) (or (not (eqb d c)) (ltb (get_or t 0 0) (length h.people))) k).0

pub ready_turn : (n c : ℕ) (h : House) (a : Command) → Ready n h → Ready n (turn n c h a).next
unfolding same
ready_turn n c h a r = turn_keeps (Ready n) n c h (record {
  none = r;
  joins = λ nm. record {
    staffed = rw length-append (omega (arith, r.staffed));
    at_home = every_append has_in h.people _ r.at_home refl;
    on_to_houses = every_append (λ p. rules_within n p.rules) h.people _ r.on_to_houses refl;
  };
  delivers = λ b bs. ready_deliver n 16 c bs h b r;
  waits = λ d o l ne. ready_people n h _ refl r;
  makes = λ b nm e. ready_change n h b _ r (λ i. has_box_append (person_at h.people b).boxes _ in_box i);
  drops = λ b nm e. ready_change n h b _ r (λ i. has_box_without nm (person_at h.people b).boxes in_box e ∙ i);
  marks = λ b nm i m v t. ready_change_box n h b _ r;
  moves = λ b nm i o l t t₁ s e. ready_change_box n (taken_out h b nm i) b _ (ready_change_box n h b _ r);
  clears = λ b nm t. ready_change_box n h b _ r;
  rules = λ b rs l e. ready_set_person n h b _ r (λ l₁. has_in_at n h b r l₁)
      (λ l₁. every_mono (λ q. every (λ t. known_target c n h (target t)) q.acts) (λ q. every (λ t. within n (target t)) q.acts)
      (λ q. every_mono (λ t. known_target c n h (target t)) (λ t. within n (target t)) (λ t. within_known n c h (target t)) q.acts) rs e);
}) a
