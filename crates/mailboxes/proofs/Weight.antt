-- The weight of the plain house that a sound directory stands for, from its counts.
use Rattle.std.proofs.Common.{◌≡◌, ℕ, zero, suc, ◌+◌, ◌*◌, ◌<◌, ◌≤◌, eqb, List, [], ◌∷◌, length, refl, ap, ◌∙◌, inl, inr, arith}
use Rattle.std.proofs.lemmas.Bool.{cases_Bool, cases_eq, eq-eqb, ne_eqb}
use Rattle.model.specs.Mail.{pick, added_up, each, those, in_bytes}
use Rattle.model.specs.House.{Way, letters_weight, person_weight, weight}
use Rattle.model.specs.Run.{so_many}
use Rattle.mailboxes.specs.Directory.{count_up, owns, box_place, owner_at, count_boxes, box_of, person_of, house_of, Sound}
use Rattle.mailboxes.proofs.Places.{length_count_up}
use Rattle.mailboxes.proofs.People.{owner_there}

added_up_each : {A B : Type 0} (f : B → ℕ) (g : A → B) (xs : List A) → added_up f (each g xs) ≡ added_up (λ x. f (g x)) xs
added_up_each f g [] = refl
added_up_each f g (x ∷ xs) = ap (λ n. f (g x) + n) (added_up_each f g xs)

added_up_same : {A : Type 0} (m : ℕ) (xs : List A) → added_up (λ x. m) xs ≡ m * length xs
added_up_same m [] = omega arith
added_up_same m (x ∷ xs) = omega (arith, added_up_same m xs)

added_up_both : {A : Type 0} (f g : A → ℕ) (xs : List A) → added_up (λ x. f x + g x) xs ≡ added_up f xs + added_up g xs
added_up_both f g [] = refl
added_up_both f g (x ∷ xs) = omega (arith, added_up_both f g xs)

added_up_alike : {A : Type 0} (f g : A → ℕ) (xs : List A) → ((x : A) → f x ≡ g x) → added_up f xs ≡ added_up g xs
added_up_alike f g [] h = refl
added_up_alike f g (x ∷ xs) h = omega (arith, h x, added_up_alike f g xs h)

-- one of the people counted through is the owner
no_owner : (o : ℕ) (k from : ℕ) → o < from → added_up (λ a. pick (eqb o a) 1 0) (count_up from k) ≡ 0
unfolding count_up
no_owner o zero from p = refl
no_owner o (suc k) from p = rw (ne_eqb o from (λ e. omega arith)) (omega (arith, no_owner o k (suc from) (omega arith)))

one_owner : (o : ℕ) (k from : ℕ) → from ≤ o → o < from + k → added_up (λ a. pick (eqb o a) 1 0) (count_up from k) ≡ 1
unfolding count_up
one_owner o zero from p q = absurd (omega arith)
one_owner o (suc k) from p q =
    elim (cases_eq o from) [
      | inl e ↦ rw (eq-eqb o from e) (omega (arith, no_owner o k (suc from) (omega arith)))
      | inr e ↦ rw (ne_eqb o from e) (omega (arith, one_owner o k (suc from) (omega arith) (omega arith)))
    ]

one_more : (o i : ℕ) (rest : ℕ → List ℕ) (a : ℕ) → length (pick (eqb o a) (i ∷ rest a) (rest a)) ≡ pick (eqb o a) 1 0 + length (rest a)
one_more o i rest a = elim (cases_Bool (eqb o a)) [ inl e ↦ rw e (omega arith) | inr e ↦ rw e (omega arith) ]

-- so the boxes of all people are all the boxes
owned : (o : ℕ → ℕ) (people : ℕ) (k from : ℕ) → ((i : ℕ) → from ≤ i → i < from + k → o i < people) →
    added_up (λ a. length (those (λ i. eqb (o i) a) (count_up from k))) (count_up 0 people) ≡ k
unfolding count_up
owned o people zero from h = omega (arith, added_up_same 0 (count_up 0 people))
owned o people (suc k) from h =
    added_up_alike (λ a. length (those (λ i. eqb (o i) a) (count_up from (suc k)))) (λ a. pick (eqb (o from) a) 1 0 + length (those (λ i. eqb (o i) a) (count_up (suc from) k))) (count_up 0 people) (one_more (o from) from (λ a. those (λ i. eqb (o i) a) (count_up (suc from) k)))
    ∙ added_up_both (λ a. pick (eqb (o from) a) 1 0) (λ a. length (those (λ i. eqb (o i) a) (count_up (suc from) k))) (count_up 0 people)
    ∙ omega (
      arith,
      one_owner (o from) people 0 (omega arith) (omega (arith, h from (omega arith) (omega arith))),
      owned o people k (suc from) (λ i p q. h i (omega arith) (omega arith)),
    )

person_weighs : (boxes : ℕ) (dir : List ℕ) (a : ℕ) → person_weight (person_of boxes dir a) ≡ 520 + 256 * count_boxes boxes dir a
unfolding person_of box_of in_bytes
person_weighs boxes dir a =
    omega (
      arith,
      added_up_each (λ b. 256 + letters_weight b.letters) (box_of dir) (those (owns dir a) (count_up 0 boxes)),
      added_up_same 256 (those (owns dir a) (count_up 0 boxes)),
    )

pub ways_weigh : (n : ℕ) → added_up {A = Way} (λ v. 64 + added_up (λ o. 256 + length o.bytes) v.waiting) (so_many n (record { sent = 0; waiting = [] })) ≡ 64 * n
unfolding so_many
ways_weigh zero = refl
ways_weigh (suc n) = omega (arith, ways_weigh n)

added_up_times : {A : Type 0} (m : ℕ) (f : A → ℕ) (xs : List A) → added_up (λ x. m * f x) xs ≡ m * added_up f xs
added_up_times m f [] = omega arith
added_up_times m f (x ∷ xs) = omega (arith, added_up_times m f xs)

pub house_weight : (n people boxes : ℕ) (dir : List ℕ) → Sound people boxes dir → weight (house_of n people boxes dir) ≡ 520 * people + 256 * boxes + 64 * n
unfolding house_of
house_weight n people boxes dir sound =
    let counts : ℕ → ℕ = λ a. count_boxes boxes dir a in
    omega (
      arith,
      added_up_each person_weight (person_of boxes dir) (count_up 0 people),
      added_up_alike (λ a. person_weight (person_of boxes dir a)) (λ a. 520 + 256 * counts a) (count_up 0 people) (person_weighs boxes dir),
      added_up_both (λ a. 520) (λ a. 256 * counts a) (count_up 0 people),
      added_up_same 520 (count_up 0 people),
      length_count_up people 0,
      added_up_times 256 counts (count_up 0 people),
      owned (λ i. owner_at dir (box_place i)) people boxes 0 (λ i _ l. owner_there people boxes dir sound i (omega arith)),
      ways_weigh n,
    )
