-- Delivery: a letter is put into boxes here or waits for another house, and nothing else happens. How letters come, and how often one is passed on.
use Rattle.std.proofs.Common.{◌≡◌, ℕ, zero, suc, ◌+◌, ◌<◌, ◌≤◌, Bool, true, false, eqb, ◌≢◌, List, [], ◌∷◌, ◌++◌, length, get_or, refl, ap, ◌∙◌, arith, get_or-set_other, get_or-set_same}
use borrow.Author.Tests.{eqb-false}
use Rattle.model.specs.Mail.{pick, fate, in_box}
use Rattle.model.specs.House.{House, Out, person_at, somebody, put_here, wait_for, pass_on, deliver, come, set_taken}
use Rattle.model.specs.Promise.{Ends, passes, passed}
use Rattle.model.proofs.Places.{set_taken_is, length_set_taken}

module _ (P : House → Type 0) (c : ℕ) (put : (h : House) (a : ℕ) (ms bs : List ℕ) (ns : List (List ℕ)) → P h → P (put_here h a ms bs ns))
    (wait : (h : House) (d : ℕ) (o : Out) → d ≢ c → P h → P (wait_for h d o)) where
  pass_on_keeps : (here : House → ℕ → House) → ((h : House) (a : ℕ) → P h → P (here h a)) →
      (n : ℕ) (ps : List (List ℕ)) (bs : List ℕ) (h : House) → P h → P (pass_on here c n ps bs h)
  unfolding pass_on
  pass_on_keeps here k n [] bs h q = q
  pass_on_keeps here k n (p ∷ ps) bs h q = go (eqb (get_or p 0 0) c) refl
    where
      go : (b : Bool) → eqb (get_or p 0 0) c ≡ b → P (pick b (here h (get_or p 1 0)) (wait_for h (get_or p 0 0) (record { person = get_or p 1 0; left = n; bytes = bs })))
      go true e = k h (get_or p 1 0) q
      go false e = wait h (get_or p 0 0) _ (λ s. eqb-false (get_or p 0 0) c e s) q

  pub deliver_keeps : (n : ℕ) (bs : List ℕ) (h : House) (a : ℕ) → P h → P (deliver n c bs h a)
  unfolding deliver
  deliver_keeps zero bs h a q = put h (somebody h a) [] bs (in_box ∷ []) q
  deliver_keeps (suc n) bs h a q =
      pass_on_keeps (λ g b. deliver n c bs g b) (λ g b r. deliver_keeps n bs g b r) n (fate (person_at h.people (somebody h a)).rules bs).people bs _
      (put h (somebody h a) (fate (person_at h.people (somebody h a)).rules bs).marks bs (fate (person_at h.people (somebody h a)).rules bs).boxes q)

pub deliver_taken : (n c : ℕ) (bs : List ℕ) (h : House) (a : ℕ) → (deliver n c bs h a).taken ≡ h.taken
deliver_taken n c bs h a = deliver_keeps (λ g. g.taken ≡ h.taken) c (λ g a₁ ms bs₁ ns q. q) (λ g d o ne q. q) n bs h a refl

-- letters come one after another
pub come_append : (c d : ℕ) (os ps : List Out) (g : House) → come c d (os ++ ps) g ≡ come c d ps (come c d os g)
unfolding come
come_append c d [] ps g = refl
come_append c d (o ∷ os) ps g = come_append c d os ps _

pub come_length_taken : (c d : ℕ) (os : List Out) (g : House) → length (come c d os g).taken ≡ length g.taken
unfolding come
come_length_taken c d [] g = refl
come_length_taken c d (o ∷ os) g =
    come_length_taken c d os _ ∙ length_set_taken (deliver o.left d o.bytes g o.person).taken c _ ∙ ap length (deliver_taken o.left d o.bytes g o.person)

-- as many more are taken from house c as came, and none from another
pub come_taken : (c d : ℕ) (os : List Out) (g : House) → c < length g.taken → get_or (come c d os g).taken c 0 ≡ get_or g.taken c 0 + length os
unfolding come
come_taken c d [] g h = omega arith
come_taken c d (o ∷ os) g h =
    let k : House = deliver o.left d o.bytes g o.person in
    let same : k.taken ≡ g.taken = deliver_taken o.left d o.bytes g o.person in
    let l : c < length k.taken = rw same h in
    let one : get_or (set_taken k.taken c (suc (get_or k.taken c 0))) c 0 ≡ suc (get_or g.taken c 0) =
    rw (set_taken_is k.taken c (suc (get_or k.taken c 0)), get_or-set_same k.taken c (suc (get_or k.taken c 0)) 0, same) refl in
    let rest = come_taken c d os (record { people = k.people; ways = k.ways; taken = set_taken k.taken c (suc (get_or k.taken c 0)) })
    (rw length_set_taken l) in
    omega (arith, rest, one)

pub come_taken_other : (c d : ℕ) (os : List Out) (g : House) (e : ℕ) → e ≢ c → get_or (come c d os g).taken e 0 ≡ get_or g.taken e 0
unfolding come
come_taken_other c d [] g e ne = refl
come_taken_other c d (o ∷ os) g e ne =
    let k : House = deliver o.left d o.bytes g o.person in
    come_taken_other c d os _ e ne
    ∙ ap (λ (js : List ℕ). get_or js e 0) (set_taken_is k.taken c (suc (get_or k.taken c 0)))
    ∙ get_or-set_other k.taken c e (suc (get_or k.taken c 0)) 0 ne
    ∙ ap (λ (js : List ℕ). get_or js e 0) (deliver_taken o.left d o.bytes g o.person)

-- How often a letter is passed on.
passed_le : (c n : ℕ) (go : ℕ → ℕ) → ((b : ℕ) → go b ≤ n) → (ps : List (List ℕ)) → passed c go ps ≤ suc n
unfolding passed
passed_le c n go h [] = omega arith
passed_le c n go h (p ∷ ps) = one (eqb (get_or p 0 0) c)
  where
    one : (b : Bool) → pick b (suc (go (get_or p 1 0))) 1 ≤ suc n
    one true = let l : go (get_or p 1 0) ≤ n = h (get_or p 1 0) in omega arith
    one false = omega arith

passes_le : (n c : ℕ) (bs : List ℕ) (h : House) (a : ℕ) → passes n c bs h a ≤ n
unfolding passes
passes_le zero c bs h a = omega arith
passes_le (suc n) c bs h a =
    passed_le c n (λ b. passes n c bs h b) (λ b. passes_le n c bs h b) (fate (person_at h.people (somebody h a)).rules bs).people

pub ends : Ends
unfolding Ends
ends = passes_le
