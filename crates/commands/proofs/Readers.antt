-- Readers and spellings: a reader reads a spelling if what it reads was spelled, and what is spelled is read. Each way of making readers keeps that.
use Rattle.std.proofs.Common.{◌≡◌, ℕ, zero, suc, ◌+◌, Bool, true, false, ◌&&◌, List, [], ◌∷◌, ◌++◌, length, get_or, Some, None, Option, sym, refl, ap, ◌∙◌, append_assoc, append-nil, arith}
use Rattle.std.proofs.lemmas.Bool.{and_parts, and_from}
use Rattle.model.specs.Mail.{pick, every, flat}
use Rattle.commands.specs.Reader.{Reader, given, nothing, go_on, made, pair, only, so_many, by_kind, no_more, all_used, whole}

pub record ReadsSpelling {A : Type 0} (r : Reader A) (spell : A → List ℕ) (fit : A → Bool) : Type 0 where
  pub was_spelled : (bs : List ℕ) (v : A) (rest : List ℕ) → r bs ≡ Some (v, rest) → (spell v ++ rest ≡ bs) × (fit v ≡ true)
  pub is_read : (v : A) (rest : List ℕ) → fit v ≡ true → r (spell v ++ rest) ≡ Some (v, rest)

-- what had been read where a reader went on, made a value, read a pair or took only some values
pub went_on :
    {A B : Type 0} (o : Option (A × List ℕ)) (f : A → Reader B) (q : B × List ℕ) →
    go_on o f ≡ Some q → (p : A × List ℕ) × (o ≡ Some p) × (f p.0 p.1 ≡ Some q)
went_on None f q e = absurd (let z : ◌≡◌ {A = ℕ} 0 1 = cc in omega arith)
went_on (Some p) f q e = (p, refl, e)

pub same_some : {A : Type 0} (x y : A) → Some x ≡ Some y → x ≡ y
same_some x y e = cc

pub made_parts :
    {A B : Type 0} (f : A → B) (r : Reader A) (bs : List ℕ) (v : B) (rest : List ℕ) →
    made f r bs ≡ Some (v, rest) → (a : A) × (r bs ≡ Some (a, rest)) × (f a ≡ v)
made_parts f r bs v rest e =
    let w = went_on (r bs) (λ a. given (f a)) (v, rest) e in
    let q = same_some (f w.0.0, w.0.1) (v, rest) w.2 in
    (w.0.0, w.1 ∙ ap (λ x. Some (w.0.0, x.1)) q, ap (λ x. x.0) q)

pub pair_parts :
    {A B : Type 0} (r : Reader A) (r₁ : Reader B) (bs : List ℕ) (v : A × B) (rest : List ℕ) →
    pair r r₁ bs ≡ Some (v, rest) → (mid : List ℕ) × (r bs ≡ Some (v.0, mid)) × (r₁ mid ≡ Some (v.1, rest))
pair_parts r r₁ bs v rest e =
    let w = went_on (r bs) (λ a. made (λ b. (a, b)) r₁) (v, rest) e in
    let m = made_parts (λ b. (w.0.0, b)) r₁ w.0.1 v rest w.2 in
    (w.0.1, w.1 ∙ ap (λ x. Some (x.0, w.0.1)) m.2, m.1 ∙ ap (λ x. Some (x.1, rest)) m.2)

pub taken : {A : Type 0} (t : Bool) (x y : A) → pick t (Some x) None ≡ Some y → (t ≡ true) × (x ≡ y)
taken true x y e = (refl, same_some x y e)
taken false x y e = absurd (let z : ◌≡◌ {A = ℕ} 0 1 = cc in omega arith)

pub only_parts :
    {A : Type 0} (p : A → Bool) (r : Reader A) (bs : List ℕ) (v : A) (rest : List ℕ) →
    only p r bs ≡ Some (v, rest) → (r bs ≡ Some (v, rest)) × (p v ≡ true)
only_parts p r bs v rest e =
    let w = went_on (r bs) (λ a bs. pick (p a) (Some (a, bs)) None) (v, rest) e in
    let t = taken (p w.0.0) w.0 (v, rest) w.2 in
    (w.1 ∙ ap Some t.1, ap (λ x. p x.0) (sym t.1) ∙ t.0)

pub given_was_spelled :
    {B : Type 0} (a : B) (spell : B → List ℕ) (fit : B → Bool) (front : List ℕ) → spell a ≡ front → fit a ≡ true →
    (bs : List ℕ) (v : B) (rest : List ℕ) → given a bs ≡ Some (v, rest) → (spell v ++ rest ≡ front ++ bs) × (fit v ≡ true)
given_was_spelled a spell fit front same fits bs v rest e =
    let q = same_some (a, bs) (v, rest) e in
    (ap (λ x. spell x.0 ++ x.1) (sym q) ∙ ap (λ x. x ++ bs) same, ap (λ x. fit x.0) (sym q) ∙ fits)

pub nothing_read : {A : Type 0} {P : Type 0} (q : A) → ◌≡◌ {A = Option A} None (Some q) → P
nothing_read q e = absurd (let z : ◌≡◌ {A = ℕ} 0 1 = cc in omega arith)

-- readers by the first byte, from a number on: each reads what is spelled with that number before it
infixr 5 ◌&◌
pub data Kinds {A : Type 0} (spell : A → List ℕ) (fit : A → Bool) : ℕ → List (Reader A) → Type 0 where
  no_more_kinds : {k : ℕ} → Kinds spell fit k []
  ◌&◌ :
      {k : ℕ} {r : Reader A} {rs : List (Reader A)} →
      ((bs : List ℕ) (v : A) (rest : List ℕ) → r bs ≡ Some (v, rest) → (spell v ++ rest ≡ k ∷ bs) × (fit v ≡ true)) →
      Kinds spell fit (suc k) rs → Kinds spell fit k (r ∷ rs)

kind_was_spelled :
    {A : Type 0} {spell : A → List ℕ} {fit : A → Bool} {k : ℕ} {rs : List (Reader A)} → Kinds spell fit k rs →
    (j : ℕ) (bs : List ℕ) (v : A) (rest : List ℕ) → get_or rs j nothing bs ≡ Some (v, rest) → (spell v ++ rest ≡ (k + j) ∷ bs) × (fit v ≡ true)
kind_was_spelled no_more_kinds j bs v rest e = nothing_read (v, rest) e
kind_was_spelled {k = k} (h & hs) zero bs v rest e = let z : k + 0 ≡ k = omega arith in rw z (h bs v rest e)
kind_was_spelled {k = k} (h & hs) (suc j) bs v rest e = let z : k + suc j ≡ suc k + j = omega arith in rw z (kind_was_spelled hs j bs v rest e)

pub by_kind_was_spelled :
    {A : Type 0} {spell : A → List ℕ} {fit : A → Bool} {rs : List (Reader A)} → Kinds spell fit 0 rs →
    (bs : List ℕ) (v : A) (rest : List ℕ) → by_kind rs bs ≡ Some (v, rest) → (spell v ++ rest ≡ bs) × (fit v ≡ true)
unfolding by_kind
by_kind_was_spelled hs [] v rest e = nothing_read (v, rest) e
by_kind_was_spelled hs (j ∷ bs) v rest e = let z : 0 + j ≡ j = omega arith in rw z at (kind_was_spelled hs j bs v rest e)

module _ {A B : Type 0} {r : Reader A} {s : A → List ℕ} {g : A → Bool} (reads : ReadsSpelling r s g) where
  pub made_was_spelled :
      (f : A → B) (spell : B → List ℕ) (fit : B → Bool) (front : List ℕ) →
      ((a : A) → g a ≡ true → spell (f a) ≡ front ++ s a) → ((a : A) → g a ≡ true → fit (f a) ≡ true) →
      (bs : List ℕ) (v : B) (rest : List ℕ) → made f r bs ≡ Some (v, rest) → (spell v ++ rest ≡ front ++ bs) × (fit v ≡ true)
  made_was_spelled f spell fit front same fits bs v rest e =
      let m = made_parts f r bs v rest e in
      let h = reads.was_spelled bs m.0 rest m.1 in (
        ap (λ x. spell x ++ rest) (sym m.2) ∙ ap (λ x. x ++ rest) (same m.0 h.1) ∙ append_assoc front (s m.0) rest ∙ ap (λ x. front ++ x) h.0,
        ap fit (sym m.2) ∙ fits m.0 h.1,
      )

  pub made_is_read :
      (f : A → B) (a : A) (bs rest : List ℕ) → bs ≡ s a → g a ≡ true → made f r (bs ++ rest) ≡ Some (f a, rest)
  made_is_read f a bs rest same fits =
      ap (λ x. made f r (x ++ rest)) same ∙ ap (λ o. go_on o (λ a. given (f a))) (reads.is_read a rest fits)

module _ {A B : Type 0} {r : Reader A} {s : A → List ℕ} {g : A → Bool} (reads : ReadsSpelling r s g)
    {r₁ : Reader B} {s₁ : B → List ℕ} {g₁ : B → Bool} (reads₁ : ReadsSpelling r₁ s₁ g₁) where
  pub pair_reads : ReadsSpelling (pair r r₁) (λ p. s p.0 ++ s₁ p.1) (λ p. g p.0 && g₁ p.1)
  pair_reads = record {
    was_spelled = λ bs v rest e.
        let w = pair_parts r r₁ bs v rest e in
        let h = reads.was_spelled bs v.0 w.0 w.1 in
        let k = reads₁.was_spelled w.0 v.1 rest w.2 in
        (append_assoc (s v.0) (s₁ v.1) rest ∙ ap (λ x. s v.0 ++ x) k.0 ∙ h.0, and_from (g v.0) (g₁ v.1) h.1 k.1);
    is_read = λ v rest t.
        let ts = and_parts (g v.0) (g₁ v.1) t in
        ap (λ x. pair r r₁ x) (append_assoc (s v.0) (s₁ v.1) rest)
        ∙ ap (λ o. go_on o (λ a. made (λ b. (a, b)) r₁)) (reads.is_read v.0 (s₁ v.1 ++ rest) ts.0)
        ∙ made_is_read reads₁ (λ b. (v.0, b)) v.1 (s₁ v.1) rest refl ts.1;
  }

module _ {A : Type 0} {r : Reader A} {s : A → List ℕ} {g : A → Bool} (reads : ReadsSpelling r s g) where
  -- a reader that takes only some values, all of which fit
  pub only_reads : (p : A → Bool) → ((v : A) → p v ≡ true → g v ≡ true) → ReadsSpelling (only p r) s p
  only_reads p fits = record {
    was_spelled = λ bs v rest e.
        let w = only_parts p r bs v rest e in ((reads.was_spelled bs v rest w.0).0, w.1);
    is_read = λ v rest t. rw (reads.is_read v rest (fits v t), t);
  }

  pub so_many_was_spelled :
      (n : ℕ) (bs : List ℕ) (vs : List A) (rest : List ℕ) → so_many r n bs ≡ Some (vs, rest) →
      (flat s vs ++ rest ≡ bs) × (every g vs ≡ true) × (length vs ≡ n)
  unfolding so_many
  so_many_was_spelled zero bs vs rest e =
      let q = same_some ([], bs) (vs, rest) e in
      (ap (λ x. flat s x.0 ++ x.1) (sym q), ap (λ x. every g x.0) (sym q), ap (λ x. length x.0) (sym q))
  so_many_was_spelled (suc n) bs vs rest e =
      let m = made_parts (λ p. p.0 ∷ p.1) (pair r (so_many r n)) bs vs rest e in
      let w = pair_parts r (so_many r n) bs m.0 rest m.1 in
      let h = reads.was_spelled bs m.0.0 w.0 w.1 in
      let k = so_many_was_spelled n w.0 m.0.1 rest w.2 in (
        ap (λ x. flat s x ++ rest) (sym m.2) ∙ append_assoc (s m.0.0) (flat s m.0.1) rest ∙ ap (λ x. s m.0.0 ++ x) k.0 ∙ h.0,
        ap (every g) (sym m.2) ∙ and_from (g m.0.0) (every g m.0.1) h.1 k.1,
        ap length (sym m.2) ∙ ap suc k.2,
      )

  pub so_many_is_read :
      (vs : List A) (rest : List ℕ) → every g vs ≡ true → so_many r (length vs) (flat s vs ++ rest) ≡ Some (vs, rest)
  unfolding so_many
  so_many_is_read [] rest t = refl
  so_many_is_read (v ∷ vs) rest t =
      let ts = and_parts (g v) (every g vs) t in
      let a : r ((s v ++ flat s vs) ++ rest) ≡ Some (v, flat s vs ++ rest) = rw append_assoc (reads.is_read v (flat s vs ++ rest) ts.0) in
      rw (a, so_many_is_read vs rest ts.1)

-- a reader of all the bytes
nothing_left : {A : Type 0} (a : A) (rest : List ℕ) (v : A) → no_more a rest ≡ Some v → ◌≡◌ {A = Option (A × List ℕ)} (Some (a, rest)) (Some (v, []))
nothing_left a [] v e = ap (λ x. Some (x, [])) (same_some a v e)
nothing_left a (b ∷ bs) v e = nothing_read v e

all_of : {A : Type 0} (o : Option (A × List ℕ)) (v : A) → all_used o ≡ Some v → o ≡ Some (v, [])
all_of None v e = nothing_read v e
all_of (Some p) v e = nothing_left p.0 p.1 v e

module _ {A : Type 0} {r : Reader A} {s : A → List ℕ} {g : A → Bool} (reads : ReadsSpelling r s g) where
  pub whole_was_spelled : (bs : List ℕ) (v : A) → whole r bs ≡ Some v → (s v ≡ bs) × (g v ≡ true)
  whole_was_spelled bs v e =
      let h = reads.was_spelled bs v [] (all_of (r bs) v e) in (sym (append-nil (s v)) ∙ h.0, h.1)

  pub whole_is_read : (v : A) → g v ≡ true → whole r (s v) ≡ Some v
  whole_is_read v t = ap (whole r) (sym (append-nil (s v))) ∙ ap all_used (reads.is_read v [] t)
