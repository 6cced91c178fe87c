-- The readers of the definition, as the code meets them: what each answers in each case.
use Rattle.std.proofs.Common.{◌≡◌, ℕ, zero, suc, ◌+◌, ◌-◌, ◌*◌, ◌<◌, ◌≤◌, true, false, leb, List, [], ◌∷◌, ◌++◌, length, get_or, take, drop, Some, None, Option, subst, sym, refl, ap, ◌∙◌, sub-one, arith, Bor, MatchOption, Bool, ◌&&◌}
use Rattle.std.specs.Bool.{then_some}
use Rattle.std.specs.Option.{option_map, option_and_then}
use Rattle.std.specs.List.{FoldsTo}
use Rattle.std.specs.Iterator.{Yields, YieldsThen}
use Rattle.std.specs.Fn.{Called}
use Rattle.std.specs.declared.ops.Range.{Range}
use denote.Param.Members.{Mut}
use Rattle.std.proofs.lemmas.Bool.{lt-leb, le-leb}
use Rattle.std.proofs.lemmas.List.{length-take-le}
use Rattle.model.specs.Mail.{pick, all_bytes, eight, with_length}
use Rattle.model.specs.Promise.{from_bytes}
use Rattle.commands.specs.Lent.{lent_and_rest, left_after, after_many, after_counted}
use Rattle.commands.specs.Reader.{Reader, first, read_number, read_counted, given, go_on, made, by_kind, only, so_many, listed, test_kinds, read_test}
use Rattle.commands.proofs.Bytes.{all_bytes_take, all_bytes_parts}
use Rattle.commands.proofs.Numbers.{counted_reads}

pub first_short : (n : ℕ) (bs : List ℕ) → length bs < n → first n bs ≡ None
unfolding first
first_short n bs h = rw (lt-leb n (length bs) h)

pub first_there : (n : ℕ) (bs : List ℕ) → n ≤ length bs → first n bs ≡ Some (take n bs, drop n bs)
unfolding first
first_there n bs h = rw (le-leb n (length bs) h)

pub number_short : (bs : List ℕ) → length bs < 8 → read_number bs ≡ None
unfolding read_number
number_short bs h = rw (first_short 8 bs h)

-- the number of eight digits, written out
abbrev pub written_out : List ℕ → ℕ
written_out ds = get_or ds 0 0 * 72057594037927936 + get_or ds 1 0 * 281474976710656 + get_or ds 2 0 * 1099511627776 + get_or ds 3 0 * 4294967296 + get_or ds 4 0 * 16777216 + get_or ds 5 0 * 65536 + get_or ds 6 0 * 256 + get_or ds 7 0

eight_digits : (ds : List ℕ) → length ds ≡ 8 → from_bytes 0 ds ≡ written_out ds
unfolding from_bytes
eight_digits (a ∷ b ∷ c ∷ d ∷ e ∷ f ∷ g ∷ h ∷ []) l = omega arith
eight_digits [] l = absurd (omega arith)
eight_digits (a ∷ []) l = absurd (omega arith)
eight_digits (a ∷ b ∷ []) l = absurd (omega arith)
eight_digits (a ∷ b ∷ c ∷ []) l = absurd (omega arith)
eight_digits (a ∷ b ∷ c ∷ d ∷ []) l = absurd (omega arith)
eight_digits (a ∷ b ∷ c ∷ d ∷ e ∷ []) l = absurd (omega arith)
eight_digits (a ∷ b ∷ c ∷ d ∷ e ∷ f ∷ []) l = absurd (omega arith)
eight_digits (a ∷ b ∷ c ∷ d ∷ e ∷ f ∷ g ∷ []) l = absurd (omega arith)
eight_digits (a ∷ b ∷ c ∷ d ∷ e ∷ f ∷ g ∷ h ∷ i ∷ ds) l = absurd (omega arith)

pub number_there :
    (bs ds rest : List ℕ) (n : ℕ) → all_bytes bs ≡ true → ds ≡ take 8 bs → rest ≡ drop 8 bs → length rest + 8 ≡ length bs → n ≡ written_out ds →
    Some (n, rest) ≡ read_number bs
unfolding read_number
number_there bs ds rest n t d r l e =
    let le : 8 ≤ length bs = omega arith in
    let k : from_bytes 0 (take 8 bs) ≡ n = eight_digits (take 8 bs) (length-take-le 8 bs le) ∙ ap written_out (sym d) ∙ sym e in
    sym (rw (first_there 8 bs le, all_bytes_take 8 bs t, k, r))

-- bytes that the code cuts off are the first of the definition
pub split_first_bytes :
    (r : Option (Bor (List ℕ) × Bor (List ℕ))) (n : ℕ) (bs : List ℕ) →
    MatchOption r (length bs < n) (λ p. (n ≤ length bs) × (p.0.now ≡ take n bs) × (p.1.now ≡ drop n bs) × (length p.0.now ≡ n) × (length p.1.now + n ≡ length bs)) →
    lent_and_rest r ≡ first n bs
split_first_bytes None n bs h = sym (first_short n bs h)
split_first_bytes (Some p) n bs h = sym (rw (first_there n bs h.0, h.1, h.2))

-- what was counted in a list of bytes is one
counted_bytes : (bs v rest : List ℕ) → Some (v, rest) ≡ read_counted bs → all_bytes bs ≡ true → all_bytes v ≡ true
counted_bytes bs v rest e t =
    let h = (counted_reads.was_spelled bs v rest (sym e)).0 in
    let whole : all_bytes (with_length v ++ rest) ≡ true = rw h t in
    (all_bytes_parts (eight (length v)) v (all_bytes_parts (with_length v) rest whole).0).1

-- what was counted is kept where it passes a test; its bytes are known to be such
pub kept_bytes :
    (test : List ℕ → Bool) (bs : List ℕ) (o r : Option (Bor (List ℕ) × Bor (List ℕ))) → all_bytes bs ≡ true → lent_and_rest o ≡ read_counted bs →
    MatchOption o (r ≡ None) (λ p. r ≡ then_some (test p.0.now) p) → lent_and_rest r ≡ only (λ v. test v && all_bytes v) read_counted bs
kept_bytes test bs None r t e h = rw (h, sym e)
kept_bytes test bs (Some p) r t e h = rw (h, sym e, counted_bytes bs p.0.now p.1.now e t) (by (test p.0.now))
  where
    by : (b : Bool) → lent_and_rest (then_some b p) ≡ pick (b && true) (Some (p.0.now, p.1.now)) None
    by true = refl
    by false = refl

pub test_at : (d : ℕ) (bs : List ℕ) → 0 < d → read_test d bs ≡ by_kind (test_kinds (read_test (d - 1))) bs
unfolding read_test
test_at zero bs h = absurd (omega arith)
test_at (suc d) bs h = rw (sub-one (suc d))

pub no_test : (d : ℕ) (bs : List ℕ) → ¬ (1 ≤ d) → read_test d bs ≡ None
unfolding read_test
no_test zero bs h = refl
no_test (suc d) bs h = absurd (h (omega arith))

-- what is left after so many of something is what is left after one, so many times
pub so_many_after : {A : Type 0} (r : Reader A) (n : ℕ) (bs : List ℕ) → left_after (so_many r n bs) ≡ after_many (λ x. left_after (r x)) n bs
unfolding so_many after_many
so_many_after r zero bs = refl
so_many_after {A = A} r (suc n) bs = go (r bs) (so_many_after r n)
  where
    rest_of_list : (a : A) (o : Option (List A × List ℕ)) → left_after (go_on {A = A × List A} (go_on o (λ b. given (a, b))) (λ p. given (p.0 ∷ p.1))) ≡ left_after o
    rest_of_list a None = refl
    rest_of_list a (Some p) = refl

    go : (o : Option (A × List ℕ)) → ((x : List ℕ) → left_after (so_many r n x) ≡ after_many (λ x. left_after (r x)) n x) →
        left_after (go_on {A = A × List A} (go_on o (λ a. made (λ b. (a, b)) (so_many r n))) (λ p. given (p.0 ∷ p.1))) ≡
        option_and_then (after_many (λ x. left_after (r x)) n) (left_after o)
    go None more = refl
    go (Some p) more = rest_of_list p.0 (so_many r n p.1) ∙ more p.1

pub listed_after :
    {A : Type 0} (most : ℕ) (r : Reader A) (bs : List ℕ) → left_after (listed most r bs) ≡ after_counted (λ x. left_after (r x)) (only (λ n. leb n most) read_number bs)
unfolding listed
listed_after {A = A} most r bs = go (only (λ n. leb n most) read_number bs)
  where
    go : (o : Option (ℕ × List ℕ)) → left_after (go_on o (so_many r)) ≡ after_counted (λ x. left_after (r x)) o
    go None = refl
    go (Some p) = so_many_after r p.0 p.1

-- how a range of numbers gives its next one
abbrev pub range_steps : Range ℕ → Option ℕ → Range ℕ → Type 0
range_steps s o t = (t.end ≡ s.end) × MatchOption o ((s.end - s.start ≡ 0) × (t.start ≡ s.start)) (λ x. (0 < s.end - s.start) × (x ≡ s.start) × (t.start ≡ s.start + 1))

-- calls that are folded over a range, each of which answers what is left after one more
module _ {F : Type 0} (g : Mut F (Bor (List ℕ) × (ℕ × Unit {0})) (Option (Bor (List ℕ)))) (one : List ℕ → Option (List ℕ)) (f : F)
    (called : (a : Bor (List ℕ)) (x : ℕ) (v : Option (Bor (List ℕ))) (f' : F) → Called g f (a, (x, tt)) v f' → (option_map (λ y. y.now) v ≡ one a.now) × (f' ≡ f)) where
  abbrev turn : F × Bor (List ℕ) → ℕ → F × Bor (List ℕ) → Type 0
  turn p x q = (v : Option (Bor (List ℕ))) × Called g p.0 (p.1, (x, tt)) v q.0 × (v ≡ Some q.1)

  turns : (xs : List ℕ) (s t : Range ℕ) (a b : Bor (List ℕ)) (f' : F) → Yields range_steps s xs t → FoldsTo turn (f, a) xs (f', b) →
      (after_many one (s.end - s.start) a.now ≡ after_many one (t.end - t.start) b.now) × (f' ≡ f)
  unfolding after_many
  turns [] s t a b f' y e = (
    ap (λ (q : Range ℕ). after_many one (q.end - q.start) a.now) y ∙ ap (λ (q : F × Bor (List ℕ)). after_many one (t.end - t.start) q.1.now) e,
    sym (ap (λ (q : F × Bor (List ℕ)). q.0) e),
  )
  turns (x ∷ xs) s t a b f' y e =
      let h = called a x e.1.0 e.0.0 e.1.1 in
      let n : s.end - s.start ≡ suc (y.0.end - y.0.start) = omega (arith, y.1.0, y.1.1.0, y.1.1.2) in
      let left : one a.now ≡ Some e.0.1.now = sym h.0 ∙ ap (option_map (λ y. y.now)) e.1.2 in
      let more = turns xs y.0 t e.0.1 b f' y.2 (subst (λ (q : F). FoldsTo turn (q, e.0.1) xs (f', b)) h.1 e.2) in
      (rw (n, left) more.0, more.1)

  pub folded_after :
      {E : Type 0} (n : ℕ) (u : Range ℕ) (a : Bor (List ℕ)) (r : Option (Bor (List ℕ))) →
      (xs : List ℕ) × (o : Option ℕ) × (f' : F) × (b : Bor (List ℕ)) × YieldsThen range_steps (record { start = 0; end = n }) xs o u × FoldsTo turn (f, a) xs (f', b)
      × MatchOption o (r ≡ Some b) (λ x. (v : Option (Bor (List ℕ))) × (h : F) × (e : E) × Called g f' (b, (x, tt)) v h × (v ≡ None) × (r ≡ None)) →
      option_map (λ y. y.now) r ≡ after_many one n a.now
  unfolding after_many
  folded_after {E} n u a r (xs, o, f', b, (t, y, step), folds, last) =
      let h = turns xs (record { start = 0; end = n }) t a b f' y folds in
      let all : n - 0 ≡ n = omega arith in
      go o step last h.1 ∙ sym h.0 ∙ ap (λ k. after_many one k a.now) all
    where
      go : (o : Option ℕ) → range_steps t o u →
          MatchOption o (r ≡ Some b) (λ x. (v : Option (Bor (List ℕ))) × (h : F) × (e : E) × Called g f' (b, (x, tt)) v h × (v ≡ None) × (r ≡ None)) → f' ≡ f →
          option_map (λ y. y.now) r ≡ after_many one (t.end - t.start) b.now
      go None step last same = rw (last, step.1.0)
      go (Some x) step last same =
          let h = called b x last.0 last.1 (subst (λ (q : F). Called g q (b, (x, tt)) last.0 last.1) same last.3) in
          let n : t.end - t.start ≡ suc (t.end - t.start - 1) = omega (arith, step.1.0) in
          let none : one b.now ≡ None = sym h.0 ∙ ap (option_map (λ y. y.now)) last.4 in
          rw (last.5, n, none)
