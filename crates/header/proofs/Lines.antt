-- Laws of a letter's lines and of the values of a field: what a walk over the head goes by, free of the bound on the number of lines.
use Rattle.std.proofs.Common.{◌≡◌, ℕ, zero, suc, ◌+◌, ◌<◌, ◌≤◌, false, ◌&&◌, eqb, List, [], ◌∷◌, ◌++◌, length, take, drop, sym, refl, ap, ◌∙◌, inl, inr, arith, length-append, length-drop, ne_eqb}
use Rattle.std.specs.Cmp.Lexicographic.{pointwise}
use Rattle.std.specs.List.{position_or_len, IsSplitAt}
use Rattle.std.proofs.lemmas.Bool.{cases_Bool, cases_eq}
use Rattle.model.specs.Mail.{pick, small, smalls, same, each, those, none_of, line_of, after_line, head_lines, starts_with, no_blanks, field}
use Rattle.header.specs.Head.{lines_of, of_field, LineValue}
use Rattle.header.proofs.Small.{length_each, drop_each, small_of_low, starts_with_short, starts_with_append, starts_with_front, no_blanks_smalls, length_no_blanks, one_more}

-- a line is what stands before the first end of a line, and what follows it is what stands after that

pub line_of_first : (bs : List ℕ) → line_of bs ≡ take (position_or_len (λ b. eqb b 10) bs) bs
unfolding line_of
line_of_first [] = refl
line_of_first (c ∷ cs) =
    elim (cases_Bool (eqb c 10)) [ inl e ↦ rw e | inr e ↦ rw (e, one_more (position_or_len (λ b. eqb b 10) cs)) (ap (λ l. c ∷ l) (line_of_first cs)) ]

pub after_line_first : (bs : List ℕ) → after_line bs ≡ drop (suc (position_or_len (λ b. eqb b 10) bs)) bs
unfolding after_line
after_line_first [] = refl
after_line_first (c ∷ cs) =
    elim (cases_Bool (eqb c 10)) [ inl e ↦ rw e | inr e ↦ rw (e, one_more (position_or_len (λ b. eqb b 10) cs)) (after_line_first cs) ]

length_line_of : (bs : List ℕ) → length (line_of bs) ≤ length bs
unfolding line_of
length_line_of [] = omega arith
length_line_of (c ∷ cs) = elim (cases_Bool (eqb c 10)) [ inl e ↦ rw e (omega arith) | inr e ↦ rw e (omega (arith, length_line_of cs)) ]

-- with the line's end, each line shortens what is left
pub length_after_line : (c : ℕ) (cs : List ℕ) → length (after_line (c ∷ cs)) ≤ length cs
length_after_line c cs = rw (after_line_first (c ∷ cs), length-drop) (omega arith)

length_after : (bs : List ℕ) → length (after_line bs) ≤ length bs
unfolding after_line
length_after [] = omega arith
length_after (c ∷ cs) = omega (arith, length_after_line c cs)

-- any bound will do that is not below the number of bytes
pub head_lines_enough : (n m : ℕ) (bs : List ℕ) → length bs ≤ n → length bs ≤ m → head_lines n bs ≡ head_lines m bs
unfolding head_lines line_of
head_lines_enough zero zero bs p q = refl
head_lines_enough zero (suc m) [] p q = refl
head_lines_enough zero (suc m) (c ∷ cs) p q = absurd (omega arith)
head_lines_enough (suc n) zero [] p q = refl
head_lines_enough (suc n) zero (c ∷ cs) p q = absurd (omega arith)
head_lines_enough (suc n) (suc m) [] p q = refl
head_lines_enough (suc n) (suc m) (c ∷ cs) p q =
    ap
    (λ ls. pick (none_of (line_of (c ∷ cs))) [] (line_of (c ∷ cs) ∷ ls))
    (head_lines_enough n m (after_line (c ∷ cs)) (omega (arith, length_after_line c cs)) (omega (arith, length_after_line c cs)))

-- the head ends at an empty line
pub lines_end : (bs : List ℕ) → line_of bs ≡ [] → lines_of bs ≡ []
unfolding head_lines
lines_end [] e = refl
lines_end (c ∷ cs) e = rw e

some_line : (ls : List ℕ) → 0 < length ls → none_of ls ≡ false
some_line [] l = absurd (omega arith)
some_line (c ∷ cs) l = refl

pub lines_more : (bs : List ℕ) → 0 < length (line_of bs) → lines_of bs ≡ line_of bs ∷ lines_of (after_line bs)
unfolding head_lines line_of
lines_more [] l = absurd (omega arith)
lines_more (c ∷ cs) l =
    rw
    (some_line (line_of (c ∷ cs)) l)
    (ap (λ ls. line_of (c ∷ cs) ∷ ls) (head_lines_enough (length cs) (length (after_line (c ∷ cs))) (after_line (c ∷ cs)) (length_after_line c cs) (omega arith)))

-- a line of the field gives its value before those of the lines after it, and another line gives none

pub field_value : (name bs line rest value : List ℕ) → lines_of bs ≡ line ∷ lines_of rest → LineValue name line value → field name bs ≡ smalls value ∷ field name rest
field_value name bs line rest value e v =
    rw (e, v.named, v.value_is, no_blanks_smalls (drop (1 + length name) line), ← drop_each small (1 + length name) line)

pub field_other : (name bs line rest : List ℕ) → lines_of bs ≡ line ∷ lines_of rest → of_field name line ≡ false → field name bs ≡ field name rest
field_other name bs line rest e n = rw (e, n)

pub field_end : (name bs : List ℕ) → lines_of bs ≡ [] → field name bs ≡ []
field_end name bs e = rw e

-- a line of the field: its name, in small letters or capitals, and a colon
of_field_is : (name line : List ℕ) → of_field name line ≡ starts_with (smalls name) (smalls line) && starts_with (58 ∷ []) (smalls (drop (length name) line))
of_field_is name line = starts_with_append (smalls name) (58 ∷ []) (smalls line) ∙ rw (length_each small name, drop_each small (length name) line)

eqb_comm : (a b : ℕ) → eqb a b ≡ eqb b a
eqb_comm a b = elim (cases_eq a b) [ inl e ↦ rw e | inr n ↦ rw (ne_eqb a b n, ne_eqb b a (λ e. n (sym e))) ]

colon_first : (bs : List ℕ) → starts_with (58 ∷ []) (smalls bs) ≡ pointwise eqb (take 1 bs) (58 ∷ [])
unfolding starts_with
colon_first [] = refl
colon_first (c ∷ cs) = rw (eqb_comm 58 (small c), small_of_low c 58 (omega arith))

pub of_field_split : (name line front rest : List ℕ) → IsSplitAt line (length name) front rest →
    of_field name line ≡ same (smalls name) (smalls front) && pointwise eqb (take 1 rest) (58 ∷ [])
of_field_split name line front rest h =
    of_field_is name line ∙ rw (h.1, h.2, starts_with_front name line h.0, colon_first (drop (length name) line))

pub of_field_short : (name line : List ℕ) → length line ≤ length name → of_field name line ≡ false
of_field_short name line l = starts_with_short (smalls name ++ 58 ∷ []) (smalls line) (rw (length-append, length_each small name, length_each small line) (omega arith))

-- a value is no longer than the letter

first_of_head : (name : List ℕ) (n : ℕ) (bs v : List ℕ) (vs : List (List ℕ)) →
    each (λ l. no_blanks (drop (1 + length name) (smalls l))) (those (of_field name) (head_lines n bs)) ≡ v ∷ vs → length v ≤ length bs
unfolding head_lines
first_of_head name zero bs v vs e = absurd cc
first_of_head name (suc n) bs v vs e =
    elim (cases_Bool (none_of (line_of bs))) [
      | inl t ↦ absurd (cc (rw t at e))
      | inr t ↦
          elim (cases_Bool (of_field name (line_of bs))) [
            | inl f ↦
                let v_is : no_blanks (drop (1 + length name) (smalls (line_of bs))) ≡ v = cc (rw (t, f) at e) in
                rw (← v_is) (omega (arith, length_no_blanks (drop (1 + length name) (smalls (line_of bs))), length-drop (1 + length name) (smalls (line_of bs)), length_each small (line_of bs), length_line_of bs))
            | inr f ↦ omega (arith, first_of_head name n (after_line bs) v vs (rw (t, f) at e), length_after bs)
          ]
    ]

pub first_fits : (name bs v : List ℕ) (vs : List (List ℕ)) → field name bs ≡ smalls v ∷ vs → length v ≤ length bs
first_fits name bs v vs e = omega (arith, first_of_head name (length bs) bs (smalls v) vs e, length_each small v)
