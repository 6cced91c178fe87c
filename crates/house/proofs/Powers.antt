-- Power-up: which way the definition goes, from the tests of the code.
use Rattle.std.proofs.Common.{Result, IsOk, OnOk, ◌↔◌, ◌≡◌, ℕ, ◌+◌, ◌-◌, ◌*◌, ◌<◌, ◌≤◌, Bool, true, false, ◌&&◌, ltb, leb, ◌⊎◌, List, [], ◌∷◌, length, get_or, take, drop, sym, refl, ap, ◌∙◌, inl, inr, arith}
use mathlib.Core.Bool.{false≢true}
use borrow.Rule.Slice.PartMut.{put_mid}
use Rattle.std.proofs.lemmas.Bool.{eq-eqb, ne_eqb, lt-ltb, le-ltb, le-leb, lt-leb}
use Rattle.model.specs.Run.{read, done}
use Rattle.pages.specs.Words.{words_in, part, patched}
use Rattle.pages.specs.Geometry.{selector_pages, directory_pages, selector_place, table_place}
use Rattle.pages.proofs.Words.{length_part, part_patched_after, part_patched_before}
use Rattle.mailboxes.specs.Directory.{first_directory}
use Rattle.mailboxes.proofs.Changes.{length_first_directory}
use Rattle.mailboxes.proofs.Room.{ok_gives}
use Rattle.house.specs.declared.phase.Phase.TheVariants.{ReadSelectors, ReadDirectory, Idle}
use Rattle.house.specs.Memory.{memory_len, area_of}
use Rattle.house.specs.Machine.{refuse, go, powered_up, first_house_made, header_read, selectors_read, directory_read, with_selectors}
use Rattle.house.specs.Does.{directory_asked}
use Rattle.house.proofs.Touches.{selector_words_most}
use Rattle.house.proofs.Writes.{lent_range, put_range}

-- power
module _ (c n P : ℕ) (m : List ℕ) (long : length m ≡ 262144) where
  pub power_taken : c < n → n ≤ 16 → (leb 256 P && leb P 1048576) ≡ true →
      powered_up c n P m ≡ record { memory = patched m 0 (1 ∷ 0 ∷ 0 ∷ c ∷ n ∷ P ∷ 0 ∷ []); act = read 0 }
  unfolding powered_up
  power_taken a b s = rw (eq-eqb (length m) memory_len long, lt-ltb c n a, le-leb n 16 b, s)

  pub power_no_house : (n ≤ c) ⊎ ((c < n) × (16 < n)) → powered_up c n P m ≡ refuse 1 m
  unfolding powered_up
  power_no_house (inl a) = rw (eq-eqb (length m) memory_len long, le-ltb c n a)
  power_no_house (inr (a, b)) = rw (eq-eqb (length m) memory_len long, lt-ltb c n a, lt-leb n 16 b)

  pub power_no_size : c < n → n ≤ 16 → (leb 256 P && leb P 1048576) ≡ false → powered_up c n P m ≡ refuse 1 m
  unfolding powered_up
  power_no_size a b s = rw (eq-eqb (length m) memory_len long, lt-ltb c n a, le-leb n 16 b, s)

-- the first directory, written over lent words behind a header
pub first_written : {E : Type 0} (m m₁ hs : List ℕ) (n b e : ℕ) (r : Result (Unit {0}) E) (new : List ℕ) → length m ≡ 262144 → b ≡ 2272 → e ≡ 2272 + n → 3168 ≤ e → e ≤ 199776 → length hs ≡ 7 → m₁ ≡ patched m 64 hs →
    IsOk r ↔ (876 ≤ length (take (e - b) (drop b m₁))) →
    OnOk r (new ≡ first_directory (take (e - b) (drop b m₁))) →
    put_mid b (e - b) m₁ new ≡ patched (patched m 64 hs) 2272 (first_directory (part m 2272 n))
first_written m m₁ hs n b e r new long start end some most seven head f w =
    let old : List ℕ = take (e - b) (drop b m₁) in
    let lent : old ≡ part m 2272 n =
    lent_range m₁ b e 2272 n start end ∙ ap (λ l. part l 2272 n) head ∙ part_patched_after m 64 hs 2272 n (omega arith) (omega arith) in
    let size : length (part m 2272 n) ≡ n = length_part m 2272 n (omega arith) in
    let first : new ≡ first_directory (part m 2272 n) = ok_gives r (f.1 (omega (arith, ap length lent, size))) w ∙ ap first_directory lent in
    put_range m₁ b e 2272 n new start end (ap length first ∙ length_first_directory (part m 2272 n) (omega arith) ∙ size)
    ∙ ap (λ l. patched m₁ 2272 l) first ∙ ap (λ l. patched l 2272 (first_directory (part m 2272 n))) head

-- the header
module _ (P : ℕ) (p m : List ℕ) where
  pub header_none : get_or (words_in 32 p) 0 0 ≡ 0 → header_read P p m ≡ go Idle done (first_house_made P m)
  unfolding header_read
  header_none e = rw (eq-eqb (get_or (words_in 32 p) 0 0) 0 e)

  pub header_wrong : (get_or (words_in 32 p) 0 0 ≡ 0 → ⊥) → ltb (get_or (words_in 32 p) 1 0) 2 ≡ false → header_read P p m ≡ refuse 1 m
  unfolding header_read
  header_wrong n a = rw (ne_eqb (get_or (words_in 32 p) 0 0) 0 n, a)

  pub header_right : (get_or (words_in 32 p) 0 0 ≡ 0 → ⊥) → ltb (get_or (words_in 32 p) 1 0) 2 ≡ true →
      header_read P p m ≡ go (ReadSelectors 0) (read (selector_place P (get_or (words_in 32 p) 1 0) 0)) (patched m 64 (words_in 32 p))
  unfolding header_read
  header_right n a = rw (ne_eqb (get_or (words_in 32 p) 0 0) 0 n, a)

-- a selector page
module _ (P q : ℕ) (p m : List ℕ) where
  pub selectors_wrong : selector_pages P ≤ q → selectors_read P q p m ≡ refuse 1 m
  unfolding selectors_read
  selectors_wrong h = rw (le-ltb q (selector_pages P) h)

  pub selectors_more : q < selector_pages P → ltb (q + 1) (selector_pages P) ≡ true →
      selectors_read P q p m ≡ go (ReadSelectors (q + 1)) (read (selector_place P (area_of m) (q + 1))) (with_selectors q p m)
  unfolding selectors_read
  selectors_more h k = rw (lt-ltb q (selector_pages P) h, k)

  pub selectors_last : q < selector_pages P → ltb (q + 1) (selector_pages P) ≡ false → selectors_read P q p m ≡ directory_asked P 0 (with_selectors q p m)
  unfolding selectors_read
  selectors_last h k = rw (lt-ltb q (selector_pages P) h, k)

-- a page of the directory
coming_kept : (m ws : List ℕ) (n t : ℕ) → n ≤ 1088 → length m ≡ 262144 → t < 3086 → part (patched m (2272 + 64 * t) ws) 1184 n ≡ part m 1184 n
coming_kept m ws n t h long few = part_patched_before m (2272 + 64 * t) ws 1184 n (omega arith) (omega arith)

module _ (P t : ℕ) (p m : List ℕ) where
  pub directory_wrong : directory_pages P ≤ t → directory_read P t p m ≡ refuse 1 m
  unfolding directory_read
  directory_wrong h = rw (le-ltb t (directory_pages P) h)

  pub directory_more : P ≤ 1048576 → length m ≡ 262144 → t < 3086 → t < directory_pages P → t + 1 < directory_pages P →
      directory_read P t p m ≡ directory_asked P (t + 1) (patched m (2272 + 64 * t) (words_in 64 p))
  unfolding directory_read
  directory_more most long few h k =
      rw (lt-ltb t (directory_pages P) h, lt-ltb (t + 1) (directory_pages P) k)
      (ap (λ ws. go (ReadDirectory (t + 1)) (read (table_place P ws (t + 1))) (patched m (2272 + 64 * t) (words_in 64 p)))
      (sym (coming_kept m (words_in 64 p) (64 * selector_pages P) t (selector_words_most P most) long few)))

  pub directory_last : t < directory_pages P → directory_pages P ≤ t + 1 → directory_read P t p m ≡ go Idle done (patched m (2272 + 64 * t) (words_in 64 p))
  unfolding directory_read
  directory_last h k = rw (lt-ltb t (directory_pages P) h, le-ltb (t + 1) (directory_pages P) k)

-- the header's words, read from a page
pub header_loaded : {E : Type 0} (p : List ℕ) (r : Result (Unit {0}) E) (new : List ℕ) → length p ≡ 512 → IsOk r ↔ (256 ≤ length p) → OnOk r (new ≡ words_in 32 p) → new ≡ words_in 32 p
header_loaded p r new long f w = ok_gives r (f.1 (omega arith)) w

-- of two tests that do not both hold, the first fails where the second holds
pub no_area : (a b : Bool) → b ≡ true → (a && b) ≡ false → a ≡ false
no_area true b t f = absurd (false≢true (sym f ∙ t))
no_area false b t f = refl

pub no_page : (a b : Bool) → a ≡ true → (a && b) ≡ false → b ≡ false
no_page true b t f = f
no_page false b t f = absurd (false≢true t)
