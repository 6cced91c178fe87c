-- Lists of bytes: the parts of one are lists of bytes too, and so is what a slice of bytes holds.
use Rattle.std.proofs.Common.{◌≡◌, ℕ, zero, suc, true, ltb, List, [], ◌∷◌, ◌++◌, get_or, take, refl, w8, Fits}
use Rattle.std.proofs.lemmas.Bool.{and_parts, and_from, lt-ltb}
use Rattle.model.specs.Mail.{all_bytes}

-- from what is known of a slice of bytes
pub all_bytes_typed : (bs : List ℕ) → ((i : ℕ) → Fits w8 (get_or bs i 0)) → all_bytes bs ≡ true
all_bytes_typed [] h = refl
all_bytes_typed (b ∷ bs) h = and_from (ltb b 256) (all_bytes bs) (lt-ltb b 256 (h 0).fits) (all_bytes_typed bs (λ i. h (suc i)))

pub all_bytes_take : (n : ℕ) (bs : List ℕ) → all_bytes bs ≡ true → all_bytes (take n bs) ≡ true
all_bytes_take zero bs t = refl
all_bytes_take (suc n) [] t = refl
all_bytes_take (suc n) (b ∷ bs) t = let ts = and_parts (ltb b 256) (all_bytes bs) t in and_from (ltb b 256) (all_bytes (take n bs)) ts.0 (all_bytes_take n bs ts.1)

pub all_bytes_parts : (bs cs : List ℕ) → all_bytes (bs ++ cs) ≡ true → (all_bytes bs ≡ true) × (all_bytes cs ≡ true)
all_bytes_parts [] cs t = (refl, t)
all_bytes_parts (b ∷ bs) cs t =
    let ts = and_parts (ltb b 256) (all_bytes (bs ++ cs)) t in
    let h = all_bytes_parts bs cs ts.1 in
    (and_from (ltb b 256) (all_bytes bs) ts.0 h.0, h.1)
