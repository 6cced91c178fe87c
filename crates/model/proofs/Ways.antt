-- How ways grow: a house adds letters that wait for others, and takes none away.
use Rattle.std.proofs.Common.{◌≡◌, ℕ, ◌<◌, ◌≤◌, ◌≢◌, ◌⊎◌, List, [], ◌∷◌, ◌++◌, length, sym, refl, ap, ◌∙◌, inl, inr}
use Rattle.std.proofs.lemmas.List.{append_assoc, append-nil, set_past}
use Rattle.std.proofs.lemmas.Bool.{cases_eq, cases_lt}
use Rattle.model.specs.House.{Command, House, Out, Way, turn, way_at, set_way, deliver, come}
use Rattle.model.proofs.Places.{set_way_is, way_at_same, way_at_other, length_set_way}
use Rattle.model.proofs.Delivery.{deliver_keeps, deliver_taken}
use Rattle.model.proofs.Turns.{turn_keeps}

-- a way with more letters at its end
pub record Longer (u v : Way) : Type 0 where
  pub sent : v.sent ≡ u.sent
  pub more : List Out
  pub waiting : v.waiting ≡ u.waiting ++ more

pub longer_same : (u : Way) → Longer u u
longer_same u = record { sent = refl; more = []; waiting = sym (append-nil u.waiting) }

longer_push : (u v : Way) (o : Out) → Longer u v → Longer u (record { sent = v.sent; waiting = v.waiting ++ o ∷ [] })
longer_push u v o l =
    record { sent = l.sent; more = l.more ++ o ∷ []; waiting = ap (λ (os : List Out). os ++ o ∷ []) l.waiting ∙ append_assoc u.waiting l.more (o ∷ []) }

-- the ways of house c, its own as it was
pub record Grown (c : ℕ) (us vs : List Way) : Type 0 where
  pub length_is : length vs ≡ length us
  pub own : way_at vs c ≡ way_at us c
  pub each : (e : ℕ) → Longer (way_at us e) (way_at vs e)

pub grown_same : (c : ℕ) (us : List Way) → Grown c us us
grown_same c us = record { length_is = refl; own = refl; each = λ e. longer_same (way_at us e) }

set_way_past : (ws : List Way) (d : ℕ) (v : Way) → length ws ≤ d → set_way ws d v ≡ ws
set_way_past ws d v h = rw set_way_is (set_past ws d v h)

pub grown_push : (c : ℕ) (us vs : List Way) (d : ℕ) (o : Out) → d ≢ c → Grown c us vs →
    Grown c us (set_way vs d (record { sent = (way_at vs d).sent; waiting = (way_at vs d).waiting ++ o ∷ [] }))
grown_push c us vs d o ne g =
    record {
      length_is = length_set_way vs d _ ∙ g.length_is;
      own = way_at_other vs d c _ (λ e. ne (sym e)) ∙ g.own;
      each = λ e. at_place e (cases_eq e d) (cases_lt d (length vs));
    }
  where
    new : Way
    new = record { sent = (way_at vs d).sent; waiting = (way_at vs d).waiting ++ o ∷ [] }

    at_place : (e : ℕ) → (e ≡ d) ⊎ (e ≡ d → ⊥) → (d < length vs) ⊎ (length vs ≤ d) → Longer (way_at us e) (way_at (set_way vs d new) e)
    at_place e (inl q) (inl l) = rw (q, way_at_same vs d new l) (longer_push (way_at us d) (way_at vs d) o (g.each d))
    at_place e (inl q) (inr l) = rw (set_way_past vs d new l) (g.each e)
    at_place e (inr n) l = rw (way_at_other vs d e new n) (g.each e)

pub deliver_grown : (n c : ℕ) (bs : List ℕ) (h : House) (a : ℕ) → Grown c h.ways (deliver n c bs h a).ways
deliver_grown n c bs h a =
    deliver_keeps (λ g. Grown c h.ways g.ways) c (λ g b ms bs₁ ns q. q) (λ g d o ne q. grown_push c h.ways g.ways d o ne q) n bs h a (grown_same c h.ways)

pub come_grown : (c d : ℕ) (os : List Out) (us : List Way) (g : House) → Grown d us g.ways → Grown d us (come c d os g).ways
unfolding come
come_grown c d [] us g q = q
come_grown c d (o ∷ os) us g q =
    come_grown c d os us _
    (deliver_keeps (λ k. Grown d us k.ways) d (λ k b ms bs ns r. r) (λ k e p ne r. grown_push d us k.ways e p ne r) o.left o.bytes g o.person q)

-- a turn of house c takes nothing, and its ways grow
abbrev pub Apart : ℕ → House → House → Type 0
Apart c h g = Grown c h.ways g.ways × (g.taken ≡ h.taken)

pub turn_apart : (n c : ℕ) (h : House) (a : Command) → Apart c h (turn n c h a).next
turn_apart n c h = turn_keeps (Apart c h) n c h (record {
  none = stays;
  joins = λ nm. stays;
  delivers = λ a bs. (deliver_grown 16 c bs h a, deliver_taken 16 c bs h a);
  waits = λ d o l ne. (grown_push c h.ways h.ways d o ne (grown_same c h.ways), refl);
  makes = λ a nm e. stays;
  drops = λ a nm e. stays;
  marks = λ a nm i m v b. stays;
  moves = λ a nm i o l b b₁ s e. stays;
  clears = λ a nm b. stays;
  rules = λ a rs l e. stays;
})
  where
    stays : Grown c h.ways h.ways × (h.taken ≡ h.taken)
    stays = (grown_same c h.ways, refl)
