-- What a stop leaves of writes to other pages.
use Rattle.std.proofs.Common.{◌≡◌, ℕ, Bool, true, false, eqb, ◌≢◌, List, [], ◌∷◌, sym, refl, ◌∙◌}
use mathlib.Core.Bool.{false≢true}
use borrow.Author.Tests.{eqb-false}
use Rattle.model.specs.Mail.{pick}
use Rattle.model.specs.Device.{Page, Write, set_page, page_at, half, left, flushed}
use Rattle.model.specs.Promise.{FlushedStays, elsewhere}
use Rattle.model.proofs.Places.{page_at_other}

-- a write to another page, whether none of it, all of it or its first half came onto its page
step_other : (c : ℕ) (w : Write) (ps : List Page) (k : ℕ) → k ≢ w.at →
    page_at (pick (eqb c 1) (set_page ps w.at w.page) (pick (eqb c 2) (set_page ps w.at (half w.page (page_at ps w.at))) ps)) k ≡ page_at ps k
step_other c w ps k ne = go (eqb c 1) (eqb c 2)
  where
    go : (a b : Bool) → page_at (pick a (set_page ps w.at w.page) (pick b (set_page ps w.at (half w.page (page_at ps w.at))) ps)) k ≡ page_at ps k
    go true b = page_at_other ps w.at k w.page ne
    go false true = page_at_other ps w.at k (half w.page (page_at ps w.at)) ne
    go false false = refl

elsewhere_first : (k : ℕ) (q : Write) (qs : List Write) → elsewhere k (q ∷ qs) ≡ true → (k ≢ q.at) × (elsewhere k qs ≡ true)
unfolding elsewhere
elsewhere_first k q qs = go (eqb q.at k) refl
  where
    go : (b : Bool) → eqb q.at k ≡ b → pick b false (elsewhere k qs) ≡ true → (k ≢ q.at) × (elsewhere k qs ≡ true)
    go true e h = absurd (false≢true h)
    go false e h = ((λ s. eqb-false q.at k e (sym s)), h)

pub left_other : (k : ℕ) (qs : List Write) (ps : List Page) (cs : List ℕ) → elsewhere k qs ≡ true → page_at (left ps qs cs) k ≡ page_at ps k
unfolding left
left_other k [] ps cs h = refl
left_other k (q ∷ qs) ps [] h = refl
left_other k (q ∷ qs) ps (c ∷ cs) h =
    left_other k qs _ cs (elsewhere_first k q qs h).1 ∙ step_other c q ps k (elsewhere_first k q qs h).0

pub flushed_stays : FlushedStays
unfolding FlushedStays
flushed_stays d qs cs k h = left_other k qs (flushed d).pages cs h
