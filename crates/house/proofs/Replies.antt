-- How a house that was written to works on a radio letter until it replies; run for long enough it replies so, and cut off after any number of acts it is safe.
use Rattle.std.proofs.Common.{◌≡◌, ℕ, zero, suc, ◌<◌, Bool, true, false, ◌⊎◌, List, [], ◌∷◌, refl, ap, inl, inr, arith}
use Rattle.model.specs.Device.{Device}
use Rattle.model.specs.Run.{Engine, Event, send, Step, World, in_memory, Replied, replies, reply_act, a_letter}
use Rattle.house.proofs.Fronts.{world, step_to}
use Rattle.house.proofs.Works.{Works, leads, works_read, works_write, works_flush}

-- the next act is the reply, and the house is then as said
pub record RepliesNow (e : Engine) (Safe : Device → Type 0) (r : List ℕ) (v' : World) (v : World) (ev : Event) : Type 0 where
  pub safe : Safe v.device
  pub to : ℕ
  pub sends : (e.step v.memory ev).act ≡ send to r
  pub short : a_letter r ≡ true
  pub after : in_memory v (e.step v.memory ev).memory ≡ v'

-- the course of a letter at the house that hears it: at most so many acts, and then the reply
abbrev pub ReplyCourse : (e : Engine) (Safe : Device → Type 0) (r : List ℕ) (v' : World) → ℕ → World → Event → Type 0
ReplyCourse e Safe r v' n v ev = Works e Safe (λ u ev₁. RepliesNow e Safe r v' u ev₁) n v ev

-- the reply, from what the step is
pub then_replies : (e : Engine) (Safe : Device → Type 0) (u : Bool) (d : Device) (m m₁ : List ℕ) (ev : Event) (to : ℕ) (r : List ℕ) → e.step m ev ≡ step_to m₁ (send to r) → a_letter r ≡ true → Safe d
    → RepliesNow e Safe r (world u d m₁) (world u d m) ev
then_replies e Safe u d m m₁ ev to r q ok s = record { safe = s; to = to; sends = ap (λ (x : Step). x.act) q; short = ok; after = ap (λ (x : Step). world u d x.memory) q }

-- work that ends in some reply, and a world, of which something holds
module _ (e : Engine) (Safe : Device → Type 0) (Final : List ℕ → World → Type 0) where
  pub works_replies : {n : ℕ} {v : World} {ev : Event} → Works e Safe (λ u ev₁. (r : List ℕ) × (v' : World) × RepliesNow e Safe r v' u ev₁ × Final r v') n v ev
      → (r : List ℕ) × (v' : World) × ReplyCourse e Safe r v' n v ev × Final r v'
  works_replies (leads t) = (t.0, t.1, leads t.2, t.3)
  works_replies (works_read k l s a c) = let g = works_replies c in (g.0, g.1, works_read k l s a g.2, g.3)
  works_replies (works_write k p l s a ok c) = let g = works_replies c in (g.0, g.1, works_write k p l s a ok g.2, g.3)
  works_replies (works_flush l s a c) = let g = works_replies c in (g.0, g.1, works_flush l s a g.2, g.3)

abbrev pub replied : World → List ℕ → Replied
replied v r = record { world = v; letter = r ∷ []; cut = false }

module _ (e : Engine) (Safe : Device → Type 0) (r : List ℕ) (v' : World) where
  -- with one act more than the work takes, it has replied
  pub whole_reply : {n : ℕ} {v : World} {ev : Event} → ReplyCourse e Safe r v' n v ev → (m : ℕ) → n < m → replies m e v ev ≡ replied v' r
  unfolding replies reply_act
  whole_reply (leads t) zero h = absurd (omega arith)
  whole_reply (leads t) (suc m) h = rw (t.sends, t.short, t.after)
  whole_reply (works_read k l s a c) zero h = absurd (omega arith)
  whole_reply (works_read k l s a c) (suc m) h = rw a (whole_reply c m (omega arith))
  whole_reply (works_write k p l s a ok c) zero h = absurd (omega arith)
  whole_reply (works_write k p l s a ok c) (suc m) h = rw (a, ok) (whole_reply c m (omega arith))
  whole_reply (works_flush l s a c) zero h = absurd (omega arith)
  whole_reply (works_flush l s a c) (suc m) h = rw a (whole_reply c m (omega arith))

  pub safe_first : {n : ℕ} {v : World} {ev : Event} → ReplyCourse e Safe r v' n v ev → Safe v.device
  safe_first (leads t) = t.safe
  safe_first (works_read k l s a c) = s
  safe_first (works_write k p l s a ok c) = s
  safe_first (works_flush l s a c) = s

  -- after any number of acts: it has replied so, or its acts ran out and its device is safe
  pub cut_reply : {n : ℕ} {v : World} {ev : Event} → ReplyCourse e Safe r v' n v ev → (m : ℕ)
      → (replies m e v ev ≡ replied v' r) ⊎ (((replies m e v ev).cut ≡ true) × Safe (replies m e v ev).world.device)
  unfolding replies reply_act
  cut_reply (leads t) zero = inr (refl, t.safe)
  cut_reply (leads t) (suc m) = rw (t.sends, t.short, t.after) (inl refl)
  cut_reply (works_read k l s a c) zero = inr (refl, s)
  cut_reply (works_read k l s a c) (suc m) = rw a (cut_reply c m)
  cut_reply (works_write k p l s a ok c) zero = inr (refl, s)
  cut_reply (works_write k p l s a ok c) (suc m) = rw (a, ok) (cut_reply c m)
  cut_reply (works_flush l s a c) zero = inr (refl, s)
  cut_reply (works_flush l s a c) (suc m) = rw a (cut_reply c m)

  -- in either case its device is safe
  pub safe_reply : {n : ℕ} {v : World} {ev : Event} → ReplyCourse e Safe r v' n v ev → (m : ℕ) → Safe (replies m e v ev).world.device
  unfolding replies reply_act
  safe_reply (leads t) zero = t.safe
  safe_reply (leads t) (suc m) = rw t.sends t.safe
  safe_reply (works_read k l s a c) zero = s
  safe_reply (works_read k l s a c) (suc m) = rw a (safe_reply c m)
  safe_reply (works_write k p l s a ok c) zero = s
  safe_reply (works_write k p l s a ok c) (suc m) = rw (a, ok) (safe_reply c m)
  safe_reply (works_flush l s a c) zero = s
  safe_reply (works_flush l s a c) (suc m) = rw a (safe_reply c m)
