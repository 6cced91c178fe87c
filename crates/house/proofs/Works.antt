-- A house at work by itself: reads, writes and flushes, at most so many, from one state to another of which something holds. A procedure that does just that
-- (a commit, a walk along a chain) is proved once in this form; then it stands in a command, in the work on a radio letter, and in the middle of a push.
use Rattle.std.proofs.Common.{◌≡◌, ℕ, suc, ◌+◌, ◌<◌, ◌≤◌, Bool, true, List, sym, ap, subst, arith}
use Rattle.model.specs.Device.{Device, Page, read_page, flushed}
use Rattle.model.specs.Run.{Engine, Event, page, next, read, write, flush, Step, World, in_memory, on_device, queued, writable}
use Rattle.house.proofs.Course.{Course, ends, refuses, reads, writes, flushes, showing}
use Rattle.house.proofs.Fronts.{world, step_to}

-- at most so many acts, each at a device that is safe, and then a world and an event of which Then holds
pub data Works (e : Engine) (Safe : Device → Type 0) (Then : World → Event → Type 0) : ℕ → World → Event → Type 0 where
  leads : {n : ℕ} {w : World} {ev : Event} → Then w ev → Works e Safe Then n w ev
  works_read : {n i : ℕ} {w : World} {ev : Event} (k : ℕ) → i < n → Safe w.device → (e.step w.memory ev).act ≡ read k
      → Works e Safe Then i (in_memory w (e.step w.memory ev).memory) (page (read_page w.device k)) → Works e Safe Then n w ev
  works_write : {n i : ℕ} {w : World} {ev : Event} (k : ℕ) (p : Page) → i < n → Safe w.device → (e.step w.memory ev).act ≡ write k p → writable w.device k p ≡ true
      → Works e Safe Then i (on_device w (e.step w.memory ev).memory (queued w.device k p)) next → Works e Safe Then n w ev
  works_flush : {n i : ℕ} {w : World} {ev : Event} → i < n → Safe w.device → (e.step w.memory ev).act ≡ flush
      → Works e Safe Then i (on_device w (e.step w.memory ev).memory (flushed w.device)) next → Works e Safe Then n w ev

-- a weaker property on the way and at its end, and more acts
module _ (e : Engine) (Safe Safe₁ : Device → Type 0) (Then Then₁ : World → Event → Type 0) (safe : (d : Device) → Safe d → Safe₁ d) (then : (w : World) (ev : Event) → Then w ev → Then₁ w ev) where
  pub works_weaker : {n : ℕ} {w : World} {ev : Event} → Works e Safe Then n w ev → (m : ℕ) → n ≤ m → Works e Safe₁ Then₁ m w ev
  works_weaker {w} {ev} (leads t) m h = leads (then w ev t)
  works_weaker {w} (works_read {i} k l s a c) m h = works_read k (omega arith) (safe w.device s) a (works_weaker c i (omega arith))
  works_weaker {w} (works_write {i} k p l s a ok c) m h = works_write k p (omega arith) (safe w.device s) a ok (works_weaker c i (omega arith))
  works_weaker {w} (works_flush {i} l s a c) m h = works_flush (omega arith) (safe w.device s) a (works_weaker c i (omega arith))

pub works_more : (e : Engine) (Safe : Device → Type 0) (Then : World → Event → Type 0) (n m : ℕ) → n ≤ m → {w : World} {ev : Event} → Works e Safe Then n w ev → Works e Safe Then m w ev
works_more e Safe Then n m h c = works_weaker e Safe Safe Then Then (λ d s. s) (λ w ev t. t) c m h

-- work after work
module _ (e : Engine) (Safe : Device → Type 0) (Then : World → Event → Type 0) (m : ℕ) where
  pub works_on : {n : ℕ} {w : World} {ev : Event} → Works e Safe (λ w₁ ev₁. Works e Safe Then m w₁ ev₁) n w ev → Works e Safe Then (n + m) w ev
  works_on {n} (leads t) = works_more e Safe Then m (n + m) (omega arith) t
  works_on (works_read k l s a c) = works_read k (omega arith) s a (works_on c)
  works_on (works_write k p l s a ok c) = works_write k p (omega arith) s a ok (works_on c)
  works_on (works_flush l s a c) = works_flush (omega arith) s a (works_on c)

-- a course from here to a world of which something holds
abbrev pub Goes : (e : Engine) → (Device → List (List ℕ) → Type 0) → (World → Type 0) → List (List ℕ) → ℕ → World → Event → List (List ℕ) → Type 0
Goes e Safe Final ss' end w ev ss = (w' : World) × Course e Safe w' ss' end w ev ss × Final w'

-- work, and then the course of a command
module _ (e : Engine) (Safe : Device → List (List ℕ) → Type 0) (Final : World → Type 0) (ss' : List (List ℕ)) (end : ℕ) (ss : List (List ℕ)) where
  pub works_goes : {n : ℕ} {w : World} {ev : Event} → Works e (λ d. Safe d ss) (λ w₁ ev₁. Goes e Safe Final ss' end w₁ ev₁ ss) n w ev → Goes e Safe Final ss' end w ev ss
  works_goes (leads t) = t
  works_goes (works_read k l s a c) = let g = works_goes c in (g.0, reads k s a g.1, g.2)
  works_goes (works_write k p l s a ok c) = let g = works_goes c in (g.0, writes k p s a ok g.1, g.2)
  works_goes (works_flush l s a c) = let g = works_goes c in (g.0, flushes s a g.1, g.2)

-- one act in front of work, from what the step is
module _ (e : Engine) (Safe : Device → Type 0) (Then : World → Event → Type 0) (n : ℕ) (u : Bool) (d : Device) (m m₁ : List ℕ) (ev : Event) where
  pub first_reads : (k : ℕ) → e.step m ev ≡ step_to m₁ (read k) → Safe d → Works e Safe Then n (world u d m₁) (page (read_page d k)) → Works e Safe Then (suc n) (world u d m) ev
  first_reads k q s c = works_read k (omega arith) s (ap (λ (x : Step). x.act) q) (subst (λ x. Works e Safe Then n (world u d x) (page (read_page d k))) (sym (ap (λ (x : Step). x.memory) q)) c)

  pub first_writes : (k : ℕ) (p : Page) → e.step m ev ≡ step_to m₁ (write k p) → Safe d → writable d k p ≡ true → Works e Safe Then n (world u (queued d k p) m₁) next → Works e Safe Then (suc n) (world u d m) ev
  first_writes k p q s ok c = works_write k p (omega arith) s (ap (λ (x : Step). x.act) q) ok (subst (λ x. Works e Safe Then n (world u (queued d k p) x) next) (sym (ap (λ (x : Step). x.memory) q)) c)

  pub first_flushes : e.step m ev ≡ step_to m₁ flush → Safe d → Works e Safe Then n (world u (flushed d) m₁) next → Works e Safe Then (suc n) (world u d m) ev
  first_flushes q s c = works_flush (omega arith) s (ap (λ (x : Step). x.act) q) (subst (λ x. Works e Safe Then n (world u (flushed d) x) next) (sym (ap (λ (x : Step). x.memory) q)) c)

-- a weaker property on the way of a course
module _ (e : Engine) (Safe Safe₁ : Device → List (List ℕ) → Type 0) (w' : World) (ss' : List (List ℕ)) (end : ℕ) (safe : (d : Device) (ss : List (List ℕ)) → Safe d ss → Safe₁ d ss) where
  pub course_weaker : {w : World} {ev : Event} {ss : List (List ℕ)} → Course e Safe w' ss' end w ev ss → Course e Safe₁ w' ss' end w ev ss
  course_weaker {w} (ends s a m k) = ends (safe w.device ss' s) a m k
  course_weaker {w} (refuses k s a m q) = refuses k (safe w.device ss' s) a m q
  course_weaker {w} {ss} (reads k s a c) = reads k (safe w.device ss s) a (course_weaker c)
  course_weaker {w} {ss} (writes k p s a ok c) = writes k p (safe w.device ss s) a ok (course_weaker c)
  course_weaker {w} {ss} (flushes s a c) = flushes (safe w.device ss s) a (course_weaker c)
  course_weaker {w} {ss} (showing r s a c) = showing r (safe w.device ss s) a (course_weaker c)
