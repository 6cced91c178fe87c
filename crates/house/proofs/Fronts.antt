-- One act in front of a course, from what the definition's step is.
use Rattle.std.proofs.Common.{◌≡◌, ℕ, Bool, true, List, [], ◌∷◌, ◌++◌, sym, refl, ap, subst}
use Rattle.model.specs.Device.{Device, Page, read_page, flushed}
use Rattle.model.specs.Run.{Engine, Event, page, next, Act, read, write, flush, shows, done, refused, Step, World, queued, writable, refusal_end}
use Rattle.house.proofs.Course.{Course, ends, refuses, reads, writes, flushes, showing}

abbrev pub world : Bool → Device → List ℕ → World
world u d m = record { device = d; memory = m; up = u }

abbrev pub step_to : List ℕ → Act → Step
step_to m a = record { memory = m; act = a }

module _ (e : Engine) (Safe : Device → List (List ℕ) → Type 0) (w' : World) (ss' : List (List ℕ)) (end : ℕ) (u : Bool) (d : Device) (m m₁ : List ℕ) (ev : Event) where
  pub then_reads : (ss : List (List ℕ)) (k : ℕ) → e.step m ev ≡ step_to m₁ (read k) → Safe d ss → Course e Safe w' ss' end (world u d m₁) (page (read_page d k)) ss → Course e Safe w' ss' end (world u d m) ev ss
  then_reads ss k q s c = reads k s (ap (λ (x : Step). x.act) q) (subst (λ x. Course e Safe w' ss' end (world u d x) (page (read_page d k)) ss) (sym (ap (λ (x : Step). x.memory) q)) c)

  pub then_writes : (ss : List (List ℕ)) (k : ℕ) (p : Page) → e.step m ev ≡ step_to m₁ (write k p) → Safe d ss → writable d k p ≡ true → Course e Safe w' ss' end (world u (queued d k p) m₁) next ss → Course e Safe w' ss' end (world u d m) ev ss
  then_writes ss k p q s ok c = writes k p s (ap (λ (x : Step). x.act) q) ok (subst (λ x. Course e Safe w' ss' end (world u (queued d k p) x) next ss) (sym (ap (λ (x : Step). x.memory) q)) c)

  pub then_flushes : (ss : List (List ℕ)) → e.step m ev ≡ step_to m₁ flush → Safe d ss → Course e Safe w' ss' end (world u (flushed d) m₁) next ss → Course e Safe w' ss' end (world u d m) ev ss
  then_flushes ss q s c = flushes s (ap (λ (x : Step). x.act) q) (subst (λ x. Course e Safe w' ss' end (world u (flushed d) x) next ss) (sym (ap (λ (x : Step). x.memory) q)) c)

  pub then_shows : (ss : List (List ℕ)) (r : List ℕ) → e.step m ev ≡ step_to m₁ (shows r) → Safe d ss → Course e Safe w' ss' end (world u d m₁) next (ss ++ r ∷ []) → Course e Safe w' ss' end (world u d m) ev ss
  then_shows ss r q s c = showing r s (ap (λ (x : Step). x.act) q) (subst (λ x. Course e Safe w' ss' end (world u d x) next (ss ++ r ∷ [])) (sym (ap (λ (x : Step). x.memory) q)) c)

module _ (e : Engine) (Safe : Device → List (List ℕ) → Type 0) (ss' : List (List ℕ)) (u : Bool) (d : Device) (m m₁ : List ℕ) (ev : Event) where
  pub then_ends : e.step m ev ≡ step_to m₁ done → Safe d ss' → Course e Safe (world u d m₁) ss' 0 (world u d m) ev ss'
  then_ends q s = ends s (ap (λ (x : Step). x.act) q) (ap (λ (x : Step). world u d x.memory) q) refl

  pub then_refuses : (k : ℕ) → e.step m ev ≡ step_to m₁ (refused k) → k ≡ refusal_end k → Safe d ss' → Course e Safe (world u d m₁) ss' k (world u d m) ev ss'
  then_refuses k q h s = refuses k s (ap (λ (x : Step). x.act) q) (ap (λ (x : Step). world u d x.memory) q) h
