-- A stop leaves of each waiting write nothing, all, or its first half. A write is harmless to a property of the pages if the property lasts in all
-- three cases; while only harmless writes wait, the property lasts through every stop.
use Rattle.std.proofs.Common.{◌≡◌, ℕ, Bool, true, false, eqb, List, [], ◌∷◌, ◌++◌}
use Rattle.model.specs.Mail.{pick}
use Rattle.model.specs.Device.{Device, Page, Write, set_page, page_at, all_written, flushed, half, left, stopped}
use Rattle.model.specs.Run.{queued}
use Rattle.model.proofs.Places.{pick_both}

abbrev pub Harmless : (List Page → Type 0) → Write → Type 0
Harmless Φ w = (ps : List Page) → Φ ps → Φ (set_page ps w.at w.page) × Φ (set_page ps w.at (half w.page (page_at ps w.at)))

abbrev pub AllHarmless : (List Page → Type 0) → List Write → Type 0
AllHarmless Φ [] = Unit {0}
AllHarmless Φ (w ∷ ws) = Harmless Φ w × AllHarmless Φ ws

pub left_keeps : (Φ : List Page → Type 0) (qs : List Write) (ps : List Page) (cs : List ℕ) → AllHarmless Φ qs → Φ ps → Φ (left ps qs cs)
unfolding left
left_keeps Φ [] ps cs h p = p
left_keeps Φ (w ∷ ws) ps [] h p = p
left_keeps Φ (w ∷ ws) ps (c ∷ cs) h p =
    left_keeps Φ ws (pick (eqb c 1) (set_page ps w.at w.page) (pick (eqb c 2) (set_page ps w.at (half w.page (page_at ps w.at))) ps)) cs h.1
    (pick_both Φ (eqb c 1) (set_page ps w.at w.page) (pick (eqb c 2) (set_page ps w.at (half w.page (page_at ps w.at))) ps) (h.0 ps p).0
    (pick_both Φ (eqb c 2) (set_page ps w.at (half w.page (page_at ps w.at))) ps (h.0 ps p).1 p))

-- both of two properties
abbrev pub Both : (List Page → Type 0) → (List Page → Type 0) → List Page → Type 0
Both Φ Ψ ps = Φ ps × Ψ ps

pub both_harmless : (Φ Ψ : List Page → Type 0) (w : Write) → Harmless Φ w → Harmless Ψ w → Harmless (Both Φ Ψ) w
both_harmless Φ Ψ w f g ps h = (((f ps h.0).0, (g ps h.1).0), ((f ps h.0).1, (g ps h.1).1))

-- what lasts whatever is written at a place: the shape in which most writes are harmless
pub place_harmless : (Φ : List Page → Type 0) (k : ℕ) (p : Page) → ((ps : List Page) (q : Page) → Φ ps → Φ (set_page ps k q)) → Harmless Φ (record { at = k; page = p })
place_harmless Φ k p f ps h = (f ps p h, f ps (half p (page_at ps k)) h)

pub harmless_push : (Φ : List Page → Type 0) (ws : List Write) (w : Write) → AllHarmless Φ ws → Harmless Φ w → AllHarmless Φ (ws ++ w ∷ [])
harmless_push Φ [] w hs h = (h, tt)
harmless_push Φ (v ∷ ws) w hs h = (hs.0, harmless_push Φ ws w hs.1 h)

pub all_written_keeps : (Φ : List Page → Type 0) (ws : List Write) (ps : List Page) → AllHarmless Φ ws → Φ ps → Φ (all_written ps ws)
unfolding all_written
all_written_keeps Φ [] ps hs h = h
all_written_keeps Φ (w ∷ ws) ps hs h = all_written_keeps Φ ws (set_page ps w.at w.page) hs.1 (hs.0 ps h).0

-- While a house works: what counts is on the pages, and nothing that waits can harm it.
pub record Working (Φ : List Page → Type 0) (d : Device) : Type 0 where
  pub counts : Φ d.pages
  pub waits : AllHarmless Φ d.queue

pub working_stopped : (Φ : List Page → Type 0) (d : Device) → Working Φ d → (cs : List ℕ) → Φ (stopped d cs).pages
working_stopped Φ d w cs = left_keeps Φ d.queue d.pages cs w.waits w.counts

pub working_queued : (Φ : List Page → Type 0) (d : Device) (k : ℕ) (p : Page) → Working Φ d → Harmless Φ (record { at = k; page = p }) → Working Φ (queued d k p)
working_queued Φ d k p w h = record { counts = w.counts; waits = harmless_push Φ d.queue (record { at = k; page = p }) w.waits h }

pub working_flushed : (Φ : List Page → Type 0) (d : Device) → Working Φ d → Working Φ (flushed d)
working_flushed Φ d w = record { counts = all_written_keeps Φ d.queue d.pages w.waits w.counts; waits = tt }

pub working_still : (Φ : List Page → Type 0) (d : Device) → d.queue ≡ [] → Φ d.pages → Working Φ d
working_still Φ d e h = record { counts = h; waits = rw e tt }

-- what reading sees keeps what counts, too
pub working_read : (Φ : List Page → Type 0) (d : Device) → Working Φ d → Φ (flushed d).pages
working_read Φ d w = (working_flushed Φ d w).counts
